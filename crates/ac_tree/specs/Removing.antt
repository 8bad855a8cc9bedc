-- Nodes that are taken out of a forest: one without children, and all that stands at a place, leaf after leaf.
use Rattle.std.specs.Prelude.{◌≡◌, ℕ, ◌+◌, List, Option, Some, None}
use Rattle.ac_base.specs.declared.name.Name.{Name}
use Rattle.ac_base.specs.Rows.{Row}
use Rattle.ac_tree.specs.declared.links.Links.{Links}
use Rattle.ac_tree.specs.Forests.{Forest, bare, grove, size, first_in, or_name, Step, plugged, parent_in, prev_in}
use Rattle.ac_tree.specs.TreeFields.{StandsFor}

module _ {X : Type 0} where
  -- so many nodes went, and this is left at the place
  pub record Removed (l : Links X) (steps : List (Step X)) (rest : Forest X) (count : ℕ) (m : Links X) : Type 0 where
    pub stands : StandsFor m (plugged steps rest)
    pub next : m.nodes.next_serial ≡ l.nodes.next_serial
    pub spare : m.nodes.spare ≡ l.nodes.spare + count

  abbrev pub Removes : Links X → Name → Links X → Type 0
  Removes l a m = (steps : List (Step X)) (x : Row Name X) (rest : Forest X) → StandsFor l (plugged steps (grove x bare rest)) → x.name ≡ a → Removed l steps rest 1 m

  -- the node to which first children lead, and the forest without it
  abbrev pub first_leaf : Forest X → Option Name
  first_leaf bare = None
  first_leaf (grove x below rest) = Some (or_name x.name (first_leaf below))

  abbrev pub pruned : Forest X → Forest X
  pruned bare = bare
  pruned (grove x bare rest) = rest
  pruned (grove x (grove y c r) rest) = grove x (pruned (grove y c r)) rest

  -- the first leaf of what begins with the node
  abbrev pub Leads : Links X → Option Name → Option Name → Type 0
  Leads l from result = (steps : List (Step X)) (t : Forest X) → StandsFor l (plugged steps t) → first_in t ≡ from → result ≡ first_leaf t

  -- the first leaf below the top once this one, the first, is gone
  abbrev pub Succeeds : Links X → Option Name → Name → Option Name → Type 0
  Succeeds l top a result = (steps : List (Step X)) (t : Forest X) → StandsFor l (plugged steps t) → parent_in steps ≡ top → first_leaf t ≡ Some a → result ≡ first_leaf (pruned t)

  -- all that is below the top is gone
  abbrev pub Clears : Links X → Option Name → Links X → Type 0
  Clears l top m = (steps : List (Step X)) (below : Forest X) → StandsFor l (plugged steps below) → parent_in steps ≡ top → prev_in steps ≡ None → Removed l steps bare (size below) m

  -- the node is gone with all that is below it
  abbrev pub Uproots : Links X → Name → Links X → Type 0
  Uproots l a m = (steps : List (Step X)) (x : Row Name X) (below rest : Forest X) → StandsFor l (plugged steps (grove x below rest)) → x.name ≡ a → Removed l steps rest (size below + 1) m
