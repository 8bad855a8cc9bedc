-- A node that goes to another place in the forest, with all that is below it, and all children of a node.
use Rattle.std.specs.Prelude.{◌≡◌, List, Option, None, is_some}
use Rattle.ac_base.specs.declared.name.Name.{Name}
use Rattle.ac_base.specs.Rows.{Row}
use Rattle.ac_pool.specs.Contents.{value_of}
use Rattle.ac_tree.specs.declared.links.Links.{Links}
use Rattle.ac_tree.specs.Forests.{Forest, bare, grove, beside, first_in, Step, plugged, parent_in, prev_in}
use Rattle.ac_tree.specs.TreeFields.{StandsFor, links, parent_put, written_at}

module _ {X : Type 0} where
  -- the same nodes stand for this forest
  pub record Moved (l m : Links X) (t : Forest X) : Type 0 where
    pub stands : StandsFor m t
    pub live : (a : Name) → is_some (value_of m.nodes a) ≡ is_some (value_of l.nodes a)
    pub next : m.nodes.next_serial ≡ l.nodes.next_serial
    pub spare : m.nodes.spare ≡ l.nodes.spare

  -- the node's new place is one in the forest without it
  abbrev pub Moves : Links X → Name → (parent before : Option Name) → Links X → Type 0
  Moves l a parent before m = (from to : List (Step X)) (x : Row Name X) (below rest t : Forest X) → StandsFor l (plugged from (grove x below rest)) → x.name ≡ a
      → plugged to t ≡ plugged from rest → parent ≡ parent_in to → before ≡ first_in t → Moved l m (plugged to (grove x below t))

  -- the topmost nodes of a forest with another parent
  abbrev pub reparented : Forest X → Option Name → Links X → Links X
  reparented bare p l = l
  reparented (grove x below rest) p l = reparented rest p (links (written_at l.nodes x.name (parent_put p)) l.first l.last)

  -- all children of the node have another parent, and else all is as it was
  abbrev pub Reparents : Links X → (from parent : Option Name) → Links X → Type 0
  Reparents l from parent m = (steps : List (Step X)) (below : Forest X) → StandsFor l (plugged steps below) → parent_in steps ≡ from → prev_in steps ≡ None → m ≡ reparented below parent l

  -- they go to a place in the forest without them
  abbrev pub MovesChildren : Links X → (from parent before : Option Name) → Links X → Type 0
  MovesChildren l from parent before m = (steps to : List (Step X)) (below t : Forest X) → StandsFor l (plugged steps below) → parent_in steps ≡ from → prev_in steps ≡ None
      → plugged to t ≡ plugged steps bare → parent ≡ parent_in to → before ≡ first_in t → Moved l m (plugged to (beside below t))
