-- A walk in preorder backwards: from each node to the one before it.
use Rattle.std.specs.Prelude.{◌≡◌, ◌+◌, List, Option, Some, None}
use Rattle.ac_base.specs.declared.name.Name.{Name}
use Rattle.ac_base.specs.Rows.{Row}
use Rattle.ac_chain.specs.ChainFields.{last_or}
use Rattle.ac_tree.specs.declared.links.Links.{Links}
use Rattle.ac_tree.specs.Forests.{Forest, grove, Step, outline, plugged, depth_in, before_in}
use Rattle.ac_tree.specs.TreeFields.{StandsFor}

module _ {X : Type 0} where
  -- the last in preorder of a node and of all that is below it
  abbrev pub Ends : Links X → Name → Name → Type 0
  Ends l a result = (steps : List (Step X)) (x : Row Name X) (below rest : Forest X) → StandsFor l (plugged steps (grove x below rest)) → x.name ≡ a
      → Some result ≡ last_or (Some x.name) (outline (depth_in steps + 1) below)

  -- the node before it in preorder
  abbrev pub Precedes : Links X → Name → Option Name → Type 0
  Precedes l a result = (steps : List (Step X)) (x : Row Name X) (below rest : Forest X) → StandsFor l (plugged steps (grove x below rest)) → x.name ≡ a
      → result ≡ last_or None (before_in steps)
