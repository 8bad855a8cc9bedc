-- A walk in preorder through what is below a node, or below the root: from each node to the next.
use Rattle.std.specs.Prelude.{◌≡◌, ℕ, ◌+◌, List, ◌++◌, get_or, Option, None, IsSome}
use Rattle.ac_base.specs.declared.name.Name.{Name}
use Rattle.ac_base.specs.Rows.{Row}
use Rattle.ac_chain.specs.ChainFields.{first_or}
use Rattle.ac_pool.specs.Link.{link_of}
use Rattle.ac_tree.specs.declared.links.Links.{Links}
use Rattle.ac_tree.specs.declared.links.TreeNode.{TreeNode}
use Rattle.ac_tree.specs.Forests.{Forest, grove, Step, outline, plugged, parent_in, depth_in, after_in}
use Rattle.ac_tree.specs.TreeFields.{StandsFor}

module _ {X : Type 0} where
  -- the first node behind all that is below the name's, among those below the top
  abbrev pub Passes : Links X → Option Name → Name → Option Name → Type 0
  Passes l top a result = (outer inner : List (Step X)) (x : Row Name X) (below rest : Forest X) → StandsFor l (plugged outer (plugged inner (grove x below rest))) → parent_in outer ≡ top → x.name ≡ a
      → result ≡ first_or (outline (depth_in inner) rest ++ after_in inner) None

  -- the next node in preorder
  abbrev pub Follows : Links X → Option Name → Name → Option Name → Type 0
  Follows l top a result = (outer inner : List (Step X)) (x : Row Name X) (below rest : Forest X) → StandsFor l (plugged outer (plugged inner (grove x below rest))) → parent_in outer ≡ top → x.name ≡ a
      → result ≡ first_or ((outline (depth_in inner + 1) below ++ outline (depth_in inner) rest) ++ after_in inner) None

  -- a node without children in the slot, with its next sibling in the slot beside, where the run begins
  pub record IsBeside (slot : ℕ) (n : TreeNode X) (run : List (Option (TreeNode X))) : Type 0 where
    pub alone : n.first ≡ link_of None
    pub next : n.next ≡ slot + 1
    pub kept : IsSome (get_or run 0 None)
