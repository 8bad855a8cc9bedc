-- What the fields of a tree are seen as, and what holds of them.
use Rattle.std.specs.Prelude.{None}
use Rattle.ac_base.specs.declared.limit.Limit.{Limit}
use Rattle.ac_base.specs.declared.name.Name.{Name}
use Rattle.ac_base.specs.Guards.{GuardCounts}
use Rattle.ac_chain.specs.Rows.{Chained, chained}
use Rattle.ac_chain.specs.Sequence.{object_of, IsSequence}
use Rattle.ac_model.specs.Rows.{Node}
use Rattle.ac_model.specs.Objects.{Object}
use Rattle.ac_tree.specs.declared.links.Links.{Links}
use Rattle.ac_tree.specs.Forests.{outline}
use Rattle.ac_tree.specs.TreeFields.{forest_in, IsForest}

module _ {T : Type 0} where
  -- the rows in preorder, with their depths
  abbrev pub rows_of : Links T → Chained (Node T)
  rows_of l = chained (outline 2 (forest_in l)) l.nodes.next_serial l.nodes.spare

  abbrev pub tree_object : GuardCounts → Limit → Links T → Object Name (Node T)
  tree_object guards limit l = object_of guards limit None (rows_of l)

  -- the links stand for a forest, whose rows are within the bounds of a sequence
  pub record IsTree (limit : Limit) (l : Links T) : Type 0 where
    pub forest : IsForest l
    pub sequence : IsSequence limit (rows_of l)
