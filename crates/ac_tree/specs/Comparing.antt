-- Nodes that are compared with their depths.
use Rattle.std.specs.Prelude.{◌==◌, ◌&&◌, Bool}
use Rattle.ac_model.specs.Rows.{Node}

module _ {T : Type 0} where
  abbrev pub same_node : (T → T → Bool) → Node T → Node T → Bool
  same_node same m n = (m.depth == n.depth) && same m.element n.element
