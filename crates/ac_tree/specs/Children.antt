-- New children of a node, by its name and that of the child before which they go.
use Rattle.std.specs.Prelude.{◌≡◌, ◌==◌, ◌+◌, ◌&&◌, ℕ, not, true, List, length, replicate, Option, Some, None}
use Rattle.std.specs.Option.{ForSome}
use Rattle.ac_base.specs.declared.name.Name.{Name}
use Rattle.ac_model.specs.Rows.{Node, node, place_of}
use Rattle.ac_model.specs.Objects.{Object, plain}
use Rattle.ac_model.specs.Letters.{Mark, no_mark, has_room}
use Rattle.ac_model.specs.Calls.{Call, call, takes_some}
use Rattle.ac_model.specs.Sequences.{with_new, first_new}
use Rattle.ac_model.specs.Cursors.{IsNamed}
use Rattle.ac_model.specs.Outline.{depth_of, run_of, run_start, children_of, is_in}
use Rattle.ac_tree.specs.TreeCursors.{serial_in}

module _ {T : Type 0} where
  -- a node, or the root at none, and one of its children, or the end at none
  pub record IsPlace (o : Object Name (Node T)) (parent before : Option Name) : Type 0 where
    pub parent_named : ForSome parent (IsNamed o)
    pub before_named : ForSome before (IsNamed o)
    pub child : ForSome before (λ b. is_in b.serial (children_of (plain o).rows (serial_in parent)) ≡ true)

  -- the place of new children among the rows
  abbrev pub place_among : Object Name (Node T) → Option Name → Option Name → ℕ
  place_among o parent None = run_start (plain o).rows (serial_in parent) + length (run_of (plain o).rows (serial_in parent))
  place_among o parent (Some b) = place_of (plain o).rows b.serial

  -- so many copies as children of the node before the child, and the answer is the first one's cursor
  abbrev pub children_call : Object Name (Node T) → Option Name → Option Name → T → ℕ → Call (Object ℕ (Node T)) Mark
  children_call o parent before e n =
      call (not ((n == 1) && has_room (plain o))) None
      (with_new (plain o) (place_among o parent before) (replicate n (node (depth_of (plain o).rows (serial_in parent) + 1) e)) n)
      (first_new (plain o) no_mark n)

  -- these nodes as a forest of children of the node before the child, and the answer is the first one's cursor
  abbrev pub nodes_call : Object Name (Node T) → Option Name → Option Name → List (Node T) → Call (Object ℕ (Node T)) Mark
  nodes_call o parent before vs =
      call takes_some None (with_new (plain o) (place_among o parent before) vs (length vs)) (first_new (plain o) no_mark (length vs))
