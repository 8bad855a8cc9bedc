use Rattle.std.proofs.Common.{◌≡◌, ◌++◌, List, length, map, vec_len}
use Rattle.std.specs.Vec.{vec_capacity}
use Rattle.ac_base.specs.declared.name.Name.{Name}
use Rattle.ac_base.specs.Rows.{Row}
use Rattle.ac_model.specs.Objects.{plain, contents, length_of}
use Rattle.ac_model.specs.Rows.{Node}
use Rattle.ac_calls.specs.PlainRows.{node_form}
use Rattle.ac_chain.specs.TreeWalk.{StandsBefore}
use Rattle.ac_tree_calls.proofs.NodesCopied.{still_copied}
use Rattle.ac_tree_calls.proofs.tree_rows.plain_copies.copy_nodes.Given as goal

abbrev pub invariant-loop-place : goal.invariant-loop-place
invariant-loop-place g l =
    let form = node_form g.T.ScriptElement.tools in
    let o = (g.C.TreeLike.seen l.tree).object in
    record {
      before : List (Row Name (Node g.row.T.Denot));
      left : List (Row Name (Node g.row.T.Denot));
      is : o.rows ≡ before ++ left;
      passed : length before ≡ l.place;
      at : StandsBefore o.number left l.c l.depth;
      made : l.rows.items ++ still_copied form left ≡ map form (contents (plain o));
      count : vec_len l.rows ≡ l.place;
      room : vec_capacity l.rows ≡ length_of o;
    }
