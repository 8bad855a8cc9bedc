use Rattle.std.proofs.Common.{◌≡◌, ◌≤◌, ◌++◌, List, length}
use Rattle.ac_base.specs.declared.name.Name.{Name}
use Rattle.ac_base.specs.Rows.{Row}
use Rattle.ac_io.specs.declared.pieces.TheConstants.{MOST_WAITING}
use Rattle.ac_io.specs.Pieces.{AddsSoFar}
use Rattle.ac_model.specs.Objects.{plain, contents}
use Rattle.ac_model.specs.Rows.{Node}
use Rattle.ac_syntax.specs.Canonical.{literal_text}
use Rattle.ac_calls.specs.Listings.{nodes_listing}
use Rattle.ac_chain.specs.TreeWalk.{StandsBefore}
use Rattle.ac_tree_calls.proofs.NodesListed.{still_listed}
use Rattle.ac_tree_calls.proofs.tree_rows.listing.add_nodes.Given as goal

abbrev pub invariant-loop-place : goal.invariant-loop-place
invariant-loop-place g l =
    let sink = g.K.Sink in
    let text = λ (e : g.row.T.Denot). literal_text (g.T.ScriptElement.tools.to_value e) in
    let o = (g.C.TreeLike.seen l.tree).object in
    record {
      before : List (Row Name (Node g.row.T.Denot));
      left : List (Row Name (Node g.row.T.Denot));
      is : o.rows ≡ before ++ left;
      passed : length before ≡ l.place;
      at : StandsBefore o.number left l.c l.depth;
      adds : AddsSoFar sink.held sink.faults sink.room sink.counts_failures l.fn.sink l.sink l.fn.text.items l.text.items
          (still_listed text left) (nodes_listing text (contents (plain o)));
      short : length l.fn.text.items ≤ MOST_WAITING → length l.text.items ≤ MOST_WAITING;
    }
