use Rattle.std.proofs.Common.{◌≤◌, ◌-◌, length, replicate}
use Rattle.ac_io.specs.declared.pieces.TheConstants.{MOST_WAITING}
use Rattle.ac_io.specs.Pieces.{AddsSoFar}
use Rattle.ac_tree_calls.proofs.tree_rows.listing.close.Given as goal

abbrev pub invariant-loop-place : goal.invariant-loop-place
invariant-loop-place g l =
    let sink = g.K.Sink in
    record {
      adds : AddsSoFar sink.held sink.faults sink.room sink.counts_failures l.fn.sink l.sink l.fn.text.items l.text.items
          (replicate (l.brackets - l.place) 93) (replicate l.brackets 93);
      short : length l.fn.text.items ≤ MOST_WAITING → length l.text.items ≤ MOST_WAITING;
    }
