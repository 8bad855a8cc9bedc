use Rattle.std.proofs.Common.{◌≤◌, length}
use Rattle.ac_io.specs.declared.pieces.TheConstants.{MOST_WAITING}
use Rattle.ac_io.specs.Pieces.{AddsSoFar}
use Rattle.ac_model.specs.Objects.{plain, contents}
use Rattle.ac_model.specs.Letters.{mark_in}
use Rattle.ac_model.specs.Calls.{Marks}
use Rattle.ac_calls.specs.Listings.{separated}
use Rattle.ac_calls.proofs.Listed.{listed_from}
use Rattle.ac_calls.proofs.listing.add_items.Given as goal

abbrev pub invariant-loop-place : goal.invariant-loop-place
invariant-loop-place g l =
    let sink = g.K.Sink in
    let text = g.C.ListedRows.row_text in
    let o = (g.C.RowObject.rows l.object).object in
    record {
      at : Marks o l.c (mark_in (plain o) l.place);
      adds : AddsSoFar sink.held sink.faults sink.room sink.counts_failures l.fn.sink l.sink l.fn.text.items l.text.items
          (listed_from text l.place (contents (plain o))) (separated text (contents (plain o)));
      short : length l.fn.text.items ≤ MOST_WAITING → length l.text.items ≤ MOST_WAITING;
    }
