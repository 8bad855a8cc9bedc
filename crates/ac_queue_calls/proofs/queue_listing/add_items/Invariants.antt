use Rattle.std.proofs.Common.{◌≤◌, length}
use Rattle.ac_io.specs.declared.pieces.TheConstants.{MOST_WAITING}
use Rattle.ac_io.specs.Pieces.{AddsSoFar}
use Rattle.ac_base.specs.declared.value.Value.TheVariants.{Int}
use Rattle.ac_syntax.specs.Canonical.{literal_text}
use Rattle.ac_queue.specs.Kinds.{state_of}
use Rattle.ac_calls.specs.Listings.{separated}
use Rattle.ac_calls.proofs.Listed.{listed_from}
use Rattle.ac_queue_calls.proofs.queue_listing.add_items.Given as goal

abbrev pub invariant-loop-place : goal.invariant-loop-place
invariant-loop-place g l =
    let sink = g.K.Sink in
    let items = (state_of l.queue).queue.items in
    record {
      adds : AddsSoFar sink.held sink.faults sink.room sink.counts_failures l.fn.sink l.sink l.fn.text.items l.text.items
          (listed_from (λ item. literal_text (Int item)) l.place items) (separated (λ item. literal_text (Int item)) items);
      short : length l.fn.text.items ≤ MOST_WAITING → length l.text.items ≤ MOST_WAITING;
    }
