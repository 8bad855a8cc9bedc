use Rattle.std.proofs.Common.{◌≡◌, length, take, map, vec_len}
use Rattle.std.specs.Vec.{vec_capacity}
use Rattle.ac_queue.specs.Kinds.{state_of}
use Rattle.ac_calls.specs.PlainRows.{item_form}
use Rattle.ac_queue_calls.proofs.queue_copies.plain_items.Given as goal

abbrev pub invariant-loop-place : goal.invariant-loop-place
invariant-loop-place l =
    let items = (state_of l.queue).queue.items in
    record {
      made : l.rows.items ≡ map item_form (take l.place items);
      count : vec_len l.rows ≡ l.place;
      room : vec_capacity l.rows ≡ length items;
    }
