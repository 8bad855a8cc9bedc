use Rattle.std.proofs.Common.{◌+◌, ◌∙◌, sym, ap, to_z, of_z, to_z-of_z, w64, Some, rules}
use Rattle.ac_queue.specs.Kinds.{state_of}
use Rattle.ac_calls.specs.PlainRows.{item_form}
use Rattle.ac_calls.proofs.RowsCopied.{copied_next}
use Rattle.ac_queue_calls.proofs.queue_copies.plain_items.Goals as goal

pub loop-place-preserved : goal.loop-place-preserved
loop-place-preserved c =
    let items = (state_of c.args.queue.now).queue.items in
    let inv = c.loop-place.invariant in
    let passed = to_z w64 (of_z w64 c.unwrap.result) in
    let read = sym c.item.ensures ∙ (c.unwrap.ensures ∙ ap Some (sym (to_z-of_z {w = w64} {z = c.unwrap.result} (search rules)))) in
    record {
      made = copied_next item_form items c.loop-place.place passed _ _ _ read inv.made c.item_row.ensures c.push_reserved.ensures.items;
      count = c.push_reserved.ensures.len ∙ ap (λ n. n + 1) inv.count;
      room = c.push_reserved.ensures.capacity ∙ inv.room;
    }
