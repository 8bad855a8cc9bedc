use Rattle.std.proofs.Common.{◌<◌, ◌+◌, ◌∙◌, ap, arith, length}
use Rattle.ac_model.specs.Objects.{plain, plain_row, contents}
use Rattle.ac_calls.proofs.Walks.{here, is_read, next_is_ok, next_marks}
use Rattle.ac_calls.proofs.RowsCopied.{copied_next}
use Rattle.ac_calls.proofs.plain_copies.plain_rows.Goals as goal

pub plain_row-requires : goal.plain_row-requires
plain_row-requires g c =
    is_read (g.C.RowObject.rows c.args.object.now).object c.law.ensures c.loop-place.c c.loop-place.place
    (omega (arith, c.loop-place-test.true, c.live_nodes-place-end.ensures)) c.loop-place.invariant.at

pub unwrap-c-requires : goal.unwrap-c-requires
unwrap-c-requires g c =
    next_is_ok (g.C.RowObject.rows c.args.object.now).object c.law.ensures c.loop-place.c c.loop-place.place
    (omega (arith, c.loop-place-test.true, c.live_nodes-place-end.ensures)) c.loop-place.invariant.at c.next.result c.next.ensures

pub loop-place-preserved : goal.loop-place-preserved
loop-place-preserved g c =
    let o = (g.C.RowObject.rows c.args.object.now).object in
    let place = c.loop-place.place in
    let inv = c.loop-place.invariant in
    let within : place < length o.rows = omega (arith, c.loop-place-test.true, c.live_nodes-place-end.ensures) in
    let read = here o c.law.ensures c.loop-place.c place within inv.at in
    record {
      at = next_marks o c.law.ensures c.loop-place.c place within inv.at c.next.result c.unwrap-c.result c.next.ensures c.unwrap-c.ensures;
      made = copied_next g.C.ListedRows.plain_of (contents (plain o)) place read.0 _ _ _ read.2 inv.made (c.in_ok-plain_row.ensures read.0 read.1) c.push_reserved.ensures.items;
      count = c.push_reserved.ensures.len ∙ ap (λ n. n + 1) inv.count;
      room = c.push_reserved.ensures.capacity ∙ inv.room;
    }
