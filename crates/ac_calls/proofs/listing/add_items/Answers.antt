use Rattle.std.proofs.Common.{◌≡◌, ◌<◌, ◌+◌, ℕ, arith, length}
use Rattle.std.proofs.lemmas.List.{length-map}
use Rattle.std.proofs.lemmas.Result.{err_from_is_err_and}
use Rattle.ac_base.specs.Rows.{Row}
use Rattle.ac_io.proofs.Telling.{begins, goes_on, ends, breaks, still, adds_nothing}
use Rattle.ac_model.specs.Objects.{plain, plain_row, contents}
use Rattle.ac_calls.proofs.Walks.{here, is_read, next_is_ok, next_marks}
use Rattle.ac_calls.proofs.Listed.{listed_from, from_place, at_end}
use Rattle.ac_calls.proofs.listing.add_items.Goals as goal

pub loop-place-init : goal.loop-place-init
loop-place-init g c = record { at = c.first-c.ensures; adds = begins _ _ _; short = λ h. h }

pub add_item-requires : goal.add_item-requires
add_item-requires g c =
    is_read (g.C.RowObject.rows c.args.object.now).object c.law.ensures c.loop-place.c c.loop-place.place
    (omega (arith, c.loop-place-test.true, c.live_nodes-place-end.ensures)) c.loop-place.invariant.at

pub unwrap-c-requires : goal.unwrap-c-requires
unwrap-c-requires g c =
    next_is_ok (g.C.RowObject.rows c.args.object.now).object c.law.ensures c.loop-place.c c.loop-place.place
    (omega (arith, c.loop-place-test.true, c.live_nodes-place-end.ensures)) c.loop-place.invariant.at c.next.result c.next.ensures

pub returns-in_err-add_item-clause-adds : goal.returns-in_err-add_item-clause-adds
returns-in_err-add_item-clause-adds g c =
    let o = (g.C.RowObject.rows c.args.object.now).object in
    let text = g.C.ListedRows.row_text in
    let items = contents (plain o) in
    let place = c.loop-place.place in
    let within : place < length o.rows = omega (arith, c.loop-place-test.true, c.live_nodes-place-end.ensures) in
    let read = here o c.law.ensures c.loop-place.c place within c.loop-place.invariant.at in
    breaks (err_from_is_err_and c.from_residual.result c.from_residual.ensures.1).1 (listed_from text (place + 1) items)
    (still (from_place text items place read.0 read.2) c.loop-place.invariant.adds) (c.in_err-add_item.ensures.adds read.0 read.1)

pub loop-place-preserved : goal.loop-place-preserved
loop-place-preserved g c =
    let o = (g.C.RowObject.rows c.args.object.now).object in
    let text = g.C.ListedRows.row_text in
    let items = contents (plain o) in
    let place = c.loop-place.place in
    let within : place < length o.rows = omega (arith, c.loop-place-test.true, c.live_nodes-place-end.ensures) in
    let read = here o c.law.ensures c.loop-place.c place within c.loop-place.invariant.at in
    record {
      at = next_marks o c.law.ensures c.loop-place.c place within c.loop-place.invariant.at c.next.result c.unwrap-c.result c.next.ensures c.unwrap-c.ensures;
      adds = goes_on (still (from_place text items place read.0 read.2) c.loop-place.invariant.adds) (c.in_ok-add_item.ensures.adds read.0 read.1);
      short = λ h. c.in_ok-add_item.ensures.short (c.loop-place.invariant.short h);
    }

pub returns-clause-adds : goal.returns-clause-adds
returns-clause-adds g c =
    let o = (g.C.RowObject.rows c.args.object.now).object in
    let text = g.C.ListedRows.row_text in
    let items = contents (plain o) in
    let all : c.loop-place.place ≡ length items = omega (arith, c.loop-place-test.false, c.loop-place.auto.place-end, c.live_nodes-place-end.ensures, length-map (plain o).rows (λ (r : Row ℕ g.row.C-Row.Denot). r.value), length-map o.rows (plain_row {V = g.row.C-Row.Denot})) in
    ends (still (at_end text items c.loop-place.place all) c.loop-place.invariant.adds) (adds_nothing _ _)
