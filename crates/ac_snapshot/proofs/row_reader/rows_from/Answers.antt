use Rattle.std.proofs.Common.{◌≡◌, ◌-◌, ◌+◌, suc, Some, None, sym, ap, ◌∙◌, arith}
use Rattle.ac_base.specs.declared.limit.TheConstants.{GREATEST_LENGTH}
use Rattle.ac_snapshot.specs.RowValidity.{is_tree}
use Rattle.ac_snapshot.specs.Outcomes.{got, stuck, behind}
use Rattle.ac_snapshot.specs.RowReaders.{depth_at, row, behind_row, rows_by}
use Rattle.ac_snapshot.proofs.Loops.{row_kept, rows_ended, row_unread, row_failed, rows_over}
use Rattle.ac_snapshot.proofs.row_reader.rows_from.Goals as goal

pub returns-in_default : goal.returns-in_default
returns-in_default c =
    let n = GREATEST_LENGTH - c.loop.counter in
    let m = GREATEST_LENGTH - (c.loop.counter + 1) in
    let more : n ≡ suc m = omega (arith, c.loop-test.true) in
    let read : row c.args.def (depth_at c.args.def c.loop.level) c.loop.left.now ≡ stuck = rw (sym c.depth_at.ensures) (rw c.in_default.is at c.in_ok-row.ensures) in
    row_unread _ n m c.args.def c.loop.level c.loop.rows.items c.loop.left.now more c.loop.invariant read

pub returns-in-Some-None-default : goal.returns-in-Some-None-default
returns-in-Some-None-default c =
    let here = c.in-Some-None-default in
    let n = GREATEST_LENGTH - c.loop.counter in
    let m = GREATEST_LENGTH - (c.loop.counter + 1) in
    let more : n ≡ suc m = omega (arith, c.loop-test.true) in
    let r = c.in-Some.row in
    let mid = c.in-Some.rest.now in
    let read : row c.args.def (depth_at c.args.def c.loop.level) c.loop.left.now ≡ got r mid = rw (sym c.depth_at.ensures) (rw c.in-Some.is at c.in_ok-row.ensures) in
    let next : behind_row (is_tree c.args.def.kind) c.loop.level mid ≡ got None here.rest.now =
    rw (sym c.is_tree.ensures) (here.ensures ∙ ap (λ o. got o here.rest.now) here.field-0-0-is) in
    rows_ended _ n m c.args.def c.loop.level c.loop.rows.items c.loop.left.now mid here.rest.now r more c.loop.invariant read next
    ∙ ap (λ made. got made here.rest.now) (sym c.in_ok-push.ensures.items)

pub returns-in-None : goal.returns-in-None
returns-in-None c =
    let n = GREATEST_LENGTH - c.loop.counter in
    let m = GREATEST_LENGTH - (c.loop.counter + 1) in
    let more : n ≡ suc m = omega (arith, c.loop-test.true) in
    let r = c.in-Some.row in
    let mid = c.in-Some.rest.now in
    let read : row c.args.def (depth_at c.args.def c.loop.level) c.loop.left.now ≡ got r mid = rw (sym c.depth_at.ensures) (rw c.in-Some.is at c.in_ok-row.ensures) in
    let next : behind_row (is_tree c.args.def.kind) c.loop.level mid ≡ stuck = rw (sym c.is_tree.ensures) c.in-None.ensures in
    row_failed _ n m c.args.def c.loop.level c.loop.rows.items c.loop.left.now mid r more c.loop.invariant read next

pub loop-preserved : goal.loop-preserved
loop-preserved c =
    let here = c.in-Some-Some-default in
    let n = GREATEST_LENGTH - c.loop.counter in
    let m = GREATEST_LENGTH - (c.loop.counter + 1) in
    let more : n ≡ suc m = omega (arith, c.loop-test.true) in
    let r = c.in-Some.row in
    let mid = c.in-Some.rest.now in
    let read : row c.args.def (depth_at c.args.def c.loop.level) c.loop.left.now ≡ got r mid = rw (sym c.depth_at.ensures) (rw c.in-Some.is at c.in_ok-row.ensures) in
    let next : behind_row (is_tree c.args.def.kind) c.loop.level mid ≡ got (Some here.next) here.rest.now =
    rw (sym c.is_tree.ensures) (here.ensures ∙ ap (λ o. got o here.rest.now) here.field-0-0-is) in
    row_kept _ n m c.args.def c.loop.level here.next c.loop.rows.items c.loop.left.now mid here.rest.now r more c.loop.invariant read next
    ∙ ap (λ made. behind made (rows_by m c.args.def here.next here.rest.now)) (sym c.in_ok-push.ensures.items)

pub returns : goal.returns
returns c =
    let n = GREATEST_LENGTH - c.loop.counter in
    let over : n ≡ 0 = omega (arith, c.loop-test.false) in
    rows_over _ n c.args.def c.loop.level c.loop.rows.items c.loop.left.now over c.loop.invariant
