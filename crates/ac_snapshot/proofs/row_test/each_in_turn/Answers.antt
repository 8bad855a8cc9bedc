use Rattle.std.proofs.Common.{◌≡◌, ◌≤◌, ◌&&◌, ◌-◌, ◌+◌, suc, length, drop, sym, ap, ◌∙◌, arith}
use Rattle.ac_snapshot.specs.RowKeys.{each_next, in_turn}
use Rattle.ac_snapshot.proofs.RowsTogether.{each_step, next_over}
use Rattle.ac_snapshot.proofs.row_test.each_in_turn.Goals as goal

pub loop-at-preserved : goal.loop-at-preserved
loop-at-preserved c =
    let rows = c.args.rows.now in
    let at = c.loop-at.at in
    let test = in_turn c.args.turn in
    let same : at ≡ at + 1 - 1 = omega arith in (
      omega arith,
      c.loop-at.invariant.1
          ∙ each_step test rows at c.index-rows-at.result c.index-rows-at-in-loop-at.result c.loop-at.invariant.0 c.loop-at-test.true c.index-rows-at.is c.index-rows-at-in-loop-at.is
          ∙ ap (λ b. b && each_next test (drop at rows)) (sym c.in_turn.ensures ∙ c.if-not-in_turn.false)
          ∙ ap (λ n. each_next test (drop n rows)) same,
    )

pub returns : goal.returns
returns c =
    let rows = c.args.rows.now in
    let at = c.loop-at.at in
    let over : length rows ≤ suc (at - 1) = omega (arith, c.loop-at-test.false, c.loop-at.invariant.0) in
    sym (c.loop-at.invariant.1 ∙ next_over (in_turn c.args.turn) rows (at - 1) over)
