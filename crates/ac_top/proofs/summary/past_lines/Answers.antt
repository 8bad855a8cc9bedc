use Rattle.std.proofs.Common.{◌≡◌, ℕ, List, ◌∙◌, ap, sym, arith}
use Rattle.ac_top.specs.Summary.{past_lines}
use Rattle.ac_top.proofs.PastLines.{past_none, past_all, past_one}
use Rattle.ac_top.proofs.summary.past_lines.Goals as goal

pub returns-in_default : goal.returns-in_default
returns-in_default c = sym (past_all c.loop-left.rest.now c.loop-left.left c.in_default.ensures.cases) ∙ c.loop-left.invariant

pub loop-left-preserved : goal.loop-left-preserved
loop-left-preserved c =
    rw c.from-left.ensures (past_one c.in-Some.byte.now c.in-Some.after.now c.loop-left.left c.loop-left-test.true)
    ∙ ap (λ (text : List ℕ). past_lines text c.loop-left.left) (sym c.in-Some.ensures.cases.0) ∙ c.loop-left.invariant

pub returns : goal.returns
returns c =
    let none : c.loop-left.left ≡ 0 = omega (arith, c.loop-left-test.false) in
    sym (past_none c.loop-left.rest.now) ∙ ap (past_lines c.loop-left.rest.now) (sym none) ∙ c.loop-left.invariant
