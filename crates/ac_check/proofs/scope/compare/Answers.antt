use Rattle.std.proofs.Common.{◌≡◌, ◌+◌, min, length, refl, sym, ◌∙◌, drop, arith}
use Rattle.ac_check.specs.NameOrders.{name_cmp}
use Rattle.ac_check.proofs.NameOrders.{one_more, decided, undecided, ended}
use Rattle.ac_check.proofs.scope.compare.Goals as goal

pub loop-at-init : goal.loop-at-init
loop-at-init c = (c.min-at-end.ensures, omega arith, refl)

pub returns-then-is_ne : goal.returns-then-is_ne
returns-then-is_ne c =
    let xs = c.args.left.now in
    let ys = c.args.right.now in
    let i = c.loop-at.at in
    let turn = one_more xs ys i (omega (arith, c.loop-at.invariant.0, c.loop-at-test.true)) (omega (arith, c.loop-at.invariant.0, c.loop-at-test.true)) c.cmp-found.result c.cmp-found.ensures in
    sym (decided c.cmp-found.result (name_cmp (drop (i + 1) xs) (drop (i + 1) ys)) (sym c.is_ne.ensures ∙ c.if-is_ne.true)) ∙ sym turn ∙ c.loop-at.invariant.2

pub loop-at-preserved : goal.loop-at-preserved
loop-at-preserved c =
    let xs = c.args.left.now in
    let ys = c.args.right.now in
    let i = c.loop-at.at in
    let turn = one_more xs ys i (omega (arith, c.loop-at.invariant.0, c.loop-at-test.true)) (omega (arith, c.loop-at.invariant.0, c.loop-at-test.true)) c.cmp-found.result c.cmp-found.ensures in (
      c.loop-at.invariant.0,
      omega (arith, c.loop-at-test.true),
      sym (undecided c.cmp-found.result (name_cmp (drop (i + 1) xs) (drop (i + 1) ys)) (sym c.is_ne.ensures ∙ c.if-is_ne.false)) ∙ sym turn ∙ c.loop-at.invariant.2,
    )

pub returns : goal.returns
returns c =
    let here : c.loop-at.at ≡ min (length c.args.left.now) (length c.args.right.now) = omega (arith, c.loop-at.invariant.0, c.loop-at.invariant.1, c.loop-at-test.false) in
    c.cmp.ensures ∙ sym (ended c.args.left.now c.args.right.now c.loop-at.at here) ∙ c.loop-at.invariant.2
