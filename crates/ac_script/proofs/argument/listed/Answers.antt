use Rattle.std.proofs.Common.{arith, Err, ap, ◌∙◌}
use Rattle.std.proofs.lemmas.List.{map-append}
use Rattle.std.proofs.lemmas.Result.{err_from_is_err_and}
use Rattle.ac_script.proofs.Arguments.{argument_leaves, comma_leaves}
use Rattle.ac_script.proofs.Turns.{begins, continues, stops_behind_comma, ends, stops_at_end, stopped_so}
use Rattle.ac_script.proofs.argument.listed.Goals as goal

pub loop-after-init : goal.loop-after-init
loop-after-init c = rw (c.in_ok-push.ensures.items, c.new-items.ensures.items) (begins _ _)

pub returns-in_err-next : goal.returns-in_err-next
returns-in_err-next c =
    let p = err_from_is_err_and c.from_residual-in_err-next.result c.from_residual-in_err-next.ensures.1 in
    rw (p.1 ∙ ap Err p.2) (stopped_so c.in_err-next.field-0.0 _ _
    (λ at e. stops_behind_comma _ _ c.in-Some.after.now at _ _ c.loop-after.invariant c.in-Some.ensures e) c.in_err-next.ensures)

pub loop-after-smaller : goal.loop-after-smaller
loop-after-smaller c =
    omega (arith, comma_leaves c.loop-after.rest.now _ c.in-Some.after.now c.in-Some.ensures, argument_leaves c.in-Some.after.now _ c.in_ok-next.after.now c.in_ok-next.ensures)

pub loop-after-preserved : goal.loop-after-preserved
loop-after-preserved c =
    rw (c.in_ok-push-2.ensures.items, map-append) (continues _ _ c.in-Some.after.now _ _ _ _ c.loop-after.invariant c.in-Some.ensures c.in_ok-next.ensures)

pub returns-in_err-mark : goal.returns-in_err-mark
returns-in_err-mark c =
    let p = err_from_is_err_and c.from_residual-in_err-mark.result c.from_residual-in_err-mark.ensures.1 in
    rw (p.1 ∙ ap Err p.2) (stopped_so c.in_err-mark.field-0.0 _ _
    (λ at e. stops_at_end _ _ at _ _ c.loop-after.invariant c.in_default.ensures e) c.in_err-mark.ensures)

pub returns : goal.returns
returns c = ends _ _ _ _ _ c.loop-after.invariant c.in_default.ensures c.in_ok-mark.ensures
