use Rattle.std.proofs.Common.{◌≡◌, ◌++◌, ◌∷◌, [], refl, sym, ap, ◌∙◌, subst, take, ◌+◌, arith, false}
use Rattle.ac_syntax.specs.declared.token.Placed.{Placed}
use Rattle.ac_syntax.specs.Tokens.{tokens}
use Rattle.ac_syntax.specs.Limits.{Seen, seen_of, seen_after, is_past_limit, AreWithinLimits}
use Rattle.ac_script.specs.Behind.{seen_view}
use Rattle.ac_script.proofs.Within.{none_within, one_more, one_more_seen, depth_rises, tasks_rise, commands_rise, taken}
use Rattle.ac_script.proofs.limits.within.Goals as goal

pub loop-count-init : goal.loop-count-init
loop-count-init c = record { seen = refl; shallow = omega arith; few_tasks = omega arith; few_commands = omega arith; within = none_within }

pub loop-count-preserved : goal.loop-count-preserved
loop-count-preserved c =
    let done = tokens (take c.loop-count.count c.args.placed.now) in
    let token = c.index-placed-count.result.token in
    let inv = c.loop-count.invariant in
    let here = taken c.args.placed.now c.loop-count.count c.index-placed-count.result c.loop-count-test.true in
    let next : tokens (take (c.loop-count.count + 1) c.args.placed.now) ≡ done ++ token ∷ [] =
    here ∙ ap (λ (p : Placed). done ++ p.token ∷ []) (sym c.index-placed-count.is) in
    let kept : is_past_limit (seen_of done) token ≡ false = ap (λ (s : Seen). is_past_limit s token) (sym inv.seen) ∙ sym c.if-refuses.ensures in
    record {
      seen = c.one_more-behind.ensures ∙ ap (λ (s : Seen). seen_after s token) inv.seen ∙ sym (one_more_seen done token) ∙ ap seen_of (sym next);
      shallow = omega (arith, ap (λ (s : Seen). s.depth) c.one_more-behind.ensures, depth_rises (seen_view c.loop-count.behind) token, inv.shallow);
      few_tasks = omega (arith, ap (λ (s : Seen). s.tasks) c.one_more-behind.ensures, tasks_rise (seen_view c.loop-count.behind) token, inv.few_tasks);
      few_commands = omega (arith, ap (λ (s : Seen). s.commands) c.one_more-behind.ensures, commands_rise (seen_view c.loop-count.behind) token, inv.few_commands);
      within = subst AreWithinLimits (sym next) (one_more done token inv.within kept);
    }
