use Rattle.std.proofs.Common.{◌+◌, drop, nat_lt, sym, ap, ◌∙◌}
use Rattle.ac_rules.proofs.Outcomes.{next_item}
use Rattle.ac_aggregate.specs.Limits.{nesting}
use Rattle.ac_aggregate.proofs.Depths.{goes_on, deep}
use Rattle.ac_aggregate.proofs.limits.is_deep.Goals as goal

pub returns-then-count-gt16 : goal.returns-then-count-gt16
returns-then-count-gt16 c =
    let ts = c.args.tokens.now in
    let i = c.loop-token.token-index in
    let rest = drop (i + 1) ts in
    sym (deep c.open_after-count.result rest c.if-count-gt16.true)
    ∙ ap (λ n. nat_lt 16 (nesting n rest)) c.open_after-count.ensures
    ∙ sym (goes_on c.loop-token.count c.token-item.result rest c.loop-token.invariant.0)
    ∙ ap (λ us. nat_lt 16 (nesting c.loop-token.count us)) (sym (next_item ts i c.token-item.result c.loop-token-test.true c.token-item.is))
    ∙ c.loop-token.invariant.1
