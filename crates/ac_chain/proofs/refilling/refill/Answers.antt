use Rattle.std.proofs.Common.{◌-◌, ◌∙◌}
use Rattle.ac_chain.proofs.Refills.{refilled, refill_fits}
use Rattle.ac_chain.proofs.refilling.refill.Goals as goal

pub put_values-requires-clause-spare : goal.put_values-requires-clause-spare
put_values-requires-clause-spare g c =
    refill_fits c.args.chain.now c.reserve.new.self c.clear.new.self c.saturating_sub.result c.in_ok-values.values.items c.args.source.now.rows c.in_ok-reserve.ensures.ok
    (c.saturating_sub.ensures ∙ (λ i. c.len.ensures.count i - c.len-2.ensures.count i)) c.clear.ensures.cleared c.in_ok-values.ensures.same

pub returns-clause-put : goal.returns-clause-put
returns-clause-put g c = (
    refilled c.args.chain.now c.reserve.new.self c.clear.new.self c.put_values.new.chain c.saturating_sub.result c.in_ok-values.values.items c.args.source.now.rows c.in_ok-reserve.ensures.ok
    (c.saturating_sub.ensures ∙ (λ i. c.len.ensures.count i - c.len-2.ensures.count i)) c.clear.ensures.cleared c.in_ok-values.ensures.same c.put_values.ensures.put c.put_values.ensures.spare
    ).refilled

pub returns-clause-slots : goal.returns-clause-slots
returns-clause-slots g c = (
    refilled c.args.chain.now c.reserve.new.self c.clear.new.self c.put_values.new.chain c.saturating_sub.result c.in_ok-values.values.items c.args.source.now.rows c.in_ok-reserve.ensures.ok
    (c.saturating_sub.ensures ∙ (λ i. c.len.ensures.count i - c.len-2.ensures.count i)) c.clear.ensures.cleared c.in_ok-values.ensures.same c.put_values.ensures.put c.put_values.ensures.spare
    ).slots

pub returns-clause-grown : goal.returns-clause-grown
returns-clause-grown g c = (
    refilled c.args.chain.now c.reserve.new.self c.clear.new.self c.put_values.new.chain c.saturating_sub.result c.in_ok-values.values.items c.args.source.now.rows c.in_ok-reserve.ensures.ok
    (c.saturating_sub.ensures ∙ (λ i. c.len.ensures.count i - c.len-2.ensures.count i)) c.clear.ensures.cleared c.in_ok-values.ensures.same c.put_values.ensures.put c.put_values.ensures.spare
    ).grown
