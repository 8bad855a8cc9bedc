use Rattle.std.proofs.Common.{◌-◌, ◌∙◌}
use Rattle.ac_vector.proofs.Refills.{filled, filling}
use Rattle.ac_vector.proofs.refilling.refill.Goals as goal

pub append_each-requires-clause-spare : goal.append_each-requires-clause-spare
append_each-requires-clause-spare g c =
    filling c.args.array.now c.reserve.new.self c.clear.new.self c.saturating_sub.result c.in_ok-copies.copies.items c.args.source.now.rows c.in_ok-reserve.ensures.ok
    (c.saturating_sub.ensures ∙ (λ i. c.len.ensures.count i - c.len-2.ensures.count i)) c.clear.ensures.cleared (c.in_ok-copies.ensures ∙ c.values.ensures.values)

pub returns-clause-put : goal.returns-clause-put
returns-clause-put g c = (
    filled c.args.array.now c.reserve.new.self c.clear.new.self c.append_each.new.array c.saturating_sub.result c.in_ok-copies.copies.items c.args.source.now.rows c.in_ok-reserve.ensures.ok
    (c.saturating_sub.ensures ∙ (λ i. c.len.ensures.count i - c.len-2.ensures.count i)) c.clear.ensures.cleared (c.in_ok-copies.ensures ∙ c.values.ensures.values) c.append_each.ensures.put c.append_each.ensures.spare
    ).put

pub returns-clause-slots : goal.returns-clause-slots
returns-clause-slots g c = (
    filled c.args.array.now c.reserve.new.self c.clear.new.self c.append_each.new.array c.saturating_sub.result c.in_ok-copies.copies.items c.args.source.now.rows c.in_ok-reserve.ensures.ok
    (c.saturating_sub.ensures ∙ (λ i. c.len.ensures.count i - c.len-2.ensures.count i)) c.clear.ensures.cleared (c.in_ok-copies.ensures ∙ c.values.ensures.values) c.append_each.ensures.put c.append_each.ensures.spare
    ).slots

pub returns-clause-grown : goal.returns-clause-grown
returns-clause-grown g c = (
    filled c.args.array.now c.reserve.new.self c.clear.new.self c.append_each.new.array c.saturating_sub.result c.in_ok-copies.copies.items c.args.source.now.rows c.in_ok-reserve.ensures.ok
    (c.saturating_sub.ensures ∙ (λ i. c.len.ensures.count i - c.len-2.ensures.count i)) c.clear.ensures.cleared (c.in_ok-copies.ensures ∙ c.values.ensures.values) c.append_each.ensures.put c.append_each.ensures.spare
    ).grown
