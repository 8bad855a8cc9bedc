use Rattle.std.proofs.Common.{◌-◌, ◌∙◌, length}
use Rattle.ac_chain.proofs.Refills.{ready}
use Rattle.ac_chain.proofs.Transfers.{moved_refilled}
use Rattle.ac_chain.proofs.transfer.move_all.Goals as goal

pub move_each-requires-clause-spare : goal.move_each-requires-clause-spare
move_each-requires-clause-spare g c =
    (ready c.args.target.now c.reserve.new.self c.clear.new.self c.saturating_sub.result (length c.args.source.now.rows) c.in_ok-reserve.ensures.ok (c.saturating_sub.ensures ∙ (λ i. c.len.ensures.count i - c.len-2.ensures.count i)) c.clear.ensures.cleared).enough

pub returns-clause-put : goal.returns-clause-put
returns-clause-put g c = (moved_refilled c.args.target.now c.reserve.new.self c.clear.new.self c.move_each.new.target c.args.source.now c.saturating_sub.result c.in_ok-reserve.ensures.ok (c.saturating_sub.ensures ∙ (λ i. c.len.ensures.count i - c.len-2.ensures.count i)) c.clear.ensures.cleared
    c.move_each.ensures.put c.move_each.ensures.slots).refilled

pub returns-clause-slots : goal.returns-clause-slots
returns-clause-slots g c = (moved_refilled c.args.target.now c.reserve.new.self c.clear.new.self c.move_each.new.target c.args.source.now c.saturating_sub.result c.in_ok-reserve.ensures.ok (c.saturating_sub.ensures ∙ (λ i. c.len.ensures.count i - c.len-2.ensures.count i)) c.clear.ensures.cleared
    c.move_each.ensures.put c.move_each.ensures.slots).slots

pub returns-clause-grown : goal.returns-clause-grown
returns-clause-grown g c = (moved_refilled c.args.target.now c.reserve.new.self c.clear.new.self c.move_each.new.target c.args.source.now c.saturating_sub.result c.in_ok-reserve.ensures.ok (c.saturating_sub.ensures ∙ (λ i. c.len.ensures.count i - c.len-2.ensures.count i)) c.clear.ensures.cleared
    c.move_each.ensures.put c.move_each.ensures.slots).grown
