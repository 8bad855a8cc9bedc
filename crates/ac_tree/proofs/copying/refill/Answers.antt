use Rattle.std.proofs.Common.{◌-◌, ◌∙◌}
use Rattle.std.proofs.lemmas.Option.{none-some}
use Rattle.ac_tree.proofs.Assigning.{outline_legal, reserved_forest, emptied, needs_few, items_fit, refilled_is}
use Rattle.ac_tree.proofs.copying.refill.Goals as goal

pub reserve-requires : goal.reserve-requires
reserve-requires g c = needs_few c.args.links.now c.args.source.now c.saturating_sub.result c.requires.forest (c.saturating_sub.ensures ∙ (λ i. c.count.ensures i - c.count-2.ensures i)) c.requires.source c.requires.few

pub remove_below-requires-clause-forest : goal.remove_below-requires-clause-forest
remove_below-requires-clause-forest g c = reserved_forest c.args.links.now c.reserve.new.self c.saturating_sub.result c.requires.forest c.in_ok-reserve.ensures.ok

pub remove_below-requires-clause-live : goal.remove_below-requires-clause-live
remove_below-requires-clause-live g c = λ a e. absurd (none-some a e)

pub put_leveled-requires-clause-empty : goal.put_leveled-requires-clause-empty
put_leveled-requires-clause-empty g c = emptied c.reserve.new.self c.remove_below.new.links (reserved_forest c.args.links.now c.reserve.new.self c.saturating_sub.result c.requires.forest c.in_ok-reserve.ensures.ok) c.remove_below.ensures

pub put_leveled-requires-clause-spare : goal.put_leveled-requires-clause-spare
put_leveled-requires-clause-spare g c = (
    items_fit c.args.links.now c.reserve.new.self c.remove_below.new.links c.args.source.now c.saturating_sub.result c.in_ok-items.items.items c.requires.forest c.requires.source c.in_ok-reserve.ensures.ok
    (c.saturating_sub.ensures ∙ (λ i. c.count.ensures i - c.count-2.ensures i)) c.remove_below.ensures c.in_ok-items.ensures.copies c.requires.unspent
    ).0

pub put_leveled-requires-clause-unspent : goal.put_leveled-requires-clause-unspent
put_leveled-requires-clause-unspent g c = (
    items_fit c.args.links.now c.reserve.new.self c.remove_below.new.links c.args.source.now c.saturating_sub.result c.in_ok-items.items.items c.requires.forest c.requires.source c.in_ok-reserve.ensures.ok
    (c.saturating_sub.ensures ∙ (λ i. c.count.ensures i - c.count-2.ensures i)) c.remove_below.ensures c.in_ok-items.ensures.copies c.requires.unspent
    ).1

pub put_leveled-requires-clause-outline : goal.put_leveled-requires-clause-outline
put_leveled-requires-clause-outline g c = outline_legal c.args.source.now c.in_ok-items.items.items c.in_ok-items.ensures.copies

pub returns-clause-put : goal.returns-clause-put
returns-clause-put g c = (
    refilled_is c.args.links.now c.reserve.new.self c.remove_below.new.links c.put_leveled.new.links c.args.source.now c.saturating_sub.result c.in_ok-items.items.items c.requires.forest c.requires.source c.in_ok-reserve.ensures.ok
    (c.saturating_sub.ensures ∙ (λ i. c.count.ensures i - c.count-2.ensures i)) c.remove_below.ensures c.in_ok-items.ensures.copies c.put_leveled.ensures.rows c.put_leveled.ensures.next c.put_leveled.ensures.spare
    ).refilled

pub returns-clause-slots : goal.returns-clause-slots
returns-clause-slots g c = (
    refilled_is c.args.links.now c.reserve.new.self c.remove_below.new.links c.put_leveled.new.links c.args.source.now c.saturating_sub.result c.in_ok-items.items.items c.requires.forest c.requires.source c.in_ok-reserve.ensures.ok
    (c.saturating_sub.ensures ∙ (λ i. c.count.ensures i - c.count-2.ensures i)) c.remove_below.ensures c.in_ok-items.ensures.copies c.put_leveled.ensures.rows c.put_leveled.ensures.next c.put_leveled.ensures.spare
    ).slots

pub returns-clause-grown : goal.returns-clause-grown
returns-clause-grown g c = (
    refilled_is c.args.links.now c.reserve.new.self c.remove_below.new.links c.put_leveled.new.links c.args.source.now c.saturating_sub.result c.in_ok-items.items.items c.requires.forest c.requires.source c.in_ok-reserve.ensures.ok
    (c.saturating_sub.ensures ∙ (λ i. c.count.ensures i - c.count-2.ensures i)) c.remove_below.ensures c.in_ok-items.ensures.copies c.put_leveled.ensures.rows c.put_leveled.ensures.next c.put_leveled.ensures.spare
    ).grown
