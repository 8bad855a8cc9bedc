use Rattle.std.proofs.Common.{◌≡◌, ◌≤◌, ◌+◌, ◌-◌, sym, ap, subst, arith}
use Rattle.std.specs.Prelude.{OnOk}
use Rattle.std.proofs.lemmas.List.{length-map}
use Rattle.ac_base.specs.declared.limit.TheConstants.{GREATEST_LENGTH}
use Rattle.ac_model.specs.Containers.{Container, slots_of}
use Rattle.ac_model.specs.Objects.{length_of, plain, plain_row}
use Rattle.ac_model.proofs.Reasons.{passed, room_none}
use Rattle.ac_setwork.specs.Indexed.{slots, slots_after}
use Rattle.ac_setwork.specs.SetSeen.{need_of}
use Rattle.ac_setwork.proofs.Slots.{slots_widened}
use Rattle.ac_setwork.proofs.Widening.{widened_table}
use Rattle.ac_setwork.proofs.table.as_set.TableSetLike.room.Goals as goal

pub overflow_add-need : goal.overflow_add-need
overflow_add-need g c =
    let o = c.args.self.now.object in let gone = c.args.gone in let more = c.args.more in
    let fits = room_none (plain o) (need_of (plain o) gone more) more (sym (passed _ _ c.in_ok-allowed.ensures c.refuses_room.ensures)) in
    let most = fits.within_greatest in let len = c.len.ensures in let same = length-map o.rows plain_row in let is = ap (λ (x : Container _). length_of x.object) c.self.view_is in
    record { fits = omega (arith, most, len, same, is) }

pub invariant_of-self : goal.invariant_of-self
invariant_of-self g c =
    let i = c.self.inside in let o = c.args.self.now.object in let gone = c.args.gone in let more = c.args.more in
    let fits = room_none (plain o) (need_of (plain o) gone more) more (sym (passed _ _ c.in_ok-allowed.ensures c.refuses_room.ensures)) in
    let most = fits.within_greatest in let len = c.len.ensures in let same = length-map o.rows plain_row in let is = ap (λ (x : Container _). length_of x.object) c.self.view_is in
    let few : c.len.result - gone + more ≤ GREATEST_LENGTH = omega (arith, most, len, same, is) in
    widened_table g.I.Index.order i.guards i.limit (c.len.result - gone + more) (g.I.Index.seen i.index) (g.I.Index.seen c.widen.new.index) c.widen.result few c.self.invariant c.widen.ensures.ok c.widen.ensures.err

pub returns-clause-ok : goal.returns-clause-ok
returns-clause-ok g c =
    let i = c.self.inside in let gone = c.args.gone in let more = c.args.more in let s = g.I.Index.seen i.index in let s2 = g.I.Index.seen c.widen.new.index in
    let need = ap (λ n. (n - gone) + more) c.len.ensures in
    subst (λ (x : Container _). OnOk c.as_fault.result (slots s2 ≡ slots_after (slots_of x) (need_of x.object gone more))) c.self.view_is
    (subst (λ n. OnOk c.as_fault.result (slots s2 ≡ slots_after (slots s) n)) need (slots_widened i.limit (c.len.result - gone + more) s s2 c.widen.result c.as_fault.result c.as_fault.ensures c.widen.ensures.ok))
