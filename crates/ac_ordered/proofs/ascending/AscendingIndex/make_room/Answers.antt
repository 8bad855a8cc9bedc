use Rattle.std.proofs.Common.{◌≡◌, ◌+◌, length, false, None, sym, subst}
use Rattle.ac_base.specs.Limits.{is_past}
use Rattle.ac_balance.proofs.Indexes.{on_ok}
use Rattle.ac_setwork.specs.Indexed.{MakesRoom, HasSlots, slots}
use Rattle.ac_ordered.specs.Ascents.{ascent}
use Rattle.ac_ordered.proofs.Becoming.{room_made}
use Rattle.ac_ordered.proofs.ascending.AscendingIndex.make_room.Goals as goal

pub returns-clause-ok : goal.returns-clause-ok
returns-clause-ok g c =
    let x = c.self.inside.tree in let limit = c.args._limit in let n = c.args.n in
    on_ok c.reserve.result _ _ (λ e. subst (λ y. MakesRoom limit n (ascent y) (ascent c.reserve.new.self)) c.self.view_is
    (room_made limit n x c.reserve.new.self (subst (λ y. is_past limit (length (ascent y).rows + n) ≡ false) (sym c.self.view_is) c.requires.within)
    (subst (λ y. HasSlots limit None (slots (ascent y))) (sym c.self.view_is) c.requires.slots) e)) c.reserve.ensures.ok
