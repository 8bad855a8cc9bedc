use Rattle.std.proofs.Common.{◌≡◌, ◌-◌, true, false, length, sym, ◌∙◌, subst}
use Rattle.std.specs.Prelude.{OnOk}
use Rattle.ac_setwork.specs.Filling.{holds}
use Rattle.ac_setwork.specs.Indexed.{MakesRoom}
use Rattle.ac_setwork.proofs.Slots.{widened_here, widened_more}
use Rattle.ac_setwork.proofs.filling.widen.Goals as goal

pub returns-then-holds-clause-ok : goal.returns-then-holds-clause-ok
returns-then-holds-clause-ok g c =
    let s = g.I.Index.seen c.args.index.now in let need = c.args.need in
    let held : holds s.capacity (length s.rows) need ≡ true = (λ i. holds (sym c.capacity.ensures.capacity i) (sym c.len-length.ensures i) need) ∙ sym c.holds.ensures ∙ c.if-holds.true in
    widened_here c.args.limit need s s held c.requires.capacity c.requires.slots

pub returns-clause-ok : goal.returns-clause-ok
returns-clause-ok g c =
    let s = g.I.Index.seen c.args.index.now in let need = c.args.need in let s2 = g.I.Index.seen c.make_room.new.self in
    let out : holds s.capacity (length s.rows) need ≡ false = (λ i. holds (sym c.capacity.ensures.capacity i) (sym c.len-length.ensures i) need) ∙ sym c.holds.ensures ∙ c.if-holds.false in
    widened_more c.args.limit need s s2 c.make_room.result out c.requires.within c.requires.capacity
    (subst (λ n. OnOk c.make_room.result (MakesRoom c.args.limit (need - n) s s2)) c.len-length.ensures c.make_room.ensures.ok)
