use Rattle.std.proofs.Common.{◌≡◌, ◌-◌, false, sym, ap, ◌∙◌, subst}
use Rattle.std.specs.Prelude.{◌≤◌, max}
use Rattle.ac_base.specs.Growth.{pow8}
use Rattle.ac_base.specs.Limits.{is_past}
use Rattle.ac_chain.specs.Rows.{slots_in}
use Rattle.ac_model.specs.Containers.{Container, slots_of}
use Rattle.ac_vector.proofs.Reserves.{reserve_sequence, widen_after, widen_slots, widen_wants}
use Rattle.ac_vector.proofs.vector.Vector.widen.Goals as goal

pub invariant_of-self : goal.invariant_of-self
invariant_of-self g c =
    let i = c.self.inside in let r = c.reserve in
    reserve_sequence r.result i.limit i.rows r.new.self c.args.need c.saturating_sub-more.result (c.saturating_sub-more.ensures ∙ ap (λ n. c.args.need - n) c.len.ensures.count) c.self.invariant
    (subst (λ (x : Container _). is_past x.object.limit c.args.need ≡ false) (sym c.self.view_is) c.requires.within) r.ensures.ok r.ensures.err r.ensures.sound

pub returns-clause-ok : goal.returns-clause-ok
returns-clause-ok g c =
    let i = c.self.inside in let r = c.reserve in
    widen_after r.result i.guards i.limit i.rows r.new.self c.args.self.now.object (ap (λ (x : Container _). x.object) c.self.view_is) c.args.need c.saturating_sub-more.result (c.saturating_sub-more.ensures ∙ ap (λ n. c.args.need - n) c.len.ensures.count) c.self.invariant
    (subst (λ (x : Container _). is_past x.object.limit c.args.need ≡ false) (sym c.self.view_is) c.requires.within) r.ensures.ok

pub returns-clause-wants : goal.returns-clause-wants
returns-clause-wants g c =
    let i = c.self.inside in let r = c.reserve in
    widen_wants r.result i.guards i.limit i.rows c.args.self.now.object (ap (λ (x : Container _). x.object) c.self.view_is) c.args.need c.saturating_sub-more.result (c.saturating_sub-more.ensures ∙ ap (λ n. c.args.need - n) c.len.ensures.count) c.self.invariant
    (subst (λ (x : Container _). is_past x.object.limit c.args.need ≡ false) (sym c.self.view_is) c.requires.within) r.ensures.had_room

pub returns-clause-slots : goal.returns-clause-slots
returns-clause-slots g c =
    let i = c.self.inside in let r = c.reserve in
    subst (λ (x : Container _). slots_in r.new.self ≤ max (slots_of x) (pow8 c.args.need)) c.self.view_is
    (widen_slots r.result i.rows r.new.self c.args.need c.saturating_sub-more.result (c.saturating_sub-more.ensures ∙ ap (λ n. c.args.need - n) c.len.ensures.count) r.ensures.ok r.ensures.err)
