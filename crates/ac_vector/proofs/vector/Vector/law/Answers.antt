use Rattle.std.proofs.Common.{◌≡◌, Some, ap, refl, subst}
use Rattle.ac_chain.specs.Rows.{slots_in}
use Rattle.ac_model.specs.Objects.{length_of}
use Rattle.ac_base.specs.Limits.{IsLimit}
use Rattle.ac_model.specs.Containers.{Container, HasSlots, slots_of}
use Rattle.ac_chain.proofs.SequenceValid.{valid, has_slots}
use Rattle.ac_vector.proofs.Capacities.{fits}
use Rattle.ac_vector.proofs.vector.Vector.law.Goals as goal

pub returns-clause-valid : goal.returns-clause-valid
returns-clause-valid g c =
    let i = c.self.inside in valid i.guards i.limit (Some (slots_in i.rows)) i.rows c.args.self.now.object (ap (λ (x : Container _). x.object) c.self.view_is) c.self.invariant (fits i.limit i.rows c.self.invariant)

pub returns-clause-limit : goal.returns-clause-limit
returns-clause-limit g c = let i = c.self.inside in subst (λ (x : Container _). IsLimit x.object.limit) c.self.view_is c.self.invariant.is_limit

pub returns-clause-slots : goal.returns-clause-slots
returns-clause-slots g c = let i = c.self.inside in subst (λ (x : Container _). HasSlots x.object.limit (length_of x.object) x.spare) c.self.view_is (has_slots i.limit i.rows c.self.invariant)

pub returns-clause-capacity : goal.returns-clause-capacity
returns-clause-capacity g c = subst (λ (x : Container _). x.object.capacity ≡ Some (slots_of x)) c.self.view_is refl
