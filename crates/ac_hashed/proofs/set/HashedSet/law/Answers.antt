use Rattle.std.proofs.Common.{◌≤◌, subst}
use Rattle.std.specs.Prelude.{IfSome}
use Rattle.ac_model.specs.Containers.{Container, HasSlots, slots_of}
use Rattle.ac_model.specs.Keyed.{IsValidKeyed, by_arrival}
use Rattle.ac_model.specs.Objects.{length_of, plain}
use Rattle.ac_hashed.proofs.set.HashedSet.law.Goals as goal

pub returns-clause-valid : goal.returns-clause-valid
returns-clause-valid g c = subst (λ (x : Container g.row.T.Denot). IsValidKeyed (by_arrival g.T.Hashed.is_alike) (plain x.object)) c.self.view_is c.law.ensures.valid

pub returns-clause-slots : goal.returns-clause-slots
returns-clause-slots g c = subst (λ (x : Container g.row.T.Denot). HasSlots x.object.limit (length_of x.object) x.spare) c.self.view_is c.law.ensures.slots

pub returns-clause-capacity : goal.returns-clause-capacity
returns-clause-capacity g c = subst (λ (x : Container g.row.T.Denot). IfSome x.object.capacity (λ capacity. capacity ≤ slots_of x)) c.self.view_is c.law.ensures.capacity
