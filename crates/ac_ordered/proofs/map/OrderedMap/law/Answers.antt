use Rattle.std.proofs.Common.{subst}
use Rattle.ac_model.specs.Containers.{Container, HasSlots}
use Rattle.ac_model.specs.Keyed.{ascending, IsValidKeyed}
use Rattle.ac_model.specs.Maps.{order_of}
use Rattle.ac_model.specs.Objects.{length_of, plain}
use Rattle.ac_ordered.proofs.map.OrderedMap.law.Goals as goal

pub returns-clause-valid : goal.returns-clause-valid
returns-clause-valid g c = subst (λ (x : Container _). IsValidKeyed (order_of (ascending g.K.Rank.is_less)) (plain x.object)) c.self.view_is c.law.ensures.valid

pub returns-clause-slots : goal.returns-clause-slots
returns-clause-slots g c = subst (λ (x : Container _). HasSlots x.object.limit (length_of x.object) x.spare) c.self.view_is c.law.ensures.slots
