use Rattle.std.proofs.Common.{subst}
use Rattle.ac_model.specs.Containers.{Container, HasSlots}
use Rattle.ac_model.specs.Objects.{length_of}
use Rattle.ac_ordered.proofs.set.OrderedSet.law.Goals as goal

pub returns-clause-slots : goal.returns-clause-slots
returns-clause-slots g c = subst (λ (x : Container _). HasSlots x.object.limit (length_of x.object) x.spare) c.self.view_is c.law.ensures.slots
