use Rattle.std.proofs.Common.{subst}
use Rattle.ac_balance.specs.Indexed.{IsSound}
use Rattle.ac_balance.proofs.Indexes.{sound_of}
use Rattle.ac_balance.proofs.index.OrderIndex.next_serial.Goals as goal

pub returns-clause-sound : goal.returns-clause-sound
returns-clause-sound g c = subst (λ x. IsSound g.K.Rank.is_less x) c.self.view_is (sound_of g.K.Rank.is_less c.self.inside.links c.self.invariant)
