use Rattle.std.proofs.Common.{subst}
use Rattle.ac_chain.specs.Rows.{IsSound, WalksInOrder}
use Rattle.ac_chain.proofs.Chains.{chain_sound, walks}
use Rattle.ac_chain.proofs.chain.Chain.first.Goals as goal

pub returns-clause-walk : goal.returns-clause-walk
returns-clause-walk g c = subst (λ x. WalksInOrder x) c.self.view_is (walks c.self.inside.links c.self.invariant)

pub returns-clause-sound : goal.returns-clause-sound
returns-clause-sound g c = subst (λ x. IsSound x) c.self.view_is (chain_sound c.self.inside.links c.self.invariant)
