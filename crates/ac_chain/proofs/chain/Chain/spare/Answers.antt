use Rattle.std.proofs.Common.{subst}
use Rattle.ac_chain.specs.Rows.{IsSound}
use Rattle.ac_chain.proofs.Chains.{chain_sound}
use Rattle.ac_chain.proofs.chain.Chain.spare.Goals as goal

pub returns-clause-sound : goal.returns-clause-sound
returns-clause-sound g c = subst (λ x. IsSound x) c.self.view_is (chain_sound c.self.inside.links c.self.invariant)
