use Rattle.std.proofs.Common.{◌≡◌, length, subst}
use Rattle.ac_chain.specs.Rows.{IsSound}
use Rattle.ac_pool.specs.NamedRows.{name_before}
use Rattle.ac_chain.proofs.Chains.{chain_sound, last_is}
use Rattle.ac_chain.proofs.chain.Chain.last.Goals as goal

pub returns-clause-name : goal.returns-clause-name
returns-clause-name g c = subst (λ x. c.self.inside.links.last ≡ name_before x.rows (length x.rows)) c.self.view_is (last_is c.self.inside.links c.self.invariant)

pub returns-clause-sound : goal.returns-clause-sound
returns-clause-sound g c = subst (λ x. IsSound x) c.self.view_is (chain_sound c.self.inside.links c.self.invariant)
