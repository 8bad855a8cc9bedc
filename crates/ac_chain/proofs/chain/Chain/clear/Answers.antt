use Rattle.std.proofs.Common.{◌≡◌, None, subst}
use Rattle.ac_chain.specs.Rows.{cleared}
use Rattle.ac_chain.specs.ChainFields.{links}
use Rattle.ac_chain.proofs.Chains.{view_of, cleared_chain, chain_sound}
use Rattle.ac_chain.proofs.chain.Chain.clear.Goals as goal

pub invariant_of-self : goal.invariant_of-self
invariant_of-self g c = (cleared_chain c.self.inside.links c.self.invariant c.clear.new.self c.clear.ensures.cleared c.clear.ensures.sound).0

pub returns-clause-cleared : goal.returns-clause-cleared
returns-clause-cleared g c =
    subst (λ x. view_of (links c.clear.new.self None None) ≡ cleared x) c.self.view_is (cleared_chain c.self.inside.links c.self.invariant c.clear.new.self c.clear.ensures.cleared c.clear.ensures.sound).1

pub returns-clause-sound : goal.returns-clause-sound
returns-clause-sound g c = chain_sound (links c.clear.new.self None None) (cleared_chain c.self.inside.links c.self.invariant c.clear.new.self c.clear.ensures.cleared c.clear.ensures.sound).0
