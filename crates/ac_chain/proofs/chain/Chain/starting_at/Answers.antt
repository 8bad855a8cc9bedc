use Rattle.ac_chain.proofs.Chains.{empty_chain, chain_sound}
use Rattle.ac_chain.specs.ChainFields.{links}
use Rattle.std.proofs.Common.{None}
use Rattle.ac_chain.proofs.chain.Chain.starting_at.Goals as goal

pub invariant_of-result : goal.invariant_of-result
invariant_of-result g c = (empty_chain c.starting_at.result c.args.serial 0 c.starting_at.ensures.empty c.starting_at.ensures.sound).0

pub returns-clause-empty : goal.returns-clause-empty
returns-clause-empty g c = (empty_chain c.starting_at.result c.args.serial 0 c.starting_at.ensures.empty c.starting_at.ensures.sound).1

pub returns-clause-sound : goal.returns-clause-sound
returns-clause-sound g c = chain_sound (links c.starting_at.result None None) (empty_chain c.starting_at.result c.args.serial 0 c.starting_at.ensures.empty c.starting_at.ensures.sound).0
