use Rattle.ac_chain.proofs.Chains.{empty_chain, chain_sound}
use Rattle.ac_chain.specs.ChainFields.{links}
use Rattle.std.proofs.Common.{None}
use Rattle.ac_chain.proofs.chain.Chain.with_slots.Goals as goal

pub invariant_of-result : goal.invariant_of-result
invariant_of-result g c = (empty_chain c.in_ok-with_slots.field-0 1 c.args.n c.in_ok-with_slots.ensures.empty c.in_ok-with_slots.ensures.sound).0

pub returns-clause-empty : goal.returns-clause-empty
returns-clause-empty g c = (empty_chain c.in_ok-with_slots.field-0 1 c.args.n c.in_ok-with_slots.ensures.empty c.in_ok-with_slots.ensures.sound).1

pub returns-clause-sound : goal.returns-clause-sound
returns-clause-sound g c = chain_sound (links c.in_ok-with_slots.field-0 None None) (empty_chain c.in_ok-with_slots.field-0 1 c.args.n c.in_ok-with_slots.ensures.empty c.in_ok-with_slots.ensures.sound).0
