use Rattle.std.proofs.Common.{None}
use Rattle.ac_balance.specs.TreeFields.{links}
use Rattle.ac_balance.proofs.Indexes.{empty_index, sound_of}
use Rattle.ac_balance.proofs.index.OrderIndex.new.Goals as goal

pub invariant_of-result : goal.invariant_of-result
invariant_of-result g c = (empty_index g.K.Rank.is_less c.new.result 1 0 c.new.ensures.empty c.new.ensures.sound).0

pub returns-clause-empty : goal.returns-clause-empty
returns-clause-empty g c = (empty_index g.K.Rank.is_less c.new.result 1 0 c.new.ensures.empty c.new.ensures.sound).1

pub returns-clause-sound : goal.returns-clause-sound
returns-clause-sound g c = sound_of g.K.Rank.is_less (links c.new.result None) (empty_index g.K.Rank.is_less c.new.result 1 0 c.new.ensures.empty c.new.ensures.sound).0
