use Rattle.std.proofs.Common.{arith}
use Rattle.ac_chain.proofs.Deletes.{dropping_more, dropping_end}
use Rattle.ac_vector.proofs.array.Array.cut_last.Goals as goal

pub returns-in-None-clause-cut : goal.returns-in-None-clause-cut
returns-in-None-clause-cut g c = dropping_end c.args.self.now c.loop-i._i c.args.count c.loop-i.self c.loop-i.invariant (omega arith) (λ _. c.in-None.ensures.name)

pub loop-i-preserved : goal.loop-i-preserved
loop-i-preserved g c =
    dropping_more c.args.self.now c.loop-i._i c.loop-i.self c.drop_last.new.self c.in-Some.name c.loop-i.invariant c.in-Some.ensures.name c.drop_last.ensures.removed c.drop_last.ensures.sound
