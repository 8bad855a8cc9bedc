use Rattle.std.proofs.Common.{arith}
use Rattle.ac_chain.proofs.Deletes.{dropping_more, dropping_live, dropping_end}
use Rattle.ac_chain.proofs.cut.remove_last.Goals as goal

pub returns-in-None-clause-cut : goal.returns-in-None-clause-cut
returns-in-None-clause-cut g c = dropping_end c.args.chain.now c.loop-i._i c.args.n c.loop-i.chain c.loop-i.invariant (omega arith) (λ _. c.in-None.ensures.name)

pub remove-requires : goal.remove-requires
remove-requires g c = dropping_live c.loop-i.chain c.in-Some.name c.in-Some.ensures.name

pub loop-i-preserved : goal.loop-i-preserved
loop-i-preserved g c =
    dropping_more c.args.chain.now c.loop-i._i c.loop-i.chain c.remove.new.self c.in-Some.name c.loop-i.invariant c.in-Some.ensures.name c.remove.ensures.removed c.remove.ensures.sound
