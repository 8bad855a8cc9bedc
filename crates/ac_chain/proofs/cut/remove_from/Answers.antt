use Rattle.std.proofs.Common.{arith}
use Rattle.ac_chain.specs.Rows.{place_of}
use Rattle.ac_chain.proofs.Deletes.{cutting_start, cutting_more, cutting_live, cutting_end}
use Rattle.ac_chain.proofs.cut.remove_from.Goals as goal

pub loop-i-init : goal.loop-i-init
loop-i-init g c = cutting_start c.args.chain.now c.args.place c.requires.place c.requires.sound

pub next-place-requires : goal.next-place-requires
next-place-requires g c = cutting_live c.args.chain.now (place_of c.args.place c.args.chain.now.rows) c.loop-i._i c.loop-i.place c.loop-i.chain c.loop-i.invariant c.in-Some.name c.in-Some.is

pub remove-requires : goal.remove-requires
remove-requires g c = cutting_live c.args.chain.now (place_of c.args.place c.args.chain.now.rows) c.loop-i._i c.loop-i.place c.loop-i.chain c.loop-i.invariant c.in-Some.name c.in-Some.is

pub loop-i-preserved : goal.loop-i-preserved
loop-i-preserved g c =
    cutting_more c.args.chain.now (place_of c.args.place c.args.chain.now.rows) c.loop-i._i c.loop-i.place c.next-place.result c.loop-i.chain c.remove.new.self c.in-Some.name c.loop-i.invariant c.in-Some.is
    c.next-place.ensures.name c.remove.ensures.removed c.remove.ensures.sound

pub returns-clause-cut : goal.returns-clause-cut
returns-clause-cut g c =
    let count = c.loop-i.auto._i-end in
    cutting_end c.args.chain.now (place_of c.args.place c.args.chain.now.rows) c.loop-i._i c.args.n c.loop-i.place c.loop-i.chain c.loop-i.invariant (omega arith) (λ fewer. absurd (fewer (omega arith)))
