use Rattle.std.proofs.Common.{arith}
use Rattle.ac_buckets.proofs.Links.{reached_more, next_below, IsAbove-reached}
use Rattle.ac_buckets.proofs.linked.above.Goals as goal

pub loop-link-preserved : goal.loop-link-preserved
loop-link-preserved c =
    let h = c.loop-link.invariant in let l = c.loop-link in let a = c.args in let below = c.loop-link-test.true in
    let less = next_below a.nodes.now a.heads.now c.requires.linked.0 a.bucket a.index l.above l.link c.requires.bucket below h.within c.requires.linked.1 (h.reached c.requires.linked.0 c.requires.linked.1) in
    record {
      reached = λ marks is. reached_more a.nodes.now a.heads.now a.bucket a.index l.above l.link c.requires.bucket below h.within marks is (h.reached marks is);
      within = omega arith;
      node = omega arith;
    }

pub loop-link-smaller : goal.loop-link-smaller
loop-link-smaller c =
    let h = c.loop-link.invariant in let l = c.loop-link in let a = c.args in let below = c.loop-link-test.true in
    next_below a.nodes.now a.heads.now c.requires.linked.0 a.bucket a.index l.above l.link c.requires.bucket below h.within c.requires.linked.1 (h.reached c.requires.linked.0 c.requires.linked.1)

pub returns-clause-above : goal.returns-clause-above
returns-clause-above c = λ marks h. IsAbove-reached marks c.args.bucket c.args.index c.loop-link.above c.loop-link.link (omega (arith, c.loop-link-test.false)) (c.loop-link.invariant.reached marks h)
