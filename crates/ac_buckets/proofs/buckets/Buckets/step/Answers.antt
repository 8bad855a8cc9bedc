use Rattle.std.proofs.Common.{◌∙◌, arith}
use Rattle.ac_buckets.proofs.PlaceSteps.{meets_node}
use Rattle.ac_buckets.proofs.buckets.Buckets.step.Goals as goal

pub returns-then-node-hash : goal.returns-then-node-hash
returns-then-node-hash c =
    let l = c.loop-link in
    let met = meets_node c.self.inside.nodes.items c.self.inside.heads.items _ c.args.hash l.link c.args.self.now c.index-node.result.now c.self.invariant c.self.view_is c.loop-link-test.true c.index-node.ensures l.invariant.stands in
    record { names = rw c.name.ensures (l.invariant.names ∙ met.has c.if-node-hash.true); stands = met.stands; nearer = omega (arith, met.nearer, l.invariant.nearer) }

pub loop-link-smaller : goal.loop-link-smaller
loop-link-smaller c =
    (meets_node c.self.inside.nodes.items c.self.inside.heads.items _ c.args.hash c.loop-link.link c.args.self.now c.index-node.result.now c.self.invariant c.self.view_is c.loop-link-test.true c.index-node.ensures c.loop-link.invariant.stands).nearer

pub loop-link-preserved : goal.loop-link-preserved
loop-link-preserved c =
    let l = c.loop-link in
    let met = meets_node c.self.inside.nodes.items c.self.inside.heads.items _ c.args.hash l.link c.args.self.now c.index-node.result.now c.self.invariant c.self.view_is c.loop-link-test.true c.index-node.ensures l.invariant.stands in
    record { stands = met.stands; names = l.invariant.names ∙ met.other c.if-node-hash.false; nearer = omega (arith, met.nearer, l.invariant.nearer) }
