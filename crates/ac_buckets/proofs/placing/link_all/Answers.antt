use Rattle.std.proofs.Common.{refl, ◌∙◌, arith}
use Rattle.ac_buckets.proofs.Linking.{IsLinkedBelow-none, IsLinkedBelow-more, IsLinkedBelow-all}
use Rattle.ac_buckets.proofs.placing.link_all.Goals as goal

pub loop-index-init : goal.loop-index-init
loop-index-init c = record { linked = IsLinkedBelow-none c.args.nodes.now c.args.heads.now c.requires.heads.1; rows = refl }

pub link_in-requires-clause-linked : goal.link_in-requires-clause-linked
link_in-requires-clause-linked c =
    let h = c.loop-index.invariant.linked in (h.marks, h.linked, h.above c.loop-index.index (omega arith) (omega (arith, c.loop-index-test.true, c.loop-index.auto.nodes)))

pub loop-index-preserved : goal.loop-index-preserved
loop-index-preserved c =
    let l = c.loop-index in
    record {
      linked = IsLinkedBelow-more l.nodes c.link_in.new.nodes l.heads c.link_in.new.heads l.index (omega (arith, c.loop-index-test.true, l.auto.nodes)) c.link_in.auto.heads c.link_in.ensures.rows c.link_in.ensures.linked l.invariant.linked;
      rows = c.link_in.ensures.rows ∙ l.invariant.rows;
    }

pub returns-clause-linked : goal.returns-clause-linked
returns-clause-linked c = let l = c.loop-index in IsLinkedBelow-all l.nodes l.heads l.index (omega (arith, c.loop-index-test.false, l.auto.nodes)) l.invariant.linked
