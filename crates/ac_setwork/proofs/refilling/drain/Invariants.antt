use Rattle.std.proofs.Common.{length}
use Rattle.ac_base.specs.Rows.{values}
use Rattle.ac_setwork.proofs.Refills.{Draining, Filling}
use Rattle.ac_setwork.proofs.refilling.drain.Given as goal

abbrev pub invariant-loop-name : goal.invariant-loop-name
invariant-loop-name g l =
    let s = g.I.Index.seen l.fn.source in let now = g.I.Index.seen l.source in
    record {
      filling : Filling (values s.rows) (g.I.Index.seen l.fn.index) (g.I.Index.seen l.index) (values now.rows);
      draining : Draining s now;
    }

abbrev pub decreases-loop-name : goal.decreases-loop-name
decreases-loop-name g l = length (g.I.Index.seen l.source).rows
