use Rattle.std.proofs.Common.{subst}
use Rattle.ac_setwork.proofs.Refills.{Filling, filling_absent, filling_more}
use Rattle.ac_setwork.proofs.refilling.fill.Goals as goal

pub add_new-requires-clause-absent : goal.add_new-requires-clause-absent
add_new-requires-clause-absent g c =
    let start = g.I.Index.seen c.args.index.now in let now = g.I.Index.seen c.loop-row.index in
    filling_absent c.args.rows.items start g.I.Index.order g.met.I.Index.closed now c.in-Some.row _ c.requires.keyed (subst (Filling c.args.rows.items start now) c.in-Some.ensures.steps.0 c.loop-row.invariant)

pub loop-row-preserved : goal.loop-row-preserved
loop-row-preserved g c =
    let start = g.I.Index.seen c.args.index.now in let now = g.I.Index.seen c.loop-row.index in
    filling_more c.args.rows.items start g.I.Index.order g.met.I.Index.closed now (g.I.Index.seen c.add_new.new.self) c.in-Some.row _ c.requires.keyed (subst (Filling c.args.rows.items start now) c.in-Some.ensures.steps.0 c.loop-row.invariant) c.requires.spare c.add_new.ensures.added
