use Rattle.ac_setwork.proofs.Refills.{Filling}
use Rattle.ac_setwork.proofs.refilling.fill.Given as goal

abbrev pub invariant-loop-row : goal.invariant-loop-row
invariant-loop-row g l = Filling l.fn.rows.items (g.I.Index.seen l.fn.index) (g.I.Index.seen l.index) l.row-iterator.rest.items
