use Rattle.std.proofs.Common.{sym, ◌∙◌}
use Rattle.ac_setwork.proofs.Tables.{insertion_absent}
use Rattle.ac_setwork.proofs.table.Table.insert_with_room.Goals as goal

pub add-requires-clause-absent : goal.add-requires-clause-absent
add-requires-clause-absent g c = insertion_absent g.I.Index.order c.args.self.now.object c.args.row (sym c.refuses_insert.ensures ∙ c.in-None.is)
