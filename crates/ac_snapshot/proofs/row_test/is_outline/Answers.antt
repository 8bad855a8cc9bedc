use Rattle.std.proofs.Common.{◌∙◌}
use Rattle.ac_snapshot.proofs.RowsTogether.{outline_at}
use Rattle.ac_snapshot.proofs.row_test.is_outline.Goals as goal

pub returns-then-first-eq2 : goal.returns-then-first-eq2
returns-then-first-eq2 c = c.each_in_turn.ensures ∙ outline_at c.args.rows.now c.first-item.result c.in-len1-up.len_at_least c.first-item.is c.if-first-eq2.true
