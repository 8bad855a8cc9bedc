use Rattle.std.proofs.Common.{◌∙◌}
use Rattle.ac_setwork.proofs.Refused.{refused_behind}
use Rattle.ac_setwork.proofs.table.as_set.room_behind.Goals as goal

pub returns : goal.returns
returns c = c.room.ensures ∙ refused_behind c.args.limit c.args.next c.args.kept c.args.more c.saturating_add.result c.saturating_add.ensures
