use Rattle.std.proofs.Common.{sym}
use Rattle.ac_model.specs.Objects.{plain}
use Rattle.ac_setwork.proofs.Itself.{subset_of_itself}
use Rattle.ac_setwork.proofs.table.Table.is_subset_self.Goals as goal

pub returns : goal.returns
returns g c = sym (subset_of_itself g.I.Index.order g.met.I.Index.closed.equal.refl (plain c.args.self.now.object))
