use Rattle.std.proofs.Common.{sym}
use Rattle.ac_model.specs.Objects.{plain}
use Rattle.ac_setwork.proofs.Itself.{equivalent_to_itself}
use Rattle.ac_setwork.proofs.table.Table.equivalent_sets_self.Goals as goal

pub returns : goal.returns
returns g c = sym (equivalent_to_itself g.I.Index.order g.met.I.Index.closed.equal.refl (plain c.args.self.now.object))
