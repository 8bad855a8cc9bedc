use Rattle.std.proofs.Common.{not, ap, ◌∙◌}
use Rattle.ac_model.specs.Objects.{plain}
use Rattle.ac_setwork.proofs.Itself.{overlaps_itself}
use Rattle.ac_setwork.proofs.table.Table.overlap_self.Goals as goal

pub returns : goal.returns
returns g c = ap not c.is_empty.ensures ∙ overlaps_itself g.I.Index.order g.met.I.Index.closed.equal.refl (plain c.args.self.now.object)
