use Rattle.std.proofs.Common.{not, sym, ap, ◌∙◌}
use Rattle.ac_model.specs.Keyed.{has}
use Rattle.ac_model.specs.Objects.{contents, plain}
use Rattle.ac_setwork.proofs.Checks.{any_by_all}
use Rattle.ac_setwork.proofs.algebra.overlap.Goals as goal

pub returns : goal.returns
returns g c =
    ap not c.all_are.ensures ∙ sym (any_by_all (has g.A.SetLike.order (contents (plain (g.A.SetLike.seen c.args.right.now).object))) (contents (plain (g.A.SetLike.seen c.args.left.now).object)))
