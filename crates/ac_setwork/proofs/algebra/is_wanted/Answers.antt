use Rattle.std.proofs.Common.{ap, ◌∙◌}
use Rattle.std.specs.Prelude.{is_some}
use Rattle.ac_setwork.specs.SetSeen.{is_as}
use Rattle.ac_setwork.proofs.Found.{any_found}
use Rattle.ac_setwork.proofs.algebra.is_wanted.Goals as goal

pub returns : goal.returns
returns g c =
    c.is_as.ensures ∙ ap (is_as c.args.present) (c.is_some.ensures ∙ ap is_some c.look.ensures ∙ any_found (λ w. g.A.SetLike.order.alike w c.args.item.now) (g.A.SetLike.seen c.args.set.now).object.rows)
