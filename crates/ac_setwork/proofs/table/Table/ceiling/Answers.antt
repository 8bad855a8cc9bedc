use Rattle.std.proofs.Common.{Bool, not, ap, ◌∙◌}
use Rattle.ac_model.specs.Containers.{Container}
use Rattle.ac_setwork.specs.Indexed.{found_in}
use Rattle.ac_setwork.proofs.Found.{found_marks}
use Rattle.ac_setwork.proofs.table.Table.ceiling.Goals as goal

pub returns-clause-found : goal.returns-clause-found
returns-clause-found g c =
    let test : g.row.I-Row.Denot → Bool = λ v. not (g.I.Ordered.is_below c.args.key.now v) in
    found_marks c.args.self.now.object test c.ceiling.result c.cursor_at.result (c.ceiling.ensures.name ∙ ap (λ (x : Container _). found_in test x.object.rows) c.self.view_is) c.cursor_at.ensures
