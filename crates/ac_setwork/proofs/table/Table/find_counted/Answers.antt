use Rattle.std.proofs.Common.{ap, ◌∙◌}
use Rattle.ac_model.specs.Containers.{Container}
use Rattle.ac_setwork.specs.Indexed.{found_in}
use Rattle.ac_setwork.proofs.Found.{found_marks}
use Rattle.ac_setwork.proofs.table.Table.find_counted.Goals as goal

pub returns-clause-found : goal.returns-clause-found
returns-clause-found g c =
    let test = g.I.Index.matches c.args.key.now in
    found_marks c.args.self.now.object test c.seek.result c.cursor_at.result (c.seek.ensures.name ∙ ap (λ (x : Container _). found_in test x.object.rows) c.self.view_is) c.cursor_at.ensures
