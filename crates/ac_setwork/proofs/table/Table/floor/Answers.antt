use Rattle.std.proofs.Common.{not, ap, ◌∙◌}
use Rattle.std.specs.Prelude.{reverse}
use Rattle.ac_model.specs.Containers.{Container}
use Rattle.ac_setwork.specs.Indexed.{found_in}
use Rattle.ac_setwork.proofs.Ends.{floor_marks}
use Rattle.ac_setwork.proofs.table.Table.floor.Goals as goal

pub returns-clause-found : goal.returns-clause-found
returns-clause-found g c =
    let is_above = g.I.Ordered.is_above c.args.key.now in
    floor_marks c.args.self.now.object is_above c.floor.result c.cursor_at.result (c.floor.ensures.name ∙ ap (λ (x : Container _). found_in (λ v. not (is_above v)) (reverse x.object.rows)) c.self.view_is) c.cursor_at.ensures
