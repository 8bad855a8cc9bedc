use Rattle.std.proofs.Common.{◌-◌, length, ap, ◌∙◌}
use Rattle.ac_model.specs.Containers.{Container}
use Rattle.ac_model.specs.Objects.{plains}
use Rattle.std.specs.Prelude.{option_map, slice_get}
use Rattle.ac_base.specs.declared.name.Name.{Name}
use Rattle.ac_base.specs.Rows.{Row}
use Rattle.ac_setwork.proofs.Ends.{last_at}
use Rattle.ac_setwork.proofs.Found.{place_marks}
use Rattle.ac_setwork.proofs.table.Table.last.Goals as goal

pub returns : goal.returns
returns g c =
    place_marks c.args.self.now.object (length (plains c.args.self.now.object.rows) - 1) c.last.result c.cursor_at.result
    (c.last.ensures ∙ last_at (g.I.Index.seen c.self.inside.index)
    ∙ ap (λ (x : Container _). option_map (λ (r : Row Name _). r.name) (slice_get x.object.rows (length (plains x.object.rows) - 1))) c.self.view_is) c.cursor_at.ensures
