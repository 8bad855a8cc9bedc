use Rattle.std.proofs.Common.{ap, ◌∙◌}
use Rattle.std.specs.Prelude.{option_map, slice_get}
use Rattle.ac_base.specs.declared.name.Name.{Name}
use Rattle.ac_base.specs.Rows.{Row}
use Rattle.ac_model.specs.Containers.{Container}
use Rattle.ac_setwork.proofs.Found.{place_marks}
use Rattle.ac_setwork.proofs.table.Table.first.Goals as goal

pub returns : goal.returns
returns g c =
    place_marks c.args.self.now.object 0 c.first.result c.cursor_at.result (c.first.ensures ∙ ap (λ (x : Container _). option_map (λ (r : Row Name _). r.name) (slice_get x.object.rows 0)) c.self.view_is) c.cursor_at.ensures
