use Rattle.std.proofs.Common.{ap, ◌∙◌}
use Rattle.ac_calls.specs.Holdings.{have_root}
use Rattle.ac_model.specs.Objects.{plain}
use Rattle.ac_calls.proofs.Made.{seen_marks_by}
use Rattle.ac_objects.proofs.walking.refused_in.Goals as goal

pub returns : goal.returns
returns g c =
    let object = c.args.object.now in
    let o = (g.C.RowObject.rows object).object in
    c.refused.ensures
    ∙ ap (λ m. ((g.C.RowObject.own object (plain o)).element m).reason)
    (seen_marks_by (have_root (g.C.RowObject.kind object)) o c.args.at c.requires)
