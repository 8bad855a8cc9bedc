use Rattle.std.proofs.Common.{ap, sym, subst, ◌∙◌}
use Rattle.std.specs.Prelude.{IfOk, ◌≡◌, Some}
use Rattle.ac_calls.specs.Holdings.{have_root}
use Rattle.ac_model.specs.Objects.{plain}
use Rattle.ac_calls.proofs.Made.{seen_marks_by}
use Rattle.ac_calls.proofs.calling.element_in.Goals as goal

pub element_value-requires : goal.element_value-requires
element_value-requires g c =
    let object = c.args.object.now in
    let o = (g.C.RowObject.rows object).object in
    ap (λ m. ((g.C.RowObject.own object (plain o)).element m).reason) (seen_marks_by (have_root (g.C.RowObject.kind object)) o c.args.at c.requires.agrees)
    ∙ c.requires.stands

pub returns : goal.returns
returns g c =
    let object = c.args.object.now in
    let o = (g.C.RowObject.rows object).object in
    subst (λ m. IfOk c.element_value.result (λ value. ((g.C.RowObject.own object (plain o)).element m).answer ≡ Some value))
    (seen_marks_by (have_root (g.C.RowObject.kind object)) o c.args.at c.requires.agrees) c.element_value.ensures
