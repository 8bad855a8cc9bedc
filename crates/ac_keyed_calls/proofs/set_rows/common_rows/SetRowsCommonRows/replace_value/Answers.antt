use Rattle.std.proofs.Common.{subst}
use Rattle.ac_model.specs.Calls.{Same}
use Rattle.ac_model.specs.Containers.{Container}
use Rattle.ac_model.specs.Forms.{Does, seen_by}
use Rattle.ac_model.specs.Keyed.{replace_element_call}
use Rattle.ac_calls.proofs.Kept.{writes_in}
use Rattle.ac_calls.specs.RowWrites.{WritesIn}
use Rattle.ac_keyed_calls.proofs.set_rows.common_rows.SetRowsCommonRows.replace_value.Goals as goal

pub returns-clause-replaced : goal.returns-clause-replaced
returns-clause-replaced g c =
    let tools = g.I.Row.ScriptElement.tools in
    let old = c.self.inside.table in
    let call = c.replace_element in
    subst (λ (x : Container g.row.I-Row.Denot). WritesIn (λ o. replace_element_call g.I.Index.order o (seen_by x c.args.c) (tools.from_value c.args.value)) x call.new.self call.result) c.self.view_is
    (writes_in (λ o. replace_element_call g.I.Index.order o (seen_by old c.args.c) (tools.from_value c.args.value)) old call.new.self _ call.ensures.slots
    (subst (λ e. Does Same (λ o. replace_element_call g.I.Index.order o (seen_by old c.args.c) e) old call.new.self call.result) c.in_ok-element.ensures call.ensures.changed))
