use Rattle.std.proofs.Common.{subst}
use Rattle.ac_model.specs.Calls.{Done, Same}
use Rattle.ac_model.specs.Forms.{Does, seen_by}
use Rattle.ac_model.specs.Maps.{write_call}
use Rattle.ac_calls.proofs.Kept.{writes_in}
use Rattle.ac_keyed_calls.proofs.map_rows.row_object.MapRowsRowObject.write_value.Goals as goal

pub returns-clause-written : goal.returns-clause-written
returns-clause-written g c =
    let old = c.args.self.now in let new = c.write.new.self in
    let written = g.V.ScriptElement.tools.from_value c.args.value in
    writes_in (λ o. write_call o (seen_by old c.args.c) written) old new c.write.result c.write.ensures.slots
    (subst (λ e. Does (Same {A = Done}) (λ o. write_call o (seen_by old c.args.c) e) old new c.write.result) c.in_ok-element.ensures c.write.ensures.changed)
