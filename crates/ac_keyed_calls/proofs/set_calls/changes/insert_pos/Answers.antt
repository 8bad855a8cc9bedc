use Rattle.std.proofs.Common.{refl, ap, ◌∙◌, Err}
use Rattle.std.proofs.lemmas.Result.{err_from_is_err_and}
use Rattle.ac_model.specs.Objects.{plain}
use Rattle.ac_model.specs.Keyed.{insert_pos_call}
use Rattle.ac_calls.specs.KeyedReplies.{changes_inserting}
use Rattle.ac_calls.specs.Arguments.{argument_of}
use Rattle.ac_calls.specs.RowCalls.{PlacesOwn}
use Rattle.ac_calls.proofs.Kept.{failed}
use Rattle.ac_keyed_calls.proofs.set_calls.changes.insert_pos.Goals as goal

pub returns-in_err-inserted : goal.returns-in_err-inserted
returns-in_err-inserted g c =
    let old = c.args.set.now in
    let tools = g.I.Row.ScriptElement.tools in
    let meant = tools.from_value (argument_of c.args.args.now.first).value in
    let exit = err_from_is_err_and c.from_residual-in_err-inserted.result c.from_residual-in_err-inserted.ensures.1 in
    failed (PlacesOwn c.insert_pos.new.set.object c.insert_pos.new.position) (λ e. insert_pos_call g.I.Index.order (plain old.object) e) _ meant
    (changes_inserting 1 (insert_pos_call g.I.Index.order (plain old.object) meant)) old c.insert_pos.new.set _ c.args.reply.now _
    (c.in_ok-element.ensures ∙ ap (λ v. tools.from_value v) c.take_value.ensures) refl (exit.1 ∙ ap Err exit.2)
    c.in_err-inserted.ensures.changed c.in_err-inserted.ensures.slots
