use Rattle.std.proofs.Common.{refl, ap, ◌∙◌, Err}
use Rattle.std.proofs.lemmas.Result.{err_from_is_err_and}
use Rattle.ac_model.specs.Calls.{Same}
use Rattle.ac_model.specs.Objects.{plain}
use Rattle.ac_model.specs.Sets.{delete_item_call}
use Rattle.ac_calls.specs.Replies.{changes_ok}
use Rattle.ac_calls.specs.Arguments.{argument_of}
use Rattle.ac_calls.proofs.Kept.{failed}
use Rattle.ac_keyed_calls.proofs.set_calls.changes.delete_item.Goals as goal

pub returns-in_err-delete_item : goal.returns-in_err-delete_item
returns-in_err-delete_item g c =
    let old = c.args.set.now in
    let tools = g.I.Row.ScriptElement.tools in
    let meant = tools.from_value (argument_of c.args.args.now.first).value in
    let exit = err_from_is_err_and c.from_residual-in_err-delete_item.result c.from_residual-in_err-delete_item.ensures.1 in
    failed Same (λ e. delete_item_call g.I.Index.order (plain old.object) e) _ meant
    (changes_ok (delete_item_call g.I.Index.order (plain old.object) meant)) old c.delete_item.new.set _ c.args.reply.now _
    (c.in_ok-element.ensures ∙ ap (λ v. tools.from_value v) c.take_value.ensures) refl (exit.1 ∙ ap Err exit.2)
    c.in_err-delete_item.ensures.changed c.in_err-delete_item.ensures.slots
