use Rattle.std.proofs.Common.{refl, ap, ◌∙◌, Err}
use Rattle.std.proofs.lemmas.Result.{err_from_is_err_and}
use Rattle.ac_model.specs.Calls.{Same}
use Rattle.ac_model.specs.Objects.{plain}
use Rattle.ac_model.specs.Keyed.{insert_call}
use Rattle.ac_calls.specs.Replies.{changes_ok}
use Rattle.ac_calls.specs.Arguments.{argument_of}
use Rattle.ac_calls.proofs.Kept.{failed}
use Rattle.ac_keyed_calls.proofs.set_calls.changes.insert.Goals as goal

pub returns-in_err-insert : goal.returns-in_err-insert
returns-in_err-insert g c =
    let old = c.args.set.now in
    let tools = g.I.Row.ScriptElement.tools in
    let meant = tools.from_value (argument_of c.args.args.now.first).value in
    let exit = err_from_is_err_and c.from_residual-in_err-insert.result c.from_residual-in_err-insert.ensures.1 in
    failed Same (λ e. insert_call g.I.Index.order (plain old.object) e) _ meant
    (changes_ok (insert_call g.I.Index.order (plain old.object) meant)) old c.insert.new.self _ c.args.reply.now _
    (c.in_ok-element.ensures ∙ ap (λ v. tools.from_value v) c.take_value.ensures) refl (exit.1 ∙ ap Err exit.2)
    c.in_err-insert.ensures.changed c.in_err-insert.ensures.slots
