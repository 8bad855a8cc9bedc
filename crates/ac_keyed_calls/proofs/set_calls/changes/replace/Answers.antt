use Rattle.std.proofs.Common.{refl, ap, ◌∙◌, Err}
use Rattle.std.proofs.lemmas.Result.{err_from_is_err_and}
use Rattle.ac_model.specs.Calls.{Same}
use Rattle.ac_model.specs.Objects.{plain}
use Rattle.ac_model.specs.Sets.{replace_call}
use Rattle.ac_calls.specs.Replies.{changes_ok}
use Rattle.ac_calls.specs.Arguments.{argument_of}
use Rattle.ac_calls.proofs.Kept.{failed}
use Rattle.ac_keyed_calls.proofs.set_calls.changes.replace.Goals as goal

pub returns-in_err-replace : goal.returns-in_err-replace
returns-in_err-replace g c =
    let old = c.args.set.now in
    let tools = g.I.Row.ScriptElement.tools in
    let meant = tools.from_value (argument_of c.args.args.now.first).value in
    let exit = err_from_is_err_and c.from_residual-in_err-replace.result c.from_residual-in_err-replace.ensures.1 in
    failed Same (λ e. replace_call g.I.Index.order (plain old.object) e) _ meant
    (changes_ok (replace_call g.I.Index.order (plain old.object) meant)) old c.replace.new.self _ c.args.reply.now _
    (c.in_ok-element.ensures ∙ ap (λ v. tools.from_value v) c.take_value.ensures) refl (exit.1 ∙ ap Err exit.2)
    c.in_err-replace.ensures.changed c.in_err-replace.ensures.slots
