use Rattle.std.proofs.Common.{refl, ap, ◌∙◌, Err}
use Rattle.std.proofs.lemmas.Result.{err_from_is_err_and}
use Rattle.ac_model.specs.Calls.{Same}
use Rattle.ac_model.specs.Objects.{plain}
use Rattle.ac_model.specs.Sets.{exclude_call}
use Rattle.ac_calls.specs.Replies.{changes_ok}
use Rattle.ac_calls.specs.Arguments.{argument_of}
use Rattle.ac_calls.proofs.Kept.{failed}
use Rattle.ac_keyed_calls.proofs.set_calls.changes.exclude.Goals as goal

pub returns-in_err-exclude : goal.returns-in_err-exclude
returns-in_err-exclude g c =
    let old = c.args.set.now in
    let tools = g.I.Row.ScriptElement.tools in
    let meant = tools.from_value (argument_of c.args.args.now.first).value in
    let exit = err_from_is_err_and c.from_residual-in_err-exclude.result c.from_residual-in_err-exclude.ensures.1 in
    failed Same (λ e. exclude_call g.I.Index.order (plain old.object) e) _ meant
    (changes_ok (exclude_call g.I.Index.order (plain old.object) meant)) old c.exclude.new.set _ c.args.reply.now _
    (c.in_ok-element.ensures ∙ ap (λ v. tools.from_value v) c.take_value.ensures) refl (exit.1 ∙ ap Err exit.2)
    c.in_err-exclude.ensures.changed c.in_err-exclude.ensures.slots
