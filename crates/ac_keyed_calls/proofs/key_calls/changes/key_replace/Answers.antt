use Rattle.std.proofs.Common.{refl, ap, ◌∙◌, Err}
use Rattle.std.proofs.lemmas.Result.{err_from_is_err_and}
use Rattle.ac_model.specs.Calls.{Done, Same}
use Rattle.ac_model.specs.KeyedSets.{key_replace_call}
use Rattle.ac_model.specs.Objects.{plain}
use Rattle.ac_calls.specs.Elements.{Text, text_in}
use Rattle.ac_calls.proofs.Kept.{failed}
use Rattle.ac_keyed_calls.proofs.key_calls.changes.key_replace.Goals as goal

pub returns-in_err-replace_by : goal.returns-in_err-replace_by
returns-in_err-replace_by g c =
    let old = c.args.set.now in
    let call = λ (p : Text × Text). key_replace_call g.I.Keyed.key_of g.I.Keyed.keys (plain old.object) p.0 p.1 in
    let key = c.in_ok-key.ensures ∙ ap text_in c.take_value.ensures in
    let element = c.in_ok-element.ensures ∙ ap text_in c.take_value-2.ensures in
    let left = c.from_residual-in_err-replace_by in let fault = err_from_is_err_and left.result left.ensures.1 in
    failed (Same {A = Done}) call (c.in_ok-key.key, c.in_ok-element.element) _ _ old c.replace_by.new.self _ c.args.reply.now left.result
    (λ i. (key i, element i)) refl (fault.1 ∙ ap Err fault.2) c.in_err-replace_by.ensures.changed c.in_err-replace_by.ensures.slots
