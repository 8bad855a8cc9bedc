use Rattle.std.proofs.Common.{refl, ap, ◌∙◌, Err}
use Rattle.std.proofs.lemmas.Result.{err_from_is_err_and}
use Rattle.ac_model.specs.Calls.{Done, Same}
use Rattle.ac_model.specs.KeyedSets.{key_exclude_call}
use Rattle.ac_model.specs.Objects.{plain}
use Rattle.ac_calls.specs.Elements.{Text, text_in}
use Rattle.ac_calls.proofs.Kept.{failed}
use Rattle.ac_keyed_calls.proofs.key_calls.changes.key_exclude.Goals as goal

pub returns-in_err-exclude_by : goal.returns-in_err-exclude_by
returns-in_err-exclude_by g c =
    let old = c.args.set.now in
    let key = c.in_ok-key.ensures ∙ ap text_in c.take_value.ensures in
    let left = c.from_residual-in_err-exclude_by in let fault = err_from_is_err_and left.result left.ensures.1 in
    failed (Same {A = Done}) (λ (k : Text). key_exclude_call g.I.Keyed.key_of g.I.Keyed.keys (plain old.object) k) c.in_ok-key.key _ _ old c.exclude_by.new.set
    _ c.args.reply.now left.result key refl (fault.1 ∙ ap Err fault.2) c.in_err-exclude_by.ensures.changed c.in_err-exclude_by.ensures.slots
