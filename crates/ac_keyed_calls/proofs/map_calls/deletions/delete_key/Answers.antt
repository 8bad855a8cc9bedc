use Rattle.std.proofs.Common.{refl, ap, ◌∙◌, Err}
use Rattle.std.proofs.lemmas.Result.{err_from_is_err_and}
use Rattle.ac_model.specs.Calls.{Done, Same}
use Rattle.ac_model.specs.Maps.{delete_key_call}
use Rattle.ac_model.specs.Objects.{plain}
use Rattle.ac_calls.specs.KeyedReplies.{order_by}
use Rattle.ac_calls.proofs.Kept.{failed}
use Rattle.ac_keyed_calls.proofs.map_calls.deletions.delete_key.Goals as goal

pub returns-in_err-delete_key : goal.returns-in_err-delete_key
returns-in_err-delete_key g c =
    let old = c.args.map.now in
    let keys = order_by g.K.ScriptElement.tools g.M.MapKind.which in
    let key = c.in_ok-key.ensures ∙ ap g.K.ScriptElement.tools.from_value c.take_value.ensures in
    let left = c.from_residual-in_err-delete_key in
    let fault = err_from_is_err_and left.result left.ensures.1 in
    failed (Same {A = Done}) (λ (k : g.row.K.Denot). delete_key_call keys (plain old.object) k) c.in_ok-key.key _ _ old c.delete_key.new.self
    _ c.args.reply.now left.result key refl (fault.1 ∙ ap Err fault.2) c.in_err-delete_key.ensures.changed c.in_err-delete_key.ensures.slots
