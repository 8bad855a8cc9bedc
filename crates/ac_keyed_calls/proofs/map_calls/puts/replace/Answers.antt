use Rattle.std.proofs.Common.{refl, ap, ◌∙◌, Err}
use Rattle.std.proofs.lemmas.Result.{err_from_is_err_and}
use Rattle.ac_model.specs.Calls.{Done, Same}
use Rattle.ac_model.specs.Maps.{replace_call}
use Rattle.ac_model.specs.Objects.{plain}
use Rattle.ac_calls.specs.KeyedReplies.{order_by}
use Rattle.ac_calls.proofs.Kept.{failed}
use Rattle.ac_keyed_calls.proofs.PutEntries.{put_done}
use Rattle.ac_keyed_calls.proofs.map_calls.puts.replace.Goals as goal

pub returns-in_err-replace : goal.returns-in_err-replace
returns-in_err-replace g c =
    let old = c.args.map.now in
    let keys = order_by g.K.ScriptElement.tools g.M.MapKind.which in
    let call = λ (p : g.row.K.Denot × g.row.V.Denot). replace_call keys (plain old.object) p.0 p.1 in
    let key = c.in_ok-key.ensures ∙ ap g.K.ScriptElement.tools.from_value c.take_value.ensures in
    let element = c.in_ok-element.ensures ∙ ap g.V.ScriptElement.tools.from_value c.take_value-2.ensures in
    let left = c.from_residual-in_err-replace in let fault = err_from_is_err_and left.result left.ensures.1 in
    failed (Same {A = Done}) call (c.in_ok-key.key, c.in_ok-element.element) _ _ old c.replace.new.self _ c.args.reply.now left.result
    (λ i. (key i, element i)) refl (fault.1 ∙ ap Err fault.2) c.in_err-replace.ensures.changed c.in_err-replace.ensures.slots

pub returns : goal.returns
returns g c =
    let old = c.args.map.now in
    let keys = order_by g.K.ScriptElement.tools g.M.MapKind.which in
    let call = λ (k : g.row.K.Denot) (e : g.row.V.Denot). replace_call keys (plain old.object) k e in
    let key = c.in_ok-key.ensures ∙ ap g.K.ScriptElement.tools.from_value c.take_value.ensures in
    let element = c.in_ok-element.ensures ∙ ap g.V.ScriptElement.tools.from_value c.take_value-2.ensures in
    put_done key element call old c.replace.new.self c.tell.new.self c.in_ok-replace.ensures.changed c.tell.ensures.said c.tell.ensures.variable
