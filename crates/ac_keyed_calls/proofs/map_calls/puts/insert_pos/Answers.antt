use Rattle.std.proofs.Common.{refl, ap, ◌∙◌, Err}
use Rattle.std.proofs.lemmas.Result.{err_from_is_err_and}
use Rattle.ac_model.specs.Maps.{insert_pos_call}
use Rattle.ac_model.specs.Objects.{plain}
use Rattle.ac_calls.specs.KeyedReplies.{order_by}
use Rattle.ac_calls.specs.RowCalls.{PlacesOwn}
use Rattle.ac_calls.proofs.Kept.{failed}
use Rattle.ac_keyed_calls.proofs.PutEntries.{put_inserted}
use Rattle.ac_keyed_calls.proofs.map_calls.puts.insert_pos.Goals as goal

pub returns-in_err-is_inserted : goal.returns-in_err-is_inserted
returns-in_err-is_inserted g c =
    let old = c.args.map.now in let now = c.insert_pos.new in
    let keys = order_by g.K.ScriptElement.tools g.M.MapKind.which in
    let call = λ (p : g.row.K.Denot × g.row.V.Denot). insert_pos_call keys (plain old.object) p.0 p.1 in
    let key = c.in_ok-key.ensures ∙ ap g.K.ScriptElement.tools.from_value c.take_value.ensures in
    let element = c.in_ok-element.ensures ∙ ap g.V.ScriptElement.tools.from_value c.take_value-2.ensures in
    let left = c.from_residual-in_err-is_inserted in let fault = err_from_is_err_and left.result left.ensures.1 in
    failed (PlacesOwn now.self.object now.p) call (c.in_ok-key.key, c.in_ok-element.element) _ _ old now.self _ c.args.reply.now left.result
    (λ i. (key i, element i)) refl (fault.1 ∙ ap Err fault.2) c.in_err-is_inserted.ensures.changed c.in_err-is_inserted.ensures.slots

pub returns : goal.returns
returns g c =
    let old = c.args.map.now in let now = c.insert_pos.new in
    let keys = order_by g.K.ScriptElement.tools g.M.MapKind.which in
    let call = λ (k : g.row.K.Denot) (e : g.row.V.Denot). insert_pos_call keys (plain old.object) k e in
    let key = c.in_ok-key.ensures ∙ ap g.K.ScriptElement.tools.from_value c.take_value.ensures in
    let element = c.in_ok-element.ensures ∙ ap g.V.ScriptElement.tools.from_value c.take_value-2.ensures in
    put_inserted key element call old now.self now.p c.in_ok-is_inserted.is_inserted c.in_ok-is_inserted.ensures.changed
