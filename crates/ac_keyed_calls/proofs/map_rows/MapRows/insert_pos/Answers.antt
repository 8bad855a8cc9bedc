use Rattle.std.proofs.Common.{refl}
use Rattle.ac_model.specs.Keyed as keyed
use Rattle.ac_model.specs.Maps.{insert_pos_call}
use Rattle.ac_model.specs.Objects.{plain}
use Rattle.ac_setwork.specs.TableFields.{Places}
use Rattle.ac_calls.specs.KeyedReplies.{order_by}
use Rattle.ac_keyed_calls.proofs.MapWords.{put_in_words}
use Rattle.ac_keyed_calls.proofs.OwnInserted.{own_inserted}
use Rattle.ac_keyed_calls.proofs.map_rows.MapRows.insert_pos.Goals as goal

pub returns-clause-changed : goal.returns-clause-changed
returns-clause-changed g c =
    let old = c.args.self.now.object in let now = c.insert_pos.new in
    let keys = order_by g.K.ScriptElement.tools g.M.MapKind.which in
    own_inserted old now.self.object (insert_pos_call keys (plain old) c.args.key c.args.element) now.p c.insert_pos.result refl
    (put_in_words (Places now.self.object now.p) (λ order o row. keyed.insert_pos_call order o row) now.self c.insert_pos.result
    g.met.M.MapKind.order_is c.new.ensures c.self.view_is c.insert_pos.ensures.changed)
