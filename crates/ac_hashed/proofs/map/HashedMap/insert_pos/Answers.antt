use Rattle.std.proofs.Common.{subst}
use Rattle.ac_model.specs.Calls.{Changing}
use Rattle.ac_model.specs.Containers.{Container}
use Rattle.ac_model.specs.Keyed as keyed
use Rattle.ac_model.specs.Keyed.{by_arrival}
use Rattle.ac_model.specs.Maps.{order_of}
use Rattle.ac_model.specs.Objects.{plain}
use Rattle.ac_model.specs.Rows.{Entry, entry}
use Rattle.ac_setwork.specs.TableFields.{Places}
use Rattle.ac_hashed.proofs.map.HashedMap.insert_pos.Goals as goal

pub returns-clause-changed : goal.returns-clause-changed
returns-clause-changed g c =
    let table = c.self.inside.table.object in let new = c.insert_pos.new.self.object in
    subst (λ (x : Container (Entry g.row.K.Denot g.row.V.Denot)). Changing (Places c.insert_pos.new.self.object c.insert_pos.new.p) (keyed.insert_pos_call (order_of (by_arrival g.K.Hashed.is_alike)) (plain x.object) (entry c.args.key c.args.element)) x.object new c.insert_pos.result) c.self.view_is
    (subst (λ (e : Entry g.row.K.Denot g.row.V.Denot). Changing (Places c.insert_pos.new.self.object c.insert_pos.new.p) (keyed.insert_pos_call (order_of (by_arrival g.K.Hashed.is_alike)) (plain table) e) table new c.insert_pos.result) c.new.ensures c.insert_pos.ensures.changed)
