use Rattle.std.proofs.Common.{subst}
use Rattle.ac_model.specs.Calls.{Changing, Same}
use Rattle.ac_model.specs.Containers.{Container}
use Rattle.ac_model.specs.Keyed as keyed
use Rattle.ac_model.specs.Keyed.{by_arrival}
use Rattle.ac_model.specs.Maps.{order_of}
use Rattle.ac_model.specs.Objects.{plain}
use Rattle.ac_model.specs.Rows.{Entry, entry}
use Rattle.ac_hashed.proofs.map.HashedMap.insert.Goals as goal

pub returns-clause-changed : goal.returns-clause-changed
returns-clause-changed g c =
    let table = c.self.inside.table.object in let new = c.insert.new.self.object in
    subst (λ (x : Container (Entry g.row.K.Denot g.row.V.Denot)). Changing Same (keyed.insert_call (order_of (by_arrival g.K.Hashed.is_alike)) (plain x.object) (entry c.args.key c.args.element)) x.object new c.insert.result) c.self.view_is
    (subst (λ (e : Entry g.row.K.Denot g.row.V.Denot). Changing Same (keyed.insert_call (order_of (by_arrival g.K.Hashed.is_alike)) (plain table) e) table new c.insert.result) c.new.ensures c.insert.ensures.changed)
