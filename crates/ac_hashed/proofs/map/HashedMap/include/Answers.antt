use Rattle.std.proofs.Common.{subst}
use Rattle.ac_model.specs.Calls.{Changing, Same}
use Rattle.ac_model.specs.Containers.{Container}
use Rattle.ac_model.specs.Keyed as keyed
use Rattle.ac_model.specs.Keyed.{by_arrival}
use Rattle.ac_model.specs.Maps.{order_of}
use Rattle.ac_model.specs.Objects.{plain}
use Rattle.ac_model.specs.Rows.{Entry, entry}
use Rattle.ac_hashed.proofs.map.HashedMap.include.Goals as goal

pub returns-clause-changed : goal.returns-clause-changed
returns-clause-changed g c =
    let table = c.self.inside.table.object in let new = c.include.new.self.object in
    subst (λ (x : Container (Entry g.row.K.Denot g.row.V.Denot)). Changing Same (keyed.include_call (order_of (by_arrival g.K.Hashed.is_alike)) (plain x.object) (entry c.args.key c.args.element)) x.object new c.include.result) c.self.view_is
    (subst (λ (e : Entry g.row.K.Denot g.row.V.Denot). Changing Same (keyed.include_call (order_of (by_arrival g.K.Hashed.is_alike)) (plain table) e) table new c.include.result) c.new.ensures c.include.ensures.changed)
