use Rattle.std.proofs.Common.{subst}
use Rattle.ac_model.specs.Calls.{Changing}
use Rattle.ac_model.specs.Containers.{Container}
use Rattle.ac_model.specs.Keyed as keyed
use Rattle.ac_model.specs.Keyed.{ascending}
use Rattle.ac_model.specs.Maps.{order_of}
use Rattle.ac_model.specs.Objects.{plain}
use Rattle.ac_model.specs.Rows.{entry}
use Rattle.ac_setwork.specs.TableFields.{Places}
use Rattle.ac_ordered.proofs.map.OrderedMap.insert_pos.Goals as goal

pub returns-clause-changed : goal.returns-clause-changed
returns-clause-changed g c =
    let order = order_of (ascending g.K.Rank.is_less) in let new = c.insert_pos.new.self.object in let p = c.insert_pos.new.p in
    subst (λ (x : Container _). Changing (Places new p) (keyed.insert_pos_call order (plain x.object) (entry c.args.key c.args.element)) x.object new c.insert_pos.result) c.self.view_is
    (subst (λ e. Changing (Places new p) (keyed.insert_pos_call order (plain c.self.inside.table.object) e) c.self.inside.table.object new c.insert_pos.result) c.new.ensures c.insert_pos.ensures.changed)
