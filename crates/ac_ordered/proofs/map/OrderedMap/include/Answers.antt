use Rattle.std.proofs.Common.{subst}
use Rattle.ac_model.specs.Calls.{Changing, Same}
use Rattle.ac_model.specs.Containers.{Container}
use Rattle.ac_model.specs.Keyed as keyed
use Rattle.ac_model.specs.Keyed.{ascending}
use Rattle.ac_model.specs.Maps.{order_of}
use Rattle.ac_model.specs.Objects.{plain}
use Rattle.ac_model.specs.Rows.{entry}
use Rattle.ac_ordered.proofs.map.OrderedMap.include.Goals as goal

pub returns-clause-changed : goal.returns-clause-changed
returns-clause-changed g c =
    let order = order_of (ascending g.K.Rank.is_less) in
    subst (λ (x : Container _). Changing Same (keyed.include_call order (plain x.object) (entry c.args.key c.args.element)) x.object c.include.new.self.object c.include.result) c.self.view_is
    (subst (λ e. Changing Same (keyed.include_call order (plain c.self.inside.table.object) e) c.self.inside.table.object c.include.new.self.object c.include.result) c.new.ensures c.include.ensures.changed)
