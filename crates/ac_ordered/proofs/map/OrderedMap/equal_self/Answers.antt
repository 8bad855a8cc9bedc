use Rattle.std.proofs.Common.{refl, sym}
use Rattle.ac_model.specs.Keyed.{ascending}
use Rattle.ac_model.specs.Objects.{plain}
use Rattle.ac_setwork.proofs.Itself.{map_equals_itself}
use Rattle.ac_ordered.specs.Orders.{level_itself}
use Rattle.ac_ordered.proofs.map.OrderedMap.equal_self.Goals as goal

pub returns : goal.returns
returns g c =
    sym (map_equals_itself (ascending g.K.Rank.is_less) g.V.Elem.is_same (level_itself g.K.Rank.is_less g.met.K.Rank.ordered) (λ v. (g.met.V.Elem.same_is_equality v v).1 refl) (plain c.args.self.now.object) c.law.ensures.valid)
