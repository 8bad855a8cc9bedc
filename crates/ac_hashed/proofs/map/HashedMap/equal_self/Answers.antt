use Rattle.std.proofs.Common.{refl, sym}
use Rattle.ac_model.specs.Keyed.{by_arrival}
use Rattle.ac_model.specs.Objects.{plain}
use Rattle.ac_setwork.proofs.Itself.{map_equals_itself}
use Rattle.ac_hashed.proofs.map.HashedMap.equal_self.Goals as goal

pub returns : goal.returns
returns g c =
    sym (map_equals_itself (by_arrival g.K.Hashed.is_alike) g.V.Elem.is_same g.met.K.Hashed.equivalence.refl (λ v. (g.met.V.Elem.same_is_equality v v).1 refl) (plain c.args.self.now.object) c.law.ensures.valid)
