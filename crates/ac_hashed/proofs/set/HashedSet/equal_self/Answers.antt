use Rattle.std.proofs.Common.{refl, sym}
use Rattle.ac_model.specs.Objects.{plain}
use Rattle.ac_setwork.proofs.Itself.{set_equals_itself}
use Rattle.ac_hashed.proofs.set.HashedSet.equal_self.Goals as goal

pub returns : goal.returns
returns g c = sym (set_equals_itself g.T.Elem.is_same (λ v. (g.met.T.Elem.same_is_equality v v).1 refl) (plain c.args.self.now.object))
