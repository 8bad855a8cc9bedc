use Rattle.std.proofs.Common.{refl, sym}
use Rattle.ac_model.specs.Objects.{contents, plain}
use Rattle.ac_model.proofs.RowLaws.{equal_to_itself}
use Rattle.ac_vector.proofs.vector.Vector.equal_self.Goals as goal

pub returns : goal.returns
returns g c =
    sym (equal_to_itself g.T.Elem.is_same (λ x. (g.met.T.Elem.same_is_equality x x).1 refl) (contents (plain c.args.self.now.object)))
