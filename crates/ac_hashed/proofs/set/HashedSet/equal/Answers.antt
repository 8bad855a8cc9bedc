use Rattle.std.proofs.Common.{◌≡◌, ap, ◌∙◌, subst}
use Rattle.ac_model.specs.Containers.{Container}
use Rattle.ac_model.specs.Keyed.{by_arrival}
use Rattle.ac_model.specs.Objects.{plain}
use Rattle.ac_model.specs.Sets.{equal_call}
use Rattle.ac_setwork.proofs.Equality.{sets_equal}
use Rattle.ac_hashed.proofs.set.HashedSet.equal.Goals as goal

pub returns : goal.returns
returns g c =
    let alike = g.T.Hashed.is_alike in let same = g.T.Elem.is_same in let left = c.self.inside.table in let right = c.other.inside.table in
    subst (λ (x : Container g.row.T.Denot). c.equal.result ≡ equal_call same (plain x.object) (plain c.args.other.now.object)) c.self.view_is
    (subst (λ (x : Container g.row.T.Denot). c.equal.result ≡ equal_call same (plain left.object) (plain x.object)) c.other.view_is
    (c.equal.ensures ∙ sets_equal (by_arrival alike) same
    (λ v w t. ap (λ u. alike w u) ((g.met.T.Elem.same_is_equality v w).0 t) ∙ g.met.T.Hashed.equivalence.refl w) (plain left.object) (plain right.object) c.law.ensures.valid))
