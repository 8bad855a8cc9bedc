use Rattle.std.proofs.Common.{◌≡◌, ap, ◌∙◌, subst}
use Rattle.ac_base.specs.Order.{are_level}
use Rattle.ac_model.specs.Containers.{Container}
use Rattle.ac_model.specs.Keyed.{ascending}
use Rattle.ac_model.specs.Objects.{plain}
use Rattle.ac_model.specs.Sets.{equal_call}
use Rattle.ac_setwork.proofs.Equality.{sets_equal}
use Rattle.ac_ordered.specs.Orders.{level_itself}
use Rattle.ac_ordered.proofs.set.OrderedSet.equal.Goals as goal

pub returns : goal.returns
returns g c =
    let less = g.T.Rank.is_less in let same = g.T.Elem.is_same in let left = c.self.inside.table in let right = c.other.inside.table in
    subst (λ (x : Container g.row.T.Denot). c.equal.result ≡ equal_call same (plain x.object) (plain c.args.other.now.object)) c.self.view_is
    (subst (λ (x : Container g.row.T.Denot). c.equal.result ≡ equal_call same (plain left.object) (plain x.object)) c.other.view_is
    (c.equal.ensures ∙ sets_equal (ascending less) same
    (λ v w t. ap (λ u. are_level less w u) ((g.met.T.Elem.same_is_equality v w).0 t) ∙ level_itself less g.met.T.Rank.ordered w) (plain left.object) (plain right.object) c.law.ensures.valid))
