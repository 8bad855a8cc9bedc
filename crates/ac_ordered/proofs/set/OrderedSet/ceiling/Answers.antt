use Rattle.std.proofs.Common.{Bool, subst}
use Rattle.ac_model.specs.Calls.{Marks}
use Rattle.ac_model.specs.Containers.{Container}
use Rattle.ac_model.specs.Keyed.{ceiling_call}
use Rattle.ac_model.specs.Objects.{plain}
use Rattle.ac_setwork.proofs.Updates.{as_test}
use Rattle.ac_ordered.proofs.set.OrderedSet.ceiling.Goals as goal

pub returns-clause-found : goal.returns-clause-found
returns-clause-found g c =
    let table = c.self.inside.table.object in
    subst (λ (x : Container g.row.T.Denot). Marks x.object c.ceiling.result (ceiling_call (λ v. g.T.Rank.is_less v c.args.element.now) (plain x.object))) c.self.view_is
    (subst (λ (test : g.row.T.Denot → Bool). Marks table c.ceiling.result (ceiling_call test (plain table))) (as_test g.T.Key.Rank.is_less g.T.KeyOf.key_of g.T.Rank.is_less g.met.T.KeyOf.less_by_key c.args.element.now c.key.result.now c.key.ensures) c.ceiling.ensures.found)
