use Rattle.std.proofs.Common.{Bool, subst}
use Rattle.ac_model.specs.Calls.{Marks}
use Rattle.ac_model.specs.Containers.{Container}
use Rattle.ac_model.specs.Keyed.{floor_call}
use Rattle.ac_model.specs.Objects.{plain}
use Rattle.ac_setwork.proofs.Updates.{as_test}
use Rattle.ac_ordered.proofs.set.OrderedSet.floor.Goals as goal

pub returns-clause-found : goal.returns-clause-found
returns-clause-found g c =
    let table = c.self.inside.table.object in
    subst (λ (x : Container g.row.T.Denot). Marks x.object c.floor.result (floor_call (λ v. g.T.Rank.is_less c.args.element.now v) (plain x.object))) c.self.view_is
    (subst (λ (test : g.row.T.Denot → Bool). Marks table c.floor.result (floor_call test (plain table))) (as_test (λ x y. g.T.Key.Rank.is_less y x) g.T.KeyOf.key_of (λ v w. g.T.Rank.is_less w v) (λ v w. g.met.T.KeyOf.less_by_key w v) c.args.element.now c.key.result.now c.key.ensures) c.floor.ensures.found)
