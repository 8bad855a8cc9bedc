use Rattle.std.proofs.Common.{Bool, subst}
use Rattle.ac_base.specs.Order.{are_level}
use Rattle.ac_model.specs.Calls.{Marks}
use Rattle.ac_model.specs.Containers.{Container}
use Rattle.ac_model.specs.Keyed.{find_call}
use Rattle.ac_model.specs.Objects.{plain}
use Rattle.ac_setwork.proofs.Updates.{as_test}
use Rattle.ac_ordered.proofs.Levels.{level_rows}
use Rattle.ac_ordered.proofs.set.OrderedSet.find.Goals as goal

pub returns-clause-found : goal.returns-clause-found
returns-clause-found g c =
    let table = c.self.inside.table.object in
    subst (λ (x : Container g.row.T.Denot). Marks x.object c.find_counted.result (find_call (λ v. are_level g.T.Rank.is_less v c.args.element.now) (plain x.object))) c.self.view_is
    (subst (λ (test : g.row.T.Denot → Bool). Marks table c.find_counted.result (find_call test (plain table))) (as_test (are_level g.T.Key.Rank.is_less) g.T.KeyOf.key_of (are_level g.T.Rank.is_less) (level_rows g.T.Key.Rank.is_less g.T.KeyOf.key_of g.T.Rank.is_less g.met.T.KeyOf.less_by_key) c.args.element.now c.key.result.now c.key.ensures) c.find_counted.ensures.found)
