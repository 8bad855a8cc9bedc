use Rattle.std.proofs.Common.{Bool, subst}
use Rattle.ac_base.specs.Order.{are_level}
use Rattle.ac_model.specs.Calls.{Changing, Same}
use Rattle.ac_model.specs.Containers.{Container}
use Rattle.ac_model.specs.Keyed.{delete_match_call}
use Rattle.ac_model.specs.Objects.{plain}
use Rattle.ac_setwork.proofs.Updates.{as_test}
use Rattle.ac_ordered.proofs.Levels.{level_rows}
use Rattle.ac_ordered.proofs.set.OrderedSet.delete_item.Goals as goal

pub returns-clause-changed : goal.returns-clause-changed
returns-clause-changed g c =
    let table = c.self.inside.table.object in let new = c.delete_key.new.self.object in
    subst (λ (x : Container g.row.T.Denot). Changing Same (delete_match_call (λ v. are_level g.T.Rank.is_less v c.args.element.now) (plain x.object)) x.object new c.delete_key.result) c.self.view_is
    (subst (λ (test : g.row.T.Denot → Bool). Changing Same (delete_match_call test (plain table)) table new c.delete_key.result) (as_test (are_level g.T.Key.Rank.is_less) g.T.KeyOf.key_of (are_level g.T.Rank.is_less) (level_rows g.T.Key.Rank.is_less g.T.KeyOf.key_of g.T.Rank.is_less g.met.T.KeyOf.less_by_key) c.args.element.now c.key.result.now c.key.ensures) c.delete_key.ensures.changed)
