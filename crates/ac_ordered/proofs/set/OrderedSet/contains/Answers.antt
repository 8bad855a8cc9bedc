use Rattle.std.proofs.Common.{Bool, ap, ◌∙◌}
use Rattle.ac_base.specs.Order.{are_level}
use Rattle.ac_model.specs.Containers.{Container}
use Rattle.ac_model.specs.Keyed.{contains_call}
use Rattle.ac_model.specs.Objects.{plain}
use Rattle.ac_setwork.proofs.Updates.{as_test}
use Rattle.ac_ordered.proofs.Levels.{level_rows}
use Rattle.ac_ordered.proofs.set.OrderedSet.contains.Goals as goal

pub returns-clause-found : goal.returns-clause-found
returns-clause-found g c =
    c.contains_counted.ensures.found ∙ ap (λ (test : g.row.T.Denot → Bool). contains_call test (plain c.self.inside.table.object)) (as_test (are_level g.T.Key.Rank.is_less) g.T.KeyOf.key_of (are_level g.T.Rank.is_less) (level_rows g.T.Key.Rank.is_less g.T.KeyOf.key_of g.T.Rank.is_less g.met.T.KeyOf.less_by_key) c.args.element.now c.key.result.now c.key.ensures)
    ∙ ap (λ (x : Container g.row.T.Denot). contains_call (λ v. are_level g.T.Rank.is_less v c.args.element.now) (plain x.object)) c.self.view_is
