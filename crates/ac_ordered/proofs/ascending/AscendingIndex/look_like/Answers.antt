use Rattle.std.proofs.Common.{ap, ◌∙◌}
use Rattle.ac_base.specs.Order.{are_level}
use Rattle.ac_setwork.specs.Indexed.{found}
use Rattle.ac_ordered.specs.Ascents.{ascent}
use Rattle.ac_setwork.proofs.Updates.{as_test}
use Rattle.ac_ordered.proofs.Levels.{level_rows}
use Rattle.ac_ordered.proofs.ascending.AscendingIndex.look_like.Goals as goal

pub returns : goal.returns
returns g c =
    let less = g.S.Key.Rank.is_less in let key = g.S.Keys.key_of in
    c.look.ensures ∙ ap (λ test. found test (ascent c.args.self.now))
    (as_test (are_level less) key (are_level g.S.Ranked.is_less) (level_rows less key g.S.Ranked.is_less g.met.S.Ranked.less_by_key) c.args.row.now c.key.result.now c.key.ensures)
