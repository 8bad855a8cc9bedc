use Rattle.std.proofs.Common.{Bool, ap, ◌∙◌}
use Rattle.ac_base.specs.Order.{are_level}
use Rattle.ac_setwork.specs.Indexed.{found}
use Rattle.ac_ordered.specs.Ascents.{ascent}
use Rattle.ac_ordered.proofs.Ascents.{found_is}
use Rattle.ac_ordered.proofs.ascending.AscendingIndex.look.Goals as goal

pub returns : goal.returns
returns g c =
    let test : g.row.S-Row.Denot → Bool = λ v. are_level g.S.Key.Rank.is_less (g.S.Keys.key_of v) c.args.key.now in
    c.sought.ensures ∙ found_is test c.self.inside.tree.rows ∙ ap (λ x. found test (ascent x)) c.self.view_is
