use Rattle.std.proofs.Common.{Bool, not, ap, ◌∙◌}
use Rattle.ac_setwork.specs.Ends.{last_found}
use Rattle.ac_ordered.specs.Ascents.{ascent}
use Rattle.ac_ordered.proofs.Ascents.{last_found_is}
use Rattle.ac_ordered.proofs.ascending.AscendingOrdered.floor.Goals as goal

pub returns-clause-name : goal.returns-clause-name
returns-clause-name g c =
    let test : g.row.S-Row.Denot → Bool = λ v. not (g.S.Key.Rank.is_less c.args.key.now (g.S.Keys.key_of v)) in
    c.floor_key.ensures.name ∙ last_found_is test c.self.inside.tree.rows ∙ ap (λ x. last_found test (ascent x)) c.self.view_is
