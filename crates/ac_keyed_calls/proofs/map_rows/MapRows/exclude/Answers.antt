use Rattle.ac_model.specs.Keyed.{exclude_call}
use Rattle.ac_keyed_calls.proofs.MapWords.{deletion_in_words}
use Rattle.ac_keyed_calls.proofs.map_rows.MapRows.exclude.Goals as goal

pub returns-clause-changed : goal.returns-clause-changed
returns-clause-changed g c =
    deletion_in_words (λ matches o. exclude_call matches o) c.args.key.now c.exclude.new.self c.exclude.result
    g.met.M.MapKind.matches_is c.self.view_is c.exclude.ensures.changed
