use Rattle.ac_model.specs.Keyed.{delete_match_call}
use Rattle.ac_keyed_calls.proofs.MapWords.{deletion_in_words}
use Rattle.ac_keyed_calls.proofs.map_rows.MapRows.delete_key.Goals as goal

pub returns-clause-changed : goal.returns-clause-changed
returns-clause-changed g c =
    deletion_in_words (λ matches o. delete_match_call matches o) c.args.key.now c.delete_key.new.self c.delete_key.result
    g.met.M.MapKind.matches_is c.self.view_is c.delete_key.ensures.changed
