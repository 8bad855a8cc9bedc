use Rattle.ac_model.specs.Calls.{Done, Same}
use Rattle.ac_model.specs.Keyed.{include_call}
use Rattle.ac_keyed_calls.proofs.MapWords.{put_in_words}
use Rattle.ac_keyed_calls.proofs.map_rows.MapRows.include.Goals as goal

pub returns-clause-changed : goal.returns-clause-changed
returns-clause-changed g c =
    put_in_words (Same {A = Done}) (λ order o row. include_call order o row) c.include.new.self c.include.result
    g.met.M.MapKind.order_is c.new.ensures c.self.view_is c.include.ensures.changed
