use Rattle.ac_model.specs.Calls.{Done, Same}
use Rattle.ac_model.specs.Keyed.{insert_call}
use Rattle.ac_keyed_calls.proofs.MapWords.{put_in_words}
use Rattle.ac_keyed_calls.proofs.map_rows.MapRows.insert.Goals as goal

pub returns-clause-changed : goal.returns-clause-changed
returns-clause-changed g c =
    put_in_words (Same {A = Done}) (λ order o row. insert_call order o row) c.insert.new.self c.insert.result
    g.met.M.MapKind.order_is c.new.ensures c.self.view_is c.insert.ensures.changed
