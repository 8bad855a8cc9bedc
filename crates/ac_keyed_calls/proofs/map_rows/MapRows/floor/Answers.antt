use Rattle.ac_model.specs.Keyed.{floor_call}
use Rattle.ac_calls.proofs.Own.{own_cursor, mark_for_own}
use Rattle.ac_keyed_calls.proofs.MapWords.{search_in_words}
use Rattle.ac_keyed_calls.proofs.map_rows.MapRows.floor.Goals as goal

pub returns : goal.returns
returns g c =
    let o = c.args.self.now.object in
    own_cursor o _ _ (mark_for_own o.number _)
    (search_in_words (λ passes p. floor_call passes p) c.args.key.now c.floor.result g.met.M.OrderedMapKind.above_is c.self.view_is c.floor.ensures)
