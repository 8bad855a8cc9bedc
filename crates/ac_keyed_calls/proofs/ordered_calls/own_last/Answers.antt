use Rattle.ac_model.specs.Objects.{plain}
use Rattle.ac_calls.proofs.Own.{own_cursor, mark_in_own}
use Rattle.ac_keyed_calls.proofs.ordered_calls.own_last.Goals as goal

pub returns : goal.returns
returns g c = let o = (g.C.OrderedRows.rows c.args.object.now).object in own_cursor o _ _ (mark_in_own (plain o) _) c.last.ensures
