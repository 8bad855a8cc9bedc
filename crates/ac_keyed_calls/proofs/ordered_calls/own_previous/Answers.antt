use Rattle.ac_model.specs.Objects.{plain}
use Rattle.ac_calls.proofs.Own.{own_look, previous_own}
use Rattle.ac_keyed_calls.proofs.ordered_calls.own_previous.Goals as goal

pub returns : goal.returns
returns g c = let o = (g.C.OrderedRows.rows c.args.object.now).object in own_look o _ _ (previous_own (plain o) _ _) c.previous.ensures
