use Rattle.std.proofs.Common.{subst}
use Rattle.ac_model.specs.Calls.{Marks}
use Rattle.ac_model.specs.Keyed.{floor_call}
use Rattle.ac_model.specs.KeyedSets.{key_floor_call}
use Rattle.ac_model.specs.Objects.{plain}
use Rattle.ac_calls.proofs.Own.{own_cursor, mark_for_own}
use Rattle.ac_keyed_calls.proofs.key_calls.looks.floor_by.Goals as goal

pub returns : goal.returns
returns g c =
    let o = c.args.set.now.object in
    own_cursor o c.floor.result (key_floor_call g.I.Keyed.key_of g.I.Keyed.keys (plain o) c.args.key.now) (mark_for_own o.number _)
    (subst (λ test. Marks o c.floor.result (floor_call (test c.args.key.now) (plain o))) c.requires.above c.floor.ensures)
