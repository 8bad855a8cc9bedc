use Rattle.std.proofs.Common.{subst}
use Rattle.ac_model.specs.Calls.{Marks}
use Rattle.ac_model.specs.Keyed.{floor_call}
use Rattle.ac_model.specs.Objects.{plain}
use Rattle.ac_calls.proofs.Own.{own_cursor, mark_for_own}
use Rattle.ac_keyed_calls.proofs.Alike.{above_key}
use Rattle.ac_keyed_calls.proofs.set_calls.likeness.floor.Goals as goal

pub returns : goal.returns
returns g c =
    let o = c.args.set.now.object in
    own_cursor o c.floor.result (floor_call (λ v. g.I.Index.order.less c.args.element.now v) (plain o)) (mark_for_own o.number _)
    (subst (λ test. Marks o c.floor.result (floor_call test (plain o))) (above_key g.I.Keyed.key_of g.I.Keyed.keys g.I.Index.order g.met.I.Keyed.order_by_key c.args.element.now c.key.result.now c.key.ensures g.I.Ordered.is_above c.requires.above) c.floor.ensures)
