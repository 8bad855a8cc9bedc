use Rattle.std.proofs.Common.{◌≡◌, None, Some, subst, sym}
use Rattle.ac_calls.specs.Holdings.{Held, reply_of}
use Rattle.ac_meaning.specs.Environment.{binds_object, object_at, with_bound}
use Rattle.ac_objects.specs.World.{state_of}
use Rattle.ac_snapshot.specs.Filled.{row_arguments}
use Rattle.ac_plains.specs.Filling.{GoesThrough}
use Rattle.ac_plains.proofs.FillingRows.{begins, row_goes, row_put}
use Rattle.ac_plains.proofs.filling.put_rows.Goals as goal

pub loop-row-init : goal.loop-row-init
loop-row-init c f = begins f

pub put_row-requires : goal.put_row-requires
put_row-requires c =
    subst (λ op. GoesThrough op (row_arguments c.row-item.result) (state_of c.loop-row.objects) c.args.place) (sym c.row_operation-operation.ensures)
    (row_goes c.requires.flat c.requires.fills c.loop-row.row-index c.row-item.result c.row-item.is c.loop-row-test.true (state_of c.loop-row.objects)
    (c.loop-row.invariant c.requires.fills))

pub loop-row-preserved : goal.loop-row-preserved
loop-row-preserved c f =
    let s = state_of c.loop-row.objects in
    let t = state_of c.put_row.new.objects in
    row_put c.requires.flat f c.loop-row.row-index c.row-item.result c.row-item.is c.loop-row-test.true s t (c.loop-row.invariant f)
    (subst (λ op. (h : Held) → object_at s c.args.place ≡ Some h →
    t ≡ with_bound s c.args.place (binds_object (reply_of h None op (row_arguments c.row-item.result)).after)) c.row_operation-operation.ensures
    c.in_ok-put_row.ensures)
