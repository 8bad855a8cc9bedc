use Rattle.ac_objects.specs.World.{state_of}
use Rattle.ac_plains.proofs.StatesMade.{next_written, end_written}
use Rattle.ac_plains.proofs.saving.append_state.Goals as goal

pub loop-place-preserved : goal.loop-place-preserved
loop-place-preserved c =
    next_written c.items-items.result.now c.args.decls.now c.items-items.ensures (state_of c.args.objects.now).bounds c.loop-place.place c.index-items-place.result _ _ _
    c.index-items-place.is c.loop-place-test.true c.in_ok-append_at.ensures c.loop-place.invariant

pub returns : goal.returns
returns c =
    end_written c.items-items.result.now c.args.decls.now c.items-items.ensures (state_of c.args.objects.now).bounds c.loop-place.place _ _ c.loop-place-test.false c.loop-place.invariant
