use Rattle.std.proofs.Common.{◌∙◌}
use Rattle.ac_objects.specs.World.{state_of}
use Rattle.ac_plains.proofs.PlainsMade.{next_made, end_made}
use Rattle.ac_plains.proofs.plains.plain.Goals as goal

pub loop-place-preserved : goal.loop-place-preserved
loop-place-preserved c =
    next_made c.items-items.result.now c.args.decls.now c.items-items.ensures (state_of c.args.objects.now).bounds c.loop-place.place c.index-items-place.result _ _ _
    c.index-items-place.is c.loop-place-test.true c.in_ok-add_at.ensures c.loop-place.invariant

pub returns : goal.returns
returns c =
    c.from_vec.ensures
    ∙ end_made c.items-items.result.now c.args.decls.now c.items-items.ensures (state_of c.args.objects.now).bounds c.loop-place.place _ _ c.loop-place-test.false c.loop-place.invariant
