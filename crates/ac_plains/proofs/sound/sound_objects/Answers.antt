use Rattle.ac_plains.proofs.SoundBounds.{all_sound}
use Rattle.ac_plains.proofs.sound.sound_objects.Goals as goal

pub returns : goal.returns
returns c =
    all_sound c.bounds-bound-items.result.now c.args.objects.now.bounds c.loop-bound.bound-index c.bounds-bound-items.ensures c.loop-bound-test.false c.loop-bound.invariant
