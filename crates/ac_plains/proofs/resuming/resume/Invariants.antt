use Rattle.ac_objects.specs.World.{state_of}
use Rattle.ac_plains.proofs.EntriesTaken.{AreTaken}
use Rattle.ac_plains.proofs.resuming.resume.Given as goal

abbrev pub invariant-loop-i : goal.invariant-loop-i
invariant-loop-i l = AreTaken l.script (state_of l.fn.objects) l.state l.i (state_of l.objects)
