use Rattle.std.proofs.Common.{◌≡◌, drop}
use Rattle.ac_meaning.specs.Commands.{source_place}
use Rattle.ac_objects.specs.World.{state_of}
use Rattle.ac_objects.proofs.objects.Objects.source_place.Given as goal

abbrev pub invariant-loop-arg : goal.invariant-loop-arg
invariant-loop-arg l = source_place (state_of l.fn.self) l.args ≡ source_place (state_of l.fn.self) (drop l.arg-index l.args)
