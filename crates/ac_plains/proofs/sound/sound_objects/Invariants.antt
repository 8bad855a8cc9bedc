use Rattle.std.proofs.Common.{◌≡◌, ◌<◌, ℕ, Some, slice_get}
use Rattle.ac_objects.specs.World.{bound_of}
use Rattle.ac_objects.specs.declared.bound.Bound.{Bound}
use Rattle.ac_plains.specs.ValidStates.{IsSoundBound}
use Rattle.ac_plains.proofs.sound.sound_objects.Given as goal

abbrev pub invariant-loop-bound : goal.invariant-loop-bound
invariant-loop-bound l = (k : ℕ) (b : Bound) → k < l.bound-index → slice_get l.bound-items k ≡ Some b → IsSoundBound (bound_of b)
