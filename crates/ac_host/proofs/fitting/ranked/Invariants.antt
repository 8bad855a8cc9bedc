use Rattle.std.proofs.Common.{◌≡◌, map, take}
use Rattle.ac_meaning.specs.TaskBlocks.{is_ranked, queues_at}
use Rattle.ac_objects.specs.World.{state_of}
use Rattle.ac_host.proofs.fitting.ranked.Given as goal

abbrev pub invariant-loop-place : goal.invariant-loop-place
invariant-loop-place l = l.made.items ≡ map is_ranked (queues_at (state_of l.objects) (take l.place-index l.places))
