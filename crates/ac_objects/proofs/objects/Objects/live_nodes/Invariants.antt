use Rattle.std.proofs.Common.{◌≡◌, ◌+◌, map, drop, sum_by}
use Rattle.ac_meaning.specs.Environment.{nodes_in}
use Rattle.ac_objects.specs.World.{bound_of}
use Rattle.ac_objects.proofs.objects.Objects.live_nodes.Given as goal

abbrev pub invariant-loop-bound : goal.invariant-loop-bound
invariant-loop-bound l =
    l.count + sum_by nodes_in (map bound_of (drop l.bound-index l.bound-items)) ≡ sum_by nodes_in (map bound_of l.bound-items)
