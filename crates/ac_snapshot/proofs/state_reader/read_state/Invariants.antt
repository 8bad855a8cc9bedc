use Rattle.std.proofs.Common.{length}
use Rattle.ac_snapshot.proofs.Begun.{Begun}
use Rattle.ac_snapshot.proofs.state_reader.read_state.Given as goal

abbrev pub invariant-loop-left : goal.invariant-loop-left
invariant-loop-left l = Begun l.fn.bytes l.entries.items l.names.keys l.room l.left

abbrev pub decreases-loop-left : goal.decreases-loop-left
decreases-loop-left l = length l.left
