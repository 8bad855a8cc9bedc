use Rattle.std.proofs.Common.{map, length}
use Rattle.ac_script.specs.Views.{item_view}
use Rattle.ac_script.specs.Readings.{AreRead, context_of}
use Rattle.ac_script.proofs.reading.read.Given as goal

abbrev pub invariant-loop-rest : goal.invariant-loop-rest
invariant-loop-rest l = AreRead (map item_view l.items.items) (context_of l.propagating l.open_blocks.items l.stage) l.tokens l.rest

abbrev pub decreases-loop-rest : goal.decreases-loop-rest
decreases-loop-rest l = length l.rest
