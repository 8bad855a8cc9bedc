use Rattle.std.proofs.Common.{◌≡◌, take}
use Rattle.ac_objects.specs.World.{state_of}
use Rattle.ac_plains.specs.Filling.{IsToFill, with_rows}
use Rattle.ac_plains.proofs.filling.put_rows.Given as goal

abbrev pub invariant-loop-row : goal.invariant-loop-row
invariant-loop-row l = (f : IsToFill l.fn.kind l.rows (state_of l.fn.objects) l.place) → state_of l.objects ≡ with_rows f l.row-index (take l.row-index l.rows)
