use Rattle.std.proofs.Common.{◌≡◌, map, take}
use Rattle.std.specs.Prelude.{All}
use Rattle.ac_model.specs.Cursors.{plain_mark}
use Rattle.ac_syntax.specs.declared.kind.Kind.TheVariants.{Tree}
use Rattle.ac_objects.specs.World.{IsKnown, state_of}
use Rattle.ac_plains.specs.Filling.{IsToFill, with_rows}
use Rattle.ac_plains.proofs.FillingNodes.{marks}
use Rattle.ac_plains.proofs.nodes.put_nodes.Given as goal

abbrev pub invariant-loop-row : goal.invariant-loop-row
invariant-loop-row l =
    All (IsKnown l.objects) l.path.items
    × ((f : IsToFill Tree l.rows (state_of l.fn.objects) l.place) →
    (state_of l.objects ≡ with_rows f l.row-index (take l.row-index l.rows)) × (map plain_mark l.path.items ≡ marks f l.row-index))
