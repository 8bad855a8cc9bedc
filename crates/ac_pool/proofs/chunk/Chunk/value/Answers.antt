use Rattle.std.proofs.Common.{◌≡◌, get_or, map, Some, None, sym, ◌∙◌}
use Rattle.ac_pool.specs.Cell.{serial_of}
use Rattle.ac_pool.specs.Places.{kept}
use Rattle.ac_pool.proofs.Written.{kept_there, full_of}
use Rattle.ac_pool.proofs.chunk.Chunk.value.Goals as goal

pub value-requires : goal.value-requires
value-requires g c =
    let cells = c.self.inside.block.cells in let i = c.args.index in
    let is : serial_of (get_or (map kept cells) i None) ≡ Some c.in-Some.field-0 = rw c.self.view_is (sym c.serial.ensures ∙ c.in-Some.is) in
    let full = full_of (get_or (map kept cells) i None) c.in-Some.field-0 is in (full.0, kept_there cells i full.0 full.1)
