use Rattle.std.proofs.Common.{◌≡◌, ◌<◌, ◌+◌, ◌*◌, ◌%◌, length, get_or, None, sym, ap, ◌∙◌, arith}
use Rattle.ac_pool.specs.Runs.{kept_in}
use Rattle.ac_pool.specs.Slots.{cells_in}
use Rattle.ac_pool.proofs.Laid.{slot_within, cell_in}
use Rattle.ac_pool.proofs.slots.Slots.value.Goals as goal

pub returns : goal.returns
returns g c =
    let a = c.self.inside in let i = c.args.slot in let k = c.chunk_of.result in let cs = c.index-chunk.result.now in
    let there : i < length c.args.self.now = omega (arith, c.if-slot-len.false, c.len.ensures.count) in
    let lt : i < a.len = slot_within a.chunks.items a.len c.self.invariant i (rw c.self.view_is there) in
    let at : i ≡ 512 * k + i % 512 = omega (arith, c.chunk_of.ensures.0, c.chunk_of.ensures.1) in let within : i % 512 < 512 = omega arith in
    let cell : get_or (cells_in a.chunks.items a.len) i None ≡ get_or cs (i % 512) None = cell_in a.chunks.items a.len c.self.invariant i k (i % 512) lt at within cs c.index-chunk.ensures in
    rw (← c.self.view_is) (c.value.ensures ∙ ap kept_in (sym cell))
