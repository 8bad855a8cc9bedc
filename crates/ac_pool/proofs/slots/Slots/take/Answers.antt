use Rattle.std.proofs.Common.{◌≡◌, ◌<◌, ◌+◌, ◌*◌, ◌%◌, set, get_or, Some, None, ap, ◌∙◌, sym, arith}
use Rattle.ac_pool.specs.Cell.{serial_in, IsKept}
use Rattle.ac_pool.specs.Slots.{cells_in}
use Rattle.ac_pool.proofs.Cells.{within as cell_within}
use Rattle.ac_pool.proofs.Laid.{slot_within, cell_in, cells_in-write, IsSlots-write}
use Rattle.ac_pool.proofs.slots.Slots.take.Goals as goal

pub take-requires : goal.take-requires
take-requires g c =
    let a = c.self.inside in let i = c.args.slot in let k = c.chunk_of.result in let cs = c.index_mut-chunk.result.now in let is = c.index_mut-chunk.ensures.value in
    let kept : IsKept (cells_in a.chunks.items a.len) i = rw c.self.view_is c.requires in
    let lt : i < a.len = slot_within a.chunks.items a.len c.self.invariant i (cell_within (cells_in a.chunks.items a.len) i kept.0 kept.1) in
    let at : i ≡ 512 * k + i % 512 = omega (arith, c.chunk_of.ensures.0, c.chunk_of.ensures.1) in let within : i % 512 < 512 = omega arith in
    let cell : get_or (cells_in a.chunks.items a.len) i None ≡ get_or cs (i % 512) None = cell_in a.chunks.items a.len c.self.invariant i k (i % 512) lt at within cs is in
    (kept.0, sym cell ∙ kept.1)

pub invariant_of-self : goal.invariant_of-self
invariant_of-self g c =
    let a = c.self.inside in let i = c.args.slot in let k = c.chunk_of.result in let cs = c.index_mut-chunk.result.now in let is = c.index_mut-chunk.ensures.value in
    let kept : IsKept (cells_in a.chunks.items a.len) i = rw c.self.view_is c.requires in
    let lt : i < a.len = slot_within a.chunks.items a.len c.self.invariant i (cell_within (cells_in a.chunks.items a.len) i kept.0 kept.1) in
    let at : i ≡ 512 * k + i % 512 = omega (arith, c.chunk_of.ensures.0, c.chunk_of.ensures.1) in let within : i % 512 < 512 = omega arith in
    rw c.take.ensures.cells (IsSlots-write a.chunks.items a.len c.self.invariant i k (i % 512) lt at within cs is None)

pub returns-clause-value : goal.returns-clause-value
returns-clause-value g c =
    let a = c.self.inside in let i = c.args.slot in let k = c.chunk_of.result in let cs = c.index_mut-chunk.result.now in let is = c.index_mut-chunk.ensures.value in
    let kept : IsKept (cells_in a.chunks.items a.len) i = rw c.self.view_is c.requires in
    let lt : i < a.len = slot_within a.chunks.items a.len c.self.invariant i (cell_within (cells_in a.chunks.items a.len) i kept.0 kept.1) in
    let at : i ≡ 512 * k + i % 512 = omega (arith, c.chunk_of.ensures.0, c.chunk_of.ensures.1) in let within : i % 512 < 512 = omega arith in
    let cell : get_or (cells_in a.chunks.items a.len) i None ≡ get_or cs (i % 512) None = cell_in a.chunks.items a.len c.self.invariant i k (i % 512) lt at within cs is in
    rw (← c.self.view_is) (cell ∙ c.take.ensures.value ∙ ap (λ v. Some (serial_in v, c.take.result)) (sym cell))

pub returns-clause-cells : goal.returns-clause-cells
returns-clause-cells g c =
    let a = c.self.inside in let i = c.args.slot in let k = c.chunk_of.result in let cs = c.index_mut-chunk.result.now in let is = c.index_mut-chunk.ensures.value in
    let kept : IsKept (cells_in a.chunks.items a.len) i = rw c.self.view_is c.requires in
    let lt : i < a.len = slot_within a.chunks.items a.len c.self.invariant i (cell_within (cells_in a.chunks.items a.len) i kept.0 kept.1) in
    let at : i ≡ 512 * k + i % 512 = omega (arith, c.chunk_of.ensures.0, c.chunk_of.ensures.1) in let within : i % 512 < 512 = omega arith in
    rw (← c.self.view_is) (ap (λ l. cells_in (set a.chunks.items k l) a.len) c.take.ensures.cells ∙ cells_in-write a.chunks.items a.len c.self.invariant i k (i % 512) lt at within cs is None)
