use Rattle.std.proofs.Common.{◌≡◌, ◌<◌, ◌+◌, ◌*◌, ◌%◌, set, get_or, Some, None, refl, ap, ◌∙◌, sym, arith}
use Rattle.ac_pool.specs.Cell.{serial_in, serial_at, IsKept}
use Rattle.ac_pool.specs.Slots.{cells_in}
use Rattle.ac_pool.proofs.Cells.{within as cell_within}
use Rattle.ac_pool.proofs.Laid.{slot_within, cell_in, cells_in-write, IsSlots-write}
use Rattle.ac_pool.proofs.slots.Slots.get_mut.Goals as goal

pub value_mut-requires : goal.value_mut-requires
value_mut-requires g c =
    let a = c.self.inside in let i = c.args.slot in let k = c.chunk_of.result in let cs = c.index_mut-chunk.result.now in let is = c.index_mut-chunk.ensures.value in
    let kept : IsKept (cells_in a.chunks.items a.len) i = rw c.self.view_is c.requires in
    let lt : i < a.len = slot_within a.chunks.items a.len c.self.invariant i (cell_within (cells_in a.chunks.items a.len) i kept.0 kept.1) in
    let at : i ≡ 512 * k + i % 512 = omega (arith, c.chunk_of.ensures.0, c.chunk_of.ensures.1) in let within : i % 512 < 512 = omega arith in
    let cell : get_or (cells_in a.chunks.items a.len) i None ≡ get_or cs (i % 512) None = cell_in a.chunks.items a.len c.self.invariant i k (i % 512) lt at within cs is in
    (kept.0, sym cell ∙ kept.1)

pub invariant_of-self-lent : goal.invariant_of-self-lent
invariant_of-self-lent g c = λ w.
    let a = c.self.inside in let i = c.args.slot in let k = c.chunk_of.result in let cs = c.index_mut-chunk.result.now in let is = c.index_mut-chunk.ensures.value in
    let kept : IsKept (cells_in a.chunks.items a.len) i = rw c.self.view_is c.requires in
    let lt : i < a.len = slot_within a.chunks.items a.len c.self.invariant i (cell_within (cells_in a.chunks.items a.len) i kept.0 kept.1) in
    let at : i ≡ 512 * k + i % 512 = omega (arith, c.chunk_of.ensures.0, c.chunk_of.ensures.1) in let within : i % 512 < 512 = omega arith in
    IsSlots-write a.chunks.items a.len c.self.invariant i k (i % 512) lt at within cs is (Some (serial_at cs (i % 512), w))

pub returns : goal.returns
returns g c =
    let a = c.self.inside in let i = c.args.slot in let k = c.chunk_of.result in let cs = c.index_mut-chunk.result.now in let is = c.index_mut-chunk.ensures.value in
    let kept : IsKept (cells_in a.chunks.items a.len) i = rw c.self.view_is c.requires in
    let lt : i < a.len = slot_within a.chunks.items a.len c.self.invariant i (cell_within (cells_in a.chunks.items a.len) i kept.0 kept.1) in
    let at : i ≡ 512 * k + i % 512 = omega (arith, c.chunk_of.ensures.0, c.chunk_of.ensures.1) in let within : i % 512 < 512 = omega arith in
    let cell : get_or (cells_in a.chunks.items a.len) i None ≡ get_or cs (i % 512) None = cell_in a.chunks.items a.len c.self.invariant i k (i % 512) lt at within cs is in
    rw (← c.self.view_is) (
      (refl {a = c.value_mut.result.ghost_name}, λ w. cells_in-write a.chunks.items a.len c.self.invariant i k (i % 512) lt at within cs is (Some (serial_at cs (i % 512), w)) ∙ ap (λ v. set (cells_in a.chunks.items a.len) i (Some (serial_in v, w))) (sym cell)),
      record { writes_back = tt; value = cell ∙ c.value_mut.ensures.value ∙ ap (λ v. Some (serial_in v, c.value_mut.result.now)) (sym cell) },
    )
