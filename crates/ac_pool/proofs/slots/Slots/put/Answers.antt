use Rattle.std.proofs.Common.{◌≡◌, ◌<◌, ◌+◌, ◌*◌, ◌%◌, set, get_or, Some, None, ap, ◌∙◌, sym, arith}
use Rattle.ac_pool.specs.Slots.{cells_in}
use Rattle.ac_pool.proofs.Laid.{slot_within, cell_in, cells_in-write, IsSlots-write}
use Rattle.ac_pool.proofs.slots.Slots.put.Goals as goal

pub put-requires-clause-empty : goal.put-requires-clause-empty
put-requires-clause-empty g c =
    let a = c.self.inside in let i = c.args.slot in let k = c.chunk_of.result in let cs = c.index_mut-chunk.result.now in let is = c.index_mut-chunk.ensures.value in
    let lt : i < a.len = slot_within a.chunks.items a.len c.self.invariant i (rw c.self.view_is c.requires.within) in
    let at : i ≡ 512 * k + i % 512 = omega (arith, c.chunk_of.ensures.0, c.chunk_of.ensures.1) in let within : i % 512 < 512 = omega arith in
    let cell : get_or (cells_in a.chunks.items a.len) i None ≡ get_or cs (i % 512) None = cell_in a.chunks.items a.len c.self.invariant i k (i % 512) lt at within cs is in
    sym cell ∙ rw c.self.view_is c.requires.empty

pub invariant_of-self : goal.invariant_of-self
invariant_of-self g c =
    let a = c.self.inside in let i = c.args.slot in let k = c.chunk_of.result in let cs = c.index_mut-chunk.result.now in let is = c.index_mut-chunk.ensures.value in
    let lt : i < a.len = slot_within a.chunks.items a.len c.self.invariant i (rw c.self.view_is c.requires.within) in
    let at : i ≡ 512 * k + i % 512 = omega (arith, c.chunk_of.ensures.0, c.chunk_of.ensures.1) in let within : i % 512 < 512 = omega arith in
    rw c.put.ensures (IsSlots-write a.chunks.items a.len c.self.invariant i k (i % 512) lt at within cs is (Some (c.args.serial, c.args.value)))

pub returns : goal.returns
returns g c =
    let a = c.self.inside in let i = c.args.slot in let k = c.chunk_of.result in let cs = c.index_mut-chunk.result.now in let is = c.index_mut-chunk.ensures.value in
    let lt : i < a.len = slot_within a.chunks.items a.len c.self.invariant i (rw c.self.view_is c.requires.within) in
    let at : i ≡ 512 * k + i % 512 = omega (arith, c.chunk_of.ensures.0, c.chunk_of.ensures.1) in let within : i % 512 < 512 = omega arith in
    rw (← c.self.view_is) (ap (λ l. cells_in (set a.chunks.items k l) a.len) c.put.ensures ∙ cells_in-write a.chunks.items a.len c.self.invariant i k (i % 512) lt at within cs is (Some (c.args.serial, c.args.value)))
