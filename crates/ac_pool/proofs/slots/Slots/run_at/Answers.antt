use Rattle.std.proofs.Common.{◌≡◌, ◌≤◌, ◌<◌, ◌+◌, ◌*◌, ◌%◌, [], length, drop, arith}
use Rattle.ac_pool.proofs.Laid.{slot_within, chunk_long, cells_from}
use Rattle.ac_pool.proofs.Runs.{run_in, lies_past}
use Rattle.ac_pool.proofs.slots.Slots.run_at.Goals as goal

pub over-requires : goal.over-requires
over-requires g c =
    let a = c.self.inside in let i = c.args.slot in let k = c.chunk_of.result in let cs = c.index-chunk.result.now in
    let there : i < length c.args.self.now = omega (arith, c.if-slot-len.false, c.len.ensures.count) in
    let lt : i < a.len = slot_within a.chunks.items a.len c.self.invariant i (rw c.self.view_is there) in
    let at : i ≡ 512 * k + i % 512 = omega (arith, c.chunk_of.ensures.0, c.chunk_of.ensures.1) in let within : i % 512 < 512 = omega arith in
    omega (arith, chunk_long a.chunks.items a.len c.self.invariant i k (i % 512) lt at within cs c.index-chunk.ensures)

pub returns : goal.returns
returns g c =
    let a = c.self.inside in let i = c.args.slot in let k = c.chunk_of.result in let cs = c.index-chunk.result.now in
    let there : i < length c.args.self.now = omega (arith, c.if-slot-len.false, c.len.ensures.count) in
    let lt : i < a.len = slot_within a.chunks.items a.len c.self.invariant i (rw c.self.view_is there) in
    let at : i ≡ 512 * k + i % 512 = omega (arith, c.chunk_of.ensures.0, c.chunk_of.ensures.1) in let within : i % 512 < 512 = omega arith in
    let few : length cs ≤ 512 = omega (arith, chunk_long a.chunks.items a.len c.self.invariant i k (i % 512) lt at within cs c.index-chunk.ensures) in
    (drop (i % 512) cs, c.over.ensures, rw (← c.self.view_is) (cells_from a.chunks.items a.len c.self.invariant i k (i % 512) lt at within cs c.index-chunk.ensures (drop (i % 512) cs) (run_in cs (i % 512) few within)))

pub returns-then-slot-len : goal.returns-then-slot-len
returns-then-slot-len g c = ([], c.none.ensures, lies_past c.args.self.now c.args.slot (omega (arith, c.if-slot-len.true, c.len.ensures.count)))
