use Rattle.std.proofs.Common.{◌*◌, ◌^◌, ◌≤◌, arith}
use Rattle.ac_base.proofs.Powers.{IsLow, IsLow-first, IsLow-more, IsLeastPow8-low, pow8-unique}
use Rattle.ac_vector.proofs.growth.least_slots.Goals as goal

pub loop-slots-init : goal.loop-slots-init
loop-slots-init c = record { low = IsLow-first c.args.wanted; small = omega arith }

pub loop-slots-preserved : goal.loop-slots-preserved
loop-slots-preserved c =
    let s = c.loop-slots.slots in let h = c.loop-slots.invariant in
    let low : IsLow c.args.wanted (s * 2) = IsLow-more c.args.wanted s (s * 2) h.low c.loop-slots-test.true (omega arith) in
    let within : s * 2 ≤ 8 * 2 ^ 27 = low.least 27 (omega arith) in
    record { low = low; small = omega arith }

pub returns : goal.returns
returns c =
    let s = c.loop-slots.slots in let h = c.loop-slots.invariant in
    record {
      slots = pow8-unique c.args.wanted s (IsLeastPow8-low c.args.wanted s h.low c.loop-slots-test.false);
      bounds = (c.loop-slots-test.false, h.small);
    }
