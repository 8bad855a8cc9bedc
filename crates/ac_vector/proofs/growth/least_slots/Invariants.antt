use Rattle.std.proofs.Common.{◌-◌, ◌^◌, ◌≤◌}
use Rattle.ac_base.proofs.Powers.{IsLow}
use Rattle.ac_vector.proofs.growth.least_slots.Given as goal

abbrev pub invariant-loop-slots : goal.invariant-loop-slots
invariant-loop-slots l = record {
  low : IsLow l.wanted l.slots;
  small : l.slots ≤ 2 ^ 30;
}

abbrev pub decreases-loop-slots : goal.decreases-loop-slots
decreases-loop-slots l = l.wanted - l.slots
