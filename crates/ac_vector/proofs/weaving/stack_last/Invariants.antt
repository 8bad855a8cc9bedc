use Rattle.std.proofs.Common.{◌≡◌, vec_capacity}
use Rattle.ac_vector.proofs.Weaves.{Stacking}
use Rattle.ac_vector.proofs.weaving.stack_last.Given as goal

abbrev pub invariant-loop-i : goal.invariant-loop-i
invariant-loop-i g l =
    Stacking l.places l.fn.slots.items l.fn.values.items l.fn.stack.items l._i l.slots.items l.values.items l.stack.items
    × (vec_capacity l.slots ≡ vec_capacity l.fn.slots) × (vec_capacity l.values ≡ vec_capacity l.fn.values) × (vec_capacity l.stack ≡ vec_capacity l.fn.stack)
