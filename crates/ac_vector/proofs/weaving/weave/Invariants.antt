use Rattle.std.proofs.Common.{◌≡◌, ◌+◌, length, vec_capacity}
use Rattle.ac_vector.specs.Stacks.{stacked}
use Rattle.ac_vector.proofs.Weaves.{Weaving}
use Rattle.ac_vector.proofs.weaving.weave.Given as goal

abbrev pub invariant-loop-line : goal.invariant-loop-line
invariant-loop-line g l =
    Weaving g.T.Rank.is_less (stacked l.fn.mine.items) (stacked l.fn.theirs.items) l.slots.items l.values.items (stacked l.mine.items) (stacked l.theirs.items)
    × (vec_capacity l.slots ≡ vec_capacity l.fn.slots) × (vec_capacity l.values ≡ vec_capacity l.fn.values)

abbrev pub decreases-loop-line : goal.decreases-loop-line
decreases-loop-line g l = length (stacked l.mine.items) + length (stacked l.theirs.items)
