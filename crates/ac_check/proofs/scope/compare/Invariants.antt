use Rattle.std.proofs.Common.{◌≡◌, ◌≤◌, min, length, drop}
use Rattle.ac_check.specs.NameOrders.{name_cmp}
use Rattle.ac_check.proofs.scope.compare.Given as goal

-- what the rests from here on answer, the names do
abbrev pub invariant-loop-at : goal.invariant-loop-at
invariant-loop-at l =
    (l.at-end ≡ min (length l.left) (length l.right)) × (l.at ≤ l.at-end)
    × (name_cmp (drop l.at l.left) (drop l.at l.right) ≡ name_cmp l.left l.right)
