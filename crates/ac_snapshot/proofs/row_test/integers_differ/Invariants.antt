use Rattle.std.proofs.Common.{◌≡◌, ◌≤◌, ℤ, true, length, drop, map}
use Rattle.std.specs.List.{list_any}
use Rattle.std.specs.Ordering.{int_eq}
use Rattle.ac_snapshot.specs.RowKeys.{key_integer}
use Rattle.ac_snapshot.specs.RowValidity.{all_differ}
use Rattle.ac_snapshot.proofs.row_test.integers_differ.Given as goal

abbrev pub invariant-loop-at : goal.invariant-loop-at
invariant-loop-at l =
    (l.at ≤ length l.fn.rows) × (all_differ int_eq (map key_integer (drop l.at l.fn.rows)) ≡ true)
    × ((own : ℤ) → list_any (int_eq own) l.seen.keys ≡ list_any (int_eq own) (map key_integer (drop l.at l.fn.rows)))

abbrev pub decreases-loop-at : goal.decreases-loop-at
decreases-loop-at l = l.at
