use Rattle.std.proofs.Common.{◌≡◌, ◌≤◌, ℕ, List, true, length, drop, map}
use Rattle.std.specs.List.{list_any}
use Rattle.std.specs.Str.{bytes_eq}
use Rattle.ac_snapshot.specs.Keys.{has_text}
use Rattle.ac_snapshot.specs.RowKeys.{key_text}
use Rattle.ac_snapshot.specs.RowValidity.{all_differ}
use Rattle.ac_snapshot.proofs.row_test.texts_differ.Given as goal

abbrev pub invariant-loop-at : goal.invariant-loop-at
invariant-loop-at l =
    (l.at ≤ length l.fn.rows) × (all_differ bytes_eq (map (key_text l.fn.keyed) (drop l.at l.fn.rows)) ≡ true)
    × ((own : List ℕ) → has_text l.seen.keys own ≡ list_any (bytes_eq own) (map (key_text l.fn.keyed) (drop l.at l.fn.rows)))

abbrev pub decreases-loop-at : goal.decreases-loop-at
decreases-loop-at l = l.at
