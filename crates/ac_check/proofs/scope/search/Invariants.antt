use Rattle.std.proofs.Common.{◌-◌, ◌≡◌, length, ℕ, ◌<◌, ◌≤◌}
use Rattle.std.specs.declared.cmp.Ordering.TheVariants.{Less, Greater}
use Rattle.ac_check.specs.NameOrders.{bytes_of, name_cmp, sorted_at}
use Rattle.ac_check.proofs.scope.search.Given as goal

abbrev pub invariant-loop-low : goal.invariant-loop-low
invariant-loop-low l =
    (l.low ≤ l.high) × (l.high ≤ length l.sorted)
    × ((k : ℕ) → k < l.low → name_cmp (sorted_at (bytes_of l.names) l.sorted k) l.name ≡ Less)
    × ((k : ℕ) → l.high ≤ k → k < length l.sorted → name_cmp (sorted_at (bytes_of l.names) l.sorted k) l.name ≡ Greater)

abbrev pub decreases-loop-low : goal.decreases-loop-low
decreases-loop-low l = l.high - l.low
