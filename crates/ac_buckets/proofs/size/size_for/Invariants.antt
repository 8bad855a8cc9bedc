use Rattle.std.proofs.Common.{◌≡◌, ◌-◌, ◌*◌, ◌^◌, ◌≤◌, ℕ, ◌<◌}
use Rattle.ac_buckets.proofs.size.size_for.Given as goal

abbrev pub invariant-loop-doubled : goal.invariant-loop-doubled
invariant-loop-doubled l = record {
  power : (k : ℕ) × (l.doubled ≡ 8 * 2 ^ k);
  small : (l.size ≤ l.doubled) × (l.doubled ≤ 2 ^ 30);
  least : (k : ℕ) → l.wanted ≤ 8 * 2 ^ k → l.size < l.wanted → l.doubled ≤ 8 * 2 ^ k;
  same : l.wanted ≤ l.size → l.doubled ≡ l.size;
}

abbrev pub decreases-loop-doubled : goal.decreases-loop-doubled
decreases-loop-doubled l = l.wanted - l.doubled
