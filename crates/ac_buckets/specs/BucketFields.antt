-- What the buckets' fields are seen as, and what holds of them.
use Rattle.std.specs.Prelude.{◌≡◌, ℕ, ◌-◌, ◌*◌, ◌^◌, ◌≤◌, ◌⊎◌, List, [], length, max, reverse}
use Rattle.ac_base.specs.Rows.{names}
use Rattle.ac_buckets.specs.declared.linked.Node.{Node}
use Rattle.ac_buckets.specs.Linked.{AreLinked, marks_of, rows_of}
use Rattle.ac_buckets.specs.Pairs.{Bucketed, bucketed, IsOnce}

-- the newest node is the last one
abbrev pub seen_in : List Node → List ℕ → Bucketed
seen_in nodes heads = bucketed (reverse (rows_of nodes)) (max (length heads) 64) (length heads - length nodes)

pub record IsBuckets (nodes : List Node) (heads : List ℕ) (capacity : ℕ) : Type 0 where
  pub linked : AreLinked (marks_of (length heads) nodes) nodes heads
  pub once : IsOnce (names (rows_of nodes))
  pub fits : length nodes ≤ length heads
  pub room : length heads ≤ capacity
  pub few : length heads ≤ 2 ^ 30
  pub size : (heads ≡ []) ⊎ (64 ≤ length heads)
  pub power : (k : ℕ) × (max (length heads) 64 ≡ 8 * 2 ^ k)
