-- Rows in order of arrival, and the names of all of them with the hashes of their keys.
use Rattle.std.specs.Prelude.{◌≡◌, ◌≤◌, ℕ, Bool, List, length, map, filter, Some}
use Rattle.std.specs.List.{sum_by}
use Rattle.ac_base.specs.declared.name.Name.{Name}
use Rattle.ac_base.specs.Rows.{Row, row}
use Rattle.ac_buckets.specs.Pairs.{Bucketed}
use Rattle.ac_chain.specs.Rows.{Chained, IsSound, slots_in}
use Rattle.ac_model.specs.Objects.{plains}
use Rattle.ac_setwork.specs.Indexed.{Indexed}

-- each as often in one list as in the other: whatever weight each has, the sums are equal
abbrev pub AsOften : {X : Type 0} → List X → List X → Type 0
AsOften {X} some others = (weight : X → ℕ) → sum_by weight some ≡ sum_by weight others

module _ {V : Type 0} where
  -- the chain as an index, whose Capacity is the number of its slots
  abbrev pub seen_in : Chained V → Indexed V
  seen_in c = record { rows = c.rows; next = c.next_serial; capacity = Some (slots_in c); spare = c.spare }

  -- the names with the hashes
  abbrev pub hashed : (V → ℕ) → List (Row Name V) → List (Row Name ℕ)
  hashed hash rows = map (λ (r : Row Name V). row r.name (hash r.value)) rows

  -- the buckets have the pairs of the rows and room for those of all spare slots, and no two rows are equivalent
  pub record AreTied (hash : V → ℕ) (alike : V → V → Bool) (c : Chained V) (b : Bucketed) : Type 0 where
    pub sound : IsSound c
    pub pairs : AsOften b.pairs (hashed hash c.rows)
    pub room : c.spare ≤ b.spare
    pub differ : (v : V) → length (filter (λ (r : Row ℕ V). alike r.value v) (plains c.rows)) ≤ 1
