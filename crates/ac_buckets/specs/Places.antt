-- Places in a bucket: which names with its hash a walk has still to meet.
use Rattle.std.specs.Prelude.{◌≡◌, ◌==◌, ⊤, ℕ, ◌-◌, ◌%◌, ◌<◌, ◌≤◌, List, [], ◌∷◌, length, drop, filter, Option, Some, None}
use Rattle.ac_base.specs.declared.name.Name.{Name}
use Rattle.ac_base.specs.Rows.{Row, names}
use Rattle.ac_buckets.specs.declared.walk.Place.{Place}
use Rattle.ac_buckets.specs.Pairs.{Bucketed}

-- the oldest so many pairs, the newest of them first
abbrev pub oldest : Bucketed → ℕ → List (Row Name ℕ)
oldest b count = drop (length b.pairs - count) b.pairs

-- the names that have the hash
abbrev pub names_with : ℕ → List (Row Name ℕ) → List Name
names_with hash pairs = names (filter (λ (r : Row Name ℕ). r.value == hash) pairs)

-- those among the oldest so many pairs
abbrev pub names_left : Bucketed → ℕ → ℕ → List Name
names_left b hash count = names_with hash (oldest b count)

-- the first of the pairs, if there is one, is in the bucket of the hash
abbrev pub StartsIn : ℕ → ℕ → List (Row Name ℕ) → Type 0
StartsIn size hash [] = ⊤
StartsIn size hash (r ∷ pairs) = r.value % size ≡ hash % size

-- a place of the bucket of the hash
pub record IsPlace (b : Bucketed) (hash count : ℕ) : Type 0 where
  pub within : count ≤ length b.pairs
  pub starts : StartsIn b.size hash (oldest b count)

-- the place where a walk begins, which meets all names with the hash
pub record Begins (b : Bucketed) (hash : ℕ) (place : Place) : Type 0 where
  pub names : names_left b hash place.left ≡ names_with hash b.pairs
  pub stands : IsPlace b hash place.left

-- the next name, and the place from which the rest is met
pub record IsNext (b : Bucketed) (hash : ℕ) (place : Place) (name : Name) (next : Place) : Type 0 where
  pub names : names_left b hash place.left ≡ name ∷ names_left b hash next.left
  pub stands : IsPlace b hash next.left
  pub nearer : next.left < place.left

abbrev pub Steps : Bucketed → ℕ → Place → Option (Name × Place) → Type 0
Steps b hash place None = names_left b hash place.left ≡ []
Steps b hash place (Some step) = IsNext b hash place step.0 step.1
