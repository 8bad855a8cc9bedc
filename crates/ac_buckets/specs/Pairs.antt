-- What a contract sees of buckets: names with their hashes, the newest first, how many buckets there are, and how many pairs more
-- they take without memory.
use Rattle.std.specs.Prelude.{◌≡◌, ℕ, ◌+◌, ◌-◌, ◌%◌, ◌^◌, ◌<◌, ◌≤◌, List, [], ◌∷◌, length, get_or, filter, nat_le, ◌==◌, if◌then◌else◌, refl}
use Rattle.std.specs.Coded.{Coded, code_by, coded×, coded_ℕ, coded_list}
use Rattle.ac_base.specs.declared.name.Name.{Name}
use Rattle.ac_base.specs.Growth.{pow8}
use Rattle.ac_base.specs.Rows.{Row, names, row_code}

pub record Bucketed : Type 0 where
  pub pairs : List (Row Name ℕ)
  pub size : ℕ
  pub spare : ℕ

abbrev pub bucketed : List (Row Name ℕ) → ℕ → ℕ → Bucketed
bucketed pairs size spare = record { pairs = pairs; size = size; spare = spare }

abbrev pub bucketed_code : Coded Bucketed
bucketed_code = code_by (List (Row Name ℕ) × (ℕ × ℕ)) (coded× (coded_list (row_code coded_ℕ)) (coded× coded_ℕ coded_ℕ)) (λ b. (b.pairs, (b.size, b.spare))) (λ p. bucketed p.0 p.1.0 p.1.1) (λ _. refl)

-- the names in the bucket of the hash, in the order in which a walk meets them
abbrev pub names_in : Bucketed → ℕ → List Name
names_in b hash = names (filter (λ (r : Row Name ℕ). r.value % b.size == hash % b.size) b.pairs)

-- no pairs, and no memory
abbrev pub no_pairs : Bucketed
no_pairs = bucketed [] 64 0

-- how many buckets there are after a growth to so many pairs
abbrev pub size_for : ℕ → ℕ → ℕ
size_for size wanted = if nat_le wanted size then size else pow8 wanted

-- room for n pairs more: all that there are buckets for, where that room wasn't there
abbrev pub grown : Bucketed → ℕ → Bucketed
grown b n = if nat_le n b.spare then b else (let size = size_for b.size (length b.pairs + n) in bucketed b.pairs size (size - length b.pairs))

abbrev pub added : Bucketed → Row Name ℕ → Bucketed
added b r = bucketed (r ∷ b.pairs) b.size (b.spare - 1)

-- the same buckets without pairs
abbrev pub cleared : Bucketed → Bucketed
cleared b = bucketed [] b.size (length b.pairs + b.spare)

-- each name stands once
abbrev pub IsOnce : List Name → Type 0
IsOnce names = (i j : ℕ) (d : Name) → i < length names → j < length names → get_or names i d ≡ get_or names j d → i ≡ j

-- what holds of all buckets
pub record IsSound (b : Bucketed) : Type 0 where
  pub once : IsOnce (names b.pairs)
  pub room : length b.pairs + b.spare ≤ b.size
  -- there is room for a pair for each bucket, or none was taken yet
  pub whole : 0 < b.spare → length b.pairs + b.spare ≡ b.size
  pub power : pow8 b.size ≡ b.size
  pub few : (64 ≤ b.size) × (b.size ≤ 2 ^ 30)
