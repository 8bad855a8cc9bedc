-- The order in which the names in scope are found.
use Rattle.std.specs.Prelude.{◌≡◌, ℕ, ◌<◌, ◌≤◌, List, [], map, length, slice_index_or, Vec}
use Rattle.std.specs.Cmp.Lexicographic.{slice_cmp}
use Rattle.std.specs.List.{All, AllPairs, Contains, position_or_len}
use Rattle.std.specs.Ordering.{nat_cmp}
use Rattle.std.specs.declared.cmp.Ordering.{Ordering}
use Rattle.std.specs.declared.cmp.Ordering.TheVariants.{Less, Greater}
use Rattle.std.specs.Str.{bytes_eq}
use Rattle.ac_check.specs.declared.meaning.Meaning.{Meaning as Kept}

-- the bytes of each name
abbrev pub bytes_of : {A : Type 0} → List (Vec ℕ A × Kept) → List (List ℕ)
bytes_of named = map (λ n. n.0.items) named

-- how two names stand to each other
abbrev pub name_cmp : List ℕ → List ℕ → Ordering
name_cmp = slice_cmp nat_cmp

-- the name at a place, and the name at the k-th of the places
abbrev pub name_at : List (List ℕ) → ℕ → List ℕ
name_at names place = slice_index_or names place []

abbrev pub sorted_at : List (List ℕ) → List ℕ → ℕ → List ℕ
sorted_at names places k = name_at names (slice_index_or places k 0)

-- the places of all names, each name above those before
pub record IsNameOrder (names : List (List ℕ)) (places : List ℕ) : Type 0 where
  pub within : All (λ p. p < length names) places
  pub rising : AllPairs (λ p q. name_cmp (name_at names p) (name_at names q) ≡ Less) places
  pub whole : (p : ℕ) → p < length names → Contains places p

-- the first place of the name
pub record IsPlace (names : List (List ℕ)) (name : List ℕ) (place : ℕ) : Type 0 where
  pub within : place < length names
  pub is_first : position_or_len (λ n. bytes_eq n name) names ≡ place

-- where among the sorted places the name would stand, which isn't there
pub record IsGap (names : List (List ℕ)) (places : List ℕ) (name : List ℕ) (at : ℕ) : Type 0 where
  pub within : at ≤ length places
  pub below : (k : ℕ) → k < at → name_cmp (sorted_at names places k) name ≡ Less
  pub above : (k : ℕ) → at ≤ k → k < length places → name_cmp (sorted_at names places k) name ≡ Greater
