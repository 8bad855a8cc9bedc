-- The lines of a text that are just a given one, and the first of them.
use Rattle.std.specs.Prelude.{ℕ, ◌+◌, ◌≤◌, ◌≡◌, ◌⊎◌, List, ◌∷◌, ◌++◌, Some, length, drop}
use Rattle.std.specs.List.{slice_get}

-- a line begins at this place: at the front, or behind an LF
abbrev pub IsLineStart : (text : List ℕ) → (at : ℕ) → Type 0
IsLineStart text at = (at ≡ 0) ⊎ ((before : ℕ) × (at ≡ before + 1) × (slice_get text before ≡ Some 10))

-- a text begins with this line and its LF
abbrev pub BeginsWithLine : (line text : List ℕ) → Type 0
BeginsWithLine line text = (behind : List ℕ) × (text ≡ line ++ (10 ∷ behind))

-- the line at this place is just this one, with its LF
pub record IsLineAt (line text : List ℕ) (at : ℕ) : Type 0 where
  pub starts : IsLineStart text at
  pub behind : List ℕ
  pub is : drop at text ≡ line ++ (10 ∷ behind)
  pub within : at ≤ length text

-- it is the first such line
pub record IsFirstLine (line text : List ℕ) (at : ℕ) : Type 0 where
  pub here : IsLineAt line text at
  pub first : (other : ℕ) → IsLineAt line text other → at ≤ other

abbrev pub HasNoLine : (line text : List ℕ) → Type 0
HasNoLine line text = (at : ℕ) → IsLineAt line text at → ⊥
