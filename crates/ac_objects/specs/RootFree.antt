-- No row has a root's name: so it is of every object in memory.
use Rattle.std.specs.Prelude.{◌≡◌, ◌∷◌, ◌++◌, ℕ, List}

abbrev pub NoRootAmong : List ℕ → Type 0
NoRootAmong names = (before : List ℕ) (name : ℕ) (after : List ℕ) → names ≡ before ++ name ∷ after → name ≡ 0 → ⊥
