-- A list whose end was put before a place.
use Rattle.std.specs.Prelude.{ℕ, ◌-◌, List, ◌++◌, length, take, drop}

-- the last `count` items go before the one at the place
abbrev pub turned : {A : Type 0} → List A → ℕ → ℕ → List A
turned xs place count = take place xs ++ drop (length xs - count) xs ++ take (length xs - count - place) (drop place xs)
