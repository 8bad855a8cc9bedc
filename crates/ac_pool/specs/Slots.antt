-- How cells lie in chunks of 512, one after another.
use Rattle.std.specs.Prelude.{◌≡◌, ℕ, ◌*◌, ◌<◌, ◌≤◌, ◌^◌, List, [], Option, None, get_or, length, take}
use Rattle.std.specs.List.{flat_map}

-- the cells of all chunks
abbrev pub all_cells : {X : Type 0} → List (List X) → List X
all_cells chunks = flat_map (λ cells. cells) chunks

-- the cells of the first n slots
abbrev pub cells_in : {X : Type 0} → List (List X) → ℕ → List X
cells_in chunks n = take n (all_cells chunks)

-- every chunk has 512 cells
abbrev pub AreFull : {X : Type 0} → List (List X) → Type 0
AreFull chunks = (k : ℕ) → k < length chunks → length (get_or chunks k []) ≡ 512

-- what holds of n slots in these chunks: the cells past the last slot keep nothing
pub record IsSlots {X : Type 0} (chunks : List (List (Option X))) (n : ℕ) : Type 0 where
  pub few : n ≤ 2 ^ 30
  pub room : n ≤ 512 * length chunks
  pub full : AreFull chunks
  pub blank : (i : ℕ) → n ≤ i → get_or (all_cells chunks) i None ≡ None
