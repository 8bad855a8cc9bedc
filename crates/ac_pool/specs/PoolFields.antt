-- What a pool's fields are seen as, and what holds of them.
use Rattle.std.specs.Prelude.{◌≡◌, ◌⊎◌, ℕ, suc, ◌-◌, ◌<◌, ◌≤◌, ◌^◌, List, [], ◌∷◌, ◌++◌, length, get_or, Option, Some, None}
use Rattle.std.specs.FinMap as map
use Rattle.ac_base.specs.declared.name.Name.{Name}
use Rattle.ac_pool.specs.Names.{name_cmp}

abbrev pub name_at : ℕ → ℕ → Name
name_at slot serial = record { slot = slot; serial = serial }

-- the slot was the last that was given back, or else none was, and it is the first that no value has reached
abbrev pub GivesSlot : List ℕ → ℕ → ℕ → List ℕ → Type 0
GivesSlot given unreached slot left = (given ≡ left ++ slot ∷ []) ⊎ ((given ≡ []) × (slot ≡ unreached) × (left ≡ []))

module _ {X : Type 0} where
  -- the cells from the slot i on
  abbrev pub entries_from : ℕ → List (Option (ℕ × X)) → map.FinMap name_cmp X
  entries_from i [] = map.empty
  entries_from i (None ∷ cells) = entries_from (suc i) cells
  entries_from i (Some e ∷ cells) = map.insert (entries_from (suc i) cells) (name_at i e.0) e.1

  unfoldable pub entries_in : List (Option (ℕ × X)) → map.FinMap name_cmp X
  entries_in cells = entries_from 0 cells

  abbrev pub empty_count : List (Option (ℕ × X)) → ℕ
  empty_count [] = 0
  empty_count (None ∷ cells) = suc (empty_count cells)
  empty_count (Some e ∷ cells) = empty_count cells

  -- from this slot on no value has reached the cells
  abbrev pub reached_in : List (Option (ℕ × X)) → List ℕ → ℕ → ℕ
  reached_in cells given spare = length cells - (spare - length given)

  -- given has slots that keep nothing, with room for every slot, and no value has reached the others that keep nothing
  pub record IsPool (cells : List (Option (ℕ × X))) (given : List ℕ) (capacity spare next_serial : ℕ) : Type 0 where
    pub issued : (i : ℕ) (e : ℕ × X) → get_or cells i None ≡ Some e → (0 < e.0) × (e.0 < next_serial)
    pub serials : (i j : ℕ) (d e : ℕ × X) → get_or cells i None ≡ Some d → get_or cells j None ≡ Some e → d.0 ≡ e.0 → i ≡ j
    pub next : (0 < next_serial) × (next_serial < 2 ^ 64)
    pub few : length cells ≤ 2 ^ 30
    pub room : length cells ≤ capacity
    pub count : spare ≡ empty_count cells
    pub listed : length given ≤ spare
    pub empties : (k : ℕ) → k < length given → (get_or given k 0 < reached_in cells given spare) × (get_or cells (get_or given k 0) None ≡ None)
    pub once : (j k : ℕ) → j < length given → k < length given → get_or given j 0 ≡ get_or given k 0 → j ≡ k
    pub unreached : (i : ℕ) → reached_in cells given spare ≤ i → get_or cells i None ≡ None
