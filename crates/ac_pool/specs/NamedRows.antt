-- Rows under a pool's names: the place of a name's row, the name at a place, and that names stand once.
use Rattle.std.specs.Prelude.{◌≡◌, ◌⊎◌, ℕ, zero, suc, List, [], ◌∷◌, Option, None, if◌then◌else◌}
use Rattle.std.specs.List.{slice_get}
use Rattle.std.specs.Option.{option_map}
use Rattle.std.specs.Ordering.{eq_by_cmp}
use Rattle.ac_base.specs.declared.name.Name.{Name}
use Rattle.ac_base.specs.Rows.{Row}
use Rattle.ac_pool.specs.Names.{name_cmp}

module _ {X : Type 0} where
  -- the place of the name's row, or the number of rows where there is none
  abbrev pub index_of : Name → List (Row Name X) → ℕ
  index_of a [] = 0
  index_of a (r ∷ rs) = if eq_by_cmp name_cmp a r.name then 0 else suc (index_of a rs)

  -- the name of the row at the place i, and of the row before it
  abbrev pub name_at : List (Row Name X) → ℕ → Option Name
  name_at rows i = option_map (λ (r : Row Name X). r.name) (slice_get rows i)

  abbrev pub name_before : List (Row Name X) → ℕ → Option Name
  name_before rows zero = None
  name_before rows (suc i) = name_at rows i

  abbrev pub HasName : Name → List (Row Name X) → Type 0
  HasName a [] = ⊥
  HasName a (r ∷ rows) = (a ≡ r.name) ⊎ HasName a rows

  abbrev pub IsOnce : List (Row Name X) → Type 0
  IsOnce [] = Unit {0}
  IsOnce (r ∷ rows) = (HasName r.name rows → ⊥) × IsOnce rows
