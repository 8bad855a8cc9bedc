-- What is found among a chain's rows.
use Rattle.std.specs.Prelude.{ℕ, ◌+◌, List, length, Bool, Option, None, Some, find}
use Rattle.std.specs.Option.{option_map}
use Rattle.ac_base.specs.declared.name.Name.{Name}
use Rattle.ac_base.specs.declared.cursor.Cursor.{Cursor}
use Rattle.ac_base.specs.declared.cursor.Cursor.TheVariants.{NoElement, At}
use Rattle.ac_pool.specs.NamedRows.{index_of, name_at, name_before}
use Rattle.ac_base.specs.Rows.{Row}

module _ {T : Type 0} where
  -- the name of the first of these rows whose value equals the element
  abbrev pub found_in : (T → T → Bool) → T → List (Row Name T) → Option Name
  found_in same e rows = option_map (λ (r : Row Name T). r.name) (find (λ (r : Row Name T). same r.value e) rows)

  -- how many rows stand up to the name
  abbrev pub count_to : Option Name → List (Row Name T) → ℕ
  count_to None rows = 0
  count_to (Some a) rows = index_of a rows + 1

  -- where a search from the cursor on begins, and one back from it
  abbrev pub start_of : List (Row Name T) → Cursor → Option Name
  start_of rows NoElement = name_at rows 0
  start_of rows (At object name) = Some name

  abbrev pub end_of : List (Row Name T) → Cursor → Option Name
  end_of rows NoElement = name_before rows (length rows)
  end_of rows (At object name) = Some name
