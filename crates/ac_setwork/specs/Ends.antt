-- The last row of an index, the row before another, and the last that passes a test.
use Rattle.std.specs.Prelude.{◌-◌, ℕ, zero, suc, Bool, reverse, find, length, Option, None, option_map}
use Rattle.ac_base.specs.declared.name.Name.{Name}
use Rattle.ac_base.specs.Rows.{Row}
use Rattle.ac_model.specs.Rows.{place_of}
use Rattle.ac_setwork.specs.Indexed.{Indexed, plain_rows, name_at}

module _ {V : Type 0} where
  -- the name of the row before a place
  abbrev pub name_up_to : Indexed V → ℕ → Option Name
  name_up_to s zero = None
  name_up_to s (suc place) = name_at s place

  abbrev pub last_name : Indexed V → Option Name
  last_name s = name_at s (length s.rows - 1)

  abbrev pub name_before : Indexed V → Name → Option Name
  name_before s name = name_up_to s (place_of (plain_rows s) name.serial)

  abbrev pub last_found : (V → Bool) → Indexed V → Option Name
  last_found test s = option_map (λ (r : Row Name V). r.name) (find (λ (r : Row Name V). test r.value) (reverse s.rows))
