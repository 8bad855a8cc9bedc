-- A library cursor, whose name has a slot, at an object in memory.
use Rattle.std.specs.Prelude.{◌≡◌, ◌==◌, ◌<◌, ⊤, ℕ, zero, suc, Bool, true, not, ◌&&◌, Option, Some, None, IsTrue, if◌then◌else◌}
use Rattle.ac_base.specs.declared.cursor.Cursor.{Cursor}
use Rattle.ac_base.specs.declared.cursor.Cursor.TheVariants.{NoElement, At}
use Rattle.ac_base.specs.declared.name.Name.{Name}
use Rattle.ac_base.specs.declared.reason.Reason.{Reason}
use Rattle.ac_base.specs.Rows.{names}
use Rattle.ac_model.specs.Rows.{place_of, is_named}
use Rattle.ac_model.specs.Objects.{Object, plain, length_of}
use Rattle.ac_model.specs.Letters.{Mark, no_mark, mark_at, stale_mark, mark_of, is_among, needs, may}

module _ {V : Type 0} where
  -- what the cursor means to the object
  abbrev pub mark : Object Name V → Cursor → Mark
  mark o c = mark_of o.number (names o.rows) c

  -- why the object refuses a cursor that must designate an element, and one that may be No_Element
  abbrev pub needs_cursor : Object Name V → Cursor → Option Reason
  needs_cursor o c = needs (plain o) (mark o c)

  abbrev pub may_cursor : Object Name V → Cursor → Option Reason
  may_cursor o c = may (plain o) (mark o c)

  -- the name is one of the object's
  abbrev pub IsNamed : Object Name V → Name → Type 0
  IsNamed o a = IsTrue (is_among (names o.rows) a)

  -- the place before a name of the object, and the end
  abbrev pub spot : Object Name V → Option Name → ℕ
  spot o None = length_of (plain o)
  spot o (Some a) = place_of (plain o).rows a.serial

-- a cursor at a name that an object has, if there is one
abbrev pub cursor_at : ℕ → Option Name → Cursor
cursor_at number None = NoElement
cursor_at number (Some name) = At number name

-- the cursor's name, and one that no element has where it has none
abbrev pub name_in : Cursor → Name
name_in NoElement = record { slot = 0; serial = 0 }
name_in (At object name) = name

-- the name before whose row a cursor stands, and none for the end
abbrev pub place_in : Cursor → Option Name
place_in NoElement = None
place_in (At object name) = Some name

-- the cursor of the first of so many, and this one where there is none
abbrev pub cursor_of_first : ℕ → Cursor → Cursor → Cursor
cursor_of_first zero first none = none
cursor_of_first (suc count) first none = first

-- the cursor without its slot, as a script has it
abbrev pub plain_mark : Cursor → Mark
plain_mark NoElement = no_mark
plain_mark (At object name) = mark_at object name.serial

-- what it means to the object with this number, where the test says under which names something stands
abbrev pub seen_where : ℕ → (ℕ → Bool) → Mark → Mark
seen_where number is_there no_mark = no_mark
seen_where number is_there (mark_at object name) =
    if (object == number) && not (is_there name) then stale_mark object else mark_at object name
seen_where number is_there (stale_mark object) = stale_mark object

-- to an object: one of its own under whose name nothing stands is stale
abbrev pub seen : {V : Type 0} → Object ℕ V → Mark → Mark
seen o m = seen_where o.number (is_named o.rows) m

-- a name that the object gave: its serial is below the next, and where a row has the serial, it has the slot too
pub record IsOwn {V : Type 0} (o : Object Name V) (name : Name) : Type 0 where
  pub given : name.serial < o.next
  pub slot : is_named (plain o).rows name.serial ≡ true → IsTrue (is_among (names o.rows) name)

-- the cursor's slot is the one that the object would find: so it is of every cursor that the object gave
abbrev pub Agrees : {V : Type 0} → Object Name V → Cursor → Type 0
Agrees o NoElement = ⊤
Agrees o (At object name) = object ≡ o.number → IsOwn o name
