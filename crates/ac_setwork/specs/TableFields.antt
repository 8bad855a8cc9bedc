-- What the fields of a map or a set are seen as, and what holds of them.
use Rattle.std.specs.Prelude.{◌≡◌, ◌==◌, ◌∷◌, ◌+◌, ◌<◌, ℕ, Bool, false, not, Option, Some, None}
use Rattle.ac_base.specs.declared.cursor.Cursor.{Cursor}
use Rattle.ac_base.specs.declared.cursor.Cursor.TheVariants.{At}
use Rattle.ac_base.specs.declared.limit.Limit.{Limit}
use Rattle.ac_base.specs.declared.name.Name.{Name}
use Rattle.ac_base.specs.Guards.{GuardCounts}
use Rattle.ac_base.specs.Tampering.{forbids}
use Rattle.ac_base.specs.declared.guard.Class.{Class}
use Rattle.ac_base.specs.Limits.{IsLimit}
use Rattle.ac_base.specs.FirstReason.{first_reason}
use Rattle.ac_base.specs.Rows.{names}
use Rattle.ac_model.specs.Calls.{Call, call, Marks, Done}
use Rattle.ac_model.specs.Containers.{Container, object_with}
use Rattle.ac_model.specs.Objects.{Object, plain, capacity_after, length_of}
use Rattle.ac_model.specs.Letters.{Mark, mark_at, mark_of, has_room, tampers_cursors, room_for_one}
use Rattle.ac_model.specs.Keyed as keyed
use Rattle.ac_model.specs.Keyed.{Order, IsValidKeyed, Inserted, with_added}
use Rattle.ac_setwork.specs.Indexed.{Indexed, slots, HasSlots, found_in}

module _ {V : Type 0} where
  abbrev pub object_of : GuardCounts → Limit → Indexed V → Object Name V
  object_of guards limit s = object_with guards.number limit s.capacity s.next s.rows guards.cursor_guards guards.element_guards

  pub record IsTable (order : Order V) (guards : GuardCounts) (limit : Limit) (s : Indexed V) : Type 0 where
    pub valid : IsValidKeyed order (plain (object_of guards limit s))
    pub is_limit : IsLimit limit
    pub has_slots : HasSlots limit s.capacity (slots s)

  -- Replace (A.18.4, A.18.7), as a call of this class
  abbrev pub replace_in_class : Class → Order V → Object ℕ V → V → Call (Object ℕ V) Done
  replace_in_class class order o v = keyed.replace_call (forbids class o.cursor_guards o.element_guards) order o v

  -- the name of the row that is equivalent to the value
  abbrev pub named_like : Order V → Object Name V → V → Option Name
  named_like order o v = found_in (λ w. order.alike w v) o.rows

  -- one row more, whose key no other has
  abbrev pub add_call : Order V → Object ℕ V → V → Call (Object ℕ V) Mark
  add_call order o v = call (not (has_room o)) None (with_added order o v) (mark_at o.number o.next)

  -- one row more leaves the Capacity as it is
  abbrev pub keeps_capacity : Object Name V → Type 0
  keeps_capacity o = capacity_after o.limit o.capacity (length_of o + 1) ≡ o.capacity

  -- one row more, whose key no other has, is allowed and takes no memory
  pub record TakesOne (c : Container V) : Type 0 where
    pub allowed : first_reason (tampers_cursors (plain c.object) ∷ room_for_one (plain c.object)) ≡ None
    pub spare : 0 < c.spare
    pub capacity : keeps_capacity c.object

  -- the name that is answered is the new row's
  abbrev pub Inserts : Object Name V → Name → Mark → Type 0
  Inserts o name m = mark_of o.number (names o.rows) (At o.number name) ≡ m

  -- whether the value was inserted, and the variable
  abbrev pub Places : Object Name V → Cursor → Bool → Inserted → Type 0
  Places o p b a = (b ≡ a.inserted) × Marks o p a.position

-- there is a name, with another serial than this one
abbrev pub is_another : Option Name → ℕ → Bool
is_another None serial = false
is_another (Some other) serial = not (other.serial == serial)
