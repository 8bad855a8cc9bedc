-- What a contract sees of a container in memory: its object, with the slots of its names, and how many elements more it takes without memory.
use Rattle.std.specs.Prelude.{◌≡◌, ◌+◌, ◌≤◌, ⊤, ℕ, List, max, Option, Result, Ok, Err, refl}
use Rattle.std.specs.Coded.{Coded, code_by, coded×, coded_ℕ, coded_list, coded_option}
use Rattle.ac_base.specs.declared.fault.Fault.{Fault}
use Rattle.ac_base.specs.declared.limit.Limit.{Limit}
use Rattle.ac_base.specs.declared.limit.Limit.TheVariants.{Unbounded, Bounded}
use Rattle.ac_base.specs.declared.name.Name.{Name}
use Rattle.ac_base.specs.Growth.{pow8}
use Rattle.ac_base.specs.Guards.{GuardCounts}
use Rattle.ac_base.specs.Limits.{limit_code}
use Rattle.ac_base.specs.Rows.{Row, row_code}
use Rattle.ac_model.specs.Objects.{Object, length_of}

pub record Container (V : Type 0) : Type 0 where
  pub object : Object Name V
  -- how many more elements take no memory
  pub spare : ℕ

-- a bounded container has the slots of all that it may hold
abbrev pub HasSlots : Limit → ℕ → ℕ → Type 0
HasSlots Unbounded length spare = ⊤
HasSlots (Bounded most) length spare = length + spare ≡ most

-- how many elements a new container takes without memory
abbrev pub first_spare : Limit → ℕ
first_spare Unbounded = 0
first_spare (Bounded most) = most

module _ {V : Type 0} where
  abbrev pub object_with : ℕ → Limit → Option ℕ → ℕ → List (Row Name V) → ℕ → ℕ → Object Name V
  object_with number limit capacity next rows cursor_guards element_guards = record {
    number = number;
    limit = limit;
    capacity = capacity;
    next = next;
    rows = rows;
    cursor_guards = cursor_guards;
    element_guards = element_guards;
  }

  abbrev pub container : Object Name V → ℕ → Container V
  container object spare = record { object = object; spare = spare }

  abbrev object_code : Coded V → Coded (Object Name V)
  object_code v =
      code_by (ℕ × (Limit × (Option ℕ × (ℕ × (List (Row Name V) × (ℕ × ℕ))))))
      (coded× coded_ℕ (coded× limit_code (coded× (coded_option coded_ℕ) (coded× coded_ℕ (coded× (coded_list (row_code v)) (coded× coded_ℕ coded_ℕ))))))
      (λ o. (o.number, (o.limit, (o.capacity, (o.next, (o.rows, (o.cursor_guards, o.element_guards)))))))
      (λ p. object_with p.0 p.1.0 p.1.1.0 p.1.1.1.0 p.1.1.1.1.0 p.1.1.1.1.1.0 p.1.1.1.1.1.1)
      (λ _. refl)

  abbrev pub container_code : Coded V → Coded (Container V)
  container_code v = code_by (Object Name V × ℕ) (coded× (object_code v) coded_ℕ) (λ c. (c.object, c.spare)) (λ p. container p.0 p.1) (λ _. refl)

  -- the container with another number and other guards
  abbrev pub with_guards : Container V → GuardCounts → Container V
  with_guards c guards =
      let o = c.object in
      container (object_with guards.number o.limit o.capacity o.next o.rows guards.cursor_guards guards.element_guards) c.spare

  abbrev pub guards_of : Container V → GuardCounts
  guards_of c = record { number = c.object.number; cursor_guards = c.object.cursor_guards; element_guards = c.object.element_guards }

  abbrev pub slots_of : Container V → ℕ
  slots_of c = length_of c.object + c.spare

  -- a call that adds elements leaves no more slots than there were, or than the least 8 * 2 ^ k with room for all elements; one that fails leaves the slots as they were
  abbrev pub Grows : {A : Type 0} → Result A Fault → Container V → Container V → Type 0
  Grows (Ok x) old new = slots_of new ≤ max (slots_of old) (pow8 (length_of new.object))
  Grows (Err e) old new = slots_of new ≡ slots_of old
