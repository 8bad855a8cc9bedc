-- What visitors tell is what holds of the object.
use Rattle.std.proofs.Common.{◌≡◌, ◌++◌, ◌∷◌, ℕ, Bool, true, false, List, [], refl, sym, ap, ◌∙◌, Option, Some, None}
use Rattle.std.proofs.lemmas.List.{length-map}
use Rattle.ac_base.specs.declared.cursor.Cursor.{Cursor}
use Rattle.ac_base.specs.declared.cursor.Cursor.TheVariants as cursor
use Rattle.ac_base.specs.declared.value.Value.{Value}
use Rattle.ac_model.specs.Calls.{Look}
use Rattle.ac_model.specs.Cursors.{plain_mark}
use Rattle.ac_model.specs.Objects.{plain_row}
use Rattle.ac_calls.specs.Holdings.{number_of, names_of, nodes_of, element_value}
use Rattle.ac_meaning.specs.Execution.{in_order}
use Rattle.ac_meaning.specs.Walks.{first_mark}
use Rattle.ac_objects.specs.Given.{HasNumber, StepsOn}
use Rattle.ac_objects.specs.RootFree.{NoRootAmong}
use Rattle.ac_objects.specs.Visited.{visited, AgreesThere, TellsCount, TellsFirst, TellsNext, element_there, AsksElement}
use Rattle.ac_objects.specs.World.{InMemory, in_rows, in_holder, in_queue, held_in, AgreesIn}
use Rattle.ac_objects.proofs.Given.{none_among}
use Rattle.ac_objects.proofs.Memory.{none_in}

pub agrees_there : (m : InMemory) (at : Cursor) → AgreesIn m at → AgreesThere at (visited m)
agrees_there (in_rows kind l) at agrees = agrees
agrees_there (in_holder e h) at agrees = tt
agrees_there (in_queue number q) at agrees = tt

pub count_told : (m : InMemory) (count : ℕ) → TellsCount (visited m) count → count ≡ nodes_of (held_in m)
count_told (in_rows kind l) count told = told ∙ sym (length-map l.object.rows plain_row)
count_told (in_holder e h) count told = told
count_told (in_queue number q) count told = told

-- The element at a cursor

pub element_told : (m : InMemory) (at : Cursor) → element_there at (visited m) ≡ element_value (held_in m) (plain_mark at)
element_told (in_rows kind l) at = refl
element_told (in_holder e h) at = refl
element_told (in_queue number q) at = refl

pub can_copy : (m : InMemory) (at : Cursor) → AgreesIn m at → (element_value (held_in m) (plain_mark at)).reason ≡ None → AsksElement at (visited m)
can_copy (in_rows kind l) at agrees stands = record { agrees = agrees; stands = stands }
can_copy (in_holder e h) at agrees stands = record { agrees = tt; stands = stands }
can_copy (in_queue number q) at agrees stands = tt

-- Where a loop begins

no_number : (number : ℕ) (c : Cursor) → c ≡ cursor.NoElement → HasNumber number c
no_number number c none = rw none tt

none_agrees : (m : InMemory) (c : Cursor) → c ≡ cursor.NoElement → AgreesIn m c
none_agrees m c none = rw none (none_in m)

none_marked : (backward : Bool) (number : ℕ) (c : Cursor) → c ≡ cursor.NoElement → plain_mark c ≡ first_mark number (in_order backward [])
none_marked false number c none = ap plain_mark none
none_marked true number c none = ap plain_mark none

module _ (backward : Bool) (c : Cursor) where
  pub first_number : (m : InMemory) → TellsFirst backward (visited m) c → HasNumber (number_of (held_in m)) c
  first_number (in_rows kind l) told = told.0.number
  first_number (in_holder e h) told = no_number h.number c told
  first_number (in_queue number q) told = no_number number c told

  pub first_agrees : (m : InMemory) → TellsFirst backward (visited m) c → AgreesIn m c
  first_agrees (in_rows kind l) told = told.0.agrees
  first_agrees (in_holder e h) told = tt
  first_agrees (in_queue number q) told = tt

  pub first_named : (m : InMemory) → TellsFirst backward (visited m) c → NoRootAmong (names_of (held_in m))
  first_named (in_rows kind l) told = told.1
  first_named (in_holder e h) told = none_among
  first_named (in_queue number q) told = none_among

  pub first_marked : (m : InMemory) → TellsFirst backward (visited m) c →
      plain_mark c ≡ first_mark (number_of (held_in m)) (in_order backward (names_of (held_in m)))
  first_marked (in_rows kind l) told = told.2
  first_marked (in_holder e h) told = none_marked backward h.number c told
  first_marked (in_queue number q) told = none_marked backward number c told

-- Where it goes on

no_names : (before : List ℕ) (name : ℕ) (after : List ℕ) → [] ≡ before ++ name ∷ after → ⊥
no_names [] name after is = cc
no_names (b ∷ before) name after is = cc

no_turn : (backward : Bool) (before : List ℕ) (name : ℕ) (after : List ℕ) → in_order backward [] ≡ before ++ name ∷ after → ⊥
no_turn false before name after is = no_names before name after is
no_turn true before name after is = no_names before name after is

module _ (backward : Bool) (at c : Cursor) where
  pub next_number : (m : InMemory) → TellsNext backward at (visited m) c → HasNumber (number_of (held_in m)) c
  next_number (in_rows kind l) told = told.0.number
  next_number (in_holder e h) told = no_number h.number c told
  next_number (in_queue number q) told = no_number number c told

  pub next_agrees : (m : InMemory) → TellsNext backward at (visited m) c → AgreesIn m c
  next_agrees (in_rows kind l) told = told.0.agrees
  next_agrees (in_holder e h) told = tt
  next_agrees (in_queue number q) told = tt

  pub next_steps : (m : InMemory) → TellsNext backward at (visited m) c → StepsOn backward (number_of (held_in m)) (names_of (held_in m)) at c
  next_steps (in_rows kind l) told before name after is stands = told.1 before name after is stands
  next_steps (in_holder e h) told before name after is stands = absurd (no_turn backward before name after is)
  next_steps (in_queue number q) told before name after is stands = absurd (no_turn backward before name after is)
