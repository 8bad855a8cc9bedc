-- Where a loop stands in a list, and where it goes on.
use Rattle.std.proofs.Common.{◌≡◌, ◌==◌, ◌&&◌, ◌-◌, ◌+◌, ◌++◌, ℕ, zero, suc, Bool, true, false, not, List, [], ◌∷◌, length, reverse, slice_get, refl, sym, ap, ◌∙◌, arith, eq-eqb, Option, Some, None, Err, if◌then◌else◌}
use Rattle.std.proofs.lemmas.List.{reverse-append}
use Rattle.std.proofs.lemmas.Option.{none-some}
use Rattle.ac_base.specs.declared.reason.Reason.{Reason}
use Rattle.ac_base.specs.declared.reason.Reason.TheVariants.{ForeignCursor, DeadCursor}
use Rattle.ac_base.specs.declared.cursor.Cursor.{Cursor}
use Rattle.ac_base.specs.declared.fault.Fault.{Fault}
use Rattle.ac_base.specs.declared.fault.Fault.TheVariants as faults
use Rattle.ac_base.specs.declared.name.Name.{Name}
use Rattle.ac_base.specs.FirstReason.{first_reason}
use Rattle.ac_base.specs.Rows.{Row, names}
use Rattle.ac_model.specs.Rows.{is_named}
use Rattle.ac_model.specs.Objects.{Object, plain, IsValid}
use Rattle.ac_model.specs.Letters.{Mark, no_mark, mark_at, stale_mark, mark_for, mark_in, reason_if, is_no_mark, place_at}
use Rattle.ac_model.specs.Calls.{Look, look, Looking, Marks}
use Rattle.ac_model.specs.Cursors.{mark, plain_mark, seen}
use Rattle.ac_model.specs.Sequences.{first_call, last_call, mark_before}
use Rattle.ac_model.proofs.Unslotted.{seen_marks}
use Rattle.ac_meaning.specs.Execution.{in_order}
use Rattle.ac_meaning.specs.Walks.{step_call, first_mark}
use Rattle.ac_meaning.proofs.Walks.{walks}
use Rattle.ac_calls.specs.Arguments.{SlotAgrees}
use Rattle.ac_objects.specs.Given.{GivenBy}
use Rattle.ac_calls.proofs.Made.{slot_agrees}
use Rattle.ac_objects.proofs.Given.{IsOf, given_by, marked_by}

-- marks of one object

for_of : {V : Type 0} (number : ℕ) (r : Option (Row ℕ V)) → IsOf number (mark_for number r)
for_of number None = tt
for_of number (Some r) = refl

before_of : {V : Type 0} (o : Object ℕ V) (place : ℕ) → IsOf o.number (mark_before o place)
before_of o zero = tt
before_of o (suc place) = for_of o.number (slice_get o.rows place)

if_of : (number : ℕ) (b : Bool) (m n : Mark) → IsOf number m → IsOf number n → IsOf number (if b then m else n)
if_of number true m n h k = h
if_of number false m n h k = k

step_of : {V : Type 0} (backward : Bool) (o : Object ℕ V) (c : Mark) → IsOf o.number (step_call backward o c).answer
step_of false o c = if_of o.number (is_no_mark c) no_mark (mark_in o (place_at o.rows c + 1)) tt (for_of o.number (slice_get o.rows (place_at o.rows c + 1)))
step_of true o c = if_of o.number (is_no_mark c) no_mark (mark_before o (place_at o.rows c)) tt (before_of o (place_at o.rows c))

-- the first of a loop

abbrev pub start_call : {V : Type 0} → Bool → Object ℕ V → Mark
start_call false o = first_call o
start_call true o = last_call o

front : {V : Type 0} (number : ℕ) (rows : List (Row ℕ V)) → mark_for number (slice_get rows 0) ≡ first_mark number (names rows)
front number [] = refl
front number (r ∷ rows) = refl

first_append : (number : ℕ) (xs : List ℕ) (x : ℕ) (ys : List ℕ) → first_mark number ((xs ++ x ∷ []) ++ ys) ≡ first_mark number (xs ++ x ∷ [])
first_append number [] x ys = refl
first_append number (y ∷ xs) x ys = refl

back : {V : Type 0} (number : ℕ) (rows : List (Row ℕ V)) → mark_for number (slice_get rows (length rows - 1)) ≡ first_mark number (reverse (names rows))
back number [] = refl
back number (r ∷ []) = refl
back number (r ∷ s ∷ rows) =
    let one : suc (suc (length rows)) - 1 ≡ suc (length rows) = omega arith in
    let two : suc (length rows) - 1 ≡ length rows = omega arith in
    let behind : reverse (names (r ∷ s ∷ rows)) ≡ reverse (names (s ∷ rows)) ++ r.name ∷ [] = reverse-append (r.name ∷ []) (names (s ∷ rows)) in
    let last : reverse (names (s ∷ rows)) ≡ reverse (names rows) ++ s.name ∷ [] = reverse-append (s.name ∷ []) (names rows) in
    ap (λ n. mark_for number (slice_get (r ∷ s ∷ rows) n)) one
    ∙ (ap (λ n. mark_for number (slice_get (s ∷ rows) n)) (sym two)
    ∙ (back number (s ∷ rows)
    ∙ (ap (first_mark number) last
    ∙ (sym (first_append number (reverse (names rows)) s.name (r.name ∷ []))
    ∙ (ap (λ xs. first_mark number (xs ++ r.name ∷ [])) (sym last)
    ∙ ap (first_mark number) (sym behind))))))

start_is : {V : Type 0} (backward : Bool) (o : Object ℕ V) → start_call backward o ≡ first_mark o.number (in_order backward (names o.rows))
start_is false o = front o.number o.rows
start_is true o = back o.number o.rows

start_of : {V : Type 0} (backward : Bool) (o : Object ℕ V) → IsOf o.number (start_call backward o)
start_of false o = for_of o.number (slice_get o.rows 0)
start_of true o = for_of o.number (slice_get o.rows (length o.rows - 1))

pub start_given : {V : Type 0} (backward : Bool) (o : Object Name V) (c : Cursor) → IsValid (plain o) → Marks o c (start_call backward (plain o)) → GivenBy o c
start_given backward o c v marks = given_by o c (start_call backward (plain o)) v (start_of backward (plain o)) marks

pub start_marks : {V : Type 0} (backward : Bool) (o : Object Name V) (c : Cursor) → Marks o c (start_call backward (plain o)) →
    plain_mark c ≡ first_mark o.number (in_order backward (names (plain o).rows))
start_marks backward o c marks = marked_by o c (start_call backward (plain o)) (start_of backward (plain o)) marks ∙ start_is backward (plain o)

-- and the next

there : (t b : Bool) → t ≡ true → first_reason ((if t then reason_if (not b) DeadCursor else Some ForeignCursor) ∷ []) ≡ None → b ≡ true
there true true h e = refl
there true false h e = absurd (none-some DeadCursor (sym e))
there false b h e = absurd (cc)

is_there : {V : Type 0} (backward : Bool) (o : Object ℕ V) (name : ℕ) → (step_call backward o (mark_at o.number name)).reason ≡ None →
    is_named o.rows name ≡ true
is_there false o name e = there (o.number == o.number) (is_named o.rows name) (eq-eqb o.number o.number refl) e
is_there true o name e = there (o.number == o.number) (is_named o.rows name) (eq-eqb o.number o.number refl) e

not_stale : (t b : Bool) (m n : Mark) → b ≡ true → (if t && not b then m else n) ≡ n
not_stale true true m n h = refl
not_stale true false m n h = absurd (cc)
not_stale false b m n h = refl

module _ {V : Type 0} (o : Object Name V) (backward : Bool) (at : Cursor) (agrees : SlotAgrees o at) (valid : IsValid (plain o)) where
  seen_there : (name : ℕ) → plain_mark at ≡ mark_at o.number name → is_named (plain o).rows name ≡ true → mark o at ≡ mark_at o.number name
  seen_there name e named =
      seen_marks o at (slot_agrees o at agrees)
      ∙ (ap (seen (plain o)) e ∙ not_stale (o.number == o.number) (is_named (plain o).rows name) (stale_mark o.number) (mark_at o.number name) named)

  pub next_given : (c : Cursor) → Marks o c (step_call backward (plain o) (mark o at)).answer → GivenBy o c
  next_given c marks = given_by o c (step_call backward (plain o) (mark o at)).answer valid (step_of backward (plain o) (mark o at)) marks

  module _ (before : List ℕ) (name : ℕ) (after : List ℕ) (e : in_order backward (names (plain o).rows) ≡ before ++ name ∷ after)
      (stands : plain_mark at ≡ mark_at o.number name) where
    goes : step_call backward (plain o) (mark o at) ≡ look None (first_mark o.number after)
    goes =
        let w = walks (plain o) backward before name after valid e in
        ap (step_call backward (plain o)) (seen_there name stands (is_there backward (plain o) name (ap (λ (l : Look Mark). l.reason) w))) ∙ w

    pub next_marks : (c : Cursor) → Marks o c (step_call backward (plain o) (mark o at)).answer → plain_mark c ≡ first_mark o.number after
    next_marks c marks =
        marked_by o c (step_call backward (plain o) (mark o at)).answer (step_of backward (plain o) (mark o at)) marks
        ∙ ap (λ (l : Look Mark). l.answer) goes

    pub next_goes : (reason : Reason) → (step_call backward (plain o) (mark o at)).reason ≡ Some reason → ⊥
    next_goes reason r = none-some reason (sym (ap (λ (l : Look Mark). l.reason) goes) ∙ r)

    pub err_never : (fault : Fault) → Looking (Marks o) (step_call backward (plain o) (mark o at)) (Err fault) → ⊥
    err_never (faults.Raised reason) refused = next_goes reason refused
    err_never faults.NoMemory refused = refused
