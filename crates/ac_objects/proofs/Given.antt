-- The cursors that an object gives are known.
use Rattle.std.proofs.Common.{◌≡◌, ◌==◌, ◌&&◌, ◌<◌, inl, inr, ℕ, Bool, true, false, not, List, [], ◌∷◌, get_or, slice_get, refl, sym, ap, subst, ◌∙◌, arith, eq-eqb, Some, if◌then◌else◌}
use Rattle.std.proofs.lemmas.Bool.{cases_lt}
use Rattle.std.proofs.lemmas.Option.{slice_get-get_or, same_Some}
use Rattle.ac_base.specs.declared.name.Name.{Name}
use Rattle.ac_base.specs.declared.cursor.Cursor.{Cursor}
use Rattle.ac_base.specs.declared.cursor.Cursor.TheVariants as cursor
use Rattle.ac_base.specs.Rows.{names}
use Rattle.ac_model.specs.Rows.{is_named}
use Rattle.ac_model.specs.Objects as model
use Rattle.ac_model.specs.Objects.{plain, IsValid}
use Rattle.ac_model.specs.Letters.{Mark, no_mark, mark_at, stale_mark, is_among}
use Rattle.ac_model.specs.Calls.{Marks}
use Rattle.ac_model.specs.Cursors.{plain_mark}
use Rattle.ac_calls.specs.Holdings.{number_of}
use Rattle.ac_meaning.proofs.NumbersApart.{numbers_tell, is_there}
use Rattle.ac_meaning.proofs.Walks.{named_there}
use Rattle.ac_objects.specs.declared.object.Object.{Object}
use Rattle.ac_objects.specs.declared.bound.Bound.{Bound}
use Rattle.ac_objects.specs.declared.bound.Bound.TheVariants as bound
use Rattle.ac_calls.specs.Arguments.{SlotAgrees}
use Rattle.ac_calls.proofs.NoRoot.{named_among, counted, no_root}
use Rattle.ac_objects.specs.Given.{HasNumber, GivenBy, IsGiven}
use Rattle.ac_objects.specs.RootFree.{NoRootAmong}
use Rattle.ac_objects.specs.World.{World, Counters, world, held_of, state_of, ObjectAgrees, BoundAgrees, IsKnown, IsSound, memory_of}
use Rattle.ac_objects.proofs.Memory.{none_in, other_in, agrees_if_own}
use Rattle.ac_objects.proofs.InScope.{object_there}

abbrev pub is_stale : Mark → Bool
is_stale no_mark = false
is_stale (mark_at object name) = false
is_stale (stale_mark object) = true

-- a mark that isn't stale shows that the name is there
among_or_not : (own among : Bool) (object : ℕ) (x y : Mark) → is_stale y ≡ false → (if own && not among then stale_mark object else x) ≡ y →
    own ≡ true → among ≡ true
among_or_not true true object x y s e t = refl
among_or_not true false object x y s e t = absurd (cc (ap is_stale e, s))
among_or_not false among object x y s e t = absurd (cc)

unstale : (t : Bool) (object : ℕ) (x y : Mark) → is_stale y ≡ false → (if t then stale_mark object else x) ≡ y → x ≡ y
unstale true object x y s e = absurd (cc (ap is_stale e, s))
unstale false object x y s e = e

pub none_among : NoRootAmong []
none_among [] name after e zero = cc
none_among (x ∷ before) name after e zero = cc

module _ {V : Type 0} where
  below_next : (o : model.Object ℕ V) (n : ℕ) → IsValid o → is_named o.rows n ≡ true → n < o.next
  below_next o n v h = elim (cases_lt n o.next) [ inl below ↦ below | inr above ↦ absurd (omega (arith, counted n o.rows h, v.names_below_next n above)) ]

  pub no_root_among : (o : model.Object ℕ V) → IsValid o → NoRootAmong (names o.rows)
  no_root_among o v before name after e zero = no_root o name v (named_there o.rows before name after e) zero

  agrees_marked : (o : model.Object Name V) (c : Cursor) (m : Mark) → IsValid (plain o) → is_stale m ≡ false → Marks o c m → SlotAgrees o c
  agrees_marked o cursor.NoElement m v fresh marks = tt
  agrees_marked o (cursor.At object name) m v fresh marks = λ e.
      let among = among_or_not (object == o.number) (is_among (names o.rows) name) object (mark_at object name.serial) m fresh marks (eq-eqb object o.number e) in
      let named = named_among name o.rows among in (
        λ zero. absurd (no_root (plain o) name.serial v named zero),
        record { given = below_next (plain o) name.serial v named; slot = λ _. among },
      )

  pub mark_is : (o : model.Object Name V) (c : Cursor) (m : Mark) → is_stale m ≡ false → Marks o c m → plain_mark c ≡ m
  mark_is o cursor.NoElement m fresh marks = marks
  mark_is o (cursor.At object name) m fresh marks =
      unstale ((object == o.number) && not (is_among (names o.rows) name)) object (mark_at object name.serial) m fresh marks

-- the mark is none, or one of the object with this number
abbrev pub IsOf : ℕ → Mark → Type 0
IsOf number no_mark = Unit {0}
IsOf number (mark_at object name) = object ≡ number
IsOf number (stale_mark object) = ⊥

of_is_fresh : (number : ℕ) (m : Mark) → IsOf number m → is_stale m ≡ false
of_is_fresh number no_mark h = refl
of_is_fresh number (mark_at object name) h = refl
of_is_fresh number (stale_mark object) h = absurd h

has_number : (number : ℕ) (c : Cursor) → IsOf number (plain_mark c) → HasNumber number c
has_number number cursor.NoElement h = tt
has_number number (cursor.At object name) h = h

-- so a cursor with such a mark is the object's own
pub given_by : {V : Type 0} (o : model.Object Name V) (c : Cursor) (m : Mark) → IsValid (plain o) → IsOf o.number m → Marks o c m → GivenBy o c
given_by o c m v is marks =
    let e = mark_is o c m (of_is_fresh o.number m is) marks in
    record {
      number = has_number o.number c (subst (IsOf o.number) (sym e) is);
      agrees = agrees_marked o c m v (of_is_fresh o.number m is) marks;
    }

pub marked_by : {V : Type 0} (o : model.Object Name V) (c : Cursor) (m : Mark) → IsOf o.number m → Marks o c m → plain_mark c ≡ m
marked_by o c m is marks = mark_is o c m (of_is_fresh o.number m is) marks

-- With no other object in scope does its number stand

pub other_agrees : (o : Object) (object : ℕ) (name : Name) → (object ≡ number_of (held_of o) → ⊥) → ObjectAgrees o (cursor.At object name)
other_agrees o object name differ = other_in (memory_of o) object name differ

agrees_if : (o : Object) (object : ℕ) (name : Name) → (object ≡ number_of (held_of o) → ObjectAgrees o (cursor.At object name)) →
    ObjectAgrees o (cursor.At object name)
agrees_if o object name f = agrees_if_own (memory_of o) object name f

pub none_agrees : (b : Bound) → BoundAgrees b cursor.NoElement
none_agrees bound.Type = tt
none_agrees (bound.Object o) = none_in (memory_of o)
none_agrees (bound.Cursor c) = tt
none_agrees (bound.Value v) = tt
none_agrees (bound.Element object at) = tt

module _ (bounds : List Bound) (next : Counters) (place : ℕ) (o : Object) (there : slice_get bounds place ≡ Some (bound.Object o)) (sound : IsSound (world bounds next)) where
  number_below : number_of (held_of o) < next.next
  number_below =
      let e = state_of (world bounds next) in
      elim (cases_lt (number_of (held_of o)) next.next) [
        | inl below ↦ below
        | inr above ↦ absurd (omega (
          arith,
          is_there e.bounds place (held_of o) (object_there bounds next place o there),
          sound.numbers_differ.below_next (number_of (held_of o)) above,
        ))
      ]

  same_object : (i : ℕ) (b : Bound) (object : ℕ) (name : Name) → slice_get bounds i ≡ Some b → object ≡ number_of (held_of o) →
      ObjectAgrees o (cursor.At object name) → BoundAgrees b (cursor.At object name)
  same_object i bound.Type object name at same agrees = tt
  same_object i (bound.Object other) object name at same agrees = agrees_if other object name (λ e.
      let one = numbers_tell (state_of (world bounds next)) place i (held_of o) (held_of other) sound.numbers_differ
      (object_there bounds next place o there) (object_there bounds next i other at) (sym same ∙ e) in
      let is : bound.Object o ≡ bound.Object other = same_Some (bound.Object o) (bound.Object other) (sym there ∙ (ap (slice_get bounds) one ∙ at)) in
      subst (λ b. BoundAgrees b (cursor.At object name)) is agrees)
  same_object i (bound.Cursor c) object name at same agrees = tt
  same_object i (bound.Value v) object name at same agrees = tt
  same_object i (bound.Element p c) object name at same agrees = tt

  pub given_known : (c : Cursor) → IsGiven o c → IsKnown (world bounds next) c
  given_known cursor.NoElement given = record { made = tt; agrees = λ i d h. none_agrees (get_or bounds i d) }
  given_known (cursor.At object name) given = record {
    made = subst (λ n. n < next.next) (sym given.number) number_below;
    agrees = λ i d h. same_object i (get_or bounds i d) object name (slice_get-get_or bounds i d h) given.number given.agrees;
  }

-- so it is of what is found at a place
pub found_known : (w : World) (place : ℕ) (o : Object) (c : Cursor) → slice_get w.bounds place ≡ Some (bound.Object o) → IsSound w → IsGiven o c → IsKnown w c
found_known w place o c there sound given = given_known w.bounds w.counters place o there sound c given
