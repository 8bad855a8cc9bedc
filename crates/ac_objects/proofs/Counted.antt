-- A guard more and a guard less on an object of a script.
use Rattle.std.proofs.Common.{◌≡◌, ◌<◌, ℕ, List, length, get_or, set, slice_get, refl, sym, ap, subst, ◌∙◌, Option, Some, false}
use Rattle.std.specs.Option.{ForSome}
use Rattle.std.proofs.lemmas.List.{take-map}
use Rattle.std.proofs.lemmas.Option.{same_Some, slice_get_read}
use Rattle.ac_base.specs.declared.guard.GuardKind.{GuardKind}
use Rattle.ac_base.specs.declared.guard.GuardKind.TheVariants as guard
use Rattle.ac_base.specs.Guards.{HeldGuard, GuardCounts, count_of, one_more, one_less, raised_kind}
use Rattle.ac_base.specs.declared.limit.Limit.TheVariants.{Unbounded}
use Rattle.ac_model.specs.Common.{hold_call, release_call}
use Rattle.ac_model.specs.Objects.{empty_object}
use Rattle.ac_syntax.specs.declared.kind.ElemKind.TheVariants.{Integer}
use Rattle.ac_calls.specs.Holdings.{Held, of_rows, a_sequence, of_list, number_of, is_a_set, guard_on, with_rows_by}
use Rattle.ac_meaning.specs.Environment.{State, binds_object, bound_by, with_bound, object_at, objects_by, leaving}
use Rattle.ac_meaning.specs.UnderGuards.{held_with, held_without}
use Rattle.ac_meaning.proofs.OnePlace.{guards_are_on_one_object}
use Rattle.ac_objects.specs.declared.object.Object.{Object}
use Rattle.ac_objects.specs.declared.bound.Bound.{Bound}
use Rattle.ac_objects.specs.declared.bound.Bound.TheVariants as bound
use Rattle.ac_objects.specs.Blocks.{IsHeldAt}
use Rattle.ac_objects.specs.Counts.{with_counts, memory_counted}
use Rattle.ac_objects.specs.Standing.{counts_in_held}
use Rattle.ac_objects.specs.World.{World, Counters, world, memory_of, held_in, held_of, AgreesIn, state_of, IsSound, Persists}
use Rattle.ac_objects.proofs.Memory.{own_number_in, number_counted, agrees_counted, more_in, less_in}
use Rattle.ac_objects.proofs.InScope.{GoesOn, object_there, set_state, set_object, set_sound, set_persists, within, left_object}

abbrev counts_in : Object → GuardCounts
counts_in o = counts_in_held (held_of o)

-- its number stays, and the names in its rows
pub counts_go_on : (o : Object) (counts : GuardCounts) → counts.number ≡ number_of (held_of o) → GoesOn o (with_counts o counts)
counts_go_on o counts same = record {
  number = ap (λ m. number_of (held_in m)) (memory_counted o counts) ∙ number_counted (memory_of o) counts same;
  agrees = λ c agrees. subst (λ m. AgreesIn m c) (sym (memory_counted o counts)) (agrees_counted (memory_of o) counts c same agrees);
}

more_number : (kind : GuardKind) (counts : GuardCounts) → (one_more kind counts).number ≡ counts.number
more_number guard.Cursors counts = refl
more_number guard.Elements counts = refl

less_number : (kind : GuardKind) (counts : GuardCounts) → (one_less kind counts).number ≡ counts.number
less_number guard.Cursors counts = refl
less_number guard.Elements counts = refl

pub own_number : (o : Object) → (counts_in o).number ≡ number_of (held_of o)
own_number o = own_number_in (memory_of o)

-- the object with one guard more, and with one less

abbrev pub with_one_more : Object → GuardKind → Object
with_one_more o kind = with_counts o (one_more kind (counts_in o))

abbrev pub with_one_less : Object → GuardKind → Object
with_one_less o kind = with_counts o (one_less kind (counts_in o))

pub more_goes_on : (o : Object) (kind : GuardKind) → GoesOn o (with_one_more o kind)
more_goes_on o kind = counts_go_on o (one_more kind (counts_in o)) (more_number kind (counts_in o) ∙ own_number o)

pub less_goes_on : (o : Object) (kind : GuardKind) → GoesOn o (with_one_less o kind)
less_goes_on o kind = counts_go_on o (one_less kind (counts_in o)) (less_number kind (counts_in o) ∙ own_number o)

more_held : (o : Object) (kind : GuardKind) →
    held_of (with_one_more o (raised_kind (is_a_set (held_of o)) kind)) ≡ with_rows_by (λ V p. hold_call (is_a_set (held_of o)) kind p) (held_of o)
more_held o kind =
    ap held_in (memory_counted o (one_more (raised_kind (is_a_set (held_of o)) kind) (counts_in o))) ∙ more_in (memory_of o) kind

pub less_held : (o : Object) (kind : GuardKind) → held_of (with_one_less o kind) ≡ with_rows_by (λ V p. release_call false kind p) (held_of o)
less_held o kind = ap held_in (memory_counted o (one_less kind (counts_in o))) ∙ less_in (memory_of o) kind

-- an object that isn't a set, with this number: on it a guard is of the kind that was asked for
abbrev pub no_set : ℕ → Held
no_set number = of_rows (a_sequence of_list Integer) (empty_object false number Unbounded)

own_guard : (o : Object) (g : HeldGuard) → g.object ≡ number_of (held_of o) → g ≡ guard_on (no_set (number_of (held_of o))) g.kind
own_guard o g e = λ i. record { object = e i; kind = g.kind }

module _ (bounds : List Bound) (next : Counters) (place : ℕ) (o : Object) (there : slice_get bounds place ≡ Some (bound.Object o)) where
  -- what stands at the place is the object
  pub is_held : (h : Held) → object_at (state_of (world bounds next)) place ≡ Some h → held_of o ≡ h
  is_held h e = same_Some (held_of o) h (sym (object_there bounds next place o there) ∙ e)

  pub held_state : (kind : GuardKind) → IsSound (world bounds next) →
      state_of (world (set bounds place (bound.Object (with_one_more o (raised_kind (is_a_set (held_of o)) kind)))) next)
      ≡ objects_by (held_with (guard_on (held_of o) kind)) (state_of (world bounds next))
  held_state kind sound =
      let now = with_one_more o (raised_kind (is_a_set (held_of o)) kind) in
      let e = state_of (world bounds next) in
      set_state bounds next place o now there (more_goes_on o (raised_kind (is_a_set (held_of o)) kind))
      ∙ (ap (λ h. with_bound e place (binds_object h)) (more_held o kind)
      ∙ sym (guards_are_on_one_object.held e place (held_of o) kind sound.numbers_differ (object_there bounds next place o there)))

  pub held_object : (kind : GuardKind) →
      object_at (state_of (world (set bounds place (bound.Object (with_one_more o (raised_kind (is_a_set (held_of o)) kind)))) next)) place
      ≡ Some (with_rows_by (λ V p. hold_call (is_a_set (held_of o)) kind p) (held_of o))
  held_object kind =
      let now = with_one_more o (raised_kind (is_a_set (held_of o)) kind) in
      set_object bounds next place o now there (more_goes_on o (raised_kind (is_a_set (held_of o)) kind)) ∙ ap Some (more_held o kind)

  module _ (g : HeldGuard) (held : IsHeldAt (state_of (world bounds next)) place g) where
    pub is_own : g.object ≡ number_of (held_of o)
    is_own = held.own ∙ ap number_of (sym (is_held held.held held.there))

    pub is_counted : 0 < count_of g.kind (counts_in_held (held_of o))
    is_counted = subst (λ h. 0 < count_of g.kind (counts_in_held h)) (sym (is_held held.held held.there)) held.counted

    pub released_state : IsSound (world bounds next) →
        state_of (world (set bounds place (bound.Object (with_one_less o g.kind))) next) ≡ objects_by (held_without g) (state_of (world bounds next))
    released_state sound =
        let e = state_of (world bounds next) in
        set_state bounds next place o (with_one_less o g.kind) there (less_goes_on o g.kind)
        ∙ (ap (λ h. with_bound e place (binds_object h)) (less_held o g.kind)
        ∙ (sym (guards_are_on_one_object.released e place (no_set (number_of (held_of o))) (held_of o) g.kind sound.numbers_differ (object_there bounds next place o there) refl)
        ∙ ap (λ k. objects_by (held_without k) e) (sym (own_guard o g is_own))))

-- What the code does to the object that it reads at a place of the world

module _ (w : World) (bounds : List Bound) (next : Counters) (place : ℕ) (x : Bound) (o : Object) (view : world bounds next ≡ w) (sound : IsSound (world bounds next))
    (read : x ≡ get_or bounds place x) (is : x ≡ bound.Object o) (k : Held) (stands : object_at (state_of w) place ≡ Some k) where
  pub object_read : slice_get bounds place ≡ Some (bound.Object o)
  object_read =
      slice_get_read bounds (length bounds) place x refl
      (within bounds next place k (subst (λ v. object_at (state_of v) place ≡ Some k) (sym view) stands)) read
      ∙ ap Some is

  module _ (kind : GuardKind) (key : HeldGuard) (now : Object) (object_is : key.object ≡ (counts_in o).number)
      (kind_is : key.kind ≡ raised_kind (is_a_set (held_of o)) kind) (now_is : now ≡ with_one_more o key.kind) where
    now_held : now ≡ with_one_more o (raised_kind (is_a_set (held_of o)) kind)
    now_held = now_is ∙ ap (with_one_more o) kind_is

    pub hold_sound : IsSound (world (set bounds place (bound.Object now)) next)
    hold_sound = subst (λ n. IsSound (world (set bounds place (bound.Object n)) next)) (sym now_held)
        (set_sound bounds next place o (with_one_more o (raised_kind (is_a_set (held_of o)) kind)) object_read
        (more_goes_on o (raised_kind (is_a_set (held_of o)) kind)) sound)

    pub hold_persists : Persists w (world (set bounds place (bound.Object now)) next)
    hold_persists = subst (λ v. Persists v (world (set bounds place (bound.Object now)) next)) view
        (subst (λ n. Persists (world bounds next) (world (set bounds place (bound.Object n)) next)) (sym now_held)
        (set_persists bounds next place o (with_one_more o (raised_kind (is_a_set (held_of o)) kind)) object_read
        (more_goes_on o (raised_kind (is_a_set (held_of o)) kind))))

    own_key : key ≡ guard_on (held_of o) kind
    own_key = λ i. record { object = (object_is ∙ own_number o) i; kind = kind_is i }

    pub hold_state : (h : Held) → object_at (state_of w) place ≡ Some h →
        (key ≡ guard_on h kind)
        × (state_of (world (set bounds place (bound.Object now)) next) ≡ objects_by (held_with (guard_on h kind)) (state_of w))
        × (object_at (state_of (world (set bounds place (bound.Object now)) next)) place ≡ Some (with_rows_by (λ V p. hold_call (is_a_set h) kind p) h))
    hold_state h at =
        let same : held_of o ≡ h = is_held bounds next place o object_read h (subst (λ v. object_at (state_of v) place ≡ Some h) (sym view) at) in
        let moved : Held → Object → Type 0 = λ a n.
        (key ≡ guard_on a kind)
        × (state_of (world (set bounds place (bound.Object n)) next) ≡ objects_by (held_with (guard_on a kind)) (state_of w))
        × (object_at (state_of (world (set bounds place (bound.Object n)) next)) place ≡ Some (with_rows_by (λ V p. hold_call (is_a_set a) kind p) a)) in
        subst (λ a. moved a now) same
        (subst (λ n. moved (held_of o) n) (sym now_held) (
          own_key,
          held_state bounds next place o object_read kind sound ∙ ap (λ v. objects_by (held_with (guard_on (held_of o) kind)) (state_of v)) view,
          held_object bounds next place o object_read kind,
        ))

  module _ (key : HeldGuard) (now : Object) (held : IsHeldAt (state_of w) place key) (now_is : now ≡ with_one_less o key.kind) where
    still : (g : HeldGuard) → IsHeldAt (state_of w) place g → IsHeldAt (state_of (world bounds next)) place g
    still g h = subst (λ v. IsHeldAt (state_of v) place g) (sym view) h

    pub release_sound : IsSound (world (set bounds place (bound.Object now)) next)
    release_sound = subst (λ n. IsSound (world (set bounds place (bound.Object n)) next)) (sym now_is)
        (set_sound bounds next place o (with_one_less o key.kind) object_read (less_goes_on o key.kind) sound)

    pub release_persists : Persists w (world (set bounds place (bound.Object now)) next)
    release_persists = subst (λ v. Persists v (world (set bounds place (bound.Object now)) next)) view
        (subst (λ n. Persists (world bounds next) (world (set bounds place (bound.Object n)) next)) (sym now_is)
        (set_persists bounds next place o (with_one_less o key.kind) object_read (less_goes_on o key.kind)))

    pub release_state : state_of (world (set bounds place (bound.Object now)) next) ≡ objects_by (held_without key) (state_of w)
    release_state =
        ap (λ n. state_of (world (set bounds place (bound.Object n)) next)) now_is
        ∙ (released_state bounds next place o object_read key (still key held) sound
        ∙ ap (λ v. objects_by (held_without key) (state_of v)) view)

-- a guard on an object below the names that go
pub held_left : (e now : State) (count place : ℕ) (g : HeldGuard) → now ≡ leaving count e → place < count → IsHeldAt e place g → IsHeldAt now place g
held_left e now count place g is below held = subst (λ s. IsHeldAt s place g) (sym is) (record {
  held = held.held;
  there = left_object e count place below ∙ held.there;
  own = held.own;
  counted = held.counted;
})

pub any_held_left : (e now : State) (count place : ℕ) (guard : Option HeldGuard) → now ≡ leaving count e → place < count →
    ForSome guard (λ g. IsHeldAt e place g) → ForSome guard (λ g. IsHeldAt now place g)
any_held_left e now count place guard is below held g at = held_left e now count place g is below (held g at)

-- what is done to each object is done to those that stay
pub objects_leaving : (f : Held → Held) (count : ℕ) (e : State) → objects_by f (leaving count e) ≡ leaving count (objects_by f e)
objects_leaving f count e = λ i. record e { bounds = sym (take-map (bound_by f) count e.bounds) i }
