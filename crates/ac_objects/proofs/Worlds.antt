-- Environments in memory, where one name holds something else.
use Rattle.std.proofs.Common.{◌≡◌, ◌==◌, ◌+◌, ◌<◌, ◌≤◌, ℕ, List, [], ◌∷◌, map, slice_get, slice_set, refl, sym, ap, subst, ◌∙◌, arith, option_map, Option, Some, None, if◌then◌else◌}
use Rattle.ac_base.specs.declared.cursor.Cursor.{Cursor}
use Rattle.ac_base.specs.declared.cursor.Cursor.TheVariants as cursor
use Rattle.ac_base.specs.declared.name.Name.{Name}
use Rattle.ac_meaning.specs.Environment as meant
use Rattle.ac_meaning.specs.Environment.{State, binds_type, binds_object, binds_cursor, binds_value, binds_element, object_at, object_in, bound_in, bound_at, with_bound}
use Rattle.ac_calls.specs.Holdings.{Held, of_rows, of_holder, of_queue, number_of}
use Rattle.ac_meaning.specs.Numbers.{has_number, times_numbered, NumbersDiffer}
use Rattle.ac_meaning.proofs.CallsStay.{none_some}
use Rattle.ac_meaning.proofs.NumbersApart.{is_there, numbers_tell}
use Rattle.ac_objects.specs.declared.bound.Bound.{Bound}
use Rattle.ac_objects.specs.declared.bound.Bound.TheVariants as bound
use Rattle.ac_objects.specs.declared.object.Object.{Object}
use Rattle.ac_objects.specs.Called.{IsFound, Lasts}
use Rattle.ac_objects.specs.Standing.{HeldCounts, counts_in, counts_of}
use Rattle.ac_objects.specs.Steps.{Replaces, Advances}
use Rattle.ac_objects.specs.World.{World, Counters, world, state_of, bound_of, held_of, ObjectAgrees, BoundAgrees, IsKnown, IsSound, cursor_in, memory_of}
use Rattle.ac_objects.proofs.Memory.{none_in, agrees_if_own}
use Rattle.ac_meaning.proofs.Places.{same_some, all_at, all_set, all_by, map_set, map_get, map_same}

-- what is seen of a place

pub state_set : (bs : List Bound) (n : Counters) (i : ℕ) (b : Bound) → state_of (world (slice_set bs i b) n) ≡ with_bound (state_of (world bs n)) i (bound_of b)
state_set bs n i b = λ j. record { bounds = map_set bound_of bs i b j; next = n.next; blocks = n.blocks }

pub bound_there : (bs : List Bound) (n : Counters) (i : ℕ) (b : Bound) → slice_get bs i ≡ Some b → bound_at (state_of (world bs n)) i ≡ bound_of b
bound_there bs n i b e = ap bound_in (map_get bound_of bs i ∙ ap (option_map bound_of) e)

pub bound_past : (bs : List Bound) (n : Counters) (i : ℕ) → slice_get bs i ≡ None → bound_at (state_of (world bs n)) i ≡ binds_type
bound_past bs n i e = ap bound_in (map_get bound_of bs i ∙ ap (option_map bound_of) e)

pub object_there_in : (bs : List Bound) (n : Counters) (i : ℕ) (o : Object) → slice_get bs i ≡ Some (bound.Object o) →
    object_at (state_of (world bs n)) i ≡ Some (held_of o)
object_there_in bs n i o e = ap object_in (bound_there bs n i (bound.Object o) e)

-- an object that is seen stands there
pub record StandsIn (bs : List Bound) (i : ℕ) (h : Held) : Type 0 where
  pub object : Object
  pub there : slice_get bs i ≡ Some (bound.Object object)
  pub is_held : held_of object ≡ h

found_bound : (found : Option Bound) (h : Held) → object_in (bound_in (option_map bound_of found)) ≡ Some h →
    (o : Object) × (found ≡ Some (bound.Object o)) × (held_of o ≡ h)
found_bound None h e = none_some h e
found_bound (Some bound.Type) h e = none_some h e
found_bound (Some (bound.Object o)) h e = (o, refl, same_some (held_of o) h e)
found_bound (Some (bound.Cursor c)) h e = none_some h e
found_bound (Some (bound.Value v)) h e = none_some h e
found_bound (Some (bound.Element object at)) h e = none_some h e

pub stands_in : (bs : List Bound) (n : Counters) (i : ℕ) (h : Held) → object_at (state_of (world bs n)) i ≡ Some h → StandsIn bs i h
stands_in bs n i h e =
    let f = found_bound (slice_get bs i) h (ap (λ x. object_in (bound_in x)) (sym (map_get bound_of bs i)) ∙ e) in
    record { object = f.0; there = f.1; is_held = f.2 }

-- numbers are told by the counts

numbered : ℕ → Option HeldCounts → ℕ
numbered number None = 0
numbered number (Some c) = if c.guards.number == number then 1 else 0

all_numbered : ℕ → List (Option HeldCounts) → ℕ
all_numbered number [] = 0
all_numbered number (c ∷ cs) = numbered number c + all_numbered number cs

bound_numbered : (number : ℕ) (b : meant.Bound) → has_number number b ≡ numbered number (counts_in b)
unfolding numbered
bound_numbered number binds_type = refl
bound_numbered number (binds_object (of_rows kind o)) = refl
bound_numbered number (binds_object (of_holder e h)) = refl
bound_numbered number (binds_object (of_queue own q)) = refl
bound_numbered number (binds_cursor mark) = refl
bound_numbered number (binds_value v) = refl
bound_numbered number (binds_element object at) = refl

bounds_numbered : (number : ℕ) (bs : List meant.Bound) → times_numbered number bs ≡ all_numbered number (map counts_in bs)
unfolding all_numbered
bounds_numbered number [] = refl
bounds_numbered number (b ∷ bs) = λ i. bound_numbered number b i + bounds_numbered number bs i

pub numbers_by_counts : (e now : State) → now.next ≡ e.next → counts_of now ≡ counts_of e → NumbersDiffer e → NumbersDiffer now
numbers_by_counts e now next same d =
    let times : (number : ℕ) → times_numbered number now.bounds ≡ times_numbered number e.bounds =
    λ number. bounds_numbered number now.bounds ∙ (ap (all_numbered number) same ∙ sym (bounds_numbered number e.bounds)) in
    record {
      once = λ number. subst (λ t. t ≤ 1) (sym (times number)) (d.once number);
      below_next = λ number h. times number ∙ d.below_next number (subst (λ t. t ≤ number) next h);
    }

-- one name holds something else

counts_twice : (bs : List Bound) → map counts_in (map bound_of bs) ≡ map (λ b. counts_in (bound_of b)) bs
counts_twice [] = refl
counts_twice (b ∷ bs) = ap (λ gs. counts_in (bound_of b) ∷ gs) (counts_twice bs)

counts_set : (bs : List Bound) (i : ℕ) (old b : Bound) → slice_get bs i ≡ Some old → counts_in (bound_of b) ≡ counts_in (bound_of old) →
    map counts_in (map bound_of (slice_set bs i b)) ≡ map counts_in (map bound_of bs)
counts_set bs i old b there same =
    counts_twice (slice_set bs i b) ∙ (map_same (λ b. counts_in (bound_of b)) bs i old b there same ∙ sym (counts_twice bs))

known_set : (bs : List Bound) (n : Counters) (i : ℕ) (old b : Bound) (c : Cursor) → slice_get bs i ≡ Some old → Replaces old b → IsKnown (world bs n) c →
    IsKnown (world (slice_set bs i b) n) c
known_set bs n i old b c there r k = record {
  made = k.made;
  agrees = all_set (λ x. BoundAgrees x c) bs i b k.agrees (r.agrees c (all_at (λ x. BoundAgrees x c) bs i old k.agrees there));
}

pub set_advances : (bs : List Bound) (n : Counters) (i : ℕ) (old b : Bound) → IsSound (world bs n) → slice_get bs i ≡ Some old → Replaces old b →
    IsKnown (world bs n) (cursor_in b) → Advances (world bs n) (world (slice_set bs i b) n)
set_advances bs n i old b sound there r known =
    let counts = counts_set bs i old b there r.counts in
    let now = world (slice_set bs i b) n in
    record {
      sound = record {
        numbers_differ = numbers_by_counts (state_of (world bs n)) (state_of now) refl counts sound.numbers_differ;
        cursors_known =
            all_set (λ x. IsKnown now (cursor_in x)) bs i b
            (λ k d l. known_set bs n i old b _ there r (sound.cursors_known k d l))
            (known_set bs n i old b (cursor_in b) there r known);
      };
      persists = λ c k. known_set bs n i old b c there r k;
      counts = counts;
    }

pub same_advances : (w : World) → IsSound w → Advances w w
same_advances w sound = record { sound = sound; persists = λ c k. k; counts = refl }

pub advances_then : (a b c : World) → Advances a b → Advances b c → Advances a c
advances_then a b c h k = record { sound = k.sound; persists = λ x known. k.persists x (h.persists x known); counts = k.counts ∙ h.counts }

-- what may stand where another thing stood

pub object_replaces : (o k : Object) → Lasts o k → Replaces (bound.Object o) (bound.Object k)
object_replaces o k l = record { counts = ap (λ g. Some g) l.counts; agrees = l.cursors }

-- cursors that are known

none_agrees : (b : Bound) → BoundAgrees b cursor.NoElement
none_agrees bound.Type = tt
none_agrees (bound.Object o) = none_in (memory_of o)
none_agrees (bound.Cursor c) = tt
none_agrees (bound.Value v) = tt
none_agrees (bound.Element object at) = tt

pub none_known : (w : World) → IsKnown w cursor.NoElement
none_known w = record { made = tt; agrees = λ k d l. none_agrees _ }

pub known_agrees : (bs : List Bound) (n : Counters) (i : ℕ) (o : Object) (c : Cursor) → IsKnown (world bs n) c → slice_get bs i ≡ Some (bound.Object o) →
    ObjectAgrees o c
known_agrees bs n i o c k there = all_at (λ b. BoundAgrees b c) bs i (bound.Object o) k.agrees there

below : (next number times : ℕ) → 1 ≤ times → (next ≤ number → times ≡ 0) → number < next
below next number times h k = grind (arith)

same_object : (bs : List Bound) (n : Counters) (i k : ℕ) (o p : Object) → IsSound (world bs n) → slice_get bs i ≡ Some (bound.Object o) →
    slice_get bs k ≡ Some (bound.Object p) → number_of (held_of o) ≡ number_of (held_of p) → o ≡ p
same_object bs n i k o p sound here there same =
    let place : i ≡ k = numbers_tell (state_of (world bs n)) i k (held_of o) (held_of p) sound.numbers_differ (object_there_in bs n i o here)
    (object_there_in bs n k p there) same in
    let found : Some (bound.Object o) ≡ Some (bound.Object p) = sym here ∙ (ap (slice_get bs) place ∙ there) in
    cc

bound_finds : (bs : List Bound) (n : Counters) (i k : ℕ) (o : Object) (object : ℕ) (name : Name) → IsSound (world bs n) → slice_get bs i ≡ Some (bound.Object o) →
    object ≡ number_of (held_of o) → ObjectAgrees o (cursor.At object name) → (b : Bound) → slice_get bs k ≡ Some b → BoundAgrees b (cursor.At object name)
bound_finds bs n i k o object name sound here own agrees bound.Type there = tt
bound_finds bs n i k o object name sound here own agrees (bound.Object p) there =
    agrees_if_own (memory_of p) object name
    (λ e. subst (λ x. ObjectAgrees x (cursor.At object name)) (same_object bs n i k o p sound here there (sym own ∙ e)) agrees)
bound_finds bs n i k o object name sound here own agrees (bound.Cursor c) there = tt
bound_finds bs n i k o object name sound here own agrees (bound.Value v) there = tt
bound_finds bs n i k o object name sound here own agrees (bound.Element other at) there = tt

-- a cursor that its object finds is known
pub found_known : (bs : List Bound) (n : Counters) (i : ℕ) (o : Object) (c : Cursor) → IsSound (world bs n) → slice_get bs i ≡ Some (bound.Object o) → IsFound o c →
    IsKnown (world bs n) c
found_known bs n i o cursor.NoElement sound here f = none_known (world bs n)
found_known bs n i o (cursor.At object name) sound here f =
    let e = state_of (world bs n) in
    let h = held_of o in
    let times = is_there e.bounds i h (object_there_in bs n i o here) in
    record {
      made = subst (λ x. x < n.next) (sym f.0) (below n.next (number_of h) (times_numbered (number_of h) e.bounds) times (sound.numbers_differ.below_next (number_of h)));
      agrees = all_by (λ b. BoundAgrees b (cursor.At object name)) bs
          (λ k b there. bound_finds bs n i k o object name sound here f.0 f.1 b there);
    }
