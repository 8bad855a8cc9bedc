-- The greatest use of a queue is set in its place.
use Rattle.std.proofs.Common.{◌≡◌, ℕ, zero, suc, List, [], ◌∷◌, refl, sym, ap, subst, ◌∙◌, Option, Some, None, slice_get, slice_set, option_map}
use Rattle.std.proofs.lemmas.Option.{none-some}
use Rattle.std.specs.Prelude.{IfSome}
use Rattle.ac_queue.specs.declared.any_queue.AnyQueue.{AnyQueue}
use Rattle.ac_queue.specs.declared.any_queue.AnyQueue.TheVariants.{Plain, Ranked}
use Rattle.ac_queue.specs.Kinds.{discipline_of, state_of as queue_state}
use Rattle.ac_queue.specs.QueueStates.{with_peak}
use Rattle.ac_meaning.specs.Environment as meant
use Rattle.ac_meaning.specs.Environment.{bound_at, with_bound}
use Rattle.ac_objects.specs.declared.bound.Bound.{Bound}
use Rattle.ac_objects.specs.declared.bound.Bound.TheVariants as bound
use Rattle.ac_objects.specs.declared.numbered_queue.NumberedQueue.{NumberedQueue}
use Rattle.ac_objects.specs.declared.object.Object.{Object}
use Rattle.ac_objects.specs.declared.object.Object.TheVariants.{Integers, Texts, IntegerSet, TextSet, KeyedSet, IntegersByInteger, IntegersByText, TextsByInteger, TextsByText, IntegerTree, TextTree, IntegerHolder, TextHolder, Queue}
use Rattle.ac_objects.specs.Peaks.{PeakFits, peaked, bound_with_peak, bounds_with_peak, set_in_place, queue_with_peak}
use Rattle.ac_objects.specs.Steps.{Replaces, Advances}
use Rattle.ac_objects.specs.World.{World, Counters, world, state_of, bound_of, held_of, memory_of, cursor_in, IsKnown, IsSound}
use Rattle.ac_meaning.proofs.Places.{all_at, map_get}
use Rattle.ac_objects.proofs.Worlds.{state_set, bound_there, set_advances, same_advances}

pub queue_peak : (old new : AnyQueue) (peak : ℕ) → discipline_of new ≡ discipline_of old → queue_state new ≡ with_peak (queue_state old) peak →
    new ≡ queue_with_peak peak old
queue_peak (Plain q) (Plain p) peak kind state = ap Plain state
queue_peak (Plain q) (Ranked p) peak kind state = absurd (cc)
queue_peak (Ranked q) (Plain p) peak kind state = absurd (cc)
queue_peak (Ranked q) (Ranked p) peak kind state = ap Ranked state

same_replaces : (b : Bound) → Replaces b b
same_replaces b = record { counts = refl; agrees = λ c agrees. agrees }

queue_replaces : (q : NumberedQueue) (peak : ℕ) (a : AnyQueue) → Replaces (bound.Object (Queue (record q { queue = a }))) (bound.Object (Queue (record q { queue = queue_with_peak peak a })))
unfolding memory_of
queue_replaces q peak (Plain p) = record { counts = refl; agrees = λ c agrees. agrees }
queue_replaces q peak (Ranked p) = record { counts = refl; agrees = λ c agrees. agrees }

object_replaces : (peak : ℕ) (o : Object) → Replaces (bound.Object o) (bound_with_peak peak (bound.Object o))
object_replaces peak (Integers s) = same_replaces (bound.Object (Integers s))
object_replaces peak (Texts s) = same_replaces (bound.Object (Texts s))
object_replaces peak (IntegerSet s) = same_replaces (bound.Object (IntegerSet s))
object_replaces peak (TextSet s) = same_replaces (bound.Object (TextSet s))
object_replaces peak (KeyedSet s) = same_replaces (bound.Object (KeyedSet s))
object_replaces peak (IntegersByInteger m) = same_replaces (bound.Object (IntegersByInteger m))
object_replaces peak (IntegersByText m) = same_replaces (bound.Object (IntegersByText m))
object_replaces peak (TextsByInteger m) = same_replaces (bound.Object (TextsByInteger m))
object_replaces peak (TextsByText m) = same_replaces (bound.Object (TextsByText m))
object_replaces peak (IntegerTree t) = same_replaces (bound.Object (IntegerTree t))
object_replaces peak (TextTree t) = same_replaces (bound.Object (TextTree t))
object_replaces peak (IntegerHolder h) = same_replaces (bound.Object (IntegerHolder h))
object_replaces peak (TextHolder h) = same_replaces (bound.Object (TextHolder h))
object_replaces peak (Queue q) = queue_replaces q peak q.queue

replaces : (peak : ℕ) (b : Bound) → Replaces b (bound_with_peak peak b)
replaces peak bound.Type = same_replaces bound.Type
replaces peak (bound.Object o) = object_replaces peak o
replaces peak (bound.Cursor c) = same_replaces (bound.Cursor c)
replaces peak (bound.Value v) = same_replaces (bound.Value v)
replaces peak (bound.Element object at) = same_replaces (bound.Element object at)

-- without slots

queue_peaked : (q : NumberedQueue) (peak : ℕ) (a : AnyQueue) →
    bound_of (bound.Object (Queue (record q { queue = queue_with_peak peak a }))) ≡ peaked peak (bound_of (bound.Object (Queue (record q { queue = a }))))
unfolding memory_of
queue_peaked q peak (Plain p) = refl
queue_peaked q peak (Ranked p) = refl

object_peaked : (peak : ℕ) (o : Object) → bound_of (bound_with_peak peak (bound.Object o)) ≡ peaked peak (bound_of (bound.Object o))
unfolding memory_of
object_peaked peak (Integers s) = refl
object_peaked peak (Texts s) = refl
object_peaked peak (IntegerSet s) = refl
object_peaked peak (TextSet s) = refl
object_peaked peak (KeyedSet s) = refl
object_peaked peak (IntegersByInteger m) = refl
object_peaked peak (IntegersByText m) = refl
object_peaked peak (TextsByInteger m) = refl
object_peaked peak (TextsByText m) = refl
object_peaked peak (IntegerTree t) = refl
object_peaked peak (TextTree t) = refl
object_peaked peak (IntegerHolder h) = refl
object_peaked peak (TextHolder h) = refl
object_peaked peak (Queue q) = queue_peaked q peak q.queue

peaked_is : (peak : ℕ) (b : Bound) → bound_of (bound_with_peak peak b) ≡ peaked peak (bound_of b)
peaked_is peak bound.Type = refl
peaked_is peak (bound.Object o) = object_peaked peak o
peaked_is peak (bound.Cursor c) = refl
peaked_is peak (bound.Value v) = refl
peaked_is peak (bound.Element object at) = refl

known_cursor : (w : World) (peak : ℕ) (b : Bound) → IsKnown w (cursor_in b) → IsKnown w (cursor_in (bound_with_peak peak b))
known_cursor w peak bound.Type k = k
known_cursor w peak (bound.Object (Integers s)) k = k
known_cursor w peak (bound.Object (Texts s)) k = k
known_cursor w peak (bound.Object (IntegerSet s)) k = k
known_cursor w peak (bound.Object (TextSet s)) k = k
known_cursor w peak (bound.Object (KeyedSet s)) k = k
known_cursor w peak (bound.Object (IntegersByInteger m)) k = k
known_cursor w peak (bound.Object (IntegersByText m)) k = k
known_cursor w peak (bound.Object (TextsByInteger m)) k = k
known_cursor w peak (bound.Object (TextsByText m)) k = k
known_cursor w peak (bound.Object (IntegerTree t)) k = k
known_cursor w peak (bound.Object (TextTree t)) k = k
known_cursor w peak (bound.Object (IntegerHolder h)) k = k
known_cursor w peak (bound.Object (TextHolder h)) k = k
known_cursor w peak (bound.Object (Queue q)) k = k
known_cursor w peak (bound.Cursor c) k = k
known_cursor w peak (bound.Value v) k = k
known_cursor w peak (bound.Element object at) k = k

-- in its place

set_there : (peak place : ℕ) (bs : List Bound) (n : Counters) (found : Option Bound) → slice_get bs place ≡ found → IsSound (world bs n) →
    Advances (world bs n) (world (set_in_place bs place peak found) n)
set_there peak place bs n None there sound = same_advances (world bs n) sound
set_there peak place bs n (Some b) there sound =
    set_advances bs n place b (bound_with_peak peak b) sound there (replaces peak b)
    (known_cursor (world bs n) peak b (all_at (λ x. IsKnown (world bs n) (cursor_in x)) bs place b sound.cursors_known there))

set_past : {A : Type 0} (xs : List A) (i : ℕ) (y : A) → slice_get xs i ≡ None → xs ≡ slice_set xs i y
set_past [] i y e = refl
set_past (x ∷ xs) zero y e = absurd (none-some x (sym e))
set_past (x ∷ xs) (suc i) y e = ap (λ rest. x ∷ rest) (set_past xs i y e)

past_nothing : (e : meant.State) (place : ℕ) (peak : ℕ) → slice_get e.bounds place ≡ None → e ≡ with_bound e place (peaked peak (bound_at e place))
past_nothing e place peak there = λ i. record e { bounds = set_past e.bounds place (peaked peak (bound_at e place)) there i }

set_state : (peak place : ℕ) (bs : List Bound) (n : Counters) (found : Option Bound) → slice_get bs place ≡ found →
    state_of (world (set_in_place bs place peak found) n) ≡ with_bound (state_of (world bs n)) place (peaked peak (bound_at (state_of (world bs n)) place))
set_state peak place bs n None there =
    past_nothing (state_of (world bs n)) place peak (map_get bound_of bs place ∙ ap (option_map bound_of) there)
set_state peak place bs n (Some b) there =
    state_set bs n place (bound_with_peak peak b)
    ∙ ap (with_bound (state_of (world bs n)) place) (peaked_is peak b ∙ ap (peaked peak) (sym (bound_there bs n place b there)))

module _ (w : World) (bs now : List Bound) (n : Counters) (view : world bs n ≡ w) (place peak : ℕ) where
  pub peak_advances : IsSound (world bs n) → now ≡ bounds_with_peak place peak bs → Advances w (world now n)
  peak_advances sound is =
      subst (λ v. Advances v (world now n)) view
      (subst (λ m. Advances (world bs n) (world m n)) (sym is) (set_there peak place bs n (slice_get bs place) refl sound))

  pub peak_state : now ≡ bounds_with_peak place peak bs → state_of (world now n) ≡ with_bound (state_of w) place (peaked peak (bound_at (state_of w) place))
  peak_state is =
      subst (λ v. state_of (world now n) ≡ with_bound (state_of v) place (peaked peak (bound_at (state_of v) place))) view
      (ap (λ m. state_of (world m n)) is ∙ set_state peak place bs n (slice_get bs place) refl)

  fits : (found : Option Bound) → slice_get bs place ≡ found → PeakFits peak (bound_at (state_of w) place) → IfSome found (λ b. PeakFits peak (bound_of b))
  fits None there h = tt
  fits (Some b) there h =
      subst (PeakFits peak) (bound_there bs n place b there) (subst (λ v. PeakFits peak (bound_at (state_of v) place)) (sym view) h)

  pub peak_fits : PeakFits peak (bound_at (state_of w) place) → IfSome (slice_get bs place) (λ b. PeakFits peak (bound_of b))
  peak_fits h = fits (slice_get bs place) refl h
