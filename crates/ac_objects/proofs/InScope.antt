-- What becomes of the names in scope when one object changes, when names go and when they come.
use Rattle.std.proofs.Common.{◌≡◌, ◌==◌, ◌+◌, ◌-◌, ◌<◌, ◌≤◌, ◌++◌, inl, inr, ℕ, zero, suc, Bool, true, false, List, [], ◌∷◌, map, take, set, get_or, length, option_to_list, slice_get, option_map, refl, sym, ap, subst, ◌∙◌, arith, Option, Some, None, if◌then◌else◌}
use Rattle.std.proofs.lemmas.Bool.{cases_lt}
use Rattle.std.proofs.lemmas.List.{take-take, take-append-le, length-append, length-map, length-take, length-take-le, map-set, take-map, map_push}
use Rattle.std.proofs.lemmas.List.Elements.{All-set, All-take, All-push}
use Rattle.std.proofs.lemmas.Option.{slice_get_past, slice_get-map, slice_get_within, get_or_from_slice_get, none-some, same_Some}
use Rattle.ac_base.specs.declared.cursor.Cursor.{Cursor}
use Rattle.ac_base.specs.declared.cursor.Cursor.TheVariants as cursor
use Rattle.ac_base.specs.declared.value.Value.{Value}
use Rattle.ac_model.specs.Letters.{Mark}
use Rattle.ac_calls.specs.Holdings.{Held, Guards, number_of}
use Rattle.ac_meaning.specs.Environment as meant
use Rattle.ac_meaning.specs.UnderGuards.{held_with}
use Rattle.ac_meaning.specs.Numbers.{has_number, times_numbered, NumbersDiffer}
use Rattle.ac_meaning.proofs.NumbersApart.{numbers_go_on}
use Rattle.ac_objects.specs.declared.object.Object.{Object}
use Rattle.ac_objects.specs.declared.bound.Bound.{Bound}
use Rattle.ac_objects.specs.declared.bound.Bound.TheVariants as bound
use Rattle.ac_objects.specs.Blocks.{holding}
use Rattle.ac_objects.specs.Standing.{counts_in, counts_of}
use Rattle.ac_objects.specs.World.{World, Counters, world, held_of, bound_of, state_of, ObjectAgrees, BoundAgrees, IsKnown, cursor_in, IsSound, Persists, memory_of}
use Rattle.ac_objects.proofs.Memory.{none_in}

-- the same object to guards and cursors
pub record GoesOn (o now : Object) : Type 0 where
  pub number : number_of (held_of now) ≡ number_of (held_of o)
  pub agrees : (c : Cursor) → ObjectAgrees o c → ObjectAgrees now c

pub no_cursor : (w : World) → IsKnown w cursor.NoElement
no_cursor w = record { made = tt; agrees = λ i d h. no_agreement (get_or w.bounds i d) }
  where
    no_agreement : (b : Bound) → BoundAgrees b cursor.NoElement
    no_agreement bound.Type = tt
    no_agreement (bound.Object o) = none_in (memory_of o)
    no_agreement (bound.Cursor c) = tt
    no_agreement (bound.Value v) = tt
    no_agreement (bound.Element object at) = tt

-- an object at a place

set_there : {X : Type 0} (xs : List X) (i : ℕ) (x : X) → i < length xs → slice_get (set xs i x) i ≡ Some x
set_there [] i x h = absurd (omega (arith, h))
set_there (y ∷ xs) zero x h = refl
set_there (y ∷ xs) (suc i) x h = set_there xs i x (omega (arith, h))

pub bound_there : (bounds : List Bound) (next : Counters) (place : ℕ) (b : Bound) → slice_get bounds place ≡ Some b →
    meant.bound_at (state_of (world bounds next)) place ≡ bound_of b
bound_there bounds next place b e = ap meant.bound_in (slice_get-map bound_of bounds place ∙ ap (option_map bound_of) e)

pub object_there : (bounds : List Bound) (next : Counters) (place : ℕ) (o : Object) → slice_get bounds place ≡ Some (bound.Object o) →
    meant.object_at (state_of (world bounds next)) place ≡ Some (held_of o)
object_there bounds next place o e = ap meant.object_in (bound_there bounds next place (bound.Object o) e)

set_numbered : (number : ℕ) (bs : List meant.Bound) (place : ℕ) (b now : meant.Bound) → slice_get bs place ≡ Some b →
    has_number number now ≡ has_number number b → times_numbered number (set bs place now) ≡ times_numbered number bs
set_numbered number [] place b now e same = refl
set_numbered number (x ∷ bs) zero b now e same =
    ap (λ n. n + times_numbered number bs) (same ∙ ap (has_number number) (sym (ap (λ s. elim s [ None ↦ x | Some y ↦ y ]) e)))
set_numbered number (x ∷ bs) (suc place) b now e same = ap (λ n. has_number number x + n) (set_numbered number bs place b now e same)

module _ (bounds : List Bound) (next : Counters) (place : ℕ) (o now : Object) (there : slice_get bounds place ≡ Some (bound.Object o)) (goes : GoesOn o now) where
  abbrev pub after_set : World
  after_set = world (set bounds place (bound.Object now)) next

  pub set_state : state_of after_set ≡ meant.with_bound (state_of (world bounds next)) place (meant.binds_object (held_of now))
  set_state = ap (λ bs. record { bounds = bs; next = next.next; blocks = next.blocks }) (map-set bound_of bounds place (bound.Object now))

  pub set_object : meant.object_at (state_of after_set) place ≡ Some (held_of now)
  set_object = object_there (set bounds place (bound.Object now)) next place now (set_there bounds place (bound.Object now) (slice_get_within bounds place (bound.Object o) there))

  pub set_persists : Persists (world bounds next) after_set
  set_persists c known = record {
    made = known.made;
    agrees = All-set (λ b. BoundAgrees b c) bounds place (bound.Object now)
        (goes.agrees c (subst (λ b. BoundAgrees b c) (get_or_from_slice_get bounds place (bound.Object o) (bound.Object o) there)
        (known.agrees place (bound.Object o) (slice_get_within bounds place (bound.Object o) there))))
        known.agrees;
  }

  pub set_sound : IsSound (world bounds next) → IsSound after_set
  set_sound sound =
      let same : (number : ℕ) → times_numbered number (map bound_of (set bounds place (bound.Object now))) ≡ times_numbered number (map bound_of bounds) =
      λ number. ap (times_numbered number) (map-set bound_of bounds place (bound.Object now))
      ∙ set_numbered number (map bound_of bounds) place (bound_of (bound.Object o)) (bound_of (bound.Object now))
      (slice_get-map bound_of bounds place ∙ ap (option_map bound_of) there)
      (ap (λ n. if n == number then 1 else 0) goes.number) in
      record {
        numbers_differ = record {
          once = λ number. subst (λ n. n ≤ 1) (sym (same number)) (sound.numbers_differ.once number);
          below_next = λ number h. same number ∙ sound.numbers_differ.below_next number h;
        };
        cursors_known = All-set (λ b. IsKnown after_set (cursor_in b)) bounds place (bound.Object now) (no_cursor after_set)
            (λ i d h. set_persists (cursor_in (get_or bounds i d)) (sound.cursors_known i d h));
      }

-- names that go

module _ (bounds : List Bound) (next : Counters) (count : ℕ) where
  abbrev pub after_leaving : World
  after_leaving = world (take count bounds) next

  pub left_state : state_of after_leaving ≡ meant.leaving count (state_of (world bounds next))
  left_state = ap (λ bs. record { bounds = bs; next = next.next; blocks = next.blocks }) (sym (take-map bound_of count bounds))

  pub left_persists : Persists (world bounds next) after_leaving
  left_persists c known = record { made = known.made; agrees = All-take (λ b. BoundAgrees b c) count bounds known.agrees }

  pub left_sound : IsSound (world bounds next) → IsSound after_leaving
  left_sound sound = record {
    numbers_differ = subst NumbersDiffer (sym left_state) (numbers_go_on.left count (state_of (world bounds next)) sound.numbers_differ);
    cursors_known = All-take (λ b. IsKnown after_leaving (cursor_in b)) count bounds
        (λ i d h. left_persists (cursor_in (get_or bounds i d)) (sound.cursors_known i d h));
  }

-- a name more, which holds no object

module _ (bounds : List Bound) (next : Counters) (b : Bound) (agrees : (c : Cursor) → BoundAgrees b c) where
  abbrev pub after_naming : World
  after_naming = world (bounds ++ b ∷ []) next

  pub named_state : state_of after_naming ≡ meant.with_name (state_of (world bounds next)) (bound_of b)
  named_state = ap (λ bs. record { bounds = bs; next = next.next; blocks = next.blocks }) (map_push bound_of bounds b)

  pub named_persists : Persists (world bounds next) after_naming
  named_persists c known = record { made = known.made; agrees = All-push (λ b. BoundAgrees b c) bounds b known.agrees (agrees c) }

  pub named_sound : meant.object_in (bound_of b) ≡ None → IsKnown (world bounds next) (cursor_in b) → IsSound (world bounds next) → IsSound after_naming
  named_sound none known sound = record {
    numbers_differ = subst NumbersDiffer (sym named_state) (numbers_go_on.named (state_of (world bounds next)) (bound_of b) none sound.numbers_differ);
    cursors_known = All-push (λ b. IsKnown after_naming (cursor_in b)) bounds b
        (λ i d h. named_persists (cursor_in (get_or bounds i d)) (sound.cursors_known i d h))
        (named_persists (cursor_in b) known);
  }

-- an object that stands in an environment stands in memory
pub within : (bounds : List Bound) (next : Counters) (place : ℕ) (h : Held) → meant.object_at (state_of (world bounds next)) place ≡ Some h → place < length bounds
within bounds next place h e = elim (cases_lt place (length bounds)) [
  | inl below ↦ below
  | inr past ↦ absurd (none-some h (sym (ap (λ b. meant.object_in (meant.bound_in b)) (slice_get-map bound_of bounds place ∙ ap (option_map bound_of) (slice_get_past bounds place past))) ∙ e))
]

-- what stands below so many names
pub below_taken : {X : Type 0} (xs : List X) (count i : ℕ) → i < count → slice_get (take count xs) i ≡ slice_get xs i
below_taken xs zero i h = absurd (omega (arith, h))
below_taken [] (suc count) i h = refl
below_taken (x ∷ xs) (suc count) zero h = refl
below_taken (x ∷ xs) (suc count) (suc i) h = below_taken xs count i (omega (arith, h))

pub left_object : (e : meant.State) (count place : ℕ) → place < count → meant.object_at (meant.leaving count e) place ≡ meant.object_at e place
left_object e count place h = ap (λ b. meant.object_in (meant.bound_in b)) (below_taken e.bounds count place h)

-- a name that holds no object agrees with every cursor
pub no_object_agrees : (b : Bound) → meant.object_in (bound_of b) ≡ None → (c : Cursor) → BoundAgrees b c
no_object_agrees bound.Type e c = tt
no_object_agrees (bound.Object o) e c = absurd (none-some (held_of o) (sym e))
no_object_agrees (bound.Cursor at) e c = tt
no_object_agrees (bound.Value v) e c = tt
no_object_agrees (bound.Element object at) e c = tt

-- a name in the place of the last one, which holds no object

set_last : {X : Type 0} (xs : List X) (last : ℕ) (x : X) → length xs ≡ last + 1 → set xs last x ≡ take last xs ++ x ∷ []
set_last [] last x h = absurd (omega (arith, h))
set_last (y ∷ []) zero x h = refl
set_last (y ∷ (z ∷ xs)) zero x h = absurd (omega (arith, h))
set_last (y ∷ xs) (suc last) x h = ap (λ ys. y ∷ ys) (set_last xs last x (omega (arith, h)))

module _ (w : World) (bounds now : List Bound) (next : Counters) (last : ℕ) (b : Bound) (view : world bounds next ≡ w) (written : now ≡ set bounds last b)
    (long : length w.bounds ≡ last + 1) (none : meant.object_in (bound_of b) ≡ None) where
  turned : now ≡ take last bounds ++ b ∷ []
  turned = written ∙ set_last bounds last b (ap (λ (v : World). length v.bounds) view ∙ long)

  pub turned_state : state_of (world now next) ≡ meant.with_name (meant.leaving last (state_of w)) (bound_of b)
  turned_state =
      ap (λ bs. state_of (world bs next)) turned
      ∙ (named_state (take last bounds) next b (no_object_agrees b none)
      ∙ ap (λ e. meant.with_name e (bound_of b)) (left_state bounds next last ∙ ap (λ v. meant.leaving last (state_of v)) view))

  pub turned_persists : Persists w (world now next)
  turned_persists = subst (λ v. Persists v (world now next)) view
      (subst (λ bs. Persists (world bounds next) (world bs next)) (sym turned)
      (λ c known. named_persists (take last bounds) next b (no_object_agrees b none) c (left_persists bounds next last c known)))

  pub turned_sound : IsKnown w (cursor_in b) → IsSound (world bounds next) → IsSound (world now next)
  turned_sound known sound = subst (λ bs. IsSound (world bs next)) (sym turned)
      (named_sound (take last bounds) next b (no_object_agrees b none) none
      (left_persists bounds next last (cursor_in b) (subst (λ v. IsKnown v (cursor_in b)) (sym view) known))
      (left_sound bounds next last sound))

-- the last name, where it is a variable's

value_bound : (b : Bound) (v : Value) → bound_of b ≡ meant.binds_value v → b ≡ bound.Value v
value_bound bound.Type v e = absurd (cc)
value_bound (bound.Object o) v e = absurd (cc)
value_bound (bound.Cursor c) v e = absurd (cc)
value_bound (bound.Value w) v e = let same : w ≡ v = cc in ap bound.Value same
value_bound (bound.Element object at) v e = absurd (cc)

pub held_value : {v w : Value} → Some (bound.Value v) ≡ Some (bound.Value w) → v ≡ w
held_value e = cc

last_there : {X : Type 0} (xs : List X) (x : X) → slice_get (xs ++ x ∷ []) (length xs) ≡ Some x
last_there [] x = refl
last_there (y ∷ xs) x = last_there xs x

-- the last of all names, where it is taken away
module _ (w : World) (bounds left : List Bound) (next : Counters) (place many : ℕ) (last : Option Bound) (view : world bounds next ≡ w)
    (long : length w.bounds ≡ place + 1) (counted : many ≡ length bounds) (split : bounds ≡ left ++ option_to_list last) (rest : left ≡ take (many - 1) bounds) where
  all_long : length bounds ≡ place + 1
  all_long = ap (λ (v : World). length v.bounds) view ∙ long

  taken : left ≡ take place bounds
  taken = let same : many - 1 ≡ place = omega (arith, counted, all_long) in rest ∙ ap (λ n. take n bounds) same

  pub last_value : (v : Value) → meant.bound_at (state_of w) place ≡ meant.binds_value v → last ≡ Some (bound.Value v)
  last_value v at = go last split
    where
      short : length left ≡ place
      short = omega (arith, ap (λ (l : List Bound). length l) taken, length-take place bounds, all_long)

      go : (end : Option Bound) → bounds ≡ left ++ option_to_list end → end ≡ Some (bound.Value v)
      go None is =
          absurd (omega (arith, short, ap (λ (l : List Bound). length l) is, length-append left (option_to_list {X = Bound} None), all_long))
      go (Some b) is =
          let there : slice_get bounds place ≡ Some b =
          ap (λ l. slice_get l place) is ∙ (ap (slice_get (left ++ b ∷ [])) (sym short) ∙ last_there left b) in
          ap Some (value_bound b v (sym (bound_there bounds next place b there) ∙ (ap (λ x. meant.bound_at (state_of x) place) view ∙ at)))

  pub taken_state : state_of (world left next) ≡ meant.leaving place (state_of w)
  taken_state = ap (λ bs. state_of (world bs next)) taken ∙ (left_state bounds next place ∙ ap (λ x. meant.leaving place (state_of x)) view)

  pub taken_persists : Persists w (world left next)
  taken_persists = subst (λ bs. Persists w (world bs next)) (sym taken)
      (subst (λ x. Persists x (world (take place bounds) next)) view (left_persists bounds next place))

  pub taken_sound : IsSound (world bounds next) → IsSound (world left next)
  taken_sound sound = subst (λ bs. IsSound (world bs next)) (sym taken) (left_sound bounds next place sound)

-- where memory was wanted for it, nothing changed
module _ (w : World) (bounds now : List Bound) (next : Counters) (b : Bound) (ok : Bool) (view : world bounds next ≡ w)
    (pushed : now ≡ (if ok then bounds ++ b ∷ [] else bounds)) (none : meant.object_in (bound_of b) ≡ None) where
  either_sound : (ok : Bool) → IsKnown (world bounds next) (cursor_in b) → IsSound (world bounds next) →
      IsSound (world (if ok then bounds ++ b ∷ [] else bounds) next)
  either_sound true known sound = named_sound bounds next b (no_object_agrees b none) none known sound
  either_sound false known sound = sound

  either_persists : (ok : Bool) → Persists (world bounds next) (world (if ok then bounds ++ b ∷ [] else bounds) next)
  either_persists true = named_persists bounds next b (no_object_agrees b none)
  either_persists false = λ c known. known

  pub added_sound : IsKnown w (cursor_in b) → IsSound (world bounds next) → IsSound (world now next)
  added_sound known sound = subst (λ bs. IsSound (world bs next)) (sym pushed)
      (either_sound ok (subst (λ v. IsKnown v (cursor_in b)) (sym view) known) sound)

  pub added_persists : Persists w (world now next)
  added_persists = subst (λ v. Persists v (world now next)) view
      (subst (λ bs. Persists (world bounds next) (world bs next)) (sym pushed) (either_persists ok))

-- an object stands where it stood when a name is added
before_last : {X : Type 0} (xs : List X) (i : ℕ) (x y : X) → slice_get xs i ≡ Some x → slice_get (xs ++ y ∷ []) i ≡ Some x
before_last [] i x y e = absurd (none-some x e)
before_last (z ∷ xs) zero x y e = e
before_last (z ∷ xs) (suc i) x y e = before_last xs i x y e

held_bound : (found : Option meant.Bound) (h : Held) → meant.object_in (meant.bound_in found) ≡ Some h → found ≡ Some (meant.binds_object h)
held_bound None h e = absurd (none-some h e)
held_bound (Some meant.binds_type) h e = absurd (none-some h e)
held_bound (Some (meant.binds_object k)) h e = ap (λ k. Some (meant.binds_object k)) (same_Some k h e)
held_bound (Some (meant.binds_cursor mark)) h e = absurd (none-some h e)
held_bound (Some (meant.binds_value v)) h e = absurd (none-some h e)
held_bound (Some (meant.binds_element object at)) h e = absurd (none-some h e)

pub named_object : (e : meant.State) (b : meant.Bound) (place : ℕ) (h : Held) → meant.object_at e place ≡ Some h →
    meant.object_at (meant.with_name e b) place ≡ Some h
named_object e b place h at =
    ap (λ f. meant.object_in (meant.bound_in f)) (before_last e.bounds place (meant.binds_object h) b (held_bound (slice_get e.bounds place) h at))

-- a change of objects leaves an added name that holds none
pub named_by : (f : Held → Held) (e : meant.State) (object : ℕ) (at : Mark) →
    meant.objects_by f (meant.with_name e (meant.binds_element object at)) ≡ meant.with_name (meant.objects_by f e) (meant.binds_element object at)
named_by f e object at = ap (λ bs. record e { bounds = bs }) (map_push (meant.bound_by f) e.bounds (meant.binds_element object at))

pub value_named : (f : Held → Held) (e : meant.State) (v : Value) →
    meant.objects_by f (meant.with_name e (meant.binds_value v)) ≡ meant.with_name (meant.objects_by f e) (meant.binds_value v)
value_named f e v = ap (λ bs. record e { bounds = bs }) (map_push (meant.bound_by f) e.bounds (meant.binds_value v))

-- and so do guards that are held on them
pub cursor_named : (guards : Guards) (e : meant.State) (at : Mark) →
    holding guards (meant.with_name e (meant.binds_cursor at)) ≡ meant.with_name (holding guards e) (meant.binds_cursor at)
cursor_named [] e at = refl
cursor_named (g ∷ guards) e at =
    ap (meant.objects_by (held_with g)) (cursor_named guards e at)
    ∙ ap (λ bs. record (holding guards e) { bounds = bs }) (map_push (meant.bound_by (held_with g)) (holding guards e).bounds (meant.binds_cursor at))

-- the counts of the objects below so many names

pub counts_left : (count : ℕ) (e : meant.State) → take count (counts_of (meant.leaving count e)) ≡ take count (counts_of e)
counts_left count e =
    take-map counts_in count (take count e.bounds) ∙ (ap (map counts_in) (take-take count count e.bounds (omega arith)) ∙ sym (take-map counts_in count e.bounds))

pub counts_named : (count : ℕ) (e : meant.State) (b : meant.Bound) → count ≤ length e.bounds →
    take count (counts_of (meant.with_name e b)) ≡ take count (counts_of e)
counts_named count e b h =
    ap (take count) (map_push counts_in e.bounds b)
    ∙ take-append-le count (map counts_in e.bounds) (counts_in b ∷ []) (omega (arith, h, length-map e.bounds counts_in))

pub counts_turned : (count : ℕ) (e : meant.State) (b : meant.Bound) → count ≤ length e.bounds →
    take count (counts_of (meant.with_name (meant.leaving count e) b)) ≡ take count (counts_of e)
counts_turned count e b h =
    counts_named count (meant.leaving count e) b (omega (arith, length-take-le count e.bounds h)) ∙ counts_left count e
