-- The end of an update of an element that keeps its key.
use Rattle.std.proofs.Common.{◌≡◌, ◌==◌, ◌&&◌, ◌+◌, ◌-◌, ◌<◌, ℕ, Bool, true, false, List, [], ◌∷◌, get_or, set, slice_get, slice_set, refl, sym, ap, subst, ◌∙◌, arith, eq-eqb, Option, Some, None, option_map, if◌then◌else◌}
use Rattle.std.specs.Prelude.{Result, Ok, Err, IfOk, IfSome, not}
use Rattle.std.proofs.lemmas.Option.{same_Some}
use Rattle.ac_base.specs.declared.fault.NoMemory.{NoMemory}
use Rattle.ac_base.specs.declared.cursor.Cursor.{Cursor}
use Rattle.ac_base.specs.declared.guard.GuardKind.TheVariants as guard
use Rattle.ac_base.specs.declared.reason.Reason.{Reason}
use Rattle.ac_base.specs.declared.reason.Reason.TheVariants.{NoElement, KeyChanged}
use Rattle.ac_base.specs.FirstReason.{first_reason}
use Rattle.ac_base.specs.Guards.{HeldGuard, count_of, raised_kind}
use Rattle.ac_base.specs.declared.value.Value.{Value}
use Rattle.ac_base.specs.Key.{key_of_text}
use Rattle.ac_base.proofs.Earlier.{with_none_later}
use Rattle.ac_model.specs.Calls.{Call, Done, IsAfter}
use Rattle.ac_model.specs.Common.{release_call}
use Rattle.ac_model.specs.Cursors.{Agrees, needs_cursor, mark, plain_mark, seen}
use Rattle.ac_model.specs.KeyedSets.{end_update_key_call, keeps_key, update_key_reason}
use Rattle.ac_model.specs.Letters.{Mark, name_of, needs, reason_if, tampers_cursors}
use Rattle.ac_model.specs.Rows.{value_at as row_value}
use Rattle.ac_model.specs.Objects.{IsValid, plain}
use Rattle.ac_model.specs.Objects as model
use Rattle.ac_model.proofs.Reasons.{none_others}
use Rattle.ac_model.proofs.Unslotted.{tree_agreement_kept, seen_marks}
use Rattle.ac_calls.proofs.Made.{slot_agrees}
use Rattle.ac_setwork.specs.KeyCalls.{cursor_guard_of}
use Rattle.ac_calls.specs.Elements.{Text, text_in, texts}
use Rattle.ac_calls.specs.KeyedReplies.{order_by}
use Rattle.ac_calls.specs.Holdings.{Held, Guards, Written, of_rows, of_holder, of_queue, as_object, counted_as, a_sequence, a_map, a_set, a_keyed_set, a_tree, number_of, held_on, guarded, held_under, guard_on, with_rows_by, element_value, key_update_reason, key_updated}
use Rattle.ac_meaning.specs.Environment.{Bound, binds_type, binds_object, binds_cursor, binds_value, binds_element, State, bound_at, bound_by, object_at, objects_by, under, at_rest, value_at, value_in, value_or_zero, element_in, with_bound, leaving}
use Rattle.ac_meaning.specs.Execution.{end_lines, key_end_on, reason_end}
use Rattle.ac_meaning.specs.UnderGuards.{held_without}
use Rattle.ac_meaning.proofs.CountsStay.{guards_come_and_go, counts_are_the_guards, parts_under, cursors_of, elements_of}
use Rattle.ac_meaning.proofs.OnePlace.{guards_are_on_one_object}
use Rattle.ac_objects.specs.declared.blocks.OpenUpdate.{OpenUpdate}
use Rattle.ac_objects.specs.declared.bound.Bound.{Bound as Place}
use Rattle.ac_objects.specs.declared.bound.Bound.TheVariants as bound
use Rattle.ac_objects.specs.declared.object.Object.{Object}
use Rattle.ac_objects.specs.declared.object.Object.TheVariants.{Integers, Texts, IntegerSet, TextSet, KeyedSet, IntegersByInteger, IntegersByText, TextsByInteger, TextsByText, IntegerTree, TextTree, IntegerHolder, TextHolder, Queue}
use Rattle.ac_objects.specs.Blocks.{IsHeldAt}
use Rattle.ac_keyed_calls.specs.KeyedSets.{keyed_items, keyed_kind}
use Rattle.ac_objects.specs.KeyUpdates.{UpdateEnds, key_ended}
use Rattle.ac_objects.specs.Standing.{StandsAt, counts_in, counts_in_held, held_counts, counts_of}
use Rattle.ac_objects.specs.Steps.{CanRead}
use Rattle.ac_objects.specs.World.{World, Counters, world, memory_of, held_in, held_of, AgreesIn, ObjectAgrees, IsKnown, IsSound, Persists, in_rows, state_of}
use Rattle.ac_objects.proofs.Counted.{is_held, is_own, is_counted, no_set, own_number, less_held, less_goes_on, with_one_less, object_read}
use Rattle.ac_objects.proofs.Families.{KeyedTexts, keyed_set, keyed_set_now}
use Rattle.ac_objects.proofs.InScope.{GoesOn, object_there, set_state, set_sound, set_persists, left_object}
use Rattle.ac_meaning.proofs.Places.{set_twice, map_set}
use Rattle.ac_objects.proofs.Worlds.{known_agrees, stands_in}

-- Why an update is refused

-- where nothing refuses it the element is there
pub update_reads : (h : Held) (at : Mark) → key_update_reason h at ≡ None → (element_value h at).reason ≡ None
update_reads (of_rows (a_keyed_set which) o) at e = none_others (tampers_cursors o) (needs o (seen o at) ∷ []) e
update_reads (of_rows (a_sequence which k) o) at e = absurd (cc)
update_reads (of_rows (a_map which k v) o) at e = absurd (cc)
update_reads (of_rows (a_set which k) o) at e = absurd (cc)
update_reads (of_rows (a_tree k) o) at e = absurd (cc)
update_reads (of_holder k h) at e = absurd (cc)
update_reads (of_queue number q) at e = absurd (cc)

-- a keyed set that an object is

keyed_memory : (o : Object) (s : KeyedTexts) → o ≡ KeyedSet s → memory_of o ≡ in_rows (a_keyed_set (keyed_kind s)) (keyed_items s)
keyed_memory o s is = ap memory_of is ∙ keyed_set s

pub keyed_own : (o : Object) (s : KeyedTexts) (g : HeldGuard) → o ≡ KeyedSet s → g ≡ cursor_guard_of (counts_in_held (held_of o)).number →
    g ≡ cursor_guard_of (keyed_items s).object.number
keyed_own o s g is own = own ∙ ap (λ m. cursor_guard_of (counts_in_held (held_in m)).number) (keyed_memory o s is)

pub keyed_held : (o : Object) (s : KeyedTexts) → o ≡ KeyedSet s → 0 < (counts_in_held (held_of o)).cursor_guards → 0 < (keyed_items s).object.cursor_guards
keyed_held o s is held = subst (λ m. 0 < (counts_in_held (held_in m)).cursor_guards) (keyed_memory o s is) held

module _ (o : Object) (s : KeyedTexts) (at : Cursor) (is : o ≡ KeyedSet s) where
  memory : memory_of o ≡ in_rows (a_keyed_set (keyed_kind s)) (keyed_items s)
  memory = keyed_memory o s is

  module _ (agrees : ObjectAgrees o at) where
    own_agrees : Agrees (keyed_items s).object at
    own_agrees = slot_agrees (keyed_items s).object at (subst (λ m. AgreesIn m at) memory agrees)

    marks : mark (keyed_items s).object at ≡ seen (plain (keyed_items s).object) (plain_mark at)
    marks = seen_marks (keyed_items s).object at own_agrees

    pub keyed_refused : (result : Option Reason) → result ≡ update_key_reason (plain (keyed_items s).object) (mark (keyed_items s).object at) →
        result ≡ key_update_reason (held_of o) (plain_mark at)
    keyed_refused result e =
        e ∙ (ap (update_key_reason (plain (keyed_items s).object)) marks ∙ ap (λ m. key_update_reason (held_in m) (plain_mark at)) (sym memory))

    pub keyed_needs : (element_value (held_of o) (plain_mark at)).reason ≡ None → needs_cursor (keyed_items s).object at ≡ None
    keyed_needs e =
        let p = plain (keyed_items s).object in
        let there : first_reason (needs p (seen p (plain_mark at)) ∷ []) ≡ None =
        ap (λ m. (element_value (held_in m) (plain_mark at)).reason) (sym memory) ∙ e in
        ap (needs p) marks ∙ (sym (with_none_later (needs p (seen p (plain_mark at)))) ∙ there)

    -- its end
    module _ (now : KeyedTexts) (copy : Text) (result : Option Reason) (kept : keyed_kind now ≡ keyed_kind s) where
      abbrev the_call : model.Object ℕ Text → Mark → Call (model.Object ℕ Text) Done
      the_call p m = end_update_key_call key_of_text (order_by texts (keyed_kind s)) p m copy

      memory_now : memory_of (KeyedSet now) ≡ in_rows (a_keyed_set (keyed_kind s)) (keyed_items now)
      memory_now = keyed_set_now s now (ap a_keyed_set kept)

      module _ (after : IsAfter (keyed_items s).object (keyed_items now).object (the_call (plain (keyed_items s).object) (mark (keyed_items s).object at)).after) where
        pub keyed_ended : result ≡ (the_call (plain (keyed_items s).object) (mark (keyed_items s).object at)).reason →
            (result ≡ (key_ended (held_of o) (plain_mark at) copy).reason) × (held_of (KeyedSet now) ≡ (key_ended (held_of o) (plain_mark at) copy).after)
        keyed_ended reason = (
          reason ∙ (ap (λ m. (the_call (plain (keyed_items s).object) m).reason) marks ∙ ap (λ m. (key_ended (held_in m) (plain_mark at) copy).reason) (sym memory)),
          ap held_in memory_now
              ∙ (ap (of_rows (a_keyed_set (keyed_kind s))) (after.plainly ∙ ap (λ m. (the_call (plain (keyed_items s).object) m).after) marks)
              ∙ ap (λ m. (key_ended (held_in m) (plain_mark at) copy).after) (sym memory)),
        )

        pub keyed_number : number_of (held_of (KeyedSet now)) ≡ number_of (held_of o)
        keyed_number =
            ap (λ m. number_of (held_in m)) memory_now
            ∙ (ap (λ (p : model.Object ℕ Text). p.number) after.plainly ∙ ap (λ m. number_of (held_in m)) (sym memory))

        pub keyed_cursors : IsValid (plain (keyed_items s).object) → (c : Cursor) → ObjectAgrees o c → ObjectAgrees (KeyedSet now) c
        keyed_cursors valid c h =
            subst (λ m. AgreesIn m c) (sym memory_now)
            (tree_agreement_kept (keyed_items s).object (keyed_items now).object (the_call (plain (keyed_items s).object) (mark (keyed_items s).object at)).after c valid
            (subst (λ m. AgreesIn m c) memory h) after refl (omega arith))

-- and of no other object

pub none_refused : (o : Object) (m : Mark) → ((x : _) → o ≡ KeyedSet x → ⊥) → Some NoElement ≡ key_update_reason (held_of o) m
unfolding memory_of
none_refused (Integers x) m none = refl
none_refused (Texts x) m none = refl
none_refused (IntegerSet x) m none = refl
none_refused (TextSet x) m none = refl
none_refused (KeyedSet x) m none = absurd (none x refl)
none_refused (IntegersByInteger x) m none = refl
none_refused (IntegersByText x) m none = refl
none_refused (TextsByInteger x) m none = refl
none_refused (TextsByText x) m none = refl
none_refused (IntegerTree x) m none = refl
none_refused (TextTree x) m none = refl
none_refused (IntegerHolder x) m none = refl
none_refused (TextHolder x) m none = refl
none_refused (Queue x) m none = refl

abbrev only_released : Held → Written
only_released h = record { reason = None; after = with_rows_by (λ V p. release_call false guard.Cursors p) h }

none_ended : (o : Object) (m : Mark) (copy : Text) → ((x : _) → o ≡ KeyedSet x → ⊥) → key_ended (held_of o) m copy ≡ only_released (held_of o)
unfolding memory_of
none_ended (Integers x) m copy none = refl
none_ended (Texts x) m copy none = refl
none_ended (IntegerSet x) m copy none = refl
none_ended (TextSet x) m copy none = refl
none_ended (KeyedSet x) m copy none = absurd (none x refl)
none_ended (IntegersByInteger x) m copy none = refl
none_ended (IntegersByText x) m copy none = refl
none_ended (TextsByInteger x) m copy none = refl
none_ended (TextsByText x) m copy none = refl
none_ended (IntegerTree x) m copy none = refl
none_ended (TextTree x) m copy none = refl
none_ended (IntegerHolder x) m copy none = refl
none_ended (TextHolder x) m copy none = refl
none_ended (Queue x) m copy none = refl

module _ (o now : Object) (g : HeldGuard) (now_is : now ≡ with_one_less o g.kind) (cursors : g.kind ≡ guard.Cursors) where
  is_less : now ≡ with_one_less o guard.Cursors
  is_less = now_is ∙ ap (with_one_less o) cursors

  pub other_ended : (m : Mark) (copy : Text) → ((x : _) → o ≡ KeyedSet x → ⊥) →
      (None ≡ (key_ended (held_of o) m copy).reason) × (held_of now ≡ (key_ended (held_of o) m copy).after)
  other_ended m copy none =
      let same = none_ended o m copy none in (
        ap (λ (w : Written). w.reason) (sym same),
        ap held_of is_less ∙ (less_held o guard.Cursors ∙ ap (λ (w : Written). w.after) (sym same)),
      )

  pub other_goes : GoesOn o now
  other_goes = subst (GoesOn o) (sym is_less) (less_goes_on o guard.Cursors)

-- and for no other reason than that the copy has another key

other_key : (keeps : Bool) → IfSome (first_reason (reason_if (not keeps) KeyChanged ∷ [])) (λ reason. reason ≡ KeyChanged)
other_key true = tt
other_key false = refl

pub only_changed : (h : Held) (m : Mark) (copy : Text) → IfSome (key_ended h m copy).reason (λ reason. reason ≡ KeyChanged)
only_changed (of_rows (a_keyed_set which) o) m copy = other_key (keeps_key key_of_text (order_by texts which) (row_value o.rows (name_of (seen o m))) copy)
only_changed (of_rows (a_sequence which k) o) m copy = tt
only_changed (of_rows (a_map which k v) o) m copy = tt
only_changed (of_rows (a_set which k) o) m copy = tt
only_changed (of_rows (a_tree k) o) m copy = tt
only_changed (of_holder k h) m copy = tt
only_changed (of_queue number q) m copy = tt

-- In its place

-- the object of a place, whose counts change alone
counts_ended : (h : Held) (m : Mark) (copy : Text) →
    held_counts (key_ended h m copy).after ≡ held_counts (with_rows_by (λ V p. release_call false guard.Cursors p) h)
counts_ended (of_rows (a_keyed_set which) o) m copy = refl
counts_ended (of_rows (a_sequence which k) o) m copy = refl
counts_ended (of_rows (a_map which k v) o) m copy = refl
counts_ended (of_rows (a_set which k) o) m copy = refl
counts_ended (of_rows (a_tree k) o) m copy = refl
counts_ended (of_holder k h) m copy = refl
counts_ended (of_queue number q) m copy = refl

module _ (w : World) (bounds : List Place) (next : Counters) (place : ℕ) (x : Place) (o : Object) (view : world bounds next ≡ w) (sound : IsSound (world bounds next))
    (read : x ≡ get_or bounds place x) (is : x ≡ bound.Object o) (k : Held) (stands : object_at (state_of w) place ≡ Some k) where
  there : slice_get bounds place ≡ Some (bound.Object o)
  there = object_read w bounds next place x o view sound read is k stands

  seen_in : (h : Held) → object_at (state_of w) place ≡ Some h → held_of o ≡ h
  seen_in h at = is_held bounds next place o there h (subst (λ v. object_at (state_of v) place ≡ Some h) (sym view) at)

  -- what the call on it asks for

  pub end_agrees : (c : Cursor) → IsKnown w c → ObjectAgrees o c
  end_agrees c known = known_agrees bounds next place o c (subst (λ v. IsKnown v c) (sym view) known) there

  pub end_element : (m : Mark) → StandsAt (state_of w) place m → (element_value (held_of o) m).reason ≡ None
  end_element m s = subst (λ h. (element_value h m).reason ≡ None) (sym (seen_in s.held s.there)) s.stands

  module _ (g : HeldGuard) (held : IsHeldAt (state_of w) place g) (cursors : g.kind ≡ guard.Cursors) where
    held_here : IsHeldAt (state_of (world bounds next)) place g
    held_here = subst (λ v. IsHeldAt (state_of v) place g) (sym view) held

    own : g.object ≡ number_of (held_of o)
    own = is_own bounds next place o there g held_here

    pub end_own : g ≡ cursor_guard_of (counts_in_held (held_of o)).number
    end_own = λ i. record { object = (own ∙ sym (own_number o)) i; kind = cursors i }

    pub end_held : 0 < (counts_in_held (held_of o)).cursor_guards
    end_held = subst (λ (kind : _). 0 < count_of kind (counts_in_held (held_of o))) cursors (is_counted bounds next place o there g held_here)

    -- the guard is released from it alone
    released : objects_by (held_without g) (state_of w) ≡ with_bound (state_of w) place (binds_object (with_rows_by (λ V p. release_call false guard.Cursors p) (held_of o)))
    released =
        let n = number_of (held_of o) in
        let e = state_of (world bounds next) in
        let same : g ≡ guard_on (no_set n) guard.Cursors = λ i. record { object = own i; kind = cursors i } in
        ap (λ v. objects_by (held_without g) (state_of v)) (sym view)
        ∙ (ap (λ h. objects_by (held_without h) e) same
        ∙ (guards_are_on_one_object.released e place (no_set n) (held_of o) guard.Cursors sound.numbers_differ (object_there bounds next place o there) refl
        ∙ ap (λ v. with_bound (state_of v) place (binds_object (with_rows_by (λ V p. release_call false guard.Cursors p) (held_of o)))) view))

    module _ (now : Object) (number : number_of (held_of now) ≡ number_of (held_of o)) (agrees : (c : Cursor) → ObjectAgrees o c → ObjectAgrees now c) where
      goes : GoesOn o now
      goes = record { number = number; agrees = agrees }

      pub end_sound : IsSound (world (set bounds place (bound.Object now)) next)
      end_sound = set_sound bounds next place o now there goes sound

      pub end_persists : Persists w (world (set bounds place (bound.Object now)) next)
      end_persists = subst (λ v. Persists v (world (set bounds place (bound.Object now)) next)) view (set_persists bounds next place o now there goes)

      state : state_of (world (set bounds place (bound.Object now)) next) ≡ with_bound (state_of w) place (binds_object (held_of now))
      state = set_state bounds next place o now there goes ∙ ap (λ v. with_bound (state_of v) place (binds_object (held_of now))) view

      twice : (e : State) (a b : Bound) → with_bound (with_bound e place a) place b ≡ with_bound e place b
      twice e a b = λ i. record e { bounds = set_twice e.bounds place a b i }

      module _ (m : Mark) (copy : Text) (result : Option Reason)
          (ended : (result ≡ (key_ended (held_of o) m copy).reason) × (held_of now ≡ (key_ended (held_of o) m copy).after)) where
        pub end_state : (h : Held) → object_at (state_of w) place ≡ Some h → (result ≡ (key_ended h m copy).reason)
            × (state_of (world (set bounds place (bound.Object now)) next)
            ≡ with_bound (objects_by (held_without g) (state_of w)) place (binds_object (key_ended h m copy).after))
        end_state h at =
            subst (λ y. (result ≡ (key_ended y m copy).reason) × (state_of (world (set bounds place (bound.Object now)) next)
            ≡ with_bound (objects_by (held_without g) (state_of w)) place (binds_object (key_ended y m copy).after))) (seen_in h at) (
              ended.0,
              state
                  ∙ (ap (λ y. with_bound (state_of w) place (binds_object y)) ended.1
                  ∙ (sym (twice (state_of w) _ (binds_object (key_ended (held_of o) m copy).after))
                  ∙ ap (λ e. with_bound e place (binds_object (key_ended (held_of o) m copy).after)) (sym released))),
            )

        pub end_counts : counts_of (state_of (world (set bounds place (bound.Object now)) next)) ≡ counts_of (objects_by (held_without g) (state_of w))
        end_counts =
            let e = state_of w in
            ap counts_of state
            ∙ (map_set counts_in e.bounds place (binds_object (held_of now))
            ∙ (ap (λ y. slice_set (counts_of e) place (Some y)) (ap held_counts ended.1 ∙ counts_ended (held_of o) m copy)
            ∙ (sym (map_set counts_in e.bounds place (binds_object (with_rows_by (λ V p. release_call false guard.Cursors p) (held_of o))))
            ∙ ap counts_of (sym released))))

-- In the environment that the body left

-- the value of a name doesn't depend on guards

element_under : (guards : Guards) (h : Held) (m : Mark) → (element_value (held_under guards h) m).answer ≡ (element_value h m).answer
element_under guards (of_rows (a_keyed_set which) o) m = refl
element_under guards (of_rows (a_sequence which k) o) m = refl
element_under guards (of_rows (a_map which k v) o) m = refl
element_under guards (of_rows (a_set which k) o) m = refl
element_under guards (of_rows (a_tree k) o) m = refl
element_under guards (of_holder k h) m = refl
element_under guards (of_queue number q) m = refl

found_under : (guards : Guards) (found : Option Held) (m : Mark) → element_in (option_map (held_under guards) found) m ≡ element_in found m
found_under guards None m = refl
found_under guards (Some h) m = element_under guards h m

in_under : (guards : Guards) (e : State) (b : Bound) → value_in (under guards e) (bound_by (held_under guards) b) ≡ value_in e b
in_under guards e binds_type = refl
in_under guards e (binds_object h) = refl
in_under guards e (binds_cursor c) = refl
in_under guards e (binds_value v) = refl
in_under guards e (binds_element object at) =
    ap (λ found. value_or_zero (element_in found at)) (parts_under.object guards e object)
    ∙ ap value_or_zero (found_under guards (object_at e object) at)

value_under : (guards : Guards) (e : State) (place : ℕ) → value_at (under guards e) place ≡ value_at e place
value_under guards e place = ap (value_in (under guards e)) (parts_under.bound guards e place) ∙ in_under guards e (bound_at e place)

-- the counts without the guard

on_own : (object number : ℕ) (b : Bool) (count : ℕ) → object ≡ number → b ≡ true → (if (object == number) && b then 1 else 0) + count ≡ 1 + count
on_own object number b count e t = rw (eq-eqb object number e, t) refl

less_one : (x count : ℕ) → 1 + count ≡ x → x - 1 ≡ count
less_one x count e = omega (arith, e)

module _ (g : HeldGuard) (guards : Guards) (cursors : g.kind ≡ guard.Cursors) where
  cursor_count : (number : ℕ) → g.object ≡ number → held_on (g ∷ guards) number guard.Cursors ≡ 1 + held_on guards number guard.Cursors
  cursor_count number own =
      ap (λ k. held_on (record { object = g.object; kind = k } ∷ guards) number guard.Cursors) cursors
      ∙ on_own g.object number true (held_on guards number guard.Cursors) own refl

  element_count : (number : ℕ) → held_on (g ∷ guards) number guard.Elements ≡ held_on guards number guard.Elements
  element_count number =
      ap (λ k. held_on (record { object = g.object; kind = k } ∷ guards) number guard.Elements) cursors ∙ no_more (g.object == number)
    where
      no_more : (b : Bool) → (if b && false then 1 else 0) + held_on guards number guard.Elements ≡ held_on guards number guard.Elements
      no_more true = omega arith
      no_more false = omega arith

  -- an object with these counts is as it is without the guard
  fits : {V : Type 0} (o : model.Object ℕ V) → o.cursor_guards ≡ held_on guards o.number guard.Cursors → o.element_guards ≡ held_on guards o.number guard.Elements →
      guarded guards V o ≡ o
  fits o c e = λ i. record o { cursor_guards = sym c i; element_guards = sym e i }

  counts_fit : (h : Held) (at : Mark) (v : Value) → held_under (g ∷ guards) h ≡ h → g.object ≡ number_of h →
      held_under guards (key_updated h at v).after ≡ (key_ended h at (text_in v)).after
  counts_fit (of_rows (a_keyed_set which) o) at v e own =
      ap (of_rows (a_keyed_set which))
      (fits (end_update_key_call key_of_text (order_by texts which) o (seen o at) (text_in v)).after
      (less_one o.cursor_guards _ (sym (cursor_count o.number own) ∙ ap cursors_of e)) (sym (sym (element_count o.number) ∙ ap elements_of e)))
  counts_fit (of_rows (a_sequence which k) o) at v e own =
      ap (of_rows (a_sequence which k))
      (fits (release_call false guard.Cursors o)
      (less_one o.cursor_guards _ (sym (cursor_count o.number own) ∙ ap cursors_of e)) (sym (sym (element_count o.number) ∙ ap elements_of e)))
  counts_fit (of_rows (a_map which k x) o) at v e own =
      ap (of_rows (a_map which k x))
      (fits (release_call false guard.Cursors o)
      (less_one o.cursor_guards _ (sym (cursor_count o.number own) ∙ ap cursors_of e)) (sym (sym (element_count o.number) ∙ ap elements_of e)))
  counts_fit (of_rows (a_set which k) o) at v e own =
      ap (of_rows (a_set which k))
      (fits (release_call false guard.Cursors o)
      (less_one o.cursor_guards _ (sym (cursor_count o.number own) ∙ ap cursors_of e)) (sym (sym (element_count o.number) ∙ ap elements_of e)))
  counts_fit (of_rows (a_tree k) o) at v e own =
      ap (of_rows (a_tree k))
      (fits (release_call false guard.Cursors o)
      (less_one o.cursor_guards _ (sym (cursor_count o.number own) ∙ ap cursors_of e)) (sym (sym (element_count o.number) ∙ ap elements_of e)))
  counts_fit (of_holder k h) at v e own =
      let o = as_object h in
      ap (λ p. of_holder k (counted_as h p))
      (fits (release_call false guard.Cursors o)
      (less_one o.cursor_guards _ (sym (cursor_count o.number own) ∙ ap cursors_of e)) (sym (sym (element_count o.number) ∙ ap elements_of e)))
  counts_fit (of_queue number q) at v e own = refl

reasons_fit : (h : Held) (at : Mark) (v : Value) → (key_ended h at (text_in v)).reason ≡ (key_updated h at v).reason
reasons_fit (of_rows (a_keyed_set which) o) at v = refl
reasons_fit (of_rows (a_sequence which k) o) at v = refl
reasons_fit (of_rows (a_map which k x) o) at v = refl
reasons_fit (of_rows (a_set which k) o) at v = refl
reasons_fit (of_rows (a_tree k) o) at v = refl
reasons_fit (of_holder k h) at v = refl
reasons_fit (of_queue number q) at v = refl

module _ (key : OpenUpdate) (old new : State) (copy : Text) (result : Option Reason) (held : IsHeldAt old key.object key.guard)
    (cursors : key.guard.kind ≡ guard.Cursors) (below : key.object < key.names) (copied : copy ≡ text_in (value_at old key.names))
    (ended : (h : Held) → object_at (leaving key.names old) key.object ≡ Some h → (result ≡ (key_ended h (plain_mark key.at) copy).reason)
    × (new ≡ with_bound (objects_by (held_without key.guard) (leaving key.names old)) key.object (binds_object (key_ended h (plain_mark key.at) copy).after))) where
  pub update_ends : UpdateEnds key old new result
  update_ends line guards e is =
      let all = key.guard ∷ guards in
      let at = plain_mark key.at in
      let rest = leaving key.names e in
      let v = value_at e key.names in
      let h = held.held in
      let left : leaving key.names old ≡ under all rest = ap (leaving key.names) is ∙ sym (parts_under.left all key.names e) in
      let there : object_at (leaving key.names old) key.object ≡ Some h = left_object old key.names key.object below ∙ held.there in
      let found : object_at (under all rest) key.object ≡ Some h = ap (λ s. object_at s key.object) (sym left) ∙ there in
      let again : object_at (under all (under all rest)) key.object ≡ Some h = ap (λ s. object_at s key.object) (counts_are_the_guards.anew all all rest) ∙ found in
      let fit : held_under all h ≡ h =
      same_Some (held_under all h) h
      (sym (parts_under.object all (under all rest) key.object ∙ ap (option_map (held_under all)) found) ∙ again) in
      let text : copy ≡ text_in v = copied ∙ ap text_in (ap (λ s. value_at s key.names) is ∙ value_under all e key.names) in
      let end = ended h there in
      let w = key_updated h at v in
      let reason : result ≡ w.reason = end.0 ∙ (ap (λ t. (key_ended h at t).reason) text ∙ reasons_fit h at v) in
      let after : (key_ended h at copy).after ≡ held_under guards w.after =
      ap (λ t. (key_ended h at t).after) text ∙ sym (counts_fit key.guard guards cursors h at v fit held.own) in
      let others : objects_by (held_without key.guard) (leaving key.names old) ≡ under guards rest =
      ap (objects_by (held_without key.guard)) left ∙ guards_come_and_go.released key.guard guards rest in
      let state : new ≡ under guards (at_rest (with_bound rest key.object (binds_object w.after))) =
      end.1
      ∙ ((λ i. with_bound (others i) key.object (binds_object (after i)))
      ∙ (sym (parts_under.set guards rest key.object (binds_object w.after))
      ∙ sym (counts_are_the_guards.rested guards (with_bound rest key.object (binds_object w.after))))) in
      subst (λ (x : Option Held). ((key_end_on line key.object rest at v x).lines ≡ end_lines line result) × (new ≡ under guards (key_end_on line key.object rest at v x).after)
      × ((key_end_on line key.object rest at v x).end ≡ reason_end result))
      (sym found) (ap (end_lines line) (sym reason), state, ap reason_end (sym reason))

-- what a name that goes leaves below it
pub stands_left : (e now : State) (count place : ℕ) (m : Mark) → now ≡ leaving count e → place < count → StandsAt e place m → StandsAt now place m
stands_left e now count place m is below s = subst (λ x. StandsAt x place m) (sym is) (record {
  held = s.held;
  there = left_object e count place below ∙ s.there;
  stands = s.stands;
})

-- a copy that can be read
pub can_copy : (w : World) (bs : List Place) (n : Counters) (i : ℕ) (at : Cursor) → world bs n ≡ w → IsKnown w at → StandsAt (state_of w) i (plain_mark at) → CanRead bs i at
can_copy w bs n i at view known s =
    let found = stands_in bs n i s.held (subst (λ v. object_at (state_of v) i ≡ Some s.held) (sym view) s.there) in
    record {
      held = found.object;
      there = found.there;
      agrees = known_agrees bs n i found.object at (subst (λ v. IsKnown v at) (sym view) known) found.there;
      stands = subst (λ h. (element_value h (plain_mark at)).reason ≡ None) (sym found.is_held) s.stands;
    }

pub copied_there : (w : World) (bs : List Place) (n : Counters) (i : ℕ) (m : Mark) → world bs n ≡ w → (result : Result Value NoMemory) →
    IfOk result (λ v. v ≡ value_in (state_of (world bs n)) (binds_element i m)) →
    (h : Held) → object_at (state_of w) i ≡ Some h → IfOk result (λ v. v ≡ value_or_zero (element_value h m).answer)
copied_there w bs n i m view (Ok v) e h at =
    e ∙ ap (λ found. value_or_zero (element_in found m)) (ap (λ x. object_at (state_of x) i) view ∙ at)
copied_there w bs n i m view (Err fault) e h at = tt

-- where nothing refuses the head the element stands there
pub passed_stands : (e : State) (place : ℕ) (h : Held) (m : Mark) → object_at e place ≡ Some h → key_update_reason h m ≡ None → StandsAt e place m
passed_stands e place h m there none = record { held = h; there = there; stands = update_reads h m none }

pub raised_cursors : (is_set : Bool) → raised_kind is_set guard.Cursors ≡ guard.Cursors
raised_cursors true = refl
raised_cursors false = refl
