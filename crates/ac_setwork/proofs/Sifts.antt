-- A walk over a set that drops each element which isn't wanted.
use Rattle.std.proofs.Common.{◌≡◌, ◌+◌, ◌≤◌, ◌<◌, ℕ, suc, Bool, true, false, List, [], ◌∷◌, ◌++◌, ◌||◌, length, Option, Some, None, IsTrue, refl, sym, ap, ◌∙◌, subst, arith}
use Rattle.std.specs.Prelude.{filter, option_map, slice_get}
use Rattle.std.proofs.Math.Seq.{drop-append-add, take-append_seam}
use Rattle.std.proofs.lemmas.List.{append-nil, append_assoc, length-append}
use Rattle.ac_base.specs.declared.name.Name.{Name}
use Rattle.ac_base.specs.Rows.{Row, names}
use Rattle.ac_model.specs.Calls.{IsAfter, KeepsSlots}
use Rattle.ac_model.specs.Containers.{Container, slots_of}
use Rattle.ac_model.specs.Letters.{is_among, is_same_name}
use Rattle.ac_model.specs.Objects.{IsValid, Object, plain, plain_row, plains, times, with_rows}
use Rattle.ac_model.specs.Rows.{cut, place_of}
use Rattle.ac_model.proofs.Plains.{length-plains, plains-append}
use Rattle.ac_model.proofs.SequencesKept.{cut_kept}
use Rattle.ac_setwork.specs.Indexed.{name_at, name_after, value_of}
use Rattle.ac_setwork.specs.SetSeen.{IsSifted, indexed}
use Rattle.ac_setwork.proofs.Found.{or_true}
use Rattle.ac_setwork.proofs.KeptSlots.{below_next, by_serial, keeps_both, keeps_itself, same_with_slots}
use Rattle.ac_setwork.proofs.Walking.{Walking, ended, place_behind, started, stepped, still, still_is}

or_later : (first before after : Bool) → (before ≡ true → after ≡ true) → (first || before) ≡ true → (first || after) ≡ true
or_later true before after later h = refl
or_later false before after later h = later h

module _ {V : Type 0} where
  among_both : (xs ys : List (Row Name V)) (r : Row Name V) (a : Name) → is_among (names (xs ++ ys)) a ≡ true → is_among (names (xs ++ r ∷ ys)) a ≡ true
  among_both [] ys r a h = ap (λ c. is_same_name a r.name || c) h ∙ or_true (is_same_name a r.name)
  among_both (x ∷ xs) ys r a h = or_later (is_same_name a x.name) (is_among (names (xs ++ ys)) a) (is_among (names (xs ++ r ∷ ys)) a) (among_both xs ys r a) h

  -- one row was taken out of the middle
  cut_middle : (xs : List (Row ℕ V)) (r : Row ℕ V) (ys : List (Row ℕ V)) → cut (xs ++ r ∷ ys) (length xs) 1 ≡ xs ++ ys
  cut_middle xs r ys = λ i. take-append_seam xs (r ∷ ys) i ++ drop-append-add xs (r ∷ ys) 1 i

  abbrev pub IsDropped : Container V → Container V → Name → Type 0
  IsDropped now new name = IsAfter now.object new.object (with_rows (plain now.object) (cut (plains now.object.rows) (place_of (plains now.object.rows) name.serial) 1))

  rest_of : (start now : Object ℕ V) (rows : List (Row ℕ V)) (new : Object Name V) → plain new ≡ with_rows now rows → now ≡ with_rows start now.rows → plain new ≡ with_rows start (plains new.rows)
  rest_of start now rows new e f = e ∙ ap (λ o. with_rows o rows) f ∙ ap (with_rows start) (sym (ap (λ (o : Object ℕ V). o.rows) e))

  module _ (wanted : V → Bool) (start : Container V) where
    abbrev keeps : List (Row ℕ V) → List (Row ℕ V)
    keeps rows = filter (λ r. wanted r.value) rows

    -- those before were wanted, and stayed
    pub record Sifting (now : Container V) (place : Option Name) : Type 0 where
      pub before : List (Row Name V)
      pub left : List (Row Name V)
      pub walk : Walking (indexed now) before left place
      pub whole : keeps (plains start.object.rows) ≡ plains before ++ keeps (plains left)
      pub rest : plain now.object ≡ with_rows (plain start.object) (plains now.object.rows)
      pub slots_kept : KeepsSlots start.object now.object
      pub slots : slots_of now ≡ slots_of start
      pub valid : IsValid (plain now.object)

    pub sifting_starts : (place : Option Name) → IsValid (plain start.object) → place ≡ name_at (indexed start) 0 → Sifting start place
    sifting_starts place valid is = record {
      before = [];
      left = start.object.rows;
      walk = started (indexed start) place is;
      whole = refl;
      rest = refl;
      slots_kept = keeps_itself start.object;
      slots = refl;
      valid = valid;
    }

    pub sifting_there : (now : Container V) (name : Name) → Sifting now (Some name) → IsTrue (is_among (names now.object.rows) name)
    sifting_there now name m = (stepped (indexed now) m.valid.names_differ m.before m.left name m.walk).there

    -- an element that is wanted
    pub sifted_kept : (now : Container V) (name : Name) (next : Option Name) (v : V) (b : Bool) → Sifting now (Some name) → value_of (indexed now) name ≡ Some v → b ≡ wanted v → b ≡ true → next ≡ name_after (indexed now) name → Sifting now next
    sifted_kept now name next v b m e is passed at =
        let step = stepped (indexed now) m.valid.names_differ m.before m.left name m.walk in
        let value : step.row.value ≡ v = (let k : Some step.row.value ≡ Some v = sym step.value ∙ e in cc) in
        let stays : wanted step.row.value ≡ true = ap wanted value ∙ sym is ∙ passed in
        let one : keeps (plains (step.row ∷ step.rest)) ≡ plain_row step.row ∷ keeps (plains step.rest) = rw stays refl in
        record {
          before = m.before ++ step.row ∷ [];
          left = step.rest;
          walk = subst (Walking (indexed now) (m.before ++ step.row ∷ []) step.rest) (sym at) step.next;
          whole = m.whole ∙ ap (λ rs. plains m.before ++ keeps (plains rs)) step.is ∙ ap (λ rs. plains m.before ++ rs) one
              ∙ sym (append_assoc (plains m.before) (plain_row step.row ∷ []) (keeps (plains step.rest))) ∙ ap (λ rs. rs ++ keeps (plains step.rest)) (sym (plains-append m.before (step.row ∷ [])));
          rest = m.rest;
          slots_kept = m.slots_kept;
          slots = m.slots;
          valid = m.valid;
        }

    -- what is left where one is dropped
    pub dropped_rows : (now new : Container V) (name : Name) → (m : Sifting now (Some name)) → IsDropped now new name
        → new.object.rows ≡ m.before ++ (stepped (indexed now) m.valid.names_differ m.before m.left name m.walk).rest
    dropped_rows now new name m d =
        let step = stepped (indexed now) m.valid.names_differ m.before m.left name m.walk in
        let rows : now.object.rows ≡ m.before ++ step.row ∷ step.rest = m.walk.rows ∙ ap (λ rs. m.before ++ rs) step.is in
        let is : step.row.name ≡ name = (let k : Some name ≡ Some step.row.name = m.walk.stands ∙ ap (λ rs. option_map (λ (r : Row Name V). r.name) (slice_get rs 0)) step.is in cc) in
        let place : place_of (plains now.object.rows) name.serial ≡ length (plains m.before) =
        ap (λ (a : Name). place_of (plains now.object.rows) a.serial) (sym is) ∙ ap (λ rs. place_of (plains rs) step.row.name.serial) rows
        ∙ place_behind m.before step.row step.rest (subst (λ rs. times step.row.name.serial (plains rs) ≤ 1) rows (m.valid.names_differ step.row.name.serial)) ∙ sym (length-plains m.before) in
        let parts : plains now.object.rows ≡ plains m.before ++ plain_row step.row ∷ plains step.rest = ap plains rows ∙ plains-append m.before (step.row ∷ step.rest) in
        let after : plains new.object.rows ≡ plains (m.before ++ step.rest) = ap (λ (o : Object ℕ V). o.rows) d.plainly ∙ (λ i. cut (parts i) (place i) 1) ∙ cut_middle (plains m.before) (plain_row step.row) (plains step.rest) ∙ sym (plains-append m.before step.rest) in
        same_with_slots (names now.object.rows) now.object.next (by_serial now.object.rows m.valid.names_differ) (below_next now.object m.valid) new.object.rows (m.before ++ step.rest) d.slots
        (λ a t. subst (λ rs. is_among (names rs) a ≡ true) (sym rows) (among_both m.before step.rest step.row a t)) after

    pub sifted_dropped : (now new : Container V) (name : Name) (next : Option Name) (v : V) (b : Bool) → Sifting now (Some name) → value_of (indexed now) name ≡ Some v → b ≡ wanted v → b ≡ false → next ≡ name_after (indexed now) name
        → IsDropped now new name → new.spare ≡ now.spare + 1 → Sifting new next
    sifted_dropped now new name next v b m e is failed at d spare =
        let step = stepped (indexed now) m.valid.names_differ m.before m.left name m.walk in
        let value : step.row.value ≡ v = (let k : Some step.row.value ≡ Some v = sym step.value ∙ e in cc) in
        let goes : wanted step.row.value ≡ false = ap wanted value ∙ sym is ∙ failed in
        let one : keeps (plains (step.row ∷ step.rest)) ≡ keeps (plains step.rest) = rw goes refl in
        let rows = dropped_rows now new name m d in
        let next_is : new.object.next ≡ now.object.next = ap (λ (o : Object ℕ V). o.next) d.plainly in
        let same_next : now.object.next ≡ start.object.next = ap (λ (o : Object ℕ V). o.next) m.rest in
        let were : length now.object.rows ≡ length m.before + suc (length step.rest) = ap length m.walk.rows ∙ ap (λ rs. length (m.before ++ rs)) step.is ∙ length-append m.before (step.row ∷ step.rest) in
        let are : length new.object.rows ≡ length m.before + length step.rest = ap length rows ∙ length-append m.before step.rest in
        let slots = m.slots in
        record {
          before = m.before;
          left = step.rest;
          walk = record { rows = rows; stands = at ∙ step.next.stands };
          whole = m.whole ∙ ap (λ rs. plains m.before ++ keeps (plains rs)) step.is ∙ ap (λ rs. plains m.before ++ rs) one;
          rest = rest_of (plain start.object) (plain now.object) (cut (plains now.object.rows) (place_of (plains now.object.rows) name.serial) 1) new.object d.plainly m.rest;
          slots_kept = keeps_both start.object now.object new.object (omega (arith, same_next)) m.slots_kept d.slots;
          slots = omega (arith, spare, were, are, slots);
          valid = subst IsValid (sym d.plainly) (cut_kept (plain now.object) (place_of (plains now.object.rows) name.serial) 1 m.valid);
        }

    -- each step is nearer to the end
    pub dropped_nearer : (now new : Container V) (place : Option Name) (name : Name) (next : Option Name) (v : V) (b : Bool) → Sifting now place → place ≡ Some name → value_of (indexed now) name ≡ Some v → b ≡ wanted v → b ≡ false → next ≡ name_after (indexed now) name
        → IsDropped now new name → new.spare ≡ now.spare + 1 → still (indexed new) next < still (indexed now) place
    unfolding sifted_dropped
    dropped_nearer now new place name next v b i is e found failed at d spare =
        let m = subst (Sifting now) is i in
        let step = stepped (indexed now) m.valid.names_differ m.before m.left name m.walk in
        let n = sifted_dropped now new name next v b m e found failed at d spare in
        let later = still_is (indexed new) n.valid.names_differ m.before step.rest next n.walk in
        let here = ap (still (indexed now)) is ∙ still_is (indexed now) m.valid.names_differ m.before m.left (Some name) m.walk in
        let longer : length m.left ≡ suc (length step.rest) = ap length step.is in
        omega (arith, later, here, longer)

    pub sifting_ends : (now : Container V) → Sifting now None → IsSifted wanted start now
    sifting_ends now m =
        let none = ended (indexed now) m.before m.left m.walk in
        let rows : plains now.object.rows ≡ keeps (plains start.object.rows) = ap plains (m.walk.rows ∙ ap (λ rs. m.before ++ rs) none ∙ append-nil m.before) ∙ sym (m.whole ∙ ap (λ rs. plains m.before ++ keeps (plains rs)) none ∙ append-nil (plains m.before)) in
        record {
          after = record { plainly = m.rest ∙ ap (with_rows (plain start.object)) rows; slots = m.slots_kept };
          slots = m.slots;
        }
