-- Rows that stand at a place: the first, the last, and those that a search meets from the end.
use Rattle.std.proofs.Common.{◌≡◌, ◌==◌, ◌||◌, ◌+◌, ◌-◌, ◌<◌, ◌≤◌, ℕ, zero, suc, Bool, true, false, not, List, [], ◌∷◌, ◌++◌, length, take, drop, Option, Some, None, Ok, IsTrue, refl, sym, ap, ◌∙◌, subst, inl, inr, arith, eq-eqb, eqb-true}
use Rattle.std.specs.Prelude.{reverse, option_map, slice_get}
use Rattle.std.specs.Borrow.{Bor}
use Rattle.std.specs.List.{list_any}
use Rattle.std.proofs.lemmas.List.Sorted.{list_any-IsPermutation, IsPermutation-reverse}
use Rattle.std.proofs.lemmas.Bool.{cases_Bool}
use Rattle.std.proofs.lemmas.List.{length-map}
use Rattle.std.proofs.lemmas.Option.{none-some, slice_get-map, slice_get_cases, slice_get_within}
use Rattle.ac_base.specs.declared.cursor.Cursor.{Cursor}
use Rattle.ac_base.specs.declared.name.Name.{Name}
use Rattle.ac_base.specs.declared.reason.Reason.TheVariants.{Empty}
use Rattle.ac_base.specs.declared.limit.Limit.{Limit}
use Rattle.ac_base.specs.FirstReason.{first_reason, earlier}
use Rattle.ac_base.specs.Guards.{GuardCounts}
use Rattle.ac_base.specs.Rows.{Row, names, values}
use Rattle.ac_model.specs.Rows.{cut, place_of, value_at, row_by}
use Rattle.ac_model.specs.Objects.{Object, plain, plains, plain_row, contents, length_of, with_rows, times}
use Rattle.ac_model.specs.Letters.{is_among, is_same_name, mark_of, mark_for, needs, tampers_cursors, reason_if}
use Rattle.ac_model.specs.Calls.{Changing, IsAfter, Same, Marks, Looking, Lends, Call, Done, call, look, takes_none}
use Rattle.ac_model.specs.Cursors.{mark, needs_cursor, cursor_at, name_in}
use Rattle.ac_model.specs.Keyed as keyed
use Rattle.ac_model.specs.Keyed.{Order}
use Rattle.ac_model.specs.Sequences as sequences
use Rattle.ac_model.proofs.Plains.{slice_get-plains, plains-reverse}
use Rattle.ac_model.proofs.RowLaws.{at_its_place}
use Rattle.ac_setwork.specs.Indexed.{Indexed, plain_rows, found_in}
use Rattle.ac_setwork.specs.Ends.{name_up_to, last_name}
use Rattle.ac_setwork.specs.TableFields.{object_of}
use Rattle.ac_setwork.proofs.Found.{at_place, among_found, marked, none_found, place_marks, row_named, stands}
use Rattle.ac_setwork.proofs.Tables.{IsTaken, becomes_after, all_from}

pub not_zero : (n : ℕ) → 0 < n → (n == 0) ≡ false
not_zero n h = elim (cases_Bool (n == 0)) [ inl t ↦ absurd (let e = eqb-true n 0 t in omega (arith, h, e)) | inr f ↦ f ]

module _ {V : Type 0} where
  times_at : (rows : List (Row ℕ V)) (i : ℕ) (r : Row ℕ V) → slice_get rows i ≡ Some r → 1 ≤ times r.name rows
  times_at [] i r h = absurd (none-some r h)
  times_at (x ∷ rows) zero r h = let e : x ≡ r = cc in let same = eq-eqb x.name r.name (ap (λ (y : Row ℕ V). y.name) e) in rw same (omega arith)
  times_at (x ∷ rows) (suc i) r h = let more = times_at rows i r h in elim (cases_Bool (x.name == r.name)) [
    | inl t ↦ rw t (omega arith)
    | inr f ↦ rw f (omega arith)
  ]

  -- the place of a row is where it stands
  pub place_at : (rows : List (Row ℕ V)) (i : ℕ) (r : Row ℕ V) → times r.name rows ≤ 1 → slice_get rows i ≡ Some r → place_of rows r.name ≡ i
  place_at [] i r once h = absurd (none-some r h)
  place_at (x ∷ rows) zero r once h = let e : x ≡ r = cc in let same = eq-eqb x.name r.name (ap (λ (y : Row ℕ V). y.name) e) in rw same refl
  place_at (x ∷ rows) (suc i) r once h = let more = times_at rows i r h in elim (cases_Bool (x.name == r.name)) [
    | inl t ↦ absurd (let two : 1 + times r.name rows ≤ 1 = simp t at once in omega arith)
    | inr f ↦ let rest : 0 + times r.name rows ≤ 1 = simp f at once in let rest : times r.name rows ≤ 1 = omega (arith, rest) in rw f (ap suc (place_at rows i r rest h))
  ]

  -- what is known of the row at a place, by its name
  pub record IsAt (rows : List (Row Name V)) (i : ℕ) (a : Name) : Type 0 where
    pub within : i < length rows
    pub there : is_among (names rows) a ≡ true
    pub place : place_of (plains rows) a.serial ≡ i
    pub value : slice_get (values (plains rows)) i ≡ value_at (plains rows) a.serial

  pub is_at : (rows : List (Row Name V)) (i : ℕ) (a : Name) → ((name : ℕ) → times name (plains rows) ≤ 1) → option_map (λ (r : Row Name V). r.name) (slice_get rows i) ≡ Some a → IsAt rows i a
  is_at rows i a once h = by_row (slice_get rows i) refl h
    where
      by_row : (o : Option (Row Name V)) → slice_get rows i ≡ o → option_map (λ (r : Row Name V). r.name) o ≡ Some a → IsAt rows i a
      by_row None e k = absurd (none-some a k)
      by_row (Some r) e k =
          let same : r.name ≡ a = cc in
          let at : slice_get (plains rows) i ≡ Some (plain_row r) = slice_get-plains rows i ∙ ap (option_map plain_row) e in
          let place = place_at (plains rows) i (plain_row r) (once r.name.serial) at in
          subst (λ (n : Name). IsAt rows i n) same (record {
            within = slice_get_within rows i r e;
            there = at_place rows i r e;
            place = place;
            value = slice_get-map (λ (x : Row ℕ V). x.value) (plains rows) i ∙ ap (option_map (λ (x : Row ℕ V). x.value)) (ap (slice_get (plains rows)) (sym place) ∙ at_its_place (plains rows) r.name.serial);
          })

  none_at : (rows : List (Row Name V)) (i : ℕ) → slice_get rows i ≡ None → length rows ≤ i
  none_at rows i h = elim (slice_get_cases rows i).1 [ inl x ↦ absurd (none-some x.0 (sym h ∙ x.2)) | inr past ↦ past.0 ]

  no_name : (o : Option (Row Name V)) → option_map (λ (r : Row Name V). r.name) o ≡ None → o ≡ None
  no_name None h = refl
  no_name (Some r) h = absurd (none-some r.name (sym h))

  -- where no row stands at the first or the last place, there is none
  pub none_first : (rows : List (Row Name V)) → option_map (λ (r : Row Name V). r.name) (slice_get rows 0) ≡ None → length rows ≡ 0
  none_first rows h = let e = none_at rows 0 (no_name (slice_get rows 0) h) in omega arith

  pub none_last : (rows : List (Row Name V)) → option_map (λ (r : Row Name V). r.name) (slice_get rows (length rows - 1)) ≡ None → length rows ≡ 0
  none_last rows h = let e = none_at rows (length rows - 1) (no_name (slice_get rows (length rows - 1)) h) in omega arith

  empty_of : (rows : List (Row ℕ V)) → length rows ≡ 0 → rows ≡ []
  empty_of [] h = refl
  empty_of (r ∷ rows) h = absurd (omega (arith, h))

  take_empty : (n : ℕ) → take {A = Row ℕ V} n [] ≡ []
  take_empty zero = refl
  take_empty (suc n) = refl

  drop_empty : (n : ℕ) → drop {A = Row ℕ V} n [] ≡ []
  drop_empty zero = refl
  drop_empty (suc n) = refl

  cut_empty : (i : ℕ) → cut {N = ℕ} {V = V} [] i 1 ≡ []
  cut_empty i = λ j. take_empty i j ++ drop_empty (i + 1) j

  -- the last place, as the calls count it
  pub last_at : (s : Indexed V) → last_name s ≡ option_map (λ (r : Row Name V). r.name) (slice_get s.rows (length (plain_rows s) - 1))
  last_at s = ap (λ n. option_map (λ (r : Row Name V). r.name) (slice_get s.rows (n - 1))) (sym (length-map s.rows plain_row))

  -- the cursor before a place
  pub before_marks : (o : Object Name V) (s : Indexed V) (i : ℕ) (name : Option Name) (c : Cursor) → s.rows ≡ o.rows → name ≡ name_up_to s i → c ≡ cursor_at o.number name → Marks o c (sequences.mark_before (plain o) i)
  before_marks o s zero name c rows n e = ap (mark_of o.number (names o.rows)) (e ∙ ap (cursor_at o.number) n)
  before_marks o s (suc i) name c rows n e = place_marks o i name c (n ∙ ap (λ (rs : List (Row Name V)). option_map (λ (r : Row Name V). r.name) (slice_get rs i)) rows) e

  pub previous_looks : (o : Object Name V) (s : Indexed V) (b : Cursor) (name : Option Name) (c : Cursor) → s.rows ≡ o.rows → needs_cursor o b ≡ None → name ≡ name_up_to s (place_of (plains o.rows) (name_in b).serial)
      → c ≡ cursor_at o.number name → Looking (Marks o) (sequences.previous_call (plain o) (mark o b)) (Ok c)
  previous_looks o s b name c rows none n e =
      let st = stands o b none in
      subst (λ m. Looking (Marks o) (sequences.previous_call (plain o) m) (Ok c)) (sym st.is_mark)
      (ap (λ r. earlier r None) (subst (λ m. needs (plain o) m ≡ None) st.is_mark none), before_marks o s (place_of (plains o.rows) (name_in b).serial) name c rows n e)

  any_named : (a : Name) (rows : List (Row Name V)) → is_among (names rows) a ≡ list_any (λ (r : Row Name V). is_same_name a r.name) rows
  any_named a [] = refl
  any_named a (r ∷ rows) = ap (λ b. is_same_name a r.name || b) (any_named a rows)

  among_reversed : (a : Name) (rows : List (Row Name V)) → is_among (names (reverse rows)) a ≡ true → is_among (names rows) a ≡ true
  among_reversed a rows h =
      let test : Row Name V → Bool = λ r. is_same_name a r.name in
      any_named a rows ∙ list_any-IsPermutation test rows (reverse rows) (IsPermutation-reverse rows) ∙ sym (any_named a (reverse rows)) ∙ h

  -- the last row that passes the test
  pub floor_marks : (o : Object Name V) (is_greater : V → Bool) (name : Option Name) (c : Cursor) → name ≡ found_in (λ v. not (is_greater v)) (reverse o.rows) → c ≡ cursor_at o.number name → Marks o c (keyed.floor_call is_greater (plain o))
  floor_marks o is_greater None c n e =
      let test : V → Bool = λ v. not (is_greater v) in
      ap (mark_of o.number (names o.rows)) e ∙ sym (ap (λ rows. mark_for o.number (row_by test rows)) (sym (plains-reverse o.rows)) ∙ ap (mark_for o.number) (none_found test (reverse o.rows) (sym n)))
  floor_marks o is_greater (Some a) c n e =
      let test : V → Bool = λ v. not (is_greater v) in
      let one = row_named test (reverse o.rows) a (sym n) in
      ap (mark_of o.number (names o.rows)) e ∙ marked o.number o.rows a (among_reversed a o.rows (among_found test (reverse o.rows) a (sym n)))
      ∙ sym (ap (λ rows. mark_for o.number (row_by test rows)) (sym (plains-reverse o.rows)) ∙ ap (mark_for o.number) one.1)

  -- the element at an end
  pub end_looks : (o : Object Name V) (i : ℕ) (a : Name) (lent : Bor V) → ((name : ℕ) → times name (plains o.rows) ≤ 1) → option_map (λ (r : Row Name V). r.name) (slice_get o.rows i) ≡ Some a → value_at (plains o.rows) a.serial ≡ Some lent.now
      → Looking Lends (look (first_reason (reason_if (length_of (plain o) == 0) Empty ∷ [])) (slice_get (contents (plain o)) i)) (Ok lent)
  end_looks o i a lent once h v =
      let at = is_at o.rows i a once h in let within = at.within in let same = length-map o.rows plain_row in
      (ap (λ b. first_reason (reason_if b Empty ∷ [])) (not_zero (length (plains o.rows)) (omega arith)), at.value ∙ v)

  pub end_empty : (o : Object Name V) → length o.rows ≡ 0 → first_reason (reason_if (length_of (plain o) == 0) Empty ∷ []) ≡ Some Empty
  end_empty o h = ap (λ n. first_reason (reason_if (n == 0) Empty ∷ [])) (length-map o.rows plain_row ∙ h)

module _ {V : Type 0} (order : Order V) (g : GuardCounts) (l : Limit) where
  abbrev end_call : Object ℕ V → ℕ → Call (Object ℕ V) Done
  end_call o i = call takes_none (first_reason (tampers_cursors o ∷ None ∷ [])) (with_rows o (cut o.rows i 1)) tt

  -- a row is cut out where it stands, and none where there is none
  pub end_cut : (s s2 : Indexed V) (i : ℕ) (a : Name) → IsAt s.rows i a → tampers_cursors (plain (object_of g l s)) ≡ None → IsTaken order g l s s2 a
      → Changing Same (end_call (plain (object_of g l s)) i) (object_of g l s) (object_of g l s2) (Ok tt)
  end_cut s s2 i a at none b = (
    ap (λ t. first_reason (t ∷ None ∷ [])) none,
    subst (λ p. IsAfter (object_of g l s) (object_of g l s2) (with_rows (plain (object_of g l s)) (cut (plain_rows s) p 1))) at.place (becomes_after order g l s s2 (cut (plain_rows s) (place_of (plain_rows s) a.serial) 1) (s.spare + 1) b),
    refl,
  )

  pub none_cut : (s : Indexed V) (i : ℕ) → length s.rows ≡ 0 → tampers_cursors (plain (object_of g l s)) ≡ None
      → Changing Same (end_call (plain (object_of g l s)) i) (object_of g l s) (object_of g l s) (Ok tt)
  none_cut s i h none =
      let o = object_of g l s in let empty : plain_rows s ≡ [] = empty_of (plain_rows s) (length-map s.rows plain_row ∙ h) in
      let same : plain_rows s ≡ cut (plain_rows s) i 1 = empty ∙ sym (ap (λ rows. cut rows i 1) empty ∙ cut_empty i) in
      (ap (λ t. first_reason (t ∷ None ∷ [])) none, record { plainly = ap (λ rows. with_rows (plain o) rows) same; slots = all_from (λ a. a.serial < s.next → IsTrue (is_among (names s.rows) a)) (names s.rows) (λ a t _. t) }, refl)
