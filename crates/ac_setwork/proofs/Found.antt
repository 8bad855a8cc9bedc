-- Names with slots: the row that is found, and the cursor that stands at it, as the definitions see them.
use Rattle.std.proofs.Common.{◌≡◌, ◌+◌, ℕ, zero, suc, Bool, true, false, ◌&&◌, ◌||◌, true≢false, List, [], ◌∷◌, Option, Some, None, Ok, refl, sym, ap, ◌∙◌, subst, inl, inr, eq-eqb, eqb-true}
use Rattle.std.specs.Prelude.{◌==◌, find, is_some, option_map, slice_get, IsTrue}
use Rattle.std.specs.List.{list_any}
use Rattle.std.proofs.lemmas.Bool.{cases_Bool}
use Rattle.std.proofs.lemmas.Option.{none-some}
use Rattle.ac_base.specs.declared.cursor.Cursor.{Cursor}
use Rattle.ac_base.specs.declared.cursor.Cursor.TheVariants.{NoElement, At}
use Rattle.ac_base.specs.declared.name.Name.{Name}
use Rattle.ac_base.specs.Rows.{Row, row, names, values}
use Rattle.ac_model.specs.Rows.{is_named, place_of, row_by}
use Rattle.ac_model.specs.Objects.{Object, plain, plain_row, plains}
use Rattle.ac_model.specs.Letters.{mark_at, is_same_name, is_among, mark_of, judged_in, mark_for, mark_in, needs}
use Rattle.ac_model.specs.Calls.{Marks, Looking}
use Rattle.ac_model.specs.Sequences as sequences
use Rattle.ac_base.specs.FirstReason.{earlier}
use Rattle.ac_model.specs.Cursors.{mark, needs_cursor, cursor_at, name_in}
use Rattle.ac_model.specs.Keyed as keyed
use Rattle.ac_model.proofs.Plains.{slice_get-plains}
use Rattle.ac_setwork.specs.Indexed.{found_in}

pub same_is : (a b : Name) → is_same_name a b ≡ true → a ≡ b
same_is a b h = elim (cases_Bool (a.slot == b.slot)) [
  | inl e ↦ let slot = eqb-true a.slot b.slot e in let serial = eqb-true a.serial b.serial (subst (λ t. (t && (a.serial == b.serial)) ≡ true) e h) in
      λ i. record { slot = slot i; serial = serial i }
  | inr n ↦ absurd (true≢false (sym (subst (λ t. (t && (a.serial == b.serial)) ≡ true) n h)))
]

pub is_same : (a b : Name) → a ≡ b → is_same_name a b ≡ true
is_same a b e = ap (λ t. t && (a.serial == b.serial)) (eq-eqb a.slot b.slot (ap (λ (n : Name). n.slot) e)) ∙ eq-eqb a.serial b.serial (ap (λ (n : Name). n.serial) e)

pub or_true : (b : Bool) → (b || true) ≡ true
or_true true = refl
or_true false = refl

judged_none : (number object : ℕ) (is_there : Bool) → judged_in number object is_there ≡ None → (object ≡ number) × (is_there ≡ true)
judged_none number object is_there h = elim (cases_Bool (object == number)) [
  | inl e ↦ (eqb-true object number e, elim (cases_Bool is_there) [ inl t ↦ t | inr f ↦ absurd (let k = simp (e, f) at h in cc) ])
  | inr n ↦ absurd (let k = simp n at h in cc)
]

some_mapped : {A B : Type 0} (f : A → B) (o : Option A) → is_some (option_map f o) ≡ is_some o
some_mapped f None = refl
some_mapped f (Some x) = refl

none_mapped : {A B : Type 0} (f : A → B) (o : Option A) → option_map f o ≡ None → o ≡ None
none_mapped f None h = refl
none_mapped f (Some x) h = absurd (let k : Some (f x) ≡ None = h in cc)

module _ {V : Type 0} where
  pub among_found : (test : V → Bool) (rows : List (Row Name V)) (a : Name) → found_in test rows ≡ Some a → is_among (names rows) a ≡ true
  among_found test [] a h = absurd (let k : None ≡ Some a = h in cc)
  among_found test (r ∷ rows) a h = elim (cases_Bool (test r.value)) [
    | inl t ↦ let k : Some r.name ≡ Some a = simp t at h in let e : a ≡ r.name = cc in ap (λ b. b || is_among (names rows) a) (is_same a r.name e)
    | inr f ↦ let k : found_in test rows ≡ Some a = simp f at h in ap (λ b. is_same_name a r.name || b) (among_found test rows a k) ∙ or_true (is_same_name a r.name)
  ]

  pub named_among : (a : Name) (rows : List (Row Name V)) → is_among (names rows) a ≡ true → is_named (plains rows) a.serial ≡ true
  named_among a [] h = absurd (true≢false (sym h))
  named_among a (r ∷ rows) h = elim (cases_Bool (is_same_name a r.name)) [
    | inl e ↦ ap (λ t. t || is_named (plains rows) a.serial) (eq-eqb r.name.serial a.serial (ap (λ (n : Name). n.serial) (sym (same_is a r.name e))))
    | inr n ↦ ap (λ s. (r.name.serial == a.serial) || s) (named_among a rows (subst (λ t. (t || is_among (names rows) a) ≡ true) n h)) ∙ or_true (r.name.serial == a.serial)
  ]

  -- the row that is found, with its slot and without
  row_found : (test : V → Bool) (rows : List (Row Name V)) → row_by test (plains rows) ≡ option_map plain_row (find (λ (r : Row Name V). test r.value) rows)
  row_found test [] = refl
  row_found test (r ∷ rows) = elim (cases_Bool (test r.value)) [
    | inl t ↦ rw t refl
    | inr f ↦ rw f (row_found test rows)
  ]

  pub some_found : (test : V → Bool) (rows : List (Row Name V)) → is_some (row_by test (plains rows)) ≡ is_some (found_in test rows)
  some_found test rows = ap is_some (row_found test rows) ∙ some_mapped plain_row (find (λ (r : Row Name V). test r.value) rows) ∙ sym (some_mapped (λ (r : Row Name V). r.name) (find (λ (r : Row Name V). test r.value) rows))

  pub none_found : (test : V → Bool) (rows : List (Row Name V)) → found_in test rows ≡ None → row_by test (plains rows) ≡ None
  none_found test rows h = row_found test rows ∙ ap (option_map plain_row) (none_mapped (λ (r : Row Name V). r.name) (find (λ (r : Row Name V). test r.value) rows) h)

  pub any_found : (test : V → Bool) (rows : List (Row Name V)) → is_some (found_in test rows) ≡ list_any test (values (plains rows))
  any_found test [] = refl
  any_found test (r ∷ rows) = elim (cases_Bool (test r.value)) [
    | inl t ↦ rw t refl
    | inr f ↦ rw f (any_found test rows)
  ]

  some_row : (o : Option (Row Name V)) (a : Name) → option_map (λ (r : Row Name V). r.name) o ≡ Some a → (v : V) × (option_map plain_row o ≡ Some (row a.serial v))
  some_row None a h = absurd (let k : None ≡ Some a = h in cc)
  some_row (Some r) a h = let k : Some r.name ≡ Some a = h in let e : r.name ≡ a = cc in (r.value, ap (λ (n : Name). Some (row n.serial r.value)) e)

  -- the row that is found, by its name
  pub row_named : (test : V → Bool) (rows : List (Row Name V)) (a : Name) → found_in test rows ≡ Some a → (v : V) × (row_by test (plains rows) ≡ Some (row a.serial v))
  row_named test rows a h = let one = some_row (find (λ (r : Row Name V). test r.value) rows) a h in (one.0, row_found test rows ∙ one.1)

  pub marked : (number : ℕ) (rows : List (Row Name V)) (a : Name) → is_among (names rows) a ≡ true → mark_of number (names rows) (At number a) ≡ mark_at number a.serial
  marked number rows a t = let e = eq-eqb number number refl in simp (e, t)

  pub found_marks : (o : Object Name V) (test : V → Bool) (name : Option Name) (r : Cursor) → name ≡ found_in test o.rows → r ≡ cursor_at o.number name → Marks o r (keyed.find_call test (plain o))
  found_marks o test None r n e = ap (mark_of o.number (names o.rows)) e ∙ sym (ap (mark_for o.number) (none_found test o.rows (sym n)))
  found_marks o test (Some a) r n e =
      let one = row_named test o.rows a (sym n) in
      ap (mark_of o.number (names o.rows)) e ∙ marked o.number o.rows a (among_found test o.rows a (sym n)) ∙ sym (ap (mark_for o.number) one.1)

  -- a cursor is judged by its whole name
  pub judged_by_name : (o : Object Name V) (object : ℕ) (a : Name) → needs_cursor o (At object a) ≡ judged_in o.number object (is_among (names o.rows) a)
  judged_by_name o object a = elim (cases_Bool (object == o.number)) [
    | inl e ↦ elim (cases_Bool (is_among (names o.rows) a)) [
      | inl t ↦ let n = named_among a o.rows t in simp (e, t, n)
      | inr f ↦ simp (e, f)
    ]
    | inr n ↦ simp n
  ]

  -- a cursor that isn't refused
  pub record Stands (o : Object Name V) (c : Cursor) : Type 0 where
    pub there : IsTrue (is_among (names o.rows) (name_in c))
    pub is_mark : mark_of o.number (names o.rows) c ≡ mark_at o.number (name_in c).serial

  pub stands : (o : Object Name V) (c : Cursor) → needs_cursor o c ≡ None → Stands o c
  stands o NoElement h = absurd (let k : Some _ ≡ None = h in cc)
  stands o (At object a) h =
      let both = judged_none o.number object (is_among (names o.rows) a) (sym (judged_by_name o object a) ∙ h) in
      record {
        there = both.1;
        is_mark = ap (λ n. mark_of o.number (names o.rows) (At n a)) both.0 ∙ marked o.number o.rows a both.1;
      }

  pub at_place : (rows : List (Row Name V)) (i : ℕ) (r : Row Name V) → slice_get rows i ≡ Some r → is_among (names rows) r.name ≡ true
  at_place [] i r h = absurd (none-some r h)
  at_place (x ∷ rows) zero r h = let e : r ≡ x = cc in ap (λ b. b || is_among (names rows) r.name) (is_same r.name x.name (ap (λ (y : Row Name V). y.name) e))
  at_place (x ∷ rows) (suc i) r h = ap (λ b. is_same_name r.name x.name || b) (at_place rows i r h) ∙ or_true (is_same_name r.name x.name)

  marks_row : (o : Object Name V) (i : ℕ) (found : Option (Row Name V)) → slice_get o.rows i ≡ found → Marks o (cursor_at o.number (option_map (λ (r : Row Name V). r.name) found)) (mark_for o.number (option_map plain_row found))
  marks_row o i None h = refl
  marks_row o i (Some r) h = marked o.number o.rows r.name (at_place o.rows i r h)

  -- the cursor at a place
  pub place_marks : (o : Object Name V) (i : ℕ) (name : Option Name) (c : Cursor) → name ≡ option_map (λ (r : Row Name V). r.name) (slice_get o.rows i) → c ≡ cursor_at o.number name → Marks o c (mark_in (plain o) i)
  place_marks o i name c n e =
      ap (mark_of o.number (names o.rows)) (e ∙ ap (cursor_at o.number) n) ∙ marks_row o i (slice_get o.rows i) refl ∙ ap (mark_for o.number) (sym (slice_get-plains o.rows i))

  -- the cursor after one that isn't refused
  pub next_looks : (o : Object Name V) (b : Cursor) (name : Option Name) (c : Cursor) → needs_cursor o b ≡ None → name ≡ option_map (λ (r : Row Name V). r.name) (slice_get o.rows (place_of (plains o.rows) (name_in b).serial + 1))
      → c ≡ cursor_at o.number name → Looking (Marks o) (sequences.next_call (plain o) (mark o b)) (Ok c)
  next_looks o b name c none n e =
      let st = stands o b none in
      subst (λ m. Looking (Marks o) (sequences.next_call (plain o) m) (Ok c)) (sym st.is_mark)
      (ap (λ r. earlier r None) (subst (λ m. needs (plain o) m ≡ None) st.is_mark none), place_marks o (place_of (plains o.rows) (name_in b).serial + 1) name c n e)
