-- A walk over a list by its cursors, from place to place.
use Rattle.std.proofs.Common.{◌≡◌, ◌+◌, ◌<◌, ◌≤◌, ◌==◌, ◌||◌, ℕ, zero, suc, Bool, true, false, List, [], ◌∷◌, length, map, Some, None, Result, Ok, Err, refl, sym, ap, ◌∙◌, subst, arith, inl, inr, eq-eqb, ne_eqb}
use Rattle.std.specs.Prelude.{slice_get, IsOk, if◌then◌else◌}
use Rattle.std.specs.Option.{option_map}
use Rattle.std.proofs.lemmas.Bool.{cases_eq, cond-false}
use Rattle.std.proofs.lemmas.List.{length-map}
use Rattle.std.proofs.lemmas.Option.{none-some}
use Rattle.ac_base.specs.declared.name.Name.{Name}
use Rattle.ac_base.specs.declared.fault.Fault.{Fault}
use Rattle.ac_base.specs.declared.fault.Fault.TheVariants as fault
use Rattle.ac_base.specs.declared.cursor.Cursor.{Cursor}
use Rattle.ac_base.specs.FirstReason.{first_reason}
use Rattle.ac_base.specs.Rows.{Row, names, values}
use Rattle.ac_model.specs.Rows.{is_named, place_of, value_at}
use Rattle.ac_model.specs.Objects.{Object, plain, plain_row, contents, length_of, IsValid, times}
use Rattle.ac_model.specs.Letters.{name_of, mark_at, mark_in, mark_for, mark_of, needs, may, judged_in}
use Rattle.ac_model.specs.Calls.{Looking, Marks}
use Rattle.ac_model.specs.Sequences.{element_call, next_call}
use Rattle.ac_model.proofs.RowLaws.{at_its_place}

-- the row at a place
record Stands {V : Type 0} (rows : List (Row ℕ V)) (i : ℕ) : Type 0 where
  row : Row ℕ V
  at : slice_get rows i ≡ Some row
  is_there : is_named rows row.name ≡ true
  counted : 1 ≤ times row.name rows
  value : slice_get (values rows) i ≡ Some row.value

stands : {V : Type 0} (rows : List (Row ℕ V)) (i : ℕ) → i < length rows → Stands rows i
stands [] i h = absurd (omega arith)
stands (r ∷ rows) zero h = record {
  row = r;
  at = refl;
  is_there = rw (eq-eqb r.name r.name refl) refl;
  counted = rw (eq-eqb r.name r.name refl) (omega arith);
  value = refl;
}
stands (r ∷ rows) (suc i) h =
    let s = stands rows i (omega arith) in
    record {
      row = s.row;
      at = s.at;
      is_there = either (r.name == s.row.name) (is_named rows s.row.name) s.is_there;
      counted = more (r.name == s.row.name) (times s.row.name rows) s.counted;
      value = s.value;
    }
  where
    either : (b c : Bool) → c ≡ true → (b || c) ≡ true
    either true c e = refl
    either false c e = e

    more : (b : Bool) (n : ℕ) → 1 ≤ n → 1 ≤ (if b then 1 else 0) + n
    more true n e = omega arith
    more false n e = omega arith

within : {V : Type 0} (rows : List (Row ℕ V)) (i : ℕ) (r : Row ℕ V) → slice_get rows i ≡ Some r → i < length rows
within [] i r e = absurd (none-some r e)
within (x ∷ rows) zero r e = omega arith
within (x ∷ rows) (suc i) r e = let h = within rows i r e in omega arith

not_both : (b : Bool) (n : ℕ) → b ≡ true → 1 ≤ n → (if b then 1 else 0) + n ≤ 1 → ⊥
not_both true n e h k = omega arith
not_both false n e h k = absurd (cc e)

fewer : (b : Bool) (n : ℕ) → (if b then 1 else 0) + n ≤ 1 → n ≤ 1
fewer true n h = omega arith
fewer false n h = omega arith

-- a name doesn't stand twice
twice : {V : Type 0} (rows : List (Row ℕ V)) (i : ℕ) (r x : Row ℕ V) → slice_get rows i ≡ Some r → x.name ≡ r.name → times r.name (x ∷ rows) ≤ 1 → ⊥
twice {V} rows i r x e same once =
    let s = stands rows i (within rows i r e) in
    let is : s.row ≡ r = cc (sym s.at ∙ e) in
    let counted = subst (λ (y : Row ℕ V). 1 ≤ times y.name rows) is s.counted in
    not_both (x.name == r.name) (times r.name rows) (eq-eqb x.name r.name same) counted once

-- a name that stands once stands at its place
place_is : {V : Type 0} (rows : List (Row ℕ V)) (i : ℕ) (r : Row ℕ V) → slice_get rows i ≡ Some r → times r.name rows ≤ 1 → place_of rows r.name ≡ i
place_is [] i r e once = absurd (none-some r e)
place_is {V} (x ∷ rows) zero r e once = let same : x ≡ r = cc e in subst (λ (y : Row ℕ V). place_of (x ∷ rows) y.name ≡ 0) same (rw (eq-eqb x.name x.name refl) refl)
place_is (x ∷ rows) (suc i) r e once = elim (cases_eq x.name r.name) [
  | inl same ↦ absurd (twice rows i r x e same once)
  | inr differ ↦ cond-false _ _ _ (ne_eqb x.name r.name differ) ∙ ap suc (place_is rows i r e (fewer (x.name == r.name) (times r.name rows) once))
]

itself : (number : ℕ) (b : Bool) → b ≡ true → judged_in number number b ≡ None
itself number b e = rw (eq-eqb number number refl, e) refl

module _ {V : Type 0} (o : Object Name V) (v : IsValid (plain o)) (c : Cursor) (i : ℕ) (h : i < length_of o) (marks : Marks o c (mark_in (plain o) i)) where
  s : Stands (map plain_row o.rows) i
  s = stands (map plain_row o.rows) i (omega (arith, length-map o.rows (plain_row {V = V})))

  m : mark_of o.number (names o.rows) c ≡ mark_at o.number s.row.name
  m = marks ∙ ap (mark_for o.number) s.at

  once : times s.row.name (map plain_row o.rows) ≤ 1
  once = v.names_differ s.row.name

  needed : first_reason (needs (plain o) (mark_of o.number (names o.rows) c) ∷ []) ≡ None
  needed = rw m (ap (λ r. first_reason (r ∷ [])) (itself o.number (is_named (map plain_row o.rows) s.row.name) s.is_there))

  value : value_at (map plain_row o.rows) s.row.name ≡ Some s.row.value
  value = ap (option_map (λ (r : Row ℕ V). r.value)) (sym (at_its_place (map plain_row o.rows) s.row.name) ∙ ap (slice_get (map plain_row o.rows)) (place_is (map plain_row o.rows) i s.row s.at once) ∙ s.at)

  found : value_at (map plain_row o.rows) (name_of (mark_of o.number (names o.rows) c)) ≡ Some s.row.value
  found = ap (λ m. value_at (map plain_row o.rows) (name_of m)) m ∙ value

  pub is_read : (element_call (plain o) (mark_of o.number (names o.rows) c)).reason ≡ None
  is_read = needed

  -- the value that a look-up finds there is the one that stands there
  pub here : (value : V) × ((element_call (plain o) (mark_of o.number (names o.rows) c)).answer ≡ Some value) × (slice_get (contents (plain o)) i ≡ Some value)
  here = (s.row.value, found, s.value)

  may_go : first_reason (may (plain o) (mark_of o.number (names o.rows) c) ∷ []) ≡ None
  may_go = rw m (ap (λ r. first_reason (r ∷ [])) (itself o.number (is_named (map plain_row o.rows) s.row.name) s.is_there))

  next_place : (next_call (plain o) (mark_of o.number (names o.rows) c)).answer ≡ mark_in (plain o) (i + 1)
  next_place = rw m (ap (λ n. mark_in (plain o) (n + 1)) (place_is (map plain_row o.rows) i s.row s.at once))

  pub next_is_ok : (r : Result Cursor Fault) → Looking (Marks o) (next_call (plain o) (mark_of o.number (names o.rows) c)) r → IsOk r
  next_is_ok (Ok next) k = refl
  next_is_ok (Err (fault.Raised reason)) k = absurd (none-some reason (sym may_go ∙ k))
  next_is_ok (Err fault.NoMemory) k = absurd k

  pub next_marks : (r : Result Cursor Fault) (next : Cursor) → Looking (Marks o) (next_call (plain o) (mark_of o.number (names o.rows) c)) r → r ≡ Ok next → Marks o next (mark_in (plain o) (i + 1))
  next_marks (Ok found_next) next k e =
      let same : found_next ≡ next = cc e in
      subst (λ n. Marks o n (mark_in (plain o) (i + 1))) same (k.1 ∙ next_place)
  next_marks (Err q) next k e = absurd (cc e)
