-- Indexes of a vector's elements: an index in range is a place, and its cursor isn't refused.
use Rattle.std.proofs.Common.{◌≡◌, ℕ, ◌<◌, zero, suc, ℤ, pos, negsuc, Bool, true, false, not, ◌&&◌, ◌||◌, List, [], ◌∷◌, length, Some, None, refl, sym, ap, ◌∙◌, inl, inr, arith, eq-eqb}
use Rattle.std.specs.Prelude.{◌==◌, nat_le, nat_lt, slice_get}
use Rattle.std.proofs.lemmas.Bool.{cond-true, cond-false}
use Rattle.std.proofs.lemmas.Bool.Decides.{nat_tests}
use Rattle.std.proofs.lemmas.Option.{slice_get_cases}
use Rattle.ac_base.specs.declared.cursor.Cursor.{Cursor}
use Rattle.ac_base.specs.declared.cursor.Cursor.TheVariants.{NoElement}
use Rattle.ac_base.specs.declared.name.Name.{Name}
use Rattle.ac_base.specs.declared.reason.Reason.{Reason}
use Rattle.ac_base.specs.declared.reason.Reason.TheVariants.{IndexRange}
use Rattle.ac_base.specs.Rows.{Row, names}
use Rattle.ac_pool.specs.NamedRows.{name_at}
use Rattle.ac_chain.proofs.Marks.{marked_at}
use Rattle.ac_model.specs.Calls.{Marks}
use Rattle.ac_model.specs.Cursors.{cursor_at, mark, needs_cursor}
use Rattle.ac_model.specs.Letters.{index_in, is_index, mark_for, mark_in, mark_of, name_of, needs, place_of_index, reason_if}
use Rattle.ac_model.specs.Objects.{Object, length_of, plain}
use Rattle.ac_model.specs.Rows.{is_named}
use Rattle.ac_model.specs.Vectors.{name_in, to_cursor_call}
use Rattle.std.specs.Option.{option_map}
use Rattle.ac_model.proofs.Plains.{length-plains}
use Rattle.ac_model.proofs.Reasons.{not_if}

not_true : (test : Bool) → not test ≡ false → test ≡ true
not_true true h = refl
not_true false h = cc

some_if : (test : Bool) (reason found : Reason) → reason_if (not test) reason ≡ Some found → test ≡ false
some_if true reason found h = cc
some_if false reason found h = refl

pub is_index_there : (index : ℤ) (len : ℕ) → index_in index len ≡ None → is_index index len ≡ true
is_index_there index len h = not_true (is_index index len) (not_if (not (is_index index len)) IndexRange h)

is_no_index : (index : ℤ) (len : ℕ) (found : Reason) → index_in index len ≡ Some found → is_index index len ≡ false
is_no_index index len found h = some_if (is_index index len) IndexRange found h

-- an index in range is a place
pub place_within : (index : ℤ) (len : ℕ) → index_in index len ≡ None → place_of_index index < len
place_within (pos n) len h = let t : (nat_lt 0 n && nat_le n len) ≡ true = is_index_there (pos n) len h in grind (arith, nat_tests)
place_within (negsuc n) len h = let t : false ≡ true = is_index_there (negsuc n) len h in absurd cc

or_true : (b : Bool) → (b || true) ≡ true
or_true true = refl
or_true false = refl

module _ {X : Type 0} where
  named_at : (rows : List (Row ℕ X)) (i : ℕ) (r : Row ℕ X) → slice_get rows i ≡ Some r → is_named rows r.name ≡ true
  named_at [] i r e = cc
  named_at (q ∷ rows) zero r e = let same : q.name ≡ r.name = cc in ap (λ b. b || is_named rows r.name) (eq-eqb q.name r.name same)
  named_at (q ∷ rows) (suc i) r e = ap (λ b. (q.name == r.name) || b) (named_at rows i r e) ∙ or_true (q.name == r.name)

  -- the cursor at a place designates its element
  needs_there : (o : Object ℕ X) (i : ℕ) → i < length o.rows → needs o (mark_in o i) ≡ None
  needs_there o i lt = elim (slice_get_cases o.rows i).1 [
    | inl at ↦
        let named = named_at o.rows i at.0 at.2 in
        let own = eq-eqb o.number o.number refl in
        ap (λ r. needs o (mark_for o.number r)) at.2 ∙ simp (own, named)
    | inr past ↦ absurd (omega (arith, past.0))
  ]

  pub past_cursor : (o : Object Name X) (index : ℤ) (found : Reason) → index_in index (length_of (plain o)) ≡ Some found → Marks o NoElement (to_cursor_call (plain o) index)
  past_cursor o index found h = sym (cond-false _ _ _ (is_no_index index (length_of (plain o)) found h))

  pub index_cursor : (o : Object Name X) (index : ℤ) (name : Name) (c : Cursor) → index_in index (length_of (plain o)) ≡ None → Some name ≡ name_at o.rows (place_of_index index) → c ≡ cursor_at o.number (Some name) → Marks o c (to_cursor_call (plain o) index)
  index_cursor o index name c h e is =
      ap (mark_of o.number (names o.rows)) (is ∙ ap (cursor_at o.number) e) ∙ marked_at o.number o.rows (place_of_index index) ∙ sym (cond-true _ _ _ (is_index_there index (length_of (plain o)) h))

  -- the cursor of an index in range isn't refused, and has its name
  pub index_stands : (o : Object Name X) (index : ℤ) (c : Cursor) → index_in index (length_of (plain o)) ≡ None → Marks o c (to_cursor_call (plain o) index) → (needs_cursor o c ≡ None) × (name_of (mark o c) ≡ name_in (plain o) index)
  index_stands o index c h is =
      let at : mark o c ≡ mark_in (plain o) (place_of_index index) = is ∙ cond-true _ _ _ (is_index_there index (length_of (plain o)) h) in
      (ap (needs (plain o)) at ∙ needs_there (plain o) (place_of_index index) (place_within index (length_of (plain o)) h), ap name_of at)

  -- the name of the row at an index, and the cursor that stands there
  pub record AtIndex (o : Object Name X) (index : ℤ) : Type 0 where
    pub name : Name
    pub is : Some name ≡ name_at o.rows (place_of_index index)
    pub stands : needs_cursor o (cursor_at o.number (Some name)) ≡ None
    pub named : name_of (mark o (cursor_at o.number (Some name))) ≡ name_in (plain o) index

  pub at_index : (o : Object Name X) (index : ℤ) → index_in index (length_of (plain o)) ≡ None → AtIndex o index
  at_index o index h = elim (slice_get_cases o.rows (place_of_index index)).1 [
    | inl at ↦
        let is = sym (ap (option_map (λ (r : Row Name X). r.name)) at.2) in
        let there = index_stands o index (cursor_at o.number (Some at.0.name)) h (index_cursor o index at.0.name (cursor_at o.number (Some at.0.name)) h is refl) in
        record { name = at.0.name; is = is; stands = there.0; named = there.1 }
    | inr past ↦ let within = place_within index (length_of (plain o)) h in absurd (omega (arith, past.0, length-plains o.rows))
  ]
