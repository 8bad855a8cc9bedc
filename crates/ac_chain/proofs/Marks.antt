-- Where a cursor stands: the rows of the chain, and the same rows as the definitions see them.
use Rattle.std.proofs.Common.{◌≡◌, ℕ, suc, Bool, true, false, not, ◌&&◌, ◌||◌, true≢false, List, ◌∷◌, map, Option, Some, None, refl, sym, ap, ◌∙◌, subst, inl, inr, eq-eqb, ne_eqb, eqb-true, []}
use Rattle.std.specs.Prelude.{◌==◌, slice_get}
use Rattle.std.specs.Option.{option_map}
use Rattle.std.proofs.lemmas.Bool.{cases_Bool, cases_eq, cond-true, cond-false}
use Rattle.ac_base.specs.declared.name.Name.{Name}
use Rattle.ac_base.specs.declared.cursor.Cursor.{Cursor}
use Rattle.ac_base.specs.declared.cursor.Cursor.TheVariants.{At}
use Rattle.ac_pool.proofs.NameLaws.{same_name}
use Rattle.ac_chain.specs.Rows as chain
use Rattle.ac_chain.specs.Rows.{Chained, IsLive, IsSound}
use Rattle.ac_pool.specs.NamedRows.{index_of, name_at, HasName}
use Rattle.ac_pool.proofs.Cuts.{has_live, index_here, index_past, name_at_has}
use Rattle.ac_base.specs.Rows.{Row, row, names}
use Rattle.ac_model.specs.Rows.{is_named, place_of, value_at}
use Rattle.ac_model.specs.Objects.{Object, plain_row}
use Rattle.ac_model.specs.Letters.{mark_at, is_same_name, is_among, mark_of, judged_in, mark_for}
use Rattle.ac_model.proofs.RowLaws.{at_its_place}
use Rattle.ac_model.specs.Objects.{plains}
use Rattle.ac_model.specs.Cursors.{needs_cursor, may_cursor, cursor_at, name_in}
use Rattle.ac_model.proofs.Plains.{slice_get-plains}

same_is : (a b : Name) → is_same_name a b ≡ true → a ≡ b
same_is a b h = elim (cases_Bool (a.slot == b.slot)) [
  | inl e ↦ same_name a b (eqb-true a.slot b.slot e) (eqb-true a.serial b.serial (subst (λ t. (t && (a.serial == b.serial)) ≡ true) e h))
  | inr n ↦ absurd (true≢false (sym (subst (λ t. (t && (a.serial == b.serial)) ≡ true) n h)))
]

is_same : (a b : Name) → a ≡ b → is_same_name a b ≡ true
is_same a b e = ap (λ t. t && (a.serial == b.serial)) (eq-eqb a.slot b.slot (ap (λ (n : Name). n.slot) e)) ∙ eq-eqb a.serial b.serial (ap (λ (n : Name). n.serial) e)

or_true : (b : Bool) → (b || true) ≡ true
or_true true = refl
or_true false = refl

pub judged_none : (number object : ℕ) (is_there : Bool) → judged_in number object is_there ≡ None → (object ≡ number) × (is_there ≡ true)
judged_none number object is_there h = elim (cases_Bool (object == number)) [
  | inl e ↦ (eqb-true object number e, elim (cases_Bool is_there) [ inl t ↦ t | inr f ↦ absurd (let k = simp (e, f) at h in cc) ])
  | inr n ↦ absurd (let k = simp n at h in cc)
]

module _ {X : Type 0} where
  pub among_has : (a : Name) (rows : List (Row Name X)) → is_among (names rows) a ≡ true → HasName a rows
  among_has a [] h = absurd (true≢false (sym h))
  among_has a (r ∷ rows) h = elim (cases_Bool (is_same_name a r.name)) [
    | inl e ↦ inl (same_is a r.name e)
    | inr n ↦ inr (among_has a rows (subst (λ t. (t || is_among (names rows) a) ≡ true) n h))
  ]

  pub has_among : (a : Name) (rows : List (Row Name X)) → HasName a rows → is_among (names rows) a ≡ true
  has_among a [] h = absurd h
  has_among a (r ∷ rows) h = elim h [
    | inl e ↦ ap (λ t. t || is_among (names rows) a) (is_same a r.name e)
    | inr t ↦ ap (λ s. is_same_name a r.name || s) (has_among a rows t) ∙ or_true (is_same_name a r.name)
  ]

  named_among : (a : Name) (rows : List (Row Name X)) → is_among (names rows) a ≡ true → is_named (map plain_row rows) a.serial ≡ true
  named_among a [] h = absurd (true≢false (sym h))
  named_among a (r ∷ rows) h = elim (cases_Bool (is_same_name a r.name)) [
    | inl e ↦ ap (λ t. t || is_named (map plain_row rows) a.serial) (eq-eqb r.name.serial a.serial (ap (λ (n : Name). n.serial) (sym (same_is a r.name e))))
    | inr n ↦ ap (λ s. (r.name.serial == a.serial) || s) (named_among a rows (subst (λ t. (t || is_among (names rows) a) ≡ true) n h)) ∙ or_true (r.name.serial == a.serial)
  ]

  -- a cursor is judged by its whole name
  pub judged_by_name : (o : Object Name X) (object : ℕ) (a : Name) → needs_cursor o (At object a) ≡ judged_in o.number object (is_among (names o.rows) a)
  judged_by_name o object a = elim (cases_Bool (object == o.number)) [
    | inl e ↦ elim (cases_Bool (is_among (names o.rows) a)) [
      | inl t ↦ let n = named_among a o.rows t in simp (e, t, n)
      | inr f ↦ simp (e, f)
    ]
    | inr n ↦ simp n
  ]

  pub may_by_name : (o : Object Name X) (object : ℕ) (a : Name) → may_cursor o (At object a) ≡ needs_cursor o (At object a)
  may_by_name o object a = elim (cases_Bool ((object == o.number) && not (is_among (names o.rows) a))) [ inl e ↦ simp e | inr n ↦ simp n ]

  -- a cursor that isn't refused stands at a live name
  pub record Stands (number : ℕ) (c : Chained X) (cursor : Cursor) : Type 0 where
    pub live : IsLive c (name_in cursor)
    pub marked : mark_of number (names c.rows) cursor ≡ mark_at number (name_in cursor).serial
    pub at : cursor ≡ At number (name_in cursor)

  pub marked_live : (number : ℕ) (rows : List (Row Name X)) (a : Name) → HasName a rows → mark_of number (names rows) (At number a) ≡ mark_at number a.serial
  marked_live number rows a h = let t = has_among a rows h in let e = eq-eqb number number refl in simp (e, t)

  -- the cursor at a place is the definitions' mark there
  pub marked_at : (number : ℕ) (rows : List (Row Name X)) (i : ℕ) → mark_of number (names rows) (cursor_at number (name_at rows i)) ≡ mark_for number (slice_get (plains rows) i)
  marked_at number rows i = with_row number rows i (slice_get rows i) refl ∙ ap (mark_for number) (sym (slice_get-plains rows i))
    where
      with_row : (number : ℕ) (rows : List (Row Name X)) (i : ℕ) (o : Option (Row Name X)) → slice_get rows i ≡ o
          → mark_of number (names rows) (cursor_at number (name_at rows i)) ≡ mark_for number (option_map (λ (r : Row Name X). row r.name.serial r.value) (slice_get rows i))
      with_row number rows i None e = rw e refl
      with_row number rows i (Some r) e =
          let has : HasName r.name rows = name_at_has rows i r.name (ap (option_map (λ (x : Row Name X). x.name)) e) in
          rw e (marked_live number rows r.name has)

  -- no other row has the name's serial
  unfoldable pub Alone : Name → List (Row Name X) → Type 0
  Alone a rows = (b : Name) → HasName b rows → b.serial ≡ a.serial → b ≡ a

  pub alone : (c : Chained X) (a : Name) → IsSound c → IsLive c a → Alone a c.rows
  unfolding Alone
  alone c a s h b t e = s.serials b a (has_live b c.rows t) h e

  pub place_is : (a : Name) (rows : List (Row Name X)) → Alone a rows → place_of (plains rows) a.serial ≡ index_of a rows
  unfolding Alone
  place_is a [] h = refl
  place_is a (r ∷ rows) h = elim (cases_eq r.name.serial a.serial) [
    | inl e ↦ cond-true _ _ _ (eq-eqb r.name.serial a.serial e) ∙ sym (index_here a r rows (sym (h r.name (inl refl) e)))
    | inr n ↦ cond-false _ _ _ (ne_eqb r.name.serial a.serial n) ∙ ap suc (place_is a rows (λ b t. h b (inr t))) ∙ sym (index_past a r rows (λ e. n (ap (λ (k : Name). k.serial) (sym e))))
  ]

  pub place_live : (c : Chained X) (a : Name) → IsSound c → IsLive c a → place_of (plains c.rows) a.serial ≡ index_of a c.rows
  place_live c a s h = place_is a c.rows (alone c a s h)

  value_mapped : (o : Option (Row Name X)) → option_map (λ (r : Row ℕ X). r.value) (option_map (λ (r : Row Name X). row r.name.serial r.value) o) ≡ option_map (λ (r : Row Name X). r.value) o
  value_mapped None = refl
  value_mapped (Some r) = refl

  -- the value under a live name is the one under its serial
  pub value_live : (c : Chained X) (a : Name) → IsSound c → IsLive c a → value_at (plains c.rows) a.serial ≡ chain.value_of c a
  value_live c a s h =
      ap (option_map (λ (r : Row ℕ X). r.value)) (sym (at_its_place (plains c.rows) a.serial) ∙ ap (slice_get (plains c.rows)) (place_live c a s h) ∙ slice_get-plains c.rows (index_of a c.rows))
      ∙ value_mapped (slice_get c.rows (index_of a c.rows))
