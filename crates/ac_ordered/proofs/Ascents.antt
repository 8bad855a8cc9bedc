-- Rows of a tree, as an index of them is seen.
use Rattle.std.proofs.Common.{◌≡◌, ◌≢◌, ◌==◌, ◌&&◌, ◌||◌, ◌+◌, ◌-◌, ◌<◌, ◌≤◌, ◌⊎◌, ℕ, zero, suc, Bool, true, false, not, true≢false, List, [], ◌∷◌, ◌++◌, length, map, take, drop, Option, Some, None, IsTrue, refl, sym, ap, ◌∙◌, subst, inl, inr, arith, eq-eqb, ne_eqb}
use Rattle.std.specs.Prelude.{All, find, reverse, option_map, slice_get, if◌then◌else◌}
use Rattle.std.specs.List.{insert, remove, slice_set, prefix_len, list_any}
use Rattle.std.proofs.lemmas.Bool.{cases_Bool, cases_eq, cond-true, cond-false}
use Rattle.std.proofs.lemmas.List.{length-map, reverse-append}
use Rattle.std.proofs.lemmas.Option.{none-some, slice_get-map}
use Rattle.ac_base.specs.declared.name.Name.{Name}
use Rattle.ac_base.specs.Order.{are_level, IsTied}
use Rattle.ac_base.specs.Rows.{Row, row, names, values}
use Rattle.ac_balance.specs.declared.entry.Entry.{Entry}
use Rattle.ac_pool.specs.NamedRows.{HasName, index_of, IsOnce}
use Rattle.ac_pool.specs.NamedRows as pool
use Rattle.ac_balance.specs.Indexed as tree
use Rattle.ac_balance.specs.Indexed.{IsSound, IsThere, IsFresh, entry, key_of}
use Rattle.ac_pool.proofs.Cuts.{has_live, live_has, index_here, index_past}
use Rattle.ac_model.specs.Letters.{is_among, is_same_name}
use Rattle.ac_model.specs.Objects.{plain_row, plains}
use Rattle.ac_model.specs.Rows.{cut, put, place_of, with_value}
use Rattle.ac_model.proofs.RowLaws.{at_its_place}
use Rattle.ac_setwork.specs.Indexed.{found_in, is_there, name_after, value_of}
use Rattle.ac_setwork.specs.Ends.{last_name, name_before, name_up_to}
use Rattle.ac_setwork.proofs.Found.{same_is, is_same, or_true}
use Rattle.ac_setwork.proofs.Tables.{all_from}
use Rattle.ac_ordered.specs.Ascents.{Nothing, ascent, row_in}

cases_name : (a b : Name) → (a ≡ b) ⊎ (a ≢ b)
cases_name a b = elim (cases_Bool (is_same_name a b)) [ inl t ↦ inl (same_is a b t) | inr f ↦ inr (λ e. true≢false (sym (is_same a b e) ∙ f)) ]

both_none : (a b : Bool) → (a || b) ≡ false → (a ≡ false) × (b ≡ false)
both_none true b h = absurd (true≢false h)
both_none false b h = (refl, h)

second_false : (a b : Bool) → a ≡ true → (a && b) ≡ false → b ≡ false
second_false true b e h = h
second_false false b e h = absurd (true≢false (sym e))

both_less : (a b : Bool) → (not a && not b) ≡ true → (a ≡ false) × (b ≡ false)
both_less true b h = absurd (true≢false (sym h))
both_less false true h = absurd (true≢false (sym h))
both_less false false h = (refl, refl)

pub level_tied : {K : Type 0} (less : K → K → Bool) (k j : K) → are_level less k j ≡ true → IsTied less k j
level_tied less k j h = both_less (less k j) (less j k) h

abbrev pub Kept : Type 0 → Type 0
Kept V = Row Name (Entry V Nothing)

module _ {V : Type 0} where
  abbrev pub rows_of : List (Kept V) → List (Row Name V)
  rows_of rows = map row_in rows

  -- who is there
  pub among_has : (a : Name) (rows : List (Kept V)) → is_among (names (rows_of rows)) a ≡ true → HasName a rows
  among_has a [] h = absurd (true≢false (sym h))
  among_has a (r ∷ rows) h = elim (cases_Bool (is_same_name a r.name)) [
    | inl e ↦ inl (same_is a r.name e)
    | inr n ↦ inr (among_has a rows (subst (λ t. (t || is_among (names (rows_of rows)) a) ≡ true) n h))
  ]

  pub has_among : (a : Name) (rows : List (Kept V)) → HasName a rows → is_among (names (rows_of rows)) a ≡ true
  has_among a [] h = absurd h
  has_among a (r ∷ rows) h = elim h [
    | inl e ↦ ap (λ t. t || is_among (names (rows_of rows)) a) (is_same a r.name e)
    | inr t ↦ ap (λ s. is_same_name a r.name || s) (has_among a rows t) ∙ or_true (is_same_name a r.name)
  ]

  pub there_live : (x : tree.Indexed V Nothing) (a : Name) → is_there (ascent x) a ≡ true → IsThere x a
  there_live x a h = has_live a x.rows (among_has a x.rows h)

  pub there_is : (x : tree.Indexed V Nothing) (a : Name) (b : Bool) → (IsTrue b → IsThere x a) → (IsThere x a → IsTrue b) → b ≡ is_there (ascent x) a
  there_is x a b to from = elim (cases_Bool b) [
    | inl t ↦ t ∙ sym (has_among a x.rows (live_has a x.rows (to t)))
    | inr f ↦ elim (cases_Bool (is_there (ascent x) a)) [
      | inl m ↦ absurd (true≢false (sym (from (there_live x a m)) ∙ f))
      | inr n ↦ f ∙ sym n
    ]
  ]

  -- no other row has the serial
  abbrev pub Alone : Name → List (Kept V) → Type 0
  Alone a rows = (b : Name) → HasName b rows → b.serial ≡ a.serial → b ≡ a

  pub alone : (less : V → V → Bool) (x : tree.Indexed V Nothing) (a : Name) → IsSound less x → IsThere x a → Alone a x.rows
  alone less x a s h b t e = s.serials b a (has_live b x.rows t) h e

  has_place : (a : Name) (rows : List (Kept V)) → HasName a rows → (i : ℕ) × (pool.name_at rows i ≡ Some a)
  has_place a [] h = absurd h
  has_place a (r ∷ rows) h = elim h [
    | inl e ↦ (0, ap Some (sym e))
    | inr t ↦ let p = has_place a rows t in (suc p.0, p.1)
  ]

  once_from : (rows : List (Kept V)) → ((i j : ℕ) (a : Name) → pool.name_at rows i ≡ Some a → pool.name_at rows j ≡ Some a → i ≡ j) → IsOnce rows
  once_from [] h = tt
  once_from (r ∷ rows) h = (
    λ t. let p = has_place r.name rows t in let e : 0 ≡ suc p.0 = h 0 (suc p.0) r.name refl p.1 in omega (arith, e),
    once_from rows (λ i j a p q. let e : suc i ≡ suc j = h (suc i) (suc j) a p q in omega (arith, e)),
  )

  pub once_in : (less : V → V → Bool) (x : tree.Indexed V Nothing) → IsSound less x → IsOnce x.rows
  once_in less x s = once_from x.rows s.once

  pub place_is : (a : Name) (rows : List (Kept V)) → Alone a rows → place_of (plains (rows_of rows)) a.serial ≡ index_of a rows
  place_is a [] h = refl
  place_is a (r ∷ rows) h = elim (cases_eq r.name.serial a.serial) [
    | inl e ↦ cond-true _ _ _ (eq-eqb r.name.serial a.serial e) ∙ sym (index_here a r rows (sym (h r.name (inl refl) e)))
    | inr n ↦ cond-false _ _ _ (ne_eqb r.name.serial a.serial n) ∙ ap suc (place_is a rows (λ b t. h b (inr t))) ∙ sym (index_past a r rows (λ e. n (ap (λ (k : Name). k.serial) (sym e))))
  ]

  -- names at places
  name_mapped : (o : Option (Kept V)) → option_map (λ (r : Row Name V). r.name) (option_map row_in o) ≡ option_map (λ (r : Kept V). r.name) o
  name_mapped None = refl
  name_mapped (Some r) = refl

  pub named_at : (rows : List (Kept V)) (i : ℕ) → option_map (λ (r : Row Name V). r.name) (slice_get (rows_of rows) i) ≡ pool.name_at rows i
  named_at rows i = ap (option_map (λ (r : Row Name V). r.name)) (slice_get-map row_in rows i) ∙ name_mapped (slice_get rows i)

  pub next_is : (x : tree.Indexed V Nothing) (a : Name) → Alone a x.rows → tree.next_name x a ≡ name_after (ascent x) a
  next_is x a h = sym (ap (λ i. option_map (λ (r : Row Name V). r.name) (slice_get (rows_of x.rows) (i + 1))) (place_is a x.rows h) ∙ named_at x.rows (index_of a x.rows + 1))

  up_to_is : (x : tree.Indexed V Nothing) (i : ℕ) → pool.name_before x.rows i ≡ name_up_to (ascent x) i
  up_to_is x zero = refl
  up_to_is x (suc i) = sym (named_at x.rows i)

  pub before_is : (x : tree.Indexed V Nothing) (a : Name) → Alone a x.rows → tree.prev_name x a ≡ name_before (ascent x) a
  before_is x a h = up_to_is x (index_of a x.rows) ∙ ap (name_up_to (ascent x)) (sym (place_is a x.rows h))

  last_of : (rows : List (Kept V)) → pool.name_before rows (length rows) ≡ option_map (λ (r : Row Name V). r.name) (slice_get (rows_of rows) (length (rows_of rows) - 1))
  last_of [] = refl
  last_of (r ∷ rows) =
      let same : length (rows_of rows) ≡ length rows = length-map rows row_in in let e : length (rows_of (r ∷ rows)) - 1 ≡ length rows = omega (arith, same) in
      sym (ap (λ i. option_map (λ (y : Row Name V). y.name) (slice_get (rows_of (r ∷ rows)) i)) e ∙ named_at (r ∷ rows) (length rows))

  pub last_is : (x : tree.Indexed V Nothing) → pool.name_before x.rows (length x.rows) ≡ last_name (ascent x)
  last_is x = last_of x.rows

  -- searches
  pub found_is : (test : V → Bool) (rows : List (Kept V)) → option_map (λ (r : Kept V). r.name) (find (λ (r : Kept V). test r.value.key) rows) ≡ found_in test (rows_of rows)
  found_is test [] = refl
  found_is test (r ∷ rows) = elim (cases_Bool (test r.value.key)) [
    | inl t ↦ rw t refl
    | inr f ↦ rw f (found_is test rows)
  ]

  map_append : (xs ys : List (Kept V)) → rows_of (xs ++ ys) ≡ rows_of xs ++ rows_of ys
  map_append [] ys = refl
  map_append (x ∷ xs) ys = ap (λ zs. row_in x ∷ zs) (map_append xs ys)

  map_reverse : (rows : List (Kept V)) → rows_of (reverse rows) ≡ reverse (rows_of rows)
  map_reverse [] = refl
  map_reverse (r ∷ rows) =
      ap rows_of (reverse-append (r ∷ []) rows) ∙ map_append (reverse rows) (r ∷ []) ∙ ap (λ zs. zs ++ rows_of (r ∷ [])) (map_reverse rows) ∙ sym (reverse-append (rows_of (r ∷ [])) (rows_of rows))

  pub last_found_is : (test : V → Bool) (rows : List (Kept V)) → option_map (λ (r : Kept V). r.name) (find (λ (r : Kept V). test r.value.key) (reverse rows)) ≡ found_in test (reverse (rows_of rows))
  last_found_is test rows = found_is test (reverse rows) ∙ ap (found_in test) (map_reverse rows)

  -- what stands under a name
  value_mapped : (o : Option (Kept V)) → option_map (λ (r : Row ℕ V). r.value) (option_map plain_row (option_map row_in o)) ≡ option_map (λ (e : Entry V Nothing). e.key) (option_map (λ (r : Kept V). r.value) o)
  value_mapped None = refl
  value_mapped (Some r) = refl

  pub value_is : (x : tree.Indexed V Nothing) (a : Name) → Alone a x.rows → value_of (ascent x) a ≡ key_of x a
  value_is x a h =
      let p = plains (rows_of x.rows) in let i = index_of a x.rows in
      ap (option_map (λ (r : Row ℕ V). r.value)) (sym (at_its_place p a.serial) ∙ ap (slice_get p) (place_is a x.rows h) ∙ slice_get-map plain_row (rows_of x.rows) i ∙ ap (option_map plain_row) (slice_get-map row_in x.rows i))
      ∙ value_mapped (slice_get x.rows i)

  pub entry_there : (a : Name) (rows : List (Kept V)) → HasName a rows → (e : Entry V Nothing) × (tree.value_at rows a ≡ Some e)
  entry_there a [] h = absurd h
  entry_there a (r ∷ rows) h = elim (cases_name a r.name) [
    | inl e ↦ (r.value, ap (λ i. option_map (λ (y : Kept V). y.value) (slice_get (r ∷ rows) i)) (index_here a r rows e))
    | inr n ↦ let rest = entry_there a rows (elim h [ inl e ↦ absurd (n e) | inr t ↦ t ]) in (rest.0, ap (λ i. option_map (λ (y : Kept V). y.value) (slice_get (r ∷ rows) i)) (index_past a r rows n) ∙ rest.1)
  ]

  -- rows put in, taken out and written
  pub insert_is : (rows : List (Kept V)) (i : ℕ) (r : Kept V) → i ≤ length rows → plains (rows_of (insert rows i r)) ≡ put (plains (rows_of rows)) i (plain_row (row_in r) ∷ [])
  insert_is [] zero r le = refl
  insert_is [] (suc i) r le = absurd (omega arith)
  insert_is (x ∷ rows) zero r le = refl
  insert_is (x ∷ rows) (suc i) r le = ap (λ zs. plain_row (row_in x) ∷ zs) (insert_is rows i r (omega arith))

  pub remove_is : (rows : List (Kept V)) (i : ℕ) → i < length rows → plains (rows_of (remove rows i)) ≡ cut (plains (rows_of rows)) i 1
  remove_is [] i lt = absurd (omega arith)
  remove_is (x ∷ rows) zero lt = refl
  remove_is (x ∷ rows) (suc i) lt =
      let p = plains (rows_of (x ∷ rows)) in let e : suc i + 1 ≡ suc (i + 1) = omega arith in
      ap (λ zs. plain_row (row_in x) ∷ zs) (remove_is rows i (omega arith)) ∙ sym (ap (λ k. take (suc i) p ++ drop k p) e)

  pub length_remove : (rows : List (Kept V)) (i : ℕ) → i < length rows → suc (length (remove rows i)) ≡ length rows
  length_remove [] i lt = absurd (omega arith)
  length_remove (x ∷ rows) zero lt = refl
  length_remove (x ∷ rows) (suc i) lt = ap suc (length_remove rows i (omega arith))

  pub prefix_is : (less : V → Bool) (rows : List (Kept V)) → prefix_len (λ (r : Kept V). less r.value.key) rows ≡ prefix_len less (values (plains (rows_of rows)))
  prefix_is less [] = refl
  prefix_is less (r ∷ rows) = elim (cases_Bool (less r.value.key)) [
    | inl t ↦ rw t (ap (λ n. 1 + n) (prefix_is less rows))
    | inr f ↦ rw f refl
  ]

  pub has_insert : (b : Name) (rows : List (Kept V)) (i : ℕ) (r : Kept V) → i ≤ length rows → HasName b (insert rows i r) → (b ≡ r.name) ⊎ HasName b rows
  has_insert b [] zero r le h = h
  has_insert b [] (suc i) r le h = absurd (omega arith)
  has_insert b (x ∷ rows) zero r le h = h
  has_insert b (x ∷ rows) (suc i) r le h = elim h [
    | inl e ↦ inr (inl e)
    | inr t ↦ elim (has_insert b rows i r (omega arith) t) [ inl e ↦ inl e | inr u ↦ inr (inr u) ]
  ]

  pub insert_has : (rows : List (Kept V)) (i : ℕ) (r : Kept V) → i ≤ length rows → HasName r.name (insert rows i r)
  insert_has [] zero r le = inl refl
  insert_has [] (suc i) r le = absurd (omega arith)
  insert_has (x ∷ rows) zero r le = inl refl
  insert_has (x ∷ rows) (suc i) r le = inr (insert_has rows i r (omega arith))

  pub has_remove : (b : Name) (rows : List (Kept V)) (i : ℕ) → HasName b (remove rows i) → HasName b rows
  has_remove b [] zero h = absurd h
  has_remove b [] (suc i) h = absurd h
  has_remove b (x ∷ rows) zero h = inr h
  has_remove b (x ∷ rows) (suc i) h = elim h [ inl e ↦ inl e | inr t ↦ inr (has_remove b rows i t) ]

  pub has_set : (a b : Name) (rows : List (Kept V)) (e : Entry V Nothing) → HasName a rows → HasName b (slice_set rows (index_of a rows) (row a e)) → HasName b rows
  has_set a b [] e t h = absurd t
  has_set a b (r ∷ rows) e t h = elim (cases_name a r.name) [
    | inl same ↦ let k : HasName b (row a e ∷ rows) = subst (λ i. HasName b (slice_set (r ∷ rows) i (row a e))) (index_here a r rows same) h in elim k [ inl p ↦ inl (p ∙ same) | inr q ↦ inr q ]
    | inr n ↦ let k : HasName b (r ∷ slice_set rows (index_of a rows) (row a e)) = subst (λ i. HasName b (slice_set (r ∷ rows) i (row a e))) (index_past a r rows n) h in
        elim k [ inl p ↦ inl p | inr q ↦ inr (has_set a b rows e (elim t [ inl p ↦ absurd (n p) | inr u ↦ u ]) q) ]
  ]

  untouched : (s : ℕ) (rows : List (Kept V)) (w : V) → ((b : Name) → HasName b rows → b.serial ≢ s) → with_value (plains (rows_of rows)) s w ≡ plains (rows_of rows)
  untouched s [] w h = refl
  untouched s (r ∷ rows) w h =
      λ i. cond-false _ (row s w) (plain_row (row_in r)) (ne_eqb r.name.serial s (h r.name (inl refl))) i ∷ untouched s rows w (λ b t. h b (inr t)) i

  -- the other rows have other serials
  others : (a : Name) (r : Kept V) (rows : List (Kept V)) → Alone a (r ∷ rows) → IsOnce (r ∷ rows) → a ≡ r.name → (b : Name) → HasName b rows → b.serial ≢ a.serial
  others a r rows h once same b t e = once.0 (subst (λ n. HasName n rows) (h b (inr t) e ∙ same) t)

  pub set_is : (a : Name) (rows : List (Kept V)) (e : Entry V Nothing) → Alone a rows → IsOnce rows → HasName a rows → plains (rows_of (slice_set rows (index_of a rows) (row a e))) ≡ with_value (plains (rows_of rows)) a.serial e.key
  set_is a [] e h once t = absurd t
  set_is a (r ∷ rows) e h once t = elim (cases_name a r.name) [
    | inl same ↦
        let hit = eq-eqb r.name.serial a.serial (ap (λ (n : Name). n.serial) (sym same)) in
        ap (λ i. plains (rows_of (slice_set (r ∷ rows) i (row a e)))) (index_here a r rows same)
        ∙ sym (λ i. cond-true _ (row a.serial e.key) (plain_row (row_in r)) hit i ∷ untouched a.serial rows e.key (others a r rows h once same) i)
    | inr n ↦
        let miss = ne_eqb r.name.serial a.serial (λ k. n (sym (h r.name (inl refl) k))) in
        ap (λ i. plains (rows_of (slice_set (r ∷ rows) i (row a e)))) (index_past a r rows n)
        ∙ (λ i. sym (cond-false _ (row a.serial e.key) (plain_row (row_in r)) miss) i ∷ set_is a rows e (λ b u. h b (inr u)) once.1 (elim t [ inl p ↦ absurd (n p) | inr u ↦ u ]) i)
  ]

  -- the row that is found passes the test
  find_has : (test : V → Bool) (rows : List (Kept V)) (a : Name) → option_map (λ (r : Kept V). r.name) (find (λ (r : Kept V). test r.value.key) rows) ≡ Some a → HasName a rows
  find_has test [] a h = absurd (none-some a h)
  find_has test (r ∷ rows) a h = elim (cases_Bool (test r.value.key)) [
    | inl t ↦ let k : Some r.name ≡ Some a = simp t at h in let e : a ≡ r.name = cc in inl e
    | inr f ↦ inr (find_has test rows a (simp f at h))
  ]

  pub found_passes : (test : V → Bool) (rows : List (Kept V)) (a : Name) → IsOnce rows → option_map (λ (r : Kept V). r.name) (find (λ (r : Kept V). test r.value.key) rows) ≡ Some a
      → (k : V) → option_map (λ (e : Entry V Nothing). e.key) (tree.value_at rows a) ≡ Some k → test k ≡ true
  found_passes test [] a once h k e = absurd (none-some a h)
  found_passes test (r ∷ rows) a once h k e = elim (cases_Bool (test r.value.key)) [
    | inl t ↦
        let q : Some r.name ≡ Some a = simp t at h in let same : a ≡ r.name = cc in
        let here : Some r.value.key ≡ Some k = sym (ap (λ i. option_map (λ (e : Entry V Nothing). e.key) (option_map (λ (y : Kept V). y.value) (slice_get (r ∷ rows) i))) (index_here a r rows same)) ∙ e in
        let is : r.value.key ≡ k = cc in ap test (sym is) ∙ t
    | inr f ↦
        let q : option_map (λ (r : Kept V). r.name) (find (λ (r : Kept V). test r.value.key) rows) ≡ Some a = simp f at h in
        let other : a ≢ r.name = λ same. once.0 (subst (λ n. HasName n rows) same (find_has test rows a q)) in
        found_passes test rows a once.1 q k (sym (ap (λ i. option_map (λ (e : Entry V Nothing). e.key) (option_map (λ (y : Kept V). y.value) (slice_get (r ∷ rows) i))) (index_past a r rows other)) ∙ e)
  ]

  pub found_there : (test : V → Bool) (x : tree.Indexed V Nothing) (a : Name) → found_in test (rows_of x.rows) ≡ Some a → IsThere x a
  found_there test x a h = has_live a x.rows (find_has test x.rows a (found_is test x.rows ∙ h))

  -- no row but the name's is like the value
  none_in : (s : ℕ) (test : V → Bool) (rows : List (Kept V)) → ((b : Name) → HasName b rows → b.serial ≢ s) → list_any (λ r. not (r.name == s) && test r.value) (plains (rows_of rows)) ≡ false
      → option_map (λ (r : Kept V). r.name) (find (λ (r : Kept V). test r.value.key) rows) ≡ None
  none_in s test [] h e = refl
  none_in s test (r ∷ rows) h e =
      let both = both_none (not (r.name.serial == s) && test r.value.key) (list_any (λ r. not (r.name == s) && test r.value) (plains (rows_of rows))) e in
      let fails = second_false (not (r.name.serial == s)) (test r.value.key) (ap not (ne_eqb r.name.serial s (h r.name (inl refl)))) both.0 in
      rw fails (none_in s test rows (λ b t. h b (inr t)) both.1)

  pub none_left : (a : Name) (test : V → Bool) (rows : List (Kept V)) → Alone a rows → IsOnce rows → HasName a rows → list_any (λ r. not (r.name == a.serial) && test r.value) (plains (rows_of rows)) ≡ false
      → option_map (λ (r : Kept V). r.name) (find (λ (r : Kept V). test r.value.key) (remove rows (index_of a rows))) ≡ None
  none_left a test [] h once t e = absurd t
  none_left a test (r ∷ rows) h once t e =
      let both = both_none (not (r.name.serial == a.serial) && test r.value.key) (list_any (λ r. not (r.name == a.serial) && test r.value) (plains (rows_of rows))) e in
      elim (cases_name a r.name) [
        | inl same ↦ ap (λ i. option_map (λ (r : Kept V). r.name) (find (λ (r : Kept V). test r.value.key) (remove (r ∷ rows) i))) (index_here a r rows same) ∙ none_in a.serial test rows (others a r rows h once same) both.1
        | inr n ↦
            let fails = second_false (not (r.name.serial == a.serial)) (test r.value.key) (ap not (ne_eqb r.name.serial a.serial (λ k. n (sym (h r.name (inl refl) k))))) both.0 in
            let rest = none_left a test rows (λ b u. h b (inr u)) once.1 (elim t [ inl p ↦ absurd (n p) | inr u ↦ u ]) both.1 in
            ap (λ i. option_map (λ (r : Kept V). r.name) (find (λ (r : Kept V). test r.value.key) (remove (r ∷ rows) i))) (index_past a r rows n)
            ∙ ap (λ b. option_map (λ (r : Kept V). r.name) (if b then Some r else find (λ (r : Kept V). test r.value.key) (remove rows (index_of a rows)))) fails ∙ rest
      ]

  pub kept : (old new : List (Kept V)) (next : ℕ) → ((b : Name) → HasName b new → b.serial < next → HasName b old) → All (λ name. name.serial < next → IsTrue (is_among (names (rows_of old)) name)) (names (rows_of new))
  kept old new next h = all_from (λ name. name.serial < next → IsTrue (is_among (names (rows_of old)) name)) (names (rows_of new)) (λ b t lt. has_among b old (h b (among_has b new t) lt))
