-- A map or a set compared with itself.
use Rattle.std.proofs.Common.{◌≡◌, ◌==◌, ◌&&◌, ◌+◌, ◌≤◌, ℕ, suc, Bool, true, not, List, [], ◌∷◌, ◌++◌, length, Some, refl, sym, ap, ◌∙◌, subst, inl, inr, arith, eq-eqb, if◌then◌else◌}
use Rattle.std.specs.List.{list_all, list_any}
use Rattle.std.proofs.lemmas.Bool.{cases_Bool}
use Rattle.std.proofs.lemmas.List.{append_assoc}
use Rattle.ac_base.specs.Rows.{Row, values}
use Rattle.ac_model.specs.Keyed.{Order, IsValidKeyed}
use Rattle.ac_model.specs.Maps as maps
use Rattle.ac_model.specs.Maps.{is_equal_element}
use Rattle.ac_model.specs.Objects.{Object, contents, length_of}
use Rattle.ac_model.specs.Rows.{Entry, row_by}
use Rattle.ac_model.specs.Sets as sets
use Rattle.ac_model.proofs.Counts.{count, count-cons}
use Rattle.ac_setwork.proofs.Ends.{not_zero}

both_true : (a b : Bool) → a ≡ true → b ≡ true → (a && b) ≡ true
both_true a b h k = rw (h, k) refl

any_at : {X : Type 0} (test : X → Bool) (xs : List X) (x : X) (ys : List X) → test x ≡ true → list_any test (xs ++ x ∷ ys) ≡ true
any_at test [] x ys h = rw h refl
any_at test (w ∷ xs) x ys h = let later = any_at test xs x ys h in elim (cases_Bool (test w)) [
  | inl t ↦ rw t refl
  | inr f ↦ rw f later
]

-- each value passes the test with one of them, itself
each_finds : {X : Type 0} (test : X → X → Bool) → ((x : X) → test x x ≡ true) → (all before left : List X) → before ++ left ≡ all → list_all (λ x. list_any (test x) all) left ≡ true
each_finds test itself all before [] is = refl
each_finds test itself all before (x ∷ left) is =
    let found : list_any (test x) all ≡ true = subst (λ ws. list_any (test x) ws ≡ true) is (any_at (test x) before x left (itself x)) in
    both_true (list_any (test x) all) (list_all (λ y. list_any (test y) all) left) found (each_finds test itself all (before ++ x ∷ []) left (append_assoc before (x ∷ []) left ∙ is))

module _ {V : Type 0} where
  pub set_equals_itself : (same : V → V → Bool) → ((v : V) → same v v ≡ true) → (o : Object ℕ V) → sets.equal_call same o o ≡ true
  set_equals_itself same itself o =
      both_true (length_of o == length_of o) (list_all (λ v. list_any (same v) (contents o)) (contents o)) (eq-eqb (length_of o) (length_of o) refl) (each_finds same itself (contents o) [] (contents o) refl)

  module _ (order : Order V) (itself : (v : V) → order.alike v v ≡ true) where
    pub subset_of_itself : (o : Object ℕ V) → sets.is_subset_call order o o ≡ true
    subset_of_itself o = each_finds (λ v w. order.alike w v) itself (contents o) [] (contents o) refl

    pub equivalent_to_itself : (o : Object ℕ V) → sets.equivalent_sets_call order o o ≡ true
    equivalent_to_itself o = both_true (length_of o == length_of o) (sets.is_subset_call order o o) (eq-eqb (length_of o) (length_of o) refl) (subset_of_itself o)

    overlapping : (rows : List (Row ℕ V)) → not (length rows == 0) ≡ list_any (λ v. list_any (λ w. order.alike w v) (values rows)) (values rows)
    overlapping [] = refl
    overlapping (r ∷ rows) =
        let first : list_any (λ w. order.alike w r.value) (values (r ∷ rows)) ≡ true = any_at (λ w. order.alike w r.value) [] r.value (values rows) (itself r.value) in
        ap not (not_zero (suc (length rows)) (omega arith)) ∙ sym (any_at (λ v. list_any (λ w. order.alike w v) (values (r ∷ rows))) [] r.value (values rows) first)

    pub overlaps_itself : (o : Object ℕ V) → not (length_of o == 0) ≡ sets.overlap_call order o o
    overlaps_itself o = overlapping o.rows

  -- of rows of which at most one passes a test, one that passes is the one that is found
  counted_there : (test : V → Bool) (before : List (Row ℕ V)) (r : Row ℕ V) (left : List (Row ℕ V)) → test r.value ≡ true → 1 ≤ count test (before ++ r ∷ left)
  counted_there test [] r left t =
      let step = count-cons test r left in let one : (if test r.value then 1 else 0) + count test left ≡ 1 + count test left = ap (λ b. (if b then 1 else 0) + count test left) t in
      let some : 1 ≤ count test (r ∷ left) = omega (arith, step, one) in some
  counted_there test (q ∷ before) r left t =
      let step = count-cons test q (before ++ r ∷ left) in let later = counted_there test before r left t in
      let some : 1 ≤ count test (q ∷ (before ++ r ∷ left)) = omega (arith, step, later) in some

  found_there : (test : V → Bool) (before : List (Row ℕ V)) (r : Row ℕ V) (left : List (Row ℕ V)) → test r.value ≡ true → count test (before ++ r ∷ left) ≤ 1 → row_by test (before ++ r ∷ left) ≡ Some r
  found_there test [] r left t few = ap (λ b. if b then Some r else row_by test left) t
  found_there test (q ∷ before) r left t few =
      let rest = before ++ r ∷ left in
      let step = count-cons test q rest in let there = counted_there test before r left t in let once : count test (q ∷ rest) ≤ 1 = few in
      elim (cases_Bool (test q.value)) [
        | inl u ↦ absurd (let one : (if test q.value then 1 else 0) + count test rest ≡ 1 + count test rest = ap (λ b. (if b then 1 else 0) + count test rest) u in omega (arith, once, step, there, one))
        | inr f ↦ ap (λ b. if b then Some q else row_by test rest) f ∙ found_there test before r left t (omega (arith, once, step))
      ]

module _ {K T : Type 0} (keys : Order K) (same : T → T → Bool) (alike : (k : K) → keys.alike k k ≡ true) (itself : (e : T) → same e e ≡ true) where
  abbrev is_matched : List (Row ℕ (Entry K T)) → Entry K T → Bool
  is_matched rows e = is_equal_element same e.element (row_by (maps.has_key keys e.key) rows)

  each_equals : (all before left : List (Row ℕ (Entry K T))) → ((e : Entry K T) → count (maps.has_key keys e.key) all ≤ 1) → before ++ left ≡ all → list_all (is_matched all) (values left) ≡ true
  each_equals all before [] differ is = refl
  each_equals all before (r ∷ left) differ is =
      let found : row_by (maps.has_key keys r.value.key) all ≡ Some r = subst (λ rows. row_by (maps.has_key keys r.value.key) rows ≡ Some r) is
      (found_there (maps.has_key keys r.value.key) before r left (alike r.value.key) (subst (λ rows. count (maps.has_key keys r.value.key) rows ≤ 1) (sym is) (differ r.value))) in
      let one : is_matched all r.value ≡ true = ap (is_equal_element same r.value.element) found ∙ itself r.value.element in
      both_true (is_matched all r.value) (list_all (is_matched all) (values left)) one (each_equals all (before ++ r ∷ []) left differ (append_assoc before (r ∷ []) left ∙ is))

  pub map_equals_itself : (o : Object ℕ (Entry K T)) → IsValidKeyed (maps.order_of keys) o → maps.equal_call keys same o o ≡ true
  map_equals_itself o valid =
      both_true (length_of o == length_of o) (list_all (is_matched o.rows) (contents o)) (eq-eqb (length_of o) (length_of o) refl) (each_equals o.rows [] o.rows valid.keys_differ refl)
