-- A list has one stable sort: rows in order, those that are level as they stood.
use Rattle.ac_base.specs.Order.{IsWeakOrder, are_level}
use Rattle.ac_base.specs.Rows.{Row, values}
use Rattle.ac_base.specs.WeakOrders.{asymmetric, not_less_transitive}
use Rattle.ac_model.proofs.RowLaws.{sorted_ascends, sorted_stable}
use Rattle.ac_model.specs.Rows.{is_ascending, sorted}
use Rattle.std.proofs.Common.{Bool, IsPermutation, List, [], add-one, ap, arith, cond, false, filter, map, not, refl, subst, suc, sym, true, ℕ, ◌&&◌, ◌∙◌, ◌∷◌, ◌≡◌}
use Rattle.std.proofs.lemmas.Bool.{and_parts, not-true}
use Rattle.std.proofs.lemmas.List.{nil_from_length}
use Rattle.std.proofs.lemmas.List.Sorted.{length_permutation}
use Rattle.std.specs.Cmp.{IsStrictWeakOrder}
use Rattle.std.specs.List.{AllByRecursion}
use Rattle.std.specs.List.Sorted.{IsSortedBy, IsStableBy, ties}

module _ {V : Type 0} (less : V → V → Bool) (order : IsWeakOrder less) where
  -- the rows that are level with the value
  abbrev level : V → List (Row ℕ V) → List (Row ℕ V)
  level v rows = filter (λ (r : Row ℕ V). are_level less r.value v) rows

  rest_ascends : (v : V) (vs : List V) → is_ascending less (v ∷ vs) ≡ true → is_ascending less vs ≡ true
  rest_ascends v [] h = refl
  rest_ascends v (w ∷ vs) h = (and_parts (not (less w v)) (is_ascending less (w ∷ vs)) h).1

  -- no later value is less than the first
  first_least : (v : V) (rows : List (Row ℕ V)) → is_ascending less (v ∷ values rows) ≡ true → AllByRecursion (λ (r : Row ℕ V). less r.value v ≡ false) rows
  first_least v [] h = tt
  first_least v (r ∷ rows) h =
      let p = and_parts (not (less r.value v)) (is_ascending less (r.value ∷ values rows)) h in
      let first = not-true (less r.value v) p.0 in
      (first, above rows (first_least r.value rows p.1) first)
    where
      above : (rows : List (Row ℕ V)) → AllByRecursion (λ (q : Row ℕ V). less q.value r.value ≡ false) rows → less r.value v ≡ false → AllByRecursion (λ (q : Row ℕ V). less q.value v ≡ false) rows
      above [] all first = tt
      above (q ∷ rows) all first = (not_less_transitive order v r.value q.value first all.0, above rows all.1 first)

  -- what holds of all rows holds of the first that passes a test
  passed : (P : Row ℕ V → Type 0) (p : Row ℕ V → Bool) (rows : List (Row ℕ V)) (x : Row ℕ V) (more : List (Row ℕ V)) → AllByRecursion P rows → filter p rows ≡ x ∷ more → P x
  passed P p [] x more all e = cc
  passed P p (r ∷ rows) x more all e = step (p r) refl (passed P p rows x more all.1)
    where
      step : (b : Bool) → p r ≡ b → (filter p rows ≡ x ∷ more → P x) → P x
      step true h later = let k : r ∷ filter p rows ≡ x ∷ more = ap (λ b. cond b (r ∷ filter p rows) (filter p rows)) (sym h) ∙ e in let same : r ≡ x = cc in subst (λ q. P q) same all.0
      step false h later = later (ap (λ b. cond b (r ∷ filter p rows) (filter p rows)) (sym h) ∙ e)

  level_itself : (v : V) → are_level less v v ≡ true
  level_itself v = let h = order.irreflexive v in rw h refl

  level_first : (r : Row ℕ V) (rows : List (Row ℕ V)) (v : V) → are_level less r.value v ≡ true → level v (r ∷ rows) ≡ r ∷ level v rows
  level_first r rows v h = ap (λ b. cond b (r ∷ level v rows) (level v rows)) h

  no_row : (r : Row ℕ V) (rows : List (Row ℕ V)) → [] ≡ r ∷ rows → ⊥
  no_row r rows e = cc

  rest_level : (r : Row ℕ V) (b : Bool) (xs ys : List (Row ℕ V)) → cond b (r ∷ xs) xs ≡ cond b (r ∷ ys) ys → xs ≡ ys
  rest_level r true xs ys e = let k : r ∷ xs ≡ r ∷ ys = e in cc
  rest_level r false xs ys e = e

  pub unique : (xs ys : List (Row ℕ V)) → is_ascending less (values xs) ≡ true → is_ascending less (values ys) ≡ true → ((v : V) → level v xs ≡ level v ys) → xs ≡ ys
  unique [] [] a b h = refl
  unique [] (y ∷ ys) a b h = absurd (no_row y (level y.value ys) (h y.value ∙ level_first y ys y.value (level_itself y.value)))
  unique (x ∷ xs) [] a b h = absurd (no_row x (level x.value xs) (sym (h x.value) ∙ level_first x xs x.value (level_itself x.value)))
  unique (x ∷ xs) (y ∷ ys) a b h =
      let of_x : level x.value (y ∷ ys) ≡ x ∷ level x.value xs = sym (h x.value) ∙ level_first x xs x.value (level_itself x.value) in
      let of_y : level y.value (x ∷ xs) ≡ y ∷ level y.value ys = h y.value ∙ level_first y ys y.value (level_itself y.value) in
      let x_y : less x.value y.value ≡ false = passed (λ r. less r.value y.value ≡ false) (λ r. are_level less r.value x.value) (y ∷ ys) x (level x.value xs) (order.irreflexive y.value, first_least y.value ys b) of_x in
      let y_x : less y.value x.value ≡ false = passed (λ r. less r.value x.value ≡ false) (λ r. are_level less r.value y.value) (x ∷ xs) y (level y.value ys) (order.irreflexive x.value, first_least x.value xs a) of_y in
      let tied : are_level less y.value x.value ≡ true = rw (x_y, y_x) refl in
      let heads : x ∷ level x.value xs ≡ y ∷ level x.value ys = sym of_x ∙ level_first y ys x.value tied in
      let same : x ≡ y = cc in
      let rest : xs ≡ ys = unique xs ys (rest_ascends x.value (values xs) a) (rest_ascends y.value (values ys) b)
      (λ v. rest_level x (are_level less x.value v) (level v xs) (level v ys) (h v ∙ ap (λ r. level v (r ∷ ys)) (sym same))) in
      λ i. same i ∷ rest i

  -- a stable sort of elements that stand for rows is the definitions' sort of these rows
  module _ {A : Type 0} (of : A → Row ℕ V) (put : V → A → A) (holds : (v : V) (x : A) → (of (put v x)).value ≡ v) where
    abbrev lt : A → A → Bool
    lt x y = less (of x).value (of y).value

    pub strict_order : IsStrictWeakOrder lt
    strict_order = record {
      one_way = λ x y h. asymmetric order (of x).value (of y).value h;
      chain = λ x y z h k. not_less_transitive order (of z).value (of y).value (of x).value k h;
    }

    ascends : (xs : List A) → IsSortedBy lt xs → is_ascending less (values (map of xs)) ≡ true
    ascends [] h = refl
    ascends (x ∷ []) h = refl
    ascends (x ∷ y ∷ xs) h =
        let first : less (of y).value (of x).value ≡ false = h 0 x (omega arith) (omega arith) in
        let tail : IsSortedBy lt (y ∷ xs) = λ k d p q. rw add-one (rw add-one at (h (suc k) d (omega arith) (omega arith))) in
        rw first (ascends (y ∷ xs) tail)

    and_comm : (b c : Bool) → (b && c) ≡ (c && b)
    and_comm true true = refl
    and_comm true false = refl
    and_comm false true = refl
    and_comm false false = refl

    level_of : (v : V) (q : A) → (of q).value ≡ v → (xs : List A) → level v (map of xs) ≡ map of (filter (ties lt q) xs)
    level_of v q e [] = refl
    level_of v q e (x ∷ xs) =
        let same : are_level less (of x).value v ≡ ties lt q x = ap (are_level less (of x).value) (sym e) ∙ and_comm (not (less (of x).value (of q).value)) (not (less (of q).value (of x).value)) in
        (λ i. cond (same i) (of x ∷ level_of v q e xs i) (level_of v q e xs i)) ∙ moved (ties lt q x)
      where
        moved : (b : Bool) → cond b (of x ∷ map of (filter (ties lt q) xs)) (map of (filter (ties lt q) xs)) ≡ map of (cond b (x ∷ filter (ties lt q) xs) (filter (ties lt q) xs))
        moved true = refl
        moved false = refl

    pub sort_is : (xs ys : List A) → IsPermutation xs ys → IsSortedBy lt ys → IsStableBy lt xs ys → map of ys ≡ sorted less (map of xs)
    sort_is xs [] same up stable =
        let none : xs ≡ [] = nil_from_length xs (sym (length_permutation xs [] same)) in
        ap (λ zs. sorted less (map of zs)) (sym none)
    sort_is xs (y ∷ ys) same up stable =
        unique (map of (y ∷ ys)) (sorted less (map of xs)) (ascends (y ∷ ys) up) (sorted_ascends less order (map of xs)) (λ v.
        let q = put v y in
        level_of v q (holds v y) (y ∷ ys) ∙ ap (map of) (stable q) ∙ sym (level_of v q (holds v y) xs) ∙ sym (sorted_stable less order v (map of xs)))
