-- Pairs that stand as often in the buckets as among the rows.
use Rattle.std.proofs.Common.{◌≡◌, ◌==◌, ◌&&◌, ◌||◌, ◌+◌, ◌<◌, ℕ, zero, suc, Bool, true, false, true≢false, List, [], ◌∷◌, ◌++◌, length, drop, filter, refl, sym, ap, ◌∙◌, subst, inl, inr, arith, eq-eqb, if◌then◌else◌}
use Rattle.std.specs.List.{list_any, sum_by}
use Rattle.std.specs.List.Sorted.{IsPermutation}
use Rattle.std.proofs.lemmas.Bool.{cases_Bool}
use Rattle.std.proofs.lemmas.List.{map-append}
use Rattle.std.proofs.lemmas.List.Sums.{sum_by-cons, sum_by-append}
use Rattle.std.proofs.lemmas.List.Sorted.{sum_by-IsPermutation}
use Rattle.ac_base.specs.declared.name.Name.{Name}
use Rattle.ac_base.specs.Rows.{Row, row, names}
use Rattle.ac_pool.specs.NamedRows.{HasName}
use Rattle.ac_chain.proofs.Marks.{among_has}
use Rattle.ac_model.specs.Letters.{is_among, is_same_name}
use Rattle.ac_setwork.proofs.Found.{is_same, or_true}
use Rattle.ac_hashed.specs.Ties.{AsOften, hashed}

abbrev weight_of : {X : Type 0} → (X → Bool) → X → ℕ
weight_of test x = if test x then 1 else 0

-- a test is passed where the sum of those that pass isn't 0
some_pass : {X : Type 0} (test : X → Bool) (xs : List X) → list_any test xs ≡ true → 0 < sum_by (weight_of test) xs
some_pass test [] h = absurd (true≢false (sym h))
some_pass test (x ∷ xs) h =
    let sum = sum_by-cons (weight_of test) x xs in
    elim (cases_Bool (test x)) [
      | inl t ↦ let one : weight_of test x ≡ 1 = ap (λ b. if b then 1 else 0) t in omega (arith, one, sum)
      | inr f ↦ let rest = some_pass test xs (subst (λ b. (b || list_any test xs) ≡ true) f h) in omega (arith, sum, rest)
    ]

passes : {X : Type 0} (test : X → Bool) (xs : List X) → 0 < sum_by (weight_of test) xs → list_any test xs ≡ true
passes test [] h = absurd (omega (arith, h))
passes test (x ∷ xs) h =
    let sum = sum_by-cons (weight_of test) x xs in
    elim (cases_Bool (test x)) [
      | inl t ↦ ap (λ b. b || list_any test xs) t
      | inr f ↦
          let none : weight_of test x ≡ 0 = ap (λ b. if b then 1 else 0) f in
          ap (λ b. b || list_any test xs) f ∙ passes test xs (omega (arith, sum, none, h))
    ]

pub any_as_often : {X : Type 0} (test : X → Bool) (some others : List X) → AsOften some others → list_any test others ≡ true → list_any test some ≡ true
any_as_often test some others often h = passes test some (subst (λ n. 0 < n) (sym (often (weight_of test))) (some_pass test others h))

-- as many
length_sum : {X : Type 0} (xs : List X) → sum_by (λ x. 1) xs ≡ length xs
length_sum [] = refl
length_sum (x ∷ xs) = let sum = sum_by-cons (λ x. 1) x xs in let rest = length_sum xs in omega (arith, sum, rest)

pub as_many : {X : Type 0} (some others : List X) → AsOften some others → length some ≡ length others
as_many some others often = sym (length_sum some) ∙ often (λ x. 1) ∙ length_sum others

-- one more in front, or one less
pub often_more : {X : Type 0} (some others : List X) (x : X) → AsOften some others → AsOften (x ∷ some) (x ∷ others)
often_more some others x often weight = sum_by-cons weight x some ∙ ap (λ n. weight x + n) (often weight) ∙ sym (sum_by-cons weight x others)

pub often_less : {X : Type 0} (some now others : List X) (x : X) → IsPermutation some (x ∷ now) → AsOften some (x ∷ others) → AsOften now others
often_less some now others x moved often weight =
    let left = sum_by-IsPermutation weight some (x ∷ now) moved in
    let both = often weight in
    let now_sum = sum_by-cons weight x now in
    let other_sum = sum_by-cons weight x others in
    omega (arith, left, both, now_sum, other_sum)

pub often_moved : {X : Type 0} (xs ys : List X) (x : X) → AsOften (xs ++ x ∷ ys) (x ∷ (xs ++ ys))
often_moved xs ys x weight =
    let a = sum_by-append weight xs (x ∷ ys) in let b = sum_by-cons weight x ys in
    let c = sum_by-cons weight x (xs ++ ys) in let d = sum_by-append weight xs ys in
    omega (arith, a, b, c, d)

-- the pair of a name and a hash
abbrev pub is_pair : Name → ℕ → Row Name ℕ → Bool
is_pair a h p = is_same_name a p.name && (p.value == h)

module _ {V : Type 0} (hash : V → ℕ) where
  abbrev pub pair_of : Row Name V → Row Name ℕ
  pair_of r = row r.name (hash r.value)

  -- the rows with one of them in front
  pub hashed_at : (xs : List (Row Name V)) (r : Row Name V) (ys : List (Row Name V)) → AsOften (hashed hash (xs ++ r ∷ ys)) (pair_of r ∷ hashed hash (xs ++ ys))
  hashed_at xs r ys =
      subst (λ some. AsOften some (pair_of r ∷ hashed hash (xs ++ ys))) (sym (map-append pair_of xs (r ∷ ys)))
      (subst (λ others. AsOften (hashed hash xs ++ pair_of r ∷ hashed hash ys) (pair_of r ∷ others)) (sym (map-append pair_of xs ys)) (often_moved (hashed hash xs) (hashed hash ys) (pair_of r)))

  pub pair_there : (xs : List (Row Name V)) (r : Row Name V) (ys : List (Row Name V)) → list_any (is_pair r.name (hash r.value)) (hashed hash (xs ++ r ∷ ys)) ≡ true
  pair_there [] r ys = ap (λ b. (b && (hash r.value == hash r.value)) || list_any (is_pair r.name (hash r.value)) (hashed hash ys)) (is_same r.name r.name refl) ∙ ap (λ b. b || list_any (is_pair r.name (hash r.value)) (hashed hash ys)) (eq-eqb (hash r.value) (hash r.value) refl)
  pair_there (x ∷ xs) r ys = ap (λ b. is_pair r.name (hash r.value) (pair_of x) || b) (pair_there xs r ys) ∙ or_true (is_pair r.name (hash r.value) (pair_of x))

  -- a name among the pairs is a row's
  hashed_names : (rows : List (Row Name V)) (a : Name) → list_any (λ (p : Row Name ℕ). is_same_name a p.name) (hashed hash rows) ≡ is_among (names rows) a
  hashed_names [] a = refl
  hashed_names (r ∷ rows) a = ap (λ b. is_same_name a r.name || b) (hashed_names rows a)

  pub name_there : (pairs : List (Row Name ℕ)) (rows : List (Row Name V)) (a : Name) → AsOften pairs (hashed hash rows) → list_any (λ (p : Row Name ℕ). is_same_name a p.name) pairs ≡ true → HasName a rows
  name_there pairs rows a often h =
      among_has a rows (sym (hashed_names rows a) ∙ any_as_often (λ (p : Row Name ℕ). is_same_name a p.name) (hashed hash rows) pairs (λ weight. sym (often weight)) h)

-- the names of pairs that pass a test
pub among_pass : (t : Row Name ℕ → Bool) (pairs : List (Row Name ℕ)) (a : Name) → is_among (names (filter t pairs)) a ≡ true → list_any (λ (p : Row Name ℕ). is_same_name a p.name) pairs ≡ true
among_pass t [] a h = h
among_pass t (p ∷ pairs) a h = elim (cases_Bool (t p)) [
  | inl passed ↦ elim (cases_Bool (is_same_name a p.name)) [
    | inl e ↦ ap (λ b. b || list_any (λ (q : Row Name ℕ). is_same_name a q.name) pairs) e
    | inr n ↦
        let k : (is_same_name a p.name || is_among (names (filter t pairs)) a) ≡ true = simp passed at h in
        ap (λ b. b || list_any (λ (q : Row Name ℕ). is_same_name a q.name) pairs) n ∙ among_pass t pairs a (subst (λ b. (b || is_among (names (filter t pairs)) a) ≡ true) n k)
  ]
  | inr off ↦
      let k : is_among (names (filter t pairs)) a ≡ true = simp off at h in
      ap (λ b. is_same_name a p.name || b) (among_pass t pairs a k) ∙ or_true (is_same_name a p.name)
]

pub any-drop : {X : Type 0} (test : X → Bool) (n : ℕ) (xs : List X) → list_any test (drop n xs) ≡ true → list_any test xs ≡ true
any-drop test zero xs h = h
any-drop test (suc n) [] h = h
any-drop test (suc n) (x ∷ xs) h = ap (λ b. test x || b) (any-drop test n xs h) ∙ or_true (test x)

-- a pair is met among those with its hash
pub pair_met : (pairs : List (Row Name ℕ)) (h : ℕ) (a : Name) → list_any (is_pair a h) pairs ≡ true → is_among (names (filter (λ (p : Row Name ℕ). p.value == h) pairs)) a ≡ true
pair_met [] h a t = t
pair_met (p ∷ pairs) h a t = elim (cases_Bool (is_pair a h p)) [
  | inl passed ↦
      let same : is_same_name a p.name ≡ true = left_true (is_same_name a p.name) (p.value == h) passed in
      let value : (p.value == h) ≡ true = right_true (is_same_name a p.name) (p.value == h) passed in
      subst (λ b. is_among (names (if b then p ∷ rest else rest)) a ≡ true) (sym value) (ap (λ b. b || is_among (names rest) a) same)
  | inr off ↦
      let k : list_any (is_pair a h) pairs ≡ true = subst (λ b. (b || list_any (is_pair a h) pairs) ≡ true) off t in
      let again = pair_met pairs h a k in
      elim (cases_Bool (p.value == h)) [
        | inl b ↦ subst (λ c. is_among (names (if c then p ∷ rest else rest)) a ≡ true) (sym b) (ap (λ c. is_same_name a p.name || c) again ∙ or_true (is_same_name a p.name))
        | inr b ↦ subst (λ c. is_among (names (if c then p ∷ rest else rest)) a ≡ true) (sym b) again
      ]
]
  where
    rest : List (Row Name ℕ)
    rest = filter (λ (q : Row Name ℕ). q.value == h) pairs

    left_true : (b c : Bool) → (b && c) ≡ true → b ≡ true
    left_true true c e = refl
    left_true false c e = absurd (true≢false (sym e))

    right_true : (b c : Bool) → (b && c) ≡ true → c ≡ true
    right_true true c e = e
    right_true false c e = absurd (true≢false (sym e))
