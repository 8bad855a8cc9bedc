-- Names among their sorted places: what a search finds, and what one more name and fewer names leave.
use Rattle.std.proofs.Common.{◌≡◌, ℕ, zero, suc, ◌+◌, ◌-◌, ◌<◌, ◌≤◌, ◌⊎◌, Bool, true, false, true≢false, List, [], ◌∷◌, ◌++◌, length, get_or, take, drop, min, filter, nat_lt, Vec, refl, sym, ap, subst, ◌∙◌, inl, inr, arith}
use Rattle.std.specs.List.{All, Contains, insert, position_or_len}
use Rattle.std.specs.List.Sorted.{IsPermutation}
use Rattle.std.specs.Ordering.{ordering_reverse, ordering_then, nat_cmp, is_eq, is_ne}
use Rattle.std.specs.declared.cmp.Ordering.{Ordering}
use Rattle.std.specs.declared.cmp.Ordering.TheVariants.{Less, Equal, Greater}
use Rattle.std.specs.Str.{bytes_eq}
use Rattle.std.specs.Cmp.Lexicographic.{texts_ties}
use Rattle.std.proofs.lemmas.Cmp.{nat_list_cmp_total, alike_right}
use Rattle.std.proofs.lemmas.Bool.{cases_lt, cases_order, cond_both}
use Rattle.std.proofs.lemmas.Bool.Decides.{nat_tests}
use Rattle.std.proofs.lemmas.List.{get_or_default, get_or_append_left, get_or_push, get_or-take, length-take, length-map, length_push, get_or-map, drop_more}
use Rattle.std.proofs.lemmas.List.Edits.{length-insert, get_or-insert_below, get_or-insert_at, get_or-insert_above}
use Rattle.std.proofs.lemmas.List.Elements.{All-cons, All-weaker, All-filter, filter_passes}
use Rattle.std.proofs.lemmas.List.Kept.{AllPairs-filter}
use Rattle.std.proofs.lemmas.List.Sorted.{All-permutation, Contains-permutation, IsPermutation-insert}
use Rattle.std.proofs.lemmas.List.Sums.{position_or_len_is}
use Rattle.ac_check.specs.declared.meaning.Meaning.{Meaning as Kept}
use Rattle.ac_check.specs.NameOrders.{IsNameOrder, IsPlace, IsGap, bytes_of, name_cmp, name_at, sorted_at}

turned : (a b : List ℕ) (r : Ordering) → name_cmp a b ≡ r → name_cmp b a ≡ ordering_reverse r
turned a b r h = nat_list_cmp_total.antisymm b a ∙ ap ordering_reverse h

unlike : (a b : List ℕ) (r : Ordering) → name_cmp a b ≡ r → bytes_eq a b ≡ is_eq r
unlike a b r h = texts_ties a b ∙ ap is_eq h

both_Less : (a a2 b b2 : List ℕ) → a ≡ a2 → b ≡ b2 → name_cmp a2 b2 ≡ Less → name_cmp a b ≡ Less
both_Less a a2 b b2 e f h = ap (λ x. name_cmp x b) e ∙ ap (λ y. name_cmp a2 y) f ∙ h

-- the bytes of the name that is read at a place
pub read_name : {A : Type 0} (named : List (Vec ℕ A × Kept)) (place : ℕ) (x : Vec ℕ A × Kept) → place < length named → name_at (bytes_of named) place ≡ (get_or named place x).0.items
read_name named place x within = get_or-map (λ n. n.0.items) named place x [] within

pub long_as : {A : Type 0} (named : List (Vec ℕ A × Kept)) → length (bytes_of named) ≡ length named
long_as named = length-map named (λ n. n.0.items)

-- one byte more of two names that were alike up to here
pub one_more : (xs ys : List ℕ) (i : ℕ) → i < length xs → i < length ys → (r : Ordering) → r ≡ nat_cmp (get_or xs i 0) (get_or ys i 0) → name_cmp (drop i xs) (drop i ys) ≡ ordering_then r (name_cmp (drop (i + 1) xs) (drop (i + 1) ys))
one_more xs ys i left right r e =
    ap (λ zs. name_cmp zs (drop i ys)) (drop_more xs i 0 left)
    ∙ ap (λ zs. name_cmp (get_or xs i 0 ∷ drop (i + 1) xs) zs) (drop_more ys i 0 right)
    ∙ ap (λ o. ordering_then o (name_cmp (drop (i + 1) xs) (drop (i + 1) ys))) (sym e)

pub decided : (r rest : Ordering) → is_ne r ≡ true → ordering_then r rest ≡ r
decided Less rest h = refl
decided Equal rest h = absurd (true≢false (sym h))
decided Greater rest h = refl

pub undecided : (r rest : Ordering) → is_ne r ≡ false → ordering_then r rest ≡ rest
undecided Less rest h = absurd (true≢false h)
undecided Equal rest h = refl
undecided Greater rest h = absurd (true≢false h)

-- where one is at its end, the lengths decide
pub ended : (xs ys : List ℕ) (i : ℕ) → i ≡ min (length xs) (length ys) → name_cmp (drop i xs) (drop i ys) ≡ nat_cmp (length xs) (length ys)
ended [] [] zero e = refl
ended [] [] (suc i) e = absurd (omega (arith, e))
ended [] (y ∷ ys) zero e = grind (arith, nat_tests)
ended [] (y ∷ ys) (suc i) e = absurd (omega (arith, e))
ended (x ∷ xs) [] zero e = grind (arith, nat_tests)
ended (x ∷ xs) [] (suc i) e = absurd (omega (arith, e))
ended (x ∷ xs) (y ∷ ys) zero e = absurd (omega (arith, e))
ended (x ∷ xs) (y ∷ ys) (suc i) e = ended xs ys i (omega (arith, e)) ∙ grind (arith, nat_tests)

module _ (names : List (List ℕ)) (places : List ℕ) (order : IsNameOrder names places) (name : List ℕ) where
  -- what stands before a lower name is lower, and what stands behind a higher one is higher
  pub below_lower : (middle k : ℕ) → middle < length places → name_cmp (sorted_at names places middle) name ≡ Less → k < middle + 1 → name_cmp (sorted_at names places k) name ≡ Less
  below_lower middle k within lower upto = elim (cases_lt k middle) [
    | inl before ↦ nat_list_cmp_total.trans (sorted_at names places k) (sorted_at names places middle) name (order.rising k middle 0 before within) lower
    | inr same ↦ let e : middle ≡ k = omega (arith, same, upto) in subst (λ i. name_cmp (sorted_at names places i) name ≡ Less) e lower
  ]

  pub above_higher : (middle k : ℕ) → name_cmp (sorted_at names places middle) name ≡ Greater → middle ≤ k → k < length places → name_cmp (sorted_at names places k) name ≡ Greater
  above_higher middle k higher from within = elim (cases_lt middle k) [
    | inl behind ↦
        let first = turned (sorted_at names places middle) name Greater higher in
        turned name (sorted_at names places k) Less (nat_list_cmp_total.trans name (sorted_at names places middle) (sorted_at names places k) first (order.rising middle k 0 behind within))
    | inr same ↦ let e : middle ≡ k = omega (arith, same, from) in subst (λ i. name_cmp (sorted_at names places i) name ≡ Greater) e higher
  ]

  other_at : (j q : ℕ) → get_or places j q ≡ q → j < length places → (r : Ordering) → name_cmp (sorted_at names places j) name ≡ r → bytes_eq (name_at names q) name ≡ is_eq r
  other_at j q reads within r h =
      let e : get_or places j 0 ≡ q = get_or_default places j 0 q within ∙ reads in
      subst (λ p. bytes_eq (name_at names p) name ≡ is_eq r) e (unlike (sorted_at names places j) name r h)

  -- the place at which the name is read is its first
  pub found : (k : ℕ) → k < length places → name_cmp (sorted_at names places k) name ≡ Equal → IsPlace names name (get_or places k 0)
  found k within equal =
      let place = get_or places k 0 in
      let inside : place < length names = order.within k 0 within in
      let alike = λ (j : ℕ). alike_right nat_list_cmp_total (sorted_at names places k) name (sorted_at names places j) equal in
      record {
        within = inside;
        is_first = position_or_len_is (λ n. bytes_eq n name) names place [] (omega (arith, inside))
            (λ q before. let j = order.whole q (omega (arith, inside, before)) in elim (cases_order j.0 k) [
              | inl here ↦ let e : get_or places k 0 ≡ q = subst (λ i. get_or places i 0 ≡ q) here (get_or_default places j.0 0 q j.1 ∙ j.2) in absurd (omega (arith, before, e))
              | inr (inl lower) ↦ other_at j.0 q j.2 j.1 Less (sym (alike j.0) ∙ order.rising j.0 k 0 lower within)
              | inr (inr higher) ↦ other_at j.0 q j.2 j.1 Greater (sym (alike j.0) ∙ turned (sorted_at names places k) (sorted_at names places j.0) Less (order.rising k j.0 0 higher j.1))
            ])
            (λ _. unlike (name_at names place) name Equal equal);
      }

  pub missing : (at : ℕ) → IsGap names places name at → position_or_len (λ n. bytes_eq n name) names ≡ length names
  missing at gap =
      position_or_len_is (λ n. bytes_eq n name) names (length names) [] (omega arith)
      (λ q inside. let j = order.whole q inside in elim (cases_lt j.0 at) [
        | inl lower ↦ other_at j.0 q j.2 j.1 Less (gap.below j.0 lower)
        | inr higher ↦ other_at j.0 q j.2 j.1 Greater (gap.above j.0 higher j.1)
      ])
      (λ more. absurd (omega (arith, more)))

-- a name that was there stays at its place
kept : (names : List (List ℕ)) (name : List ℕ) (p : ℕ) → p < length names → name_at (names ++ name ∷ []) p ≡ name_at names p
kept names name p within = get_or_append_left names (name ∷ []) [] p within

-- one more name in its gap
module _ (names : List (List ℕ)) (places : List ℕ) (order : IsNameOrder names places) (name : List ℕ) (at : ℕ) (gap : IsGap names places name at) where
  abbrev more : List (List ℕ)
  more = names ++ name ∷ []

  abbrev wider : List ℕ
  wider = insert places at (length names)

  -- where a place of the wider order comes from
  moved_below : (k : ℕ) → k < at → sorted_at more wider k ≡ sorted_at names places k
  moved_below k before =
      ap (name_at more) (get_or-insert_below places at (length names) 0 k before gap.within)
      ∙ kept names name (get_or places k 0) (order.within k 0 (omega (arith, before, gap.within)))

  moved_at : sorted_at more wider at ≡ name
  moved_at = ap (name_at more) (get_or-insert_at places at (length names) 0 gap.within) ∙ get_or_push names name [] (length names) refl

  moved_above : (k : ℕ) → at ≤ k → k < length places → sorted_at more wider (k + 1) ≡ sorted_at names places k
  moved_above k from within =
      ap (name_at more) (get_or-insert_above places at (length names) 0 k from gap.within)
      ∙ kept names name (get_or places k 0) (order.within k 0 within)

  behind : (k : ℕ) → at < k → k < length wider → sorted_at more wider k ≡ sorted_at names places (k - 1)
  behind k above within =
      let long = length-insert places at (length names) gap.within in
      let e : k - 1 + 1 ≡ k = omega (arith, above) in
      subst (λ i. sorted_at more wider i ≡ sorted_at names places (k - 1)) e (moved_above (k - 1) (omega (arith, above)) (omega (arith, within, long, above)))

  rises : (i j : ℕ) → i < j → j < length wider → name_cmp (sorted_at more wider i) (sorted_at more wider j) ≡ Less
  rises i j before within =
      let long = length-insert places at (length names) gap.within in
      elim (cases_order at j) [
        | inl here ↦
            let first : i < at = omega (arith, before, here) in
            both_Less _ _ _ _ (moved_below i first) (subst (λ k. sorted_at more wider k ≡ name) here moved_at) (gap.below i first)
        | inr (inr lower) ↦
            both_Less _ _ _ _ (moved_below i (omega (arith, before, lower))) (moved_below j lower) (order.rising i j 0 before (omega (arith, lower, gap.within)))
        | inr (inl above) ↦
            let last : j - 1 < length places = omega (arith, within, long, above) in
            elim (cases_order at i) [
              | inl same ↦
                  both_Less _ _ _ _ (subst (λ k. sorted_at more wider k ≡ name) same moved_at) (behind j above within)
                  (turned (sorted_at names places (j - 1)) name Greater (gap.above (j - 1) (omega (arith, above)) last))
              | inr (inl later) ↦
                  both_Less _ _ _ _ (behind i later (omega (arith, before, within))) (behind j above within) (order.rising (i - 1) (j - 1) 0 (omega (arith, before, later)) last)
              | inr (inr first) ↦
                  both_Less _ _ _ _ (moved_below i first) (behind j above within) (order.rising i (j - 1) 0 (omega (arith, first, above)) last)
            ]
      ]

  counted : length more ≡ length names + 1
  counted = length_push names name

  moves : IsPermutation (length names ∷ places) wider
  moves = IsPermutation-insert places at (length names)

  contained : (p : ℕ) → p < length more → Contains (length names ∷ places) p
  contained p within = elim (cases_lt p (length names)) [
    | inl old ↦ let c = order.whole p old in (suc c.0, omega (arith, c.1), c.2)
    | inr new ↦ (0, omega arith, omega (arith, within, counted, new))
  ]

  pub declared : IsNameOrder more wider
  declared = record {
    within = All-permutation (λ p. p < length more) (length names ∷ places) wider moves (All-cons (λ p. p < length more) (length names) places (omega (arith, counted)) (All-weaker (λ p. p < length names) (λ p. p < length more) (λ p h. omega (arith, counted, h)) places order.within));
    rising = λ i j d before within. both_Less _ _ _ _ (ap (name_at more) (get_or_default wider i d 0 (omega (arith, before, within)))) (ap (name_at more) (get_or_default wider j d 0 within)) (rises i j before within);
    whole = λ p within. Contains-permutation (length names ∷ places) wider p moves (contained p within);
  }

-- what passes a test is still there behind a filter
first_or_later : (y x : ℕ) (xs : List ℕ) (k : ℕ) → k < length (y ∷ xs) → get_or (y ∷ xs) k x ≡ x → (y ≡ x) ⊎ Contains xs x
first_or_later y x xs zero within e = inl e
first_or_later y x xs (suc k) within e = inr (k, omega (arith, within), e)

stays : (test : ℕ → Bool) (xs : List ℕ) (x : ℕ) → test x ≡ true → Contains xs x → Contains (filter test xs) x
stays test [] x passes c = absurd (omega (arith, c.1))
stays test (y ∷ xs) x passes c =
    cond_both (test y) (y ∷ filter test xs) (filter test xs) (λ l. Contains l x)
    (λ _. elim (first_or_later y x xs c.0 c.1 c.2) [
      | inl e ↦ (0, omega arith, e)
      | inr later ↦ let s = stays test xs x passes later in (suc s.0, omega (arith, s.1), s.2)
    ])
    (λ fails. elim (first_or_later y x xs c.0 c.1 c.2) [
      | inl e ↦ absurd (true≢false (sym passes ∙ ap test (sym e) ∙ fails))
      | inr later ↦ stays test xs x passes later
    ])

-- the first so many names alone
module _ (names : List (List ℕ)) (places : List ℕ) (order : IsNameOrder names places) (len : ℕ) where
  abbrev fewer : List (List ℕ)
  fewer = take len names

  abbrev left : List ℕ
  left = filter (λ p. nat_lt p len) places

  inside : All (λ p. p < len) left
  inside k d within = let passes = filter_passes (λ p. nat_lt p len) places k d within in grind (arith, nat_tests, passes)

  same_at : (p : ℕ) → p < len → name_at fewer p ≡ name_at names p
  same_at p below = get_or-take len names p [] below

  pub kept_first : IsNameOrder fewer left
  kept_first = record {
    within = λ k d within. let old = All-filter (λ p. nat_lt p len) (λ p. p < length names) places order.within k d within in rw (length-take len names) (omega (arith, inside k d within, old));
    rising = λ i j d before within.
        both_Less _ _ _ _ (same_at (get_or left i d) (inside i d (omega (arith, before, within)))) (same_at (get_or left j d) (inside j d within))
        (AllPairs-filter (λ p q. name_cmp (name_at names p) (name_at names q) ≡ Less) (λ p. nat_lt p len) places order.rising i j d before within);
    whole = λ p within.
        let short = length-take len names in
        let below : p < len = omega (arith, short, within) in
        stays (λ p. nat_lt p len) places p (grind (arith, nat_tests, below)) (order.whole p (omega (arith, short, within)));
  }
