-- The map that the cells of a pool stand for, name by name.
use Rattle.std.proofs.Common.{◌≡◌, ◌≢◌, ℕ, zero, suc, ◌+◌, ◌-◌, ◌<◌, true, false, List, [], ◌∷◌, ◌++◌, length, set, get_or, replicate, Option, Some, None, is_some, IsSome, refl, sym, ap, ◌∙◌, inl, inr, cond, eqb, arith, get_or-set_same, get_or-set_other}
use Rattle.std.proofs.lemmas.Bool.{cases_eq, cases_lt, cond-true, cond-false, eq-eqb, ne_eqb}
use Rattle.std.proofs.lemmas.List.{get_or_append_left, get_or-append_right, get_or_past}
use Rattle.std.specs.FinMap as map
use Rattle.ac_base.specs.declared.name.Name.{Name}
use Rattle.ac_pool.specs.Names.{name_cmp}
use Rattle.ac_pool.specs.PoolFields.{name_at, entries_from, entries_in, empty_count}
use Rattle.ac_pool.proofs.Cells.{within}
use Rattle.ac_pool.proofs.NameLaws.{same_name, name_cmp_total, get-insert_same, get-insert_other, get-remove_same, get-remove_other, same_names}

other_slot : (a b : Name) → a.slot ≢ b.slot → a ≢ b
other_slot a b n e = n (ap (λ (c : Name). c.slot) e)

other_serial : (a b : Name) → a.serial ≢ b.serial → a ≢ b
other_serial a b n e = n (ap (λ (c : Name). c.serial) e)

module _ {X : Type 0} where
  -- the value of the cell, under that serial
  abbrev pub value_in : Option (ℕ × X) → ℕ → Option X
  value_in None s = None
  value_in (Some e) s = cond (eqb e.0 s) (Some e.1) None

  pub value_in_same : (e : ℕ × X) (s : ℕ) → e.0 ≡ s → value_in (Some e) s ≡ Some e.1
  value_in_same e s is = cond-true _ _ _ (eq-eqb e.0 s is)

  pub value_in_other : (e : ℕ × X) (s : ℕ) → e.0 ≢ s → value_in (Some e) s ≡ None
  value_in_other e s n = cond-false _ _ _ (ne_eqb e.0 s n)

  -- the cell that a live name leads to
  pub kept_of_value : (c : Option (ℕ × X)) (s : ℕ) → IsSome (value_in c s) → (x : X) × (c ≡ Some (s, x))
  kept_of_value None s h = cc
  kept_of_value (Some e) s h = elim (cases_eq e.0 s) [
    | inl is ↦ (e.1, ap (λ n. Some (n, e.1)) is)
    | inr n ↦ let no : is_some {T = X} None ≡ true = ap is_some (sym (value_in_other e s n)) ∙ h in cc
  ]

  below_none : (cells : List (Option (ℕ × X))) (i : ℕ) (q : Name) → q.slot < i → map.get (entries_from i cells) q ≡ None
  below_none [] i q h = map.get-empty name_cmp q
  below_none (None ∷ cells) i q h = below_none cells (suc i) q (omega arith)
  below_none (Some e ∷ cells) i q h =
      let apart : q.slot ≢ i = omega arith in
      get-insert_other (entries_from (suc i) cells) (name_at i e.0) q e.1 (other_slot q (name_at i e.0) apart) ∙ below_none cells (suc i) q (omega arith)

  value_from : (cells : List (Option (ℕ × X))) (i j : ℕ) (q : Name) → q.slot ≡ i + j → map.get (entries_from i cells) q ≡ value_in (get_or cells j None) q.serial
  value_from [] i j q at = map.get-empty name_cmp q
  value_from (None ∷ cells) i zero q at = below_none cells (suc i) q (omega arith)
  value_from (Some e ∷ cells) i zero q at = elim (cases_eq e.0 q.serial) [
    | inl is ↦ let same : q ≡ name_at i e.0 = same_name q (name_at i e.0) (omega arith) (sym is) in
        ap (map.get (map.insert (entries_from (suc i) cells) (name_at i e.0) e.1)) same ∙ get-insert_same (entries_from (suc i) cells) (name_at i e.0) e.1 ∙ sym (value_in_same e q.serial is)
    | inr n ↦ get-insert_other (entries_from (suc i) cells) (name_at i e.0) q e.1 (other_serial q (name_at i e.0) (λ is. n (sym is)))
        ∙ below_none cells (suc i) q (omega arith) ∙ sym (value_in_other e q.serial n)
  ]
  value_from (None ∷ cells) i (suc j) q at = value_from cells (suc i) j q (omega arith)
  value_from (Some e ∷ cells) i (suc j) q at =
      let apart : q.slot ≢ i = omega arith in
      get-insert_other (entries_from (suc i) cells) (name_at i e.0) q e.1 (other_slot q (name_at i e.0) apart) ∙ value_from cells (suc i) j q (omega arith)

  pub get-entries_in : (cells : List (Option (ℕ × X))) (q : Name) → map.get (entries_in cells) q ≡ value_in (get_or cells q.slot None) q.serial
  unfolding entries_in
  get-entries_in cells q = value_from cells 0 q.slot q (omega arith)

  pub entries_in-nil : entries_in [] ≡ map.empty {X = X} {R = name_cmp}
  unfolding entries_in
  entries_in-nil = refl

  counted : (i : ℕ) (cells : List (Option (ℕ × X))) → map.len (entries_from i cells) + empty_count cells ≡ length cells
  counted i [] = omega (arith, map.len-empty name_cmp X)
  counted i (None ∷ cells) = omega (arith, counted (suc i) cells)
  counted i (Some e ∷ cells) =
      let m = entries_from (suc i) cells in let k = name_at i e.0 in
      let fresh : map.contains_key m k ≡ false = ap is_some (below_none cells (suc i) k (omega arith)) in
      let more : map.len (map.insert m k e.1) ≡ map.len m + 1 = map.len-insert name_cmp_total m k e.1 ∙ cond-false _ _ _ fresh in
      omega (arith, counted (suc i) cells)

  pub len-entries_in : (cells : List (Option (ℕ × X))) → map.len (entries_in cells) + empty_count cells ≡ length cells
  unfolding entries_in
  len-entries_in cells = counted 0 cells

  nothing_other : (c : Option (ℕ × X)) (s t : ℕ) → s ≢ t → ((e : ℕ × X) → c ≡ Some e → e.0 ≡ s) → value_in c t ≡ None
  nothing_other None s t n h = refl
  nothing_other (Some e) s t n h = value_in_other e t (λ is. n (sym (h e refl) ∙ is))

  get_none : (m k : ℕ) → let none : Option (ℕ × X) = None in get_or (replicate m none) k none ≡ none
  get_none zero k = refl
  get_none (suc m) zero = refl
  get_none (suc m) (suc k) = get_none m k

  module _ (cells : List (Option (ℕ × X))) where
    pub entries_in-some : (i s : ℕ) (w : X) → i < length cells → ((e : ℕ × X) → get_or cells i None ≡ Some e → e.0 ≡ s) → entries_in (set cells i (Some (s, w))) ≡ map.insert (entries_in cells) (name_at i s) w
    entries_in-some i s w lt only = same_names _ _ (λ q. get-entries_in (set cells i (Some (s, w))) q ∙ elim (cases_eq q.slot i) [
      | inl at ↦ let here = ap (λ k. value_in (get_or (set cells i (Some (s, w))) k None) q.serial) at ∙ ap (λ c. value_in c q.serial) (get_or-set_same cells i (Some (s, w)) None lt) in
          elim (cases_eq s q.serial) [
            | inl is ↦ let same : q ≡ name_at i s = same_name q (name_at i s) at (sym is) in
                here ∙ value_in_same (s, w) q.serial is ∙ sym (ap (map.get (map.insert (entries_in cells) (name_at i s) w)) same ∙ get-insert_same (entries_in cells) (name_at i s) w)
            | inr n ↦ here ∙ value_in_other (s, w) q.serial n ∙ sym (get-insert_other (entries_in cells) (name_at i s) q w (other_serial q (name_at i s) (λ is. n (sym is)))
                ∙ get-entries_in cells q ∙ ap (λ k. value_in (get_or cells k None) q.serial) at ∙ nothing_other (get_or cells i None) s q.serial n (λ e. only e))
          ]
      | inr apart ↦ ap (λ c. value_in c q.serial) (get_or-set_other cells i q.slot (Some (s, w)) None apart)
          ∙ sym (get-insert_other (entries_in cells) (name_at i s) q w (other_slot q (name_at i s) apart) ∙ get-entries_in cells q)
    ])

    pub entries_in-none : (i : ℕ) (e : ℕ × X) → get_or cells i None ≡ Some e → entries_in (set cells i None) ≡ map.remove (entries_in cells) (name_at i e.0)
    entries_in-none i e full = let k = name_at i e.0 in same_names _ _ (λ q. get-entries_in (set cells i None) q ∙ elim (cases_eq q.slot i) [
      | inl at ↦ ap (λ j. value_in (get_or (set cells i None) j None) q.serial) at ∙ ap (λ c. value_in c q.serial) (get_or-set_same cells i None None (within cells i e full)) ∙ sym (elim (cases_eq e.0 q.serial) [
        | inl is ↦ let same : q ≡ k = same_name q k at (sym is) in ap (map.get (map.remove (entries_in cells) k)) same ∙ get-remove_same (entries_in cells) k
        | inr n ↦ get-remove_other (entries_in cells) k q (other_serial q k (λ is. n (sym is))) ∙ get-entries_in cells q
            ∙ ap (λ j. value_in (get_or cells j None) q.serial) at ∙ ap (λ c. value_in c q.serial) full ∙ value_in_other e q.serial n
      ])
      | inr apart ↦ ap (λ c. value_in c q.serial) (get_or-set_other cells i q.slot None None apart) ∙ sym (get-remove_other (entries_in cells) k q (other_slot q k apart) ∙ get-entries_in cells q)
    ])

    pub get_grown : (m k : ℕ) → get_or (cells ++ replicate m None) k None ≡ get_or cells k None
    get_grown m k = elim (cases_lt k (length cells)) [
      | inl lt ↦ get_or_append_left cells (replicate m None) None k lt
      | inr le ↦ get_or-append_right cells (replicate m None) (length cells) k None refl le ∙ get_none m (k - length cells) ∙ sym (get_or_past cells k None le)
    ]

    pub entries_in-grown : (m : ℕ) → entries_in (cells ++ replicate m None) ≡ entries_in cells
    entries_in-grown m = same_names _ _ (λ q. get-entries_in (cells ++ replicate m None) q ∙ ap (λ c. value_in c q.serial) (get_grown m q.slot) ∙ sym (get-entries_in cells q))
