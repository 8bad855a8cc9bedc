-- A walk over a set that checks each element, or collects those that pass a test.
use Rattle.std.proofs.Common.{◌≡◌, ◌&&◌, ◌+◌, ◌≤◌, ℕ, suc, Bool, true, false, not, List, [], ◌∷◌, ◌++◌, length, Option, Some, None, Result, Ok, Err, refl, sym, ap, ◌∙◌, subst, inl, inr, arith}
use Rattle.std.specs.Prelude.{filter, option_map, slice_get, IfOk}
use Rattle.std.specs.List.{list_all, list_any}
use Rattle.std.specs.Result.{IsOkAnd}
use Rattle.std.proofs.lemmas.Bool.{cases_Bool}
use Rattle.std.proofs.lemmas.List.{append-nil, length-append, length-map, map-append}
use Rattle.std.proofs.lemmas.List.Elements.{filter-append}
use Rattle.std.proofs.lemmas.List.Filters.{length-filter_both}
use Rattle.std.proofs.lemmas.Option.{none-some}
use Rattle.ac_base.specs.declared.name.Name.{Name}
use Rattle.ac_base.specs.Rows.{Row, values}
use Rattle.ac_setwork.specs.Filling.{NamesDiffer}
use Rattle.ac_setwork.specs.Indexed.{Indexed, name_at, name_after, value_of}
use Rattle.ac_setwork.specs.SetSeen.{those}
use Rattle.ac_setwork.proofs.Walking.{Walking, ended, started, stepped}

pub any_by_all : {V : Type 0} (test : V → Bool) (vs : List V) → list_any test vs ≡ not (list_all (λ v. not (test v)) vs)
any_by_all test [] = refl
any_by_all test (v ∷ vs) = elim (cases_Bool (test v)) [
  | inl t ↦ rw t refl
  | inr f ↦ rw f (any_by_all test vs)
]

pub filter_one : {V : Type 0} (test : V → Bool) (v : V) → filter test (v ∷ []) ≡ those (test v) v
filter_one test v = elim (cases_Bool (test v)) [
  | inl t ↦ rw t refl
  | inr f ↦ rw f refl
]

module _ {V : Type 0} (s : Indexed V) (test : V → Bool) where
  -- all elements that were met pass the test
  pub record Checking (place : Option Name) : Type 0 where
    pub before : List (Row Name V)
    pub left : List (Row Name V)
    pub walk : Walking s before left place
    pub whole : list_all test (values s.rows) ≡ list_all test (values left)

  pub checking_starts : (place : Option Name) → place ≡ name_at s 0 → Checking place
  checking_starts place is = record { before = []; left = s.rows; walk = started s place is; whole = refl }

  head_is : (differ : NamesDiffer s) → (name : Name) (v : V) → (m : Checking (Some name)) → value_of s name ≡ Some v
      → (rest : List (Row Name V)) × (list_all test (values s.rows) ≡ (test v && list_all test (values rest))) × Walking s (m.before ++ (stepped s differ m.before m.left name m.walk).row ∷ []) rest (name_after s name)
  head_is differ name v m e =
      let step = stepped s differ m.before m.left name m.walk in
      let value : step.row.value ≡ v = (let k : Some step.row.value ≡ Some v = sym step.value ∙ e in cc) in
      (step.rest, m.whole ∙ ap (λ rs. list_all test (values rs)) step.is ∙ ap (λ u. test u && list_all test (values step.rest)) value, step.next)

  pub checked_more : NamesDiffer s → (name : Name) (next : Option Name) (v : V) (b : Bool) → Checking (Some name) → value_of s name ≡ Some v → b ≡ test v → b ≡ true → next ≡ name_after s name → Checking next
  checked_more differ name next v b m e is passed at =
      let h = head_is differ name v m e in
      record {
        before = m.before ++ (stepped s differ m.before m.left name m.walk).row ∷ [];
        left = h.0;
        walk = subst (Walking s (m.before ++ (stepped s differ m.before m.left name m.walk).row ∷ []) h.0) (sym at) h.2;
        whole = h.1 ∙ ap (λ c. c && list_all test (values h.0)) (sym is ∙ passed);
      }

  pub unchecked : NamesDiffer s → (name : Name) (v : V) (b : Bool) → Checking (Some name) → value_of s name ≡ Some v → b ≡ test v → b ≡ false → false ≡ list_all test (values s.rows)
  unchecked differ name v b m e is off = let h = head_is differ name v m e in sym (h.1 ∙ ap (λ c. c && list_all test (values h.0)) (sym is ∙ off))

  pub all_checked : Checking None → true ≡ list_all test (values s.rows)
  all_checked m = sym (m.whole ∙ ap (λ rs. list_all test (values rs)) (ended s m.before m.left m.walk))

  module _ {X E : Type 0} (items : X → List V) where
    -- how many that were met pass the test, and copies of them, where there was memory
    pub record Collecting (count : ℕ) (copies : Result X E) (place : Option Name) : Type 0 where
      pub before : List (Row Name V)
      pub left : List (Row Name V)
      pub walk : Walking s before left place
      pub counted : count ≡ length (filter test (values before))
      pub copied : IfOk copies (λ made. items made ≡ filter test (values before))

    pub collecting_starts : (none : X) (place : Option Name) → items none ≡ [] → place ≡ name_at s 0 → Collecting 0 (Ok none) place
    collecting_starts none place e is = record { before = []; left = s.rows; walk = started s place is; counted = refl; copied = e }

    copied_more : (copies next : Result X E) (xs ys : List V) → IfOk copies (λ made. items made ≡ xs) → IfOk next (λ made. IsOkAnd copies (λ old. items made ≡ items old ++ ys)) → IfOk next (λ made. items made ≡ xs ++ ys)
    copied_more copies (Err e) xs ys h k = tt
    copied_more (Err e) (Ok made) xs ys h k = absurd k
    copied_more (Ok old) (Ok made) xs ys h k = k ∙ ap (λ zs. zs ++ ys) h

    pub collected_more : NamesDiffer s → (name : Name) (next : Option Name) (v : V) (b : Bool) (count count2 : ℕ) (copies copies2 : Result X E) → Collecting count copies (Some name) → value_of s name ≡ Some v → b ≡ test v → next ≡ name_after s name
        → count2 ≡ count + length (those b v) → IfOk copies2 (λ made. IsOkAnd copies (λ old. items made ≡ items old ++ those b v)) → Collecting count2 copies2 next
    collected_more differ name next v b count count2 copies copies2 m e is at counts copying =
        let step = stepped s differ m.before m.left name m.walk in
        let value : step.row.value ≡ v = (let k : Some step.row.value ≡ Some v = sym step.value ∙ e in cc) in
        let now : filter test (values (m.before ++ step.row ∷ [])) ≡ filter test (values m.before) ++ those b v =
        ap (filter test) (map-append (λ (r : Row Name V). r.value) m.before (step.row ∷ [])) ∙ filter-append test (values m.before) (step.row.value ∷ [])
        ∙ ap (λ u. filter test (values m.before) ++ filter test (u ∷ [])) value ∙ ap (λ us. filter test (values m.before) ++ us) (filter_one test v ∙ ap (λ c. those c v) (sym is)) in
        record {
          before = m.before ++ step.row ∷ [];
          left = step.rest;
          walk = subst (Walking s (m.before ++ step.row ∷ []) step.rest) (sym at) step.next;
          counted = counts ∙ ap (λ n. n + length (those b v)) m.counted ∙ sym (length-append (filter test (values m.before)) (those b v)) ∙ ap length (sym now);
          copied = subst (λ us. IfOk copies2 (λ made. items made ≡ us)) (sym now) (copied_more copies copies2 (filter test (values m.before)) (those b v) m.copied copying);
        }

    pub all_collected : (count : ℕ) (copies : Result X E) → Collecting count copies None → (count ≡ length (filter test (values s.rows))) × IfOk copies (λ made. items made ≡ filter test (values s.rows))
    all_collected count copies m =
        let none = ended s m.before m.left m.walk in
        let are : values m.before ≡ values s.rows = ap values (sym (append-nil m.before) ∙ ap (λ rs. m.before ++ rs) (sym none) ∙ sym m.walk.rows) in
        (m.counted ∙ ap (λ vs. length (filter test vs)) are, subst (λ vs. IfOk copies (λ made. items made ≡ filter test vs)) are m.copied)

    pub collecting_few : (count : ℕ) (copies : Result X E) (name : Name) → Collecting count copies (Some name) → count + 1 ≤ length s.rows
    collecting_few count copies name m = by m.left refl
      where
        by : (left : List (Row Name V)) → m.left ≡ left → count + 1 ≤ length s.rows
        by [] e = absurd (none-some name (sym (m.walk.stands ∙ ap (λ rs. option_map (λ (r : Row Name V). r.name) (slice_get rs 0)) e)))
        by (r ∷ rest) e =
            let all : length s.rows ≡ length m.before + suc (length rest) = ap length m.walk.rows ∙ length-append m.before m.left ∙ ap (λ rs. length m.before + length rs) e in
            let fewer = length-filter_both test (λ v. not (test v)) (λ v. refl) (values m.before) in let same = length-map m.before (λ (q : Row Name V). q.value) in let is = m.counted in
            omega (arith, all, fewer, same, is)
