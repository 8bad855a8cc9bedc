-- What a list is after copies were put into it.
use Rattle.std.proofs.Common.{◌≡◌, ℕ, zero, suc, ◌+◌, ◌<◌, ◌≤◌, List, ◌∷◌, ◌++◌, length, reverse, Option, refl, sym, ap, ◌∙◌, subst, inl, inr, arith, ne_eqb, []}
use Rattle.std.specs.Prelude.{All}
use Rattle.std.proofs.lemmas.Bool.{cond-false}
use Rattle.std.proofs.lemmas.List.{reverse-append}
use Rattle.ac_base.specs.declared.name.Name.{Name}
use Rattle.ac_chain.specs.Rows.{Chained}
use Rattle.ac_pool.specs.NamedRows.{HasName}
use Rattle.ac_pool.proofs.Cuts.{HasName-left, HasName-right, HasName-either}
use Rattle.ac_model.specs.Rows as model
use Rattle.ac_base.specs.Rows.{Row, row, names}
use Rattle.ac_model.specs.Rows.{fresh, put}
use Rattle.ac_model.specs.Objects.{plains}
use Rattle.ac_chain.specs.Put.{IsPut}

module _ {X : Type 0} where
  pub all_from : (P : Name → Type 0) (rows : List (Row Name X)) → ((a : Name) → HasName a rows → P a) → All P (names rows)
  all_from P [] h i d lt = absurd (omega arith)
  all_from P (r ∷ rows) h zero d lt = h r.name (inl refl)
  all_from P (r ∷ rows) h (suc i) d lt = all_from P rows (λ a t. h a (inr t)) i d (omega arith)

  pub more_serials : (a : Name) (next : ℕ) (vs : List X) (more : List (Row Name X)) → plains more ≡ fresh next vs → HasName a more → next ≤ a.serial
  more_serials a next vs [] e h = absurd h
  more_serials a next [] (r ∷ more) e h = absurd (cc)
  more_serials a next (v ∷ vs) (r ∷ more) e h =
      let first : row r.name.serial r.value ≡ row next v = cc in
      let others : plains more ≡ fresh (next + 1) vs = cc in
      let serial : r.name.serial ≡ next = ap (λ (q : Row ℕ X). q.name) first in
      elim h [
        | inl same ↦ let s : a.serial ≡ r.name.serial = ap (λ (n : Name). n.serial) same in omega arith
        | inr t ↦ let later = more_serials a (next + 1) vs more others t in omega arith
      ]

  pub put_cut : (xs ys zs : List (Row ℕ X)) → put (xs ++ ys) (length xs) zs ≡ xs ++ zs ++ ys
  put_cut [] ys zs = refl
  put_cut (x ∷ xs) ys zs = ap (λ rows. x ∷ rows) (put_cut xs ys zs)

  pub put_kept : (rows : List (Row Name X)) (next : ℕ) (place : Option Name) (vs : List X) (now : Chained X) → IsPut rows next place vs now → (a : Name) → HasName a now.rows → a.serial < next → HasName a rows
  put_kept rows next place vs now p a t lt = elim (HasName-either a (p.before ++ p.more) p.after (subst (λ zs. HasName a zs) p.are t)) [
    | inl left ↦ elim (HasName-either a p.before p.more left) [
      | inl b ↦ subst (λ zs. HasName a zs) (sym p.were) (HasName-left a p.before p.after b)
      | inr m ↦ absurd (let high = more_serials a next vs p.more p.fresh_names m in omega arith)
    ]
    | inr right ↦ subst (λ zs. HasName a zs) (sym p.were) (HasName-right a p.before p.after right)
  ]

  -- no row has the name that a cursor at no element has
  pub past_end : (rows : List (Row Name X)) → ((a : Name) → HasName a rows → 0 < a.serial) → model.place_of (plains rows) 0 ≡ length (plains rows)
  past_end [] h = refl
  past_end (r ∷ rows) h =
      let some = h r.name (inl refl) in
      cond-false _ _ _ (ne_eqb r.name.serial 0 (λ e. omega arith)) ∙ ap suc (past_end rows (λ a t. h a (inr t)))

  pub reverse_has : (a : Name) (rows : List (Row Name X)) → HasName a (reverse rows) → HasName a rows
  reverse_has a [] h = h
  reverse_has a (r ∷ rows) h = elim (HasName-either a (reverse rows) (r ∷ []) (subst (λ zs. HasName a zs) (reverse-append (r ∷ []) rows) h)) [
    | inl t ↦ inr (reverse_has a rows t)
    | inr e ↦ elim e [ inl same ↦ inl same | inr none ↦ absurd none ]
  ]
