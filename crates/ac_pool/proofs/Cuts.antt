-- Rows under names: which names are among them, and what each change leaves where the list is cut at a row.
use Rattle.std.proofs.Common.{◌≡◌, ◌≢◌, ℕ, zero, suc, ◌<◌, ◌⊎◌, true, List, [], ◌∷◌, ◌++◌, length, Some, refl, sym, ap, ◌∙◌, subst, inl, inr, arith}
use Rattle.std.proofs.lemmas.Bool.{cond-true, cond-false}
use Rattle.std.specs.List.{slice_get, slice_set, insert, remove}
use Rattle.std.specs.Ordering.{eq_by_cmp}
use Rattle.ac_base.specs.declared.name.Name.{Name}
use Rattle.ac_base.specs.Rows.{Row}
use Rattle.ac_pool.specs.Names.{name_cmp}
use Rattle.ac_pool.specs.NamedRows.{index_of, name_at, HasName, IsOnce}
use Rattle.ac_pool.proofs.NameLaws.{cases_name, ties_itself, ties_no_other}

some_name : (a b : Name) → Some a ≡ Some b → a ≡ b
some_name a b e = cc

module _ {X : Type 0} where
  pub HasName-left : (a : Name) (xs ys : List (Row Name X)) → HasName a xs → HasName a (xs ++ ys)
  HasName-left a [] ys h = absurd h
  HasName-left a (x ∷ xs) ys h = elim h [ inl e ↦ inl e | inr t ↦ inr (HasName-left a xs ys t) ]

  pub HasName-right : (a : Name) (xs ys : List (Row Name X)) → HasName a ys → HasName a (xs ++ ys)
  HasName-right a [] ys h = h
  HasName-right a (x ∷ xs) ys h = inr (HasName-right a xs ys h)

  pub HasName-either : (a : Name) (xs ys : List (Row Name X)) → HasName a (xs ++ ys) → HasName a xs ⊎ HasName a ys
  HasName-either a [] ys h = inr h
  HasName-either a (x ∷ xs) ys h = elim h [ inl e ↦ inl (inl e) | inr t ↦ elim (HasName-either a xs ys t) [ inl l ↦ inl (inr l) | inr r ↦ inr r ] ]

  pub HasName-cut : (a : Name) (xs : List (Row Name X)) (r : Row Name X) (ys : List (Row Name X)) → HasName a (xs ++ r ∷ ys) → (a ≡ r.name) ⊎ HasName a (xs ++ ys)
  HasName-cut a xs r ys h = elim (HasName-either a xs (r ∷ ys) h) [
    | inl l ↦ inr (HasName-left a xs ys l)
    | inr t ↦ elim t [ inl e ↦ inl e | inr q ↦ inr (HasName-right a xs ys q) ]
  ]

  pub HasName-put : (a : Name) (xs : List (Row Name X)) (r : Row Name X) (ys : List (Row Name X)) → HasName a (xs ++ ys) → HasName a (xs ++ r ∷ ys)
  HasName-put a xs r ys h = elim (HasName-either a xs ys h) [ inl l ↦ HasName-left a xs (r ∷ ys) l | inr t ↦ HasName-right a xs (r ∷ ys) (inr t) ]

  pub once_left : (xs ys : List (Row Name X)) → IsOnce (xs ++ ys) → IsOnce xs
  once_left [] ys h = tt
  once_left (x ∷ xs) ys h = (λ t. h.0 (HasName-left x.name xs ys t), once_left xs ys h.1)

  pub once_right : (xs ys : List (Row Name X)) → IsOnce (xs ++ ys) → IsOnce ys
  once_right [] ys h = h
  once_right (x ∷ xs) ys h = once_right xs ys h.1

  pub apart : (xs ys : List (Row Name X)) → IsOnce (xs ++ ys) → (a : Name) → HasName a xs → HasName a ys → ⊥
  apart [] ys h a l r = absurd l
  apart (x ∷ xs) ys h a l r = elim l [
    | inl e ↦ h.0 (HasName-right x.name xs ys (subst (λ n. HasName n ys) e r))
    | inr t ↦ apart xs ys h.1 a t r
  ]

  pub once-append : (xs ys : List (Row Name X)) → IsOnce xs → IsOnce ys → ((a : Name) → HasName a xs → HasName a ys → ⊥) → IsOnce (xs ++ ys)
  once-append [] ys p q n = q
  once-append (x ∷ xs) ys p q n = (
    λ t. elim (HasName-either x.name xs ys t) [ inl l ↦ p.0 l | inr r ↦ n x.name (inl refl) r ],
    once-append xs ys p.1 q (λ a l r. n a (inr l) r),
  )

  -- a row less, and one more
  pub once_cut : (xs : List (Row Name X)) (r : Row Name X) (ys : List (Row Name X)) → IsOnce (xs ++ r ∷ ys) → IsOnce (xs ++ ys)
  once_cut xs r ys h = once-append xs ys (once_left xs (r ∷ ys) h) (once_right xs (r ∷ ys) h).1 (λ a l q. apart xs (r ∷ ys) h a l (inr q))

  pub once_gone : (xs : List (Row Name X)) (r : Row Name X) (ys : List (Row Name X)) → IsOnce (xs ++ r ∷ ys) → HasName r.name (xs ++ ys) → ⊥
  once_gone xs r ys h t = elim (HasName-either r.name xs ys t) [ inl l ↦ apart xs (r ∷ ys) h r.name l (inl refl) | inr q ↦ (once_right xs (r ∷ ys) h).0 q ]

  pub once_put : (xs : List (Row Name X)) (r : Row Name X) (ys : List (Row Name X)) → IsOnce (xs ++ ys) → (HasName r.name (xs ++ ys) → ⊥) → IsOnce (xs ++ r ∷ ys)
  once_put xs r ys h n = once-append xs (r ∷ ys) (once_left xs ys h) (λ q. n (HasName-right r.name xs ys q), once_right xs ys h) (λ a l q. elim q [
    | inl e ↦ n (HasName-left r.name xs ys (subst (λ k. HasName k xs) e l))
    | inr t ↦ apart xs ys h a l t
  ])

  pub index_here : (a : Name) (r : Row Name X) (rows : List (Row Name X)) → a ≡ r.name → index_of a (r ∷ rows) ≡ 0
  index_here a r rows e = cond-true _ _ _ (subst (λ n. eq_by_cmp name_cmp a n ≡ true) e (ties_itself a))

  pub index_past : (a : Name) (r : Row Name X) (rows : List (Row Name X)) → a ≢ r.name → index_of a (r ∷ rows) ≡ suc (index_of a rows)
  index_past a r rows n = cond-false _ _ _ (ties_no_other a r.name n)

  pub has_live : (a : Name) (rows : List (Row Name X)) → HasName a rows → index_of a rows < length rows
  has_live a [] h = absurd h
  has_live a (r ∷ rows) h = elim (cases_name a r.name) [
    | inl e ↦ omega (arith, index_here a r rows e)
    | inr n ↦ let t : index_of a rows < length rows = has_live a rows (elim h [ inl e ↦ absurd (n e) | inr t ↦ t ]) in omega (arith, index_past a r rows n)
  ]

  pub live_has : (a : Name) (rows : List (Row Name X)) → index_of a rows < length rows → HasName a rows
  live_has a [] h = absurd (omega arith)
  live_has a (r ∷ rows) h = elim (cases_name a r.name) [
    | inl e ↦ inl e
    | inr n ↦ let past = index_past a r rows n in let t : index_of a rows < length rows = omega arith in inr (live_has a rows t)
  ]

  -- the rows before the name's, its row, and those after it
  pub record Cut (a : Name) (rows : List (Row Name X)) : Type 0 where
    pub before : List (Row Name X)
    pub at : Row Name X
    pub after : List (Row Name X)
    pub is : rows ≡ before ++ at ∷ after
    pub named : a ≡ at.name
    pub place : index_of a rows ≡ length before

  pub cut : (a : Name) (rows : List (Row Name X)) → HasName a rows → Cut a rows
  cut a [] h = absurd h
  cut a (r ∷ rows) h = elim (cases_name a r.name) [
    | inl e ↦ record { before = []; at = r; after = rows; is = refl; named = e; place = index_here a r rows e }
    | inr n ↦ let k = cut a rows (elim h [ inl e ↦ absurd (n e) | inr t ↦ t ]) in record {
      before = r ∷ k.before;
      at = k.at;
      after = k.after;
      is = ap (λ zs. r ∷ zs) k.is;
      named = k.named;
      place = index_past a r rows n ∙ ap suc k.place;
    }
  ]

  pub index_of-cut : (xs : List (Row Name X)) (r : Row Name X) (ys : List (Row Name X)) → (HasName r.name xs → ⊥) → index_of r.name (xs ++ r ∷ ys) ≡ length xs
  index_of-cut [] r ys n = index_here r.name r ys refl
  index_of-cut (x ∷ xs) r ys n = index_past r.name x (xs ++ r ∷ ys) (λ e. n (inl e)) ∙ ap suc (index_of-cut xs r ys (λ t. n (inr t)))

  pub slice_get-cut : (xs : List (Row Name X)) (r : Row Name X) (ys : List (Row Name X)) → slice_get (xs ++ r ∷ ys) (length xs) ≡ Some r
  slice_get-cut [] r ys = refl
  slice_get-cut (x ∷ xs) r ys = slice_get-cut xs r ys

  pub remove-cut : (xs : List (Row Name X)) (r : Row Name X) (ys : List (Row Name X)) → remove (xs ++ r ∷ ys) (length xs) ≡ xs ++ ys
  remove-cut [] r ys = refl
  remove-cut (x ∷ xs) r ys = ap (λ zs. x ∷ zs) (remove-cut xs r ys)

  pub insert-cut : (xs : List (Row Name X)) (r : Row Name X) (ys : List (Row Name X)) → insert (xs ++ ys) (length xs) r ≡ xs ++ r ∷ ys
  insert-cut [] r ys = refl
  insert-cut (x ∷ xs) r ys = ap (λ zs. x ∷ zs) (insert-cut xs r ys)

  pub set-cut : (xs : List (Row Name X)) (r q : Row Name X) (ys : List (Row Name X)) → slice_set (xs ++ r ∷ ys) (length xs) q ≡ xs ++ q ∷ ys
  set-cut [] r q ys = refl
  set-cut (x ∷ xs) r q ys = ap (λ zs. x ∷ zs) (set-cut xs r q ys)

  pub cut-row : (a : Name) (rows : List (Row Name X)) (k : Cut a rows) → slice_get rows (index_of a rows) ≡ Some k.at
  cut-row a rows k = ap (slice_get rows) k.place ∙ ap (λ zs. slice_get zs (length k.before)) k.is ∙ slice_get-cut k.before k.at k.after

  pub name_at_has : (rows : List (Row Name X)) (i : ℕ) (a : Name) → name_at rows i ≡ Some a → HasName a rows
  name_at_has [] i a e = cc
  name_at_has (r ∷ rows) zero a e = inl (some_name a r.name (sym e))
  name_at_has (r ∷ rows) (suc i) a e = inr (name_at_has rows i a e)

  pub once_at : (rows : List (Row Name X)) → IsOnce rows → (i j : ℕ) (a : Name) → name_at rows i ≡ Some a → name_at rows j ≡ Some a → i ≡ j
  once_at [] h i j a p q = cc
  once_at (r ∷ rows) h zero zero a p q = refl
  once_at (r ∷ rows) h zero (suc j) a p q = absurd (h.0 (subst (λ n. HasName n rows) (some_name a r.name (sym p)) (name_at_has rows j a q)))
  once_at (r ∷ rows) h (suc i) zero a p q = absurd (h.0 (subst (λ n. HasName n rows) (some_name a r.name (sym q)) (name_at_has rows i a p)))
  once_at (r ∷ rows) h (suc i) (suc j) a p q = ap suc (once_at rows h.1 i j a p q)
