-- Each name stands once in a tree: what its parts keep of it.
use Rattle.std.proofs.Common.{◌≡◌, ◌≤◌, ◌⊎◌, List, [], ◌∷◌, ◌++◌, length, refl, sym, subst, inl, inr, arith}
use Rattle.std.proofs.lemmas.List.{length-append}
use Rattle.ac_base.specs.declared.name.Name.{Name}
use Rattle.ac_base.specs.Rows.{Row}
use Rattle.ac_balance.specs.Trees.{Tree, leaf, node, in_order, height, Step, on_left, on_right, side_of, joined, plugged}
use Rattle.ac_balance.specs.Climbing.{Has, Once, name_of}
use Rattle.ac_pool.specs.NamedRows.{HasName, IsOnce}
use Rattle.ac_pool.proofs.Cuts.{HasName-left, HasName-right, HasName-either, once_left, once_right, apart, once-append, once_put}

module _ {X : Type 0} where
  -- the tree's names are its rows' names
  pub named : (a : Name) (t : Tree X) → Has a t → HasName a (in_order t)
  named a leaf h = h
  named a (node l x r) h = elim h [
    | inl e ↦ HasName-right a (in_order l) (x ∷ in_order r) (inl e)
    | inr k ↦ elim k [ inl p ↦ HasName-left a (in_order l) (x ∷ in_order r) (named a l p) | inr q ↦ HasName-right a (in_order l) (x ∷ in_order r) (inr (named a r q)) ]
  ]

  pub has : (a : Name) (t : Tree X) → HasName a (in_order t) → Has a t
  has a leaf h = h
  has a (node l x r) h = elim (HasName-either a (in_order l) (x ∷ in_order r) h) [
    | inl p ↦ inr (inl (has a l p))
    | inr k ↦ elim k [ inl e ↦ inl e | inr q ↦ inr (inr (has a r q)) ]
  ]

  pub once_from : (t : Tree X) → IsOnce (in_order t) → Once t
  once_from leaf h = tt
  once_from (node l x r) h =
      let p = in_order l in let q = in_order r in let right = once_right p (x ∷ q) h in (
        λ k. apart p (x ∷ q) h x.name (named x.name l k) (inl refl),
        λ k. right.0 (named x.name r k),
        λ a k m. apart p (x ∷ q) h a (named a l k) (inr (named a r m)),
        once_from l (once_left p (x ∷ q) h),
        once_from r right.1,
      )

  pub once_rows : (t : Tree X) → Once t → IsOnce (in_order t)
  once_rows leaf h = tt
  once_rows (node l x r) h =
      once-append (in_order l) (x ∷ in_order r) (once_rows l h.3) (λ k. h.1 (has x.name r k), once_rows r h.4)
      (λ a k m. elim m [ inl e ↦ h.0 (subst (λ n. Has n l) e (has a l k)) | inr q ↦ h.2 a (has a l k) (has a r q) ])

  -- trees of the same rows
  pub once_order : (t u : Tree X) → in_order t ≡ in_order u → Once t → Once u
  once_order t u e h = once_from u (subst (λ rows. IsOnce rows) e (once_rows t h))

  -- the names around a place
  abbrev pub IsAround : Name → List (Step X) → Type 0
  IsAround a [] = ⊥
  IsAround a (s ∷ steps) = (a ≡ name_of s) ⊎ (Has a (side_of s) ⊎ IsAround a steps)

  joined_has : (s : Step X) (t : Tree X) (a : Name) → Has a t → Has a (joined s t)
  joined_has (on_left x r) t a h = inr (inl h)
  joined_has (on_right l x) t a h = inr (inr h)

  joined_has_name : (s : Step X) (t : Tree X) → Has (name_of s) (joined s t)
  joined_has_name (on_left x r) t = inl refl
  joined_has_name (on_right l x) t = inl refl

  joined_has_side : (s : Step X) (t : Tree X) (a : Name) → Has a (side_of s) → Has a (joined s t)
  joined_has_side (on_left x r) t a h = inr (inr h)
  joined_has_side (on_right l x) t a h = inr (inl h)

  joined_once : (s : Step X) (t : Tree X) → Once (joined s t) → Once t × ((a : Name) → Has a t → (a ≡ name_of s) ⊎ Has a (side_of s) → ⊥)
  joined_once (on_left x r) t h = (h.3, λ a k m. elim m [ inl e ↦ h.0 (subst (λ n. Has n t) e k) | inr q ↦ h.2 a k q ])
  joined_once (on_right l x) t h = (h.4, λ a k m. elim m [ inl e ↦ h.1 (subst (λ n. Has n t) e k) | inr q ↦ h.2 a q k ])

  pub plugged_once : (steps : List (Step X)) (t : Tree X) → Once (plugged steps t) → Once t × ((a : Name) → Has a t → IsAround a steps → ⊥)
  plugged_once [] t h = (h, λ a k m. m)
  plugged_once (s ∷ steps) t h =
      let up = plugged_once steps (joined s t) h in let here = joined_once s t up.0 in
      (here.0, λ a k m. elim m [ inl e ↦ here.1 a k (inl e) | inr n ↦ elim n [ inl q ↦ here.1 a k (inr q) | inr z ↦ up.1 a (joined_has s t a k) z ] ])

  -- heights and numbers of rows
  pub height_le : (t : Tree X) → height t ≤ length (in_order t)
  height_le leaf = omega arith
  height_le (node l x r) = let e = length-append (in_order l) (x ∷ in_order r) in let p = height_le l in let q = height_le r in omega (arith, e, p, q)

  pub joined_le : (s : Step X) (t : Tree X) → length (in_order t) ≤ length (in_order (joined s t))
  joined_le (on_left x r) t = let e = length-append (in_order t) (x ∷ in_order r) in omega (arith, e)
  joined_le (on_right l x) t = let e = length-append (in_order l) (x ∷ in_order t) in omega (arith, e)

  pub plugged_le : (steps : List (Step X)) (t : Tree X) → length (in_order t) ≤ length (in_order (plugged steps t))
  plugged_le [] t = omega arith
  plugged_le (s ∷ steps) t = let up = plugged_le steps (joined s t) in let here = joined_le s t in omega (arith, up, here)

  -- a row with a new name
  pub once_added : (t u : Tree X) (xs : List (Row Name X)) (x : Row Name X) (ys : List (Row Name X)) → in_order t ≡ xs ++ ys → in_order u ≡ xs ++ x ∷ ys → Once t → (Has x.name t → ⊥) → Once u
  once_added t u xs x ys e k once new =
      once_from u (subst (λ rows. IsOnce rows) (sym k) (once_put xs x ys (subst (λ rows. IsOnce rows) e (once_rows t once)) (λ h. new (has x.name t (subst (λ rows. HasName x.name rows) (sym e) h)))))

  pub part_has : (steps : List (Step X)) (t : Tree X) (a : Name) → Has a t → Has a (plugged steps t)
  part_has [] t a h = h
  part_has (s ∷ steps) t a h = part_has steps (joined s t) a (joined_has s t a h)

  pub around_has : (steps : List (Step X)) (t : Tree X) (a : Name) → IsAround a steps → Has a (plugged steps t)
  around_has [] t a h = absurd h
  around_has (s ∷ steps) t a h = elim h [
    | inl e ↦ part_has steps (joined s t) a (subst (λ k. Has k (joined s t)) (sym e) (joined_has_name s t))
    | inr m ↦ elim m [ inl q ↦ part_has steps (joined s t) a (joined_has_side s t a q) | inr z ↦ around_has steps (joined s t) a z ]
  ]
