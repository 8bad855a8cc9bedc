-- The turns keep the rows' order and balance the tree.
use Rattle.std.proofs.Common.{◌≡◌, ℕ, ◌+◌, ◌-◌, ◌≤◌, ◌<◌, max, Bool, true, false, List, ◌∷◌, ◌++◌, refl, sym, ap, ◌∙◌, subst, nat_le, nat_lt, arith, append_assoc}
use Rattle.std.proofs.lemmas.Bool.{cond-true, cond-false}
use Rattle.ac_base.specs.declared.name.Name.{Name}
use Rattle.ac_base.specs.Rows.{Row}
use Rattle.ac_balance.specs.Trees.{Tree, leaf, node, in_order, height, Level, Balanced, twice_left, from_left, twice_right, from_right, balanced}

pub le_false : (a b : ℕ) → nat_le a b ≡ false → b < a
le_false a b h = grind arith

pub le_true : (a b : ℕ) → nat_le a b ≡ true → a ≤ b
le_true a b h = grind arith

pub lt_false : (a b : ℕ) → nat_lt a b ≡ false → b ≤ a
lt_false a b h = grind arith

pub lt_true : (a b : ℕ) → nat_lt a b ≡ true → a < b
lt_true a b h = grind arith

-- what balancing leaves of two sides with these heights
pub record Settles (h k : ℕ) (n : ℕ) : Type 0 where
  pub left : h ≤ n
  pub right : k ≤ n
  pub above : n ≤ max h k + 1
  pub same : Level h k → n ≡ max h k + 1

module _ {X : Type 0} where
  abbrev pub Settled : Tree X → Tree X → Tree X → Type 0
  Settled l r t = Balanced t × Settles (height l) (height r) (height t)

  -- the order
  four : (a : List (Row Name X)) (y : Row Name X) (b : List (Row Name X)) (x : Row Name X) (r : List (Row Name X)) → (a ++ y ∷ b) ++ x ∷ r ≡ a ++ y ∷ (b ++ x ∷ r)
  four a y b x r = append_assoc a (y ∷ b) (x ∷ r)

  twice_left-order : (a : Tree X) (y : Row Name X) (b : Tree X) (x : Row Name X) (r : Tree X) → in_order (twice_left a y b x r) ≡ in_order (node (node a y b) x r)
  twice_left-order a y leaf x r = refl
  twice_left-order a y (node b z c) x r =
      let p = in_order a in let q = in_order b in let s = in_order c in let t = in_order r in
      sym (append_assoc p (y ∷ (q ++ z ∷ s)) (x ∷ t) ∙ ap (λ k. p ++ y ∷ k) (append_assoc q (z ∷ s) (x ∷ t)) ∙ sym (append_assoc p (y ∷ q) (z ∷ (s ++ x ∷ t))))

  from_left-order : (l : Tree X) (x : Row Name X) (r : Tree X) → in_order (from_left l x r) ≡ in_order (node l x r)
  from_left-order leaf x r = refl
  from_left-order (node a y b) x r = go (nat_le (height b) (height a)) refl
    where
      go : (t : Bool) → nat_le (height b) (height a) ≡ t → in_order (from_left (node a y b) x r) ≡ in_order (node (node a y b) x r)
      go true e = ap in_order (cond-true _ _ _ e) ∙ sym (four (in_order a) y (in_order b) x (in_order r))
      go false e = ap in_order (cond-false _ _ _ e) ∙ twice_left-order a y b x r

  twice_right-order : (l : Tree X) (x : Row Name X) (a : Tree X) (y : Row Name X) (c : Tree X) → in_order (twice_right l x a y c) ≡ in_order (node l x (node a y c))
  twice_right-order l x leaf y c = refl
  twice_right-order l x (node a z b) y c =
      let p = in_order l in let q = in_order a in let s = in_order b in let t = in_order c in
      append_assoc p (x ∷ q) (z ∷ (s ++ y ∷ t)) ∙ ap (λ k. p ++ x ∷ k) (sym (append_assoc q (z ∷ s) (y ∷ t)))

  from_right-order : (l : Tree X) (x : Row Name X) (r : Tree X) → in_order (from_right l x r) ≡ in_order (node l x r)
  from_right-order l x leaf = refl
  from_right-order l x (node a y b) = go (nat_le (height a) (height b)) refl
    where
      go : (t : Bool) → nat_le (height a) (height b) ≡ t → in_order (from_right l x (node a y b)) ≡ in_order (node l x (node a y b))
      go true e = ap in_order (cond-true _ _ _ e) ∙ four (in_order l) x (in_order a) y (in_order b)
      go false e = ap in_order (cond-false _ _ _ e) ∙ twice_right-order l x a y b

  pub balanced-order : (l : Tree X) (x : Row Name X) (r : Tree X) → in_order (balanced l x r) ≡ in_order (node l x r)
  balanced-order l x r = go (nat_lt 1 (height l - height r)) refl (nat_lt 1 (height r - height l)) refl
    where
      go : (s : Bool) → nat_lt 1 (height l - height r) ≡ s → (t : Bool) → nat_lt 1 (height r - height l) ≡ t → in_order (balanced l x r) ≡ in_order (node l x r)
      go true e t f = ap in_order (cond-true _ _ _ e) ∙ from_left-order l x r
      go false e true f = ap in_order (cond-false _ _ _ e ∙ cond-true _ _ _ f) ∙ from_right-order l x r
      go false e false f = ap in_order (cond-false _ _ _ e ∙ cond-false _ _ _ f)

  -- the balance
  twice_left-settled : (a : Tree X) (y : Row Name X) (b : Tree X) (x : Row Name X) (r : Tree X) → Balanced (node a y b) → Balanced r → height b ≡ height r + 1 → height a ≡ height r → Settled (node a y b) r (twice_left a y b x r)
  twice_left-settled a y leaf x r p q e f = absurd (omega arith)
  twice_left-settled a y (node b z c) x r p q e f =
      let inner = p.2 in let u = inner.0.up in let d = inner.0.down in (
        (record { up = omega arith; down = omega arith }, (record { up = omega arith; down = omega arith }, p.1, inner.1), (record { up = omega arith; down = omega arith }, inner.2, q)),
        record { left = omega arith; right = omega arith; above = omega arith; same = λ s. let su = s.up in absurd (omega arith) },
      )

  from_left-settled : (l : Tree X) (x : Row Name X) (r : Tree X) → Balanced l → Balanced r → height l ≡ height r + 2 → Settled l r (from_left l x r)
  from_left-settled leaf x r p q e = absurd (omega arith)
  from_left-settled (node a y b) x r p q e = go (nat_le (height b) (height a)) refl
    where
      go : (t : Bool) → nat_le (height b) (height a) ≡ t → Settled (node a y b) r (from_left (node a y b) x r)
      go true e2 =
          let le = le_true (height b) (height a) e2 in let u = p.0.up in let d = p.0.down in
          subst (λ t. Settled (node a y b) r t) (sym (cond-true _ _ _ e2)) (
            (record { up = omega arith; down = omega arith }, p.1, (record { up = omega arith; down = omega arith }, p.2, q)),
            record { left = omega arith; right = omega arith; above = omega arith; same = λ s. let su = s.up in absurd (omega arith) },
          )
      go false e2 =
          let lt = le_false (height b) (height a) e2 in let u = p.0.up in let d = p.0.down in
          subst (λ t. Settled (node a y b) r t) (sym (cond-false _ _ _ e2)) (twice_left-settled a y b x r p q (omega arith) (omega arith))

  twice_right-settled : (l : Tree X) (x : Row Name X) (a : Tree X) (y : Row Name X) (c : Tree X) → Balanced l → Balanced (node a y c) → height a ≡ height l + 1 → height c ≡ height l → Settled l (node a y c) (twice_right l x a y c)
  twice_right-settled l x leaf y c p q e f = absurd (omega arith)
  twice_right-settled l x (node a z b) y c p q e f =
      let inner = q.1 in let u = inner.0.up in let d = inner.0.down in (
        (record { up = omega arith; down = omega arith }, (record { up = omega arith; down = omega arith }, p, inner.1), (record { up = omega arith; down = omega arith }, inner.2, q.2)),
        record { left = omega arith; right = omega arith; above = omega arith; same = λ s. let su = s.down in absurd (omega arith) },
      )

  from_right-settled : (l : Tree X) (x : Row Name X) (r : Tree X) → Balanced l → Balanced r → height r ≡ height l + 2 → Settled l r (from_right l x r)
  from_right-settled l x leaf p q e = absurd (omega arith)
  from_right-settled l x (node a y b) p q e = go (nat_le (height a) (height b)) refl
    where
      go : (t : Bool) → nat_le (height a) (height b) ≡ t → Settled l (node a y b) (from_right l x (node a y b))
      go true e2 =
          let le = le_true (height a) (height b) e2 in let u = q.0.up in let d = q.0.down in
          subst (λ t. Settled l (node a y b) t) (sym (cond-true _ _ _ e2)) (
            (record { up = omega arith; down = omega arith }, (record { up = omega arith; down = omega arith }, p, q.1), q.2),
            record { left = omega arith; right = omega arith; above = omega arith; same = λ s. let su = s.down in absurd (omega arith) },
          )
      go false e2 =
          let lt = le_false (height a) (height b) e2 in let u = q.0.up in let d = q.0.down in
          subst (λ t. Settled l (node a y b) t) (sym (cond-false _ _ _ e2)) (twice_right-settled l x a y b p q (omega arith) (omega arith))

  pub balanced-settled : (l : Tree X) (x : Row Name X) (r : Tree X) → Balanced l → Balanced r → height l ≤ height r + 2 → height r ≤ height l + 2 → Settled l r (balanced l x r)
  balanced-settled l x r p q hl hr = go (nat_lt 1 (height l - height r)) refl (nat_lt 1 (height r - height l)) refl
    where
      go : (s : Bool) → nat_lt 1 (height l - height r) ≡ s → (t : Bool) → nat_lt 1 (height r - height l) ≡ t → Settled l r (balanced l x r)
      go true e t f =
          let lt = lt_true _ _ e in
          subst (λ t. Settled l r t) (sym (cond-true _ _ _ e)) (from_left-settled l x r p q (omega arith))
      go false e true f =
          let lt = lt_true _ _ f in
          subst (λ t. Settled l r t) (sym (cond-false _ _ _ e ∙ cond-true _ _ _ f)) (from_right-settled l x r p q (omega arith))
      go false e false f =
          let le = lt_false _ _ e in let ge = lt_false _ _ f in
          subst (λ t. Settled l r t) (sym (cond-false _ _ _ e ∙ cond-false _ _ _ f)) (
            (record { up = omega arith; down = omega arith }, p, q),
            record { left = omega arith; right = omega arith; above = omega arith; same = λ s. refl },
          )
