-- A place in a tree, the way up from it, and what balancing on that way leaves.
use Rattle.std.proofs.Common.{◌≡◌, ℕ, ◌+◌, max, Bool, true, false, nat_le, List, [], ◌∷◌, ◌++◌, refl, sym, ap, ◌∙◌, subst, arith, append-nil, append_assoc}
use Rattle.ac_base.specs.declared.name.Name.{Name}
use Rattle.ac_base.specs.Rows.{Row}
use Rattle.ac_balance.specs.Trees.{Tree, leaf, node, in_order, height, Level, Balanced, balanced, Step, on_left, on_right, side_of, joined, settled, plugged, before, after, tall, Fits}
use Rattle.ac_balance.proofs.Turns.{le_false, le_true, Settles, balanced-order, balanced-settled}

Level-back : (h k : ℕ) → Level h k → Level k h
Level-back h k e = record { up = e.down; down = e.up }

Settles-back : (h k n : ℕ) → Settles h k n → Settles k h n
Settles-back h k n s = record { left = s.right; right = s.left; above = let a = s.above in omega arith; same = λ e. let it = s.same (record { up = e.down; down = e.up }) in omega arith }

-- a side that was h high is n high now, beside one that is k high, and the whole m
near_still : (h n k m : ℕ) → Level h k → Level h n → Settles n k m → Level (max h k + 1) m
near_still h n k m e near s = go (nat_le n (k + 1)) refl (nat_le k (n + 1)) refl
  where
    go : (a : Bool) → nat_le n (k + 1) ≡ a → (b : Bool) → nat_le k (n + 1) ≡ b → Level (max h k + 1) m
    go true p true q =
        let same = s.same (record { up = le_true _ _ p; down = le_true _ _ q }) in let nu = near.up in let nd = near.down in
        record { up = omega arith; down = omega arith }
    go false p b q =
        let far = le_false _ _ p in let eu = e.up in let ed = e.down in let nu = near.up in let nd = near.down in let left = s.left in let right = s.right in let above = s.above in
        record { up = omega arith; down = omega arith }
    go true p false q =
        let far = le_false _ _ q in let eu = e.up in let ed = e.down in let nu = near.up in let nd = near.down in let left = s.left in let right = s.right in let above = s.above in
        record { up = omega arith; down = omega arith }

module _ {X : Type 0} where
  abbrev pub around : List (Step X) → List (Row Name X) → List (Row Name X)
  around steps rows = before steps ++ (rows ++ after steps)

  -- one step up takes the row and the side along
  around-step : (s : Step X) (steps : List (Step X)) (t : Tree X) → around steps (in_order (joined s t)) ≡ around (s ∷ steps) (in_order t)
  around-step (on_left x r) steps t = ap (λ k. before steps ++ k) (append_assoc (in_order t) (x ∷ in_order r) (after steps))
  around-step (on_right l x) steps t =
      let b = before steps in let p = in_order l in let q = in_order t in let a = after steps in
      ap (λ k. b ++ k) (append_assoc p (x ∷ q) a) ∙ sym (append_assoc b (p ++ x ∷ []) (q ++ a) ∙ ap (λ k. b ++ k) (append_assoc p (x ∷ []) (q ++ a)))

  pub settled-order : (s : Step X) (t : Tree X) → in_order (settled s t) ≡ in_order (joined s t)
  settled-order (on_left x r) t = balanced-order t x r
  settled-order (on_right l x) t = balanced-order l x t

  pub plugged-order : (steps : List (Step X)) (t : Tree X) → in_order (plugged steps t) ≡ around steps (in_order t)
  plugged-order [] t = sym (append-nil (in_order t))
  plugged-order (s ∷ steps) t = plugged-order steps (joined s t) ∙ around-step s steps t

  -- the balance around a place
  pub joined-balanced : (s : Step X) (t : Tree X) → Level (height t) (height (side_of s)) → Balanced (side_of s) → Balanced t → Balanced (joined s t)
  joined-balanced (on_left x r) t e p q = (e, q, p)
  joined-balanced (on_right l x) t e p q = (Level-back (height t) (height l) e, p, q)

  pub joined-height : (s : Step X) (t : Tree X) → height (joined s t) ≡ max (height t) (height (side_of s)) + 1
  joined-height (on_left x r) t = refl
  joined-height (on_right l x) t = omega arith

  pub plugged-balanced : (steps : List (Step X)) (t : Tree X) → Fits steps (height t) → Balanced t → Balanced (plugged steps t)
  plugged-balanced [] t f p = p
  plugged-balanced (s ∷ steps) t f p = plugged-balanced steps (joined s t) (subst (Fits steps) (sym (joined-height s t)) f.2) (joined-balanced s t f.0 f.1 p)

  joined-parts : (s : Step X) (t : Tree X) → Balanced (joined s t) → Level (height t) (height (side_of s)) × Balanced (side_of s) × Balanced t
  joined-parts (on_left x r) t p = (p.0, p.2, p.1)
  joined-parts (on_right l x) t p = (Level-back (height l) (height t) p.0, p.1, p.2)

  pub plugged-fits : (steps : List (Step X)) (t : Tree X) → Balanced (plugged steps t) → Fits steps (height t) × Balanced t
  plugged-fits [] t p = (tt, p)
  plugged-fits (s ∷ steps) t p =
      let up = plugged-fits steps (joined s t) p in let parts = joined-parts s t up.1 in
      ((parts.0, parts.1, subst (Fits steps) (joined-height s t) up.0), parts.2)

  -- one step up from a tree whose height may have changed by one
  pub settled-step : (s : Step X) (t : Tree X) (h : ℕ) → Level h (height (side_of s)) → Balanced (side_of s) → Balanced t → Level h (height t)
      → Balanced (settled s t) × Level (max h (height (side_of s)) + 1) (height (settled s t))
  settled-step (on_left x r) t h e p q near =
      let eu = e.up in let ed = e.down in let nu = near.up in let nd = near.down in
      let made = balanced-settled t x r q p (omega arith) (omega arith) in
      (made.0, near_still h (height t) (height r) (height (balanced t x r)) e near made.1)
  settled-step (on_right l x) t h e p q near =
      let eu = e.up in let ed = e.down in let nu = near.up in let nd = near.down in
      let made = balanced-settled l x t p q (omega arith) (omega arith) in
      (made.0, near_still h (height t) (height l) (height (balanced l x t)) e near (Settles-back (height l) (height t) _ made.1))

  pub plugged-height : (steps : List (Step X)) (t : Tree X) → height (plugged steps t) ≡ tall steps (height t)
  plugged-height [] t = refl
  plugged-height (s ∷ steps) t = plugged-height steps (joined s t) ∙ ap (tall steps) (joined-height s t)

  -- a node without a left side goes, and its right side comes up
  pub first_near : (s : Row Name X) (q : Tree X) → Balanced (node leaf s q) → Level (height (node leaf s q)) (height q)
  first_near s q p = record { up = omega arith; down = omega arith }
