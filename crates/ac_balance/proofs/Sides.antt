-- A search that each row above the place has led: all rows before it are less than the key, all after it greater.
use Rattle.std.proofs.Common.{◌≡◌, Bool, true, false, List, [], ◌∷◌, ◌++◌}
use Rattle.ac_base.specs.declared.name.Name.{Name}
use Rattle.ac_base.specs.Rows.{Row}
use Rattle.ac_balance.specs.Trees.{Tree, node, in_order, Step, on_left, on_right, joined, plugged, before, after}
use Rattle.ac_balance.specs.Indexed.{Each, IsAscending}
use Rattle.ac_balance.specs.Probes.{IsProbe}
use Rattle.ac_balance.specs.Seeking.{IsLed}

module _ {X : Type 0} where
  pub each-append : (p : X → Bool) (xs ys : List (Row Name X)) → Each p xs → Each p ys → Each p (xs ++ ys)
  each-append p [] ys h k = k
  each-append p (x ∷ xs) ys h k = (h.0, each-append p xs ys h.1 k)

  pub each-left : (p : X → Bool) (xs ys : List (Row Name X)) → Each p (xs ++ ys) → Each p xs
  each-left p [] ys h = tt
  each-left p (x ∷ xs) ys h = (h.0, each-left p xs ys h.1)

  pub each-right : (p : X → Bool) (xs ys : List (Row Name X)) → Each p (xs ++ ys) → Each p ys
  each-right p [] ys h = h
  each-right p (x ∷ xs) ys h = each-right p xs ys h.1

  pub each-weaker : (p q : X → Bool) (xs : List (Row Name X)) → ((v : X) → p v ≡ true → q v ≡ true) → Each p xs → Each q xs
  each-weaker p q [] f h = tt
  each-weaker p q (x ∷ xs) f h = (f x.value h.0, each-weaker p q xs f h.1)

  pub ascending-left : (less : X → X → Bool) (xs ys : List (Row Name X)) → IsAscending less (xs ++ ys) → IsAscending less xs
  ascending-left less [] ys h = tt
  ascending-left less (x ∷ xs) ys h = (each-left (less x.value) xs ys h.0, ascending-left less xs ys h.1)

  pub ascending-right : (less : X → X → Bool) (xs ys : List (Row Name X)) → IsAscending less (xs ++ ys) → IsAscending less ys
  ascending-right less [] ys h = h
  ascending-right less (x ∷ xs) ys h = ascending-right less xs ys h.1

  -- each row before a row is less
  pub before-less : (less : X → X → Bool) (xs : List (Row Name X)) (x : Row Name X) (ys : List (Row Name X)) → IsAscending less (xs ++ x ∷ ys) → Each (λ v. less v x.value) xs
  before-less less [] x ys h = tt
  before-less less (r ∷ xs) x ys h = ((each-right (less r.value) xs (x ∷ ys) h.0).0, before-less less xs x ys h.1)

  joined-ascending : (less : X → X → Bool) (s : Step X) (t : Tree X) → IsAscending less (in_order (joined s t)) → IsAscending less (in_order t)
  joined-ascending less (on_left x r) t h = ascending-left less (in_order t) (x ∷ in_order r) h
  joined-ascending less (on_right l x) t h = (ascending-right less (in_order l) (x ∷ in_order t) h).1

  pub part-ascending : (less : X → X → Bool) (steps : List (Step X)) (t : Tree X) → IsAscending less (in_order (plugged steps t)) → IsAscending less (in_order t)
  part-ascending less [] t h = h
  part-ascending less (s ∷ steps) t h = joined-ascending less s t (part-ascending less steps (joined s t) h)

  pub led-sides : (less : X → X → Bool) (low high : X → Bool) (probe : IsProbe less low high) (steps : List (Step X)) (t : Tree X)
      → IsAscending less (in_order (plugged steps t)) → IsLed low high steps → Each low (before steps) × Each high (after steps)
  led-sides less low high probe [] t h led = (tt, tt)
  led-sides less low high probe (on_left x r ∷ steps) t h led =
      let up = led-sides less low high probe steps (node t x r) h led.1 in
      let here = ascending-right less (in_order t) (x ∷ in_order r) (part-ascending less steps (node t x r) h) in
      (up.0, each-append high (x ∷ in_order r) (after steps) (led.0, each-weaker (less x.value) high (in_order r) (λ v e. probe.up x.value v e led.0) here.0) up.1)
  led-sides less low high probe (on_right l x ∷ steps) t h led =
      let up = led-sides less low high probe steps (node l x t) h led.1 in
      let here = before-less less (in_order l) x (in_order t) (part-ascending less steps (node l x t) h) in (
        each-append low (before steps) (in_order l ++ x ∷ []) up.0
            (each-append low (in_order l) (x ∷ []) (each-weaker (λ v. less v x.value) low (in_order l) (λ v e. probe.down v x.value e led.0) here) (led.0, tt)),
        up.1,
      )

  -- the rows beside one that the search met
  pub met-sides : (less : X → X → Bool) (low high : X → Bool) (probe : IsProbe less low high) (steps : List (Step X)) (l : Tree X) (x : Row Name X) (r : Tree X)
      → IsAscending less (in_order (plugged steps (node l x r))) → low x.value ≡ false → high x.value ≡ false → Each low (in_order l) × Each high (in_order r)
  met-sides less low high probe steps l x r h p q =
      let part = part-ascending less steps (node l x r) h in
      let right = ascending-right less (in_order l) (x ∷ in_order r) part in
      (each-weaker (λ v. less v x.value) low (in_order l) (λ v e. probe.below v x.value e q) (before-less less (in_order l) x (in_order r) part), each-weaker (less x.value) high (in_order r) (λ v e. probe.above x.value v e p) right.0)
