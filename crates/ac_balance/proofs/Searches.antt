-- What a search finds: the row with an equivalent key, and the nearest ones on both sides.
use Rattle.std.proofs.Common.{◌≡◌, ℕ, ◌+◌, ◌*◌, ◌^◌, ◌≤◌, Bool, true, false, not, ◌&&◌, List, [], ◌∷◌, ◌++◌, length, reverse, find, Option, Some, None, refl, sym, ap, ◌∙◌, subst, arith, append_assoc}
use Rattle.std.specs.Option.{option_map}
use Rattle.std.proofs.lemmas.Bool.{cond-true, cond-false}
use Rattle.std.proofs.lemmas.List.{reverse-append}
use Rattle.ac_base.specs.declared.name.Name.{Name}
use Rattle.ac_base.specs.Rows.{Row}
use Rattle.ac_pool.specs.Contents.{Contents}
use Rattle.ac_balance.specs.declared.links.Node.{Node}
use Rattle.ac_balance.specs.declared.search.Spot.{Spot}
use Rattle.ac_balance.specs.Trees.{Tree, leaf, node, in_order, height, Balanced, Step, on_left, on_right, before, after}
use Rattle.ac_balance.specs.Probes.{IsProbe}
use Rattle.ac_balance.specs.Seeking.{Seeking, Seeks, IsMet, below_in, after_in}
use Rattle.ac_balance.specs.Walking.{or_else}
use Rattle.ac_balance.specs.Indexed.{Each, IsAscending, FewSteps}
use Rattle.ac_balance.proofs.Heights.{height_squared}
use Rattle.ac_balance.proofs.Climbs.{plugged-order}
use Rattle.ac_balance.proofs.Sides.{each-append, each-right, each-weaker, led-sides, met-sides}

both_false : (a b : Bool) → b ≡ true → not (not a && not b) ≡ true
both_false true b e = refl
both_false false true e = refl
both_false false false e = cc

first_false : (a b : Bool) → a ≡ true → not (not a && not b) ≡ true
first_false true b e = refl
first_false false b e = cc

module _ {X : Type 0} where
  abbrev pub named : Option (Row Name X) → Option Name
  named o = option_map (λ (r : Row Name X). r.name) o

  abbrev pub first_by : (X → Bool) → List (Row Name X) → Option Name
  first_by test rows = named (find (λ r. test r.value) rows)

  abbrev pub last_by : (X → Bool) → List (Row Name X) → Option Name
  last_by test rows = named (find (λ r. test r.value) (reverse rows))

  skips : (test : X → Bool) (xs ys : List (Row Name X)) → Each (λ v. not (test v)) xs → find (λ (r : Row Name X). test r.value) (xs ++ ys) ≡ find (λ (r : Row Name X). test r.value) ys
  skips test [] ys h = refl
  skips test (x ∷ xs) ys h = cond-false _ _ _ (fails (test x.value) h.0) ∙ skips test xs ys h.1
    where
      fails : (b : Bool) → not b ≡ true → b ≡ false
      fails true e = cc
      fails false e = refl

  each-reverse : (p : X → Bool) (xs : List (Row Name X)) → Each p xs → Each p (reverse xs)
  each-reverse p [] h = tt
  each-reverse p (x ∷ xs) h = subst (λ zs. Each p zs) (sym (reverse-append (x ∷ []) xs)) (each-append p (reverse xs) (x ∷ []) (each-reverse p xs h.1) (h.0, tt))

  first_at : (test : X → Bool) (xs : List (Row Name X)) (x : Row Name X) (ys : List (Row Name X)) → Each (λ v. not (test v)) xs → test x.value ≡ true → first_by test (xs ++ x ∷ ys) ≡ Some x.name
  first_at test xs x ys h p = ap named (skips test xs (x ∷ ys) h ∙ cond-true _ _ _ p)

  last_at : (test : X → Bool) (xs : List (Row Name X)) (x : Row Name X) (ys : List (Row Name X)) → Each (λ v. not (test v)) ys → test x.value ≡ true → last_by test (xs ++ x ∷ ys) ≡ Some x.name
  last_at test xs x ys h p =
      let turned : reverse (xs ++ x ∷ ys) ≡ reverse ys ++ (x ∷ reverse xs) =
      reverse-append xs (x ∷ ys) ∙ ap (λ zs. zs ++ reverse xs) (reverse-append (x ∷ []) ys) ∙ append_assoc (reverse ys) (x ∷ []) (reverse xs) in
      ap (λ zs. named (find (λ (r : Row Name X). test r.value) zs)) turned ∙ first_at test (reverse ys) x (reverse xs) (each-reverse (λ v. not (test v)) ys h) p

  none_by : (test : X → Bool) (xs : List (Row Name X)) → Each (λ v. not (test v)) xs → (ys : List (Row Name X)) → first_by test (xs ++ ys) ≡ first_by test ys
  none_by test xs h ys = ap named (skips test xs ys h)

  -- the nearest rows beside a place
  above_first : (test : X → Bool) (steps : List (Step X)) → Each test (after steps) → first_by test (after steps) ≡ after_in steps
  above_first test [] h = refl
  above_first test (on_left x r ∷ steps) h = ap named (cond-true _ _ _ h.0)
  above_first test (on_right l x ∷ steps) h = above_first test steps h

  below_last : (test : X → Bool) (steps : List (Step X)) → Each test (before steps) → last_by test (before steps) ≡ below_in steps
  below_last test [] h = refl
  below_last test (on_left x r ∷ steps) h = below_last test steps h
  below_last test (on_right l x ∷ steps) h =
      let whole = append_assoc (before steps) (in_order l) (x ∷ []) in
      let all = each-right test (before steps) (in_order l ++ x ∷ []) h in
      ap (λ zs. last_by test zs) (sym whole) ∙ last_at test (before steps ++ in_order l) x [] tt (each-right test (in_order l) (x ∷ []) all).0

  -- how the rows lie about the place
  pub record Finds (rows : List (Row Name X)) (low high : X → Bool) (s : Spot) : Type 0 where
    pub found : s.part ≡ first_by (λ v. not (low v) && not (high v)) rows
    pub floor : or_else s.part s.below ≡ last_by (λ v. not (high v)) rows
    pub ceiling : or_else s.part s.above ≡ first_by (λ v. not (low v)) rows

  module _ (less : X → X → Bool) (low high : X → Bool) (probe : IsProbe less low high) (c : Contents (Node X)) (s : Spot) where
    meets_row : (t : Tree X) (steps : List (Step X)) (l : Tree X) (x : Row Name X) (r : Tree X) → IsAscending less (in_order t) → Seeking c t low high s steps (node l x r) → low x.value ≡ false → high x.value ≡ false → Finds (in_order t) low high s
    meets_row t steps l x r h k p q =
        let asc = subst (λ z. IsAscending less (in_order z)) (sym k.whole) h in
        let around = led-sides less low high probe steps (node l x r) asc k.led in
        let beside = met-sides less low high probe steps l x r asc p q in
        let front = before steps ++ in_order l in let back = in_order r ++ after steps in
        let lows : Each low front = each-append low (before steps) (in_order l) around.0 beside.0 in
        let highs : Each high back = each-append high (in_order r) (after steps) beside.1 around.1 in
        let is : in_order t ≡ front ++ x ∷ back =
        ap in_order (sym k.whole) ∙ plugged-order steps (node l x r) ∙ ap (λ z. before steps ++ z) (append_assoc (in_order l) (x ∷ in_order r) (after steps)) ∙ sym (append_assoc (before steps) (in_order l) (x ∷ back)) in
        let level : (not (low x.value) && not (high x.value)) ≡ true = (λ i. not (p i) && not (q i)) in
        record {
          found = k.part ∙ sym (first_at (λ v. not (low v) && not (high v)) front x back (each-weaker low (λ v. not (not (low v) && not (high v))) front (λ v e. first_false (low v) (high v) e) lows) level) ∙ ap (first_by (λ v. not (low v) && not (high v))) (sym is);
          floor = ap (λ o. or_else o s.below) k.part ∙ sym (last_at (λ v. not (high v)) front x back (each-weaker high (λ v. not (not (high v))) back (λ v e. ap (λ b. not (not b)) e) highs) (ap not q)) ∙ ap (last_by (λ v. not (high v))) (sym is);
          ceiling = ap (λ o. or_else o s.above) k.part ∙ sym (first_at (λ v. not (low v)) front x back (each-weaker low (λ v. not (not (low v))) front (λ v e. ap (λ b. not (not b)) e) lows) (ap not p)) ∙ ap (first_by (λ v. not (low v))) (sym is);
        }

    misses_row : (t : Tree X) (steps : List (Step X)) → IsAscending less (in_order t) → Seeking c t low high s steps leaf → Finds (in_order t) low high s
    misses_row t steps h k =
        let asc = subst (λ z. IsAscending less (in_order z)) (sym k.whole) h in
        let around = led-sides less low high probe steps leaf asc k.led in
        let front = before steps in let back = after steps in
        let is : in_order t ≡ front ++ back = ap in_order (sym k.whole) ∙ plugged-order steps leaf in
        let not_low : Each (λ v. not (low v)) back = each-weaker high (λ v. not (low v)) back (λ v e. ap not (probe.apart v e)) around.1 in
        let not_high : Each (λ v. not (high v)) front = each-weaker low (λ v. not (high v)) front (λ v e. ap not (other v e)) around.0 in
        let level = λ (v : X). not (low v) && not (high v) in
        let none : first_by level (front ++ back) ≡ None =
        none_by level front (each-weaker low (λ v. not (level v)) front (λ v e. first_false (low v) (high v) e) around.0) back
        ∙ nothing level back (each-weaker high (λ v. not (level v)) back (λ v e. both_false (low v) (high v) e) around.1) in
        record {
          found = k.part ∙ sym none ∙ ap (first_by level) (sym is);
          floor = ap (λ o. or_else o s.below) k.part ∙ k.below ∙ sym (below_last (λ v. not (high v)) steps not_high)
              ∙ sym (ap (λ zs. named (find (λ (r : Row Name X). not (high r.value)) zs)) (reverse-append front back) ∙ ap named (skips (λ v. not (high v)) (reverse back) (reverse front) (each-reverse (λ v. not (not (high v))) back (each-weaker high (λ v. not (not (high v))) back (λ v e. ap (λ b. not (not b)) e) around.1))))
              ∙ ap (last_by (λ v. not (high v))) (sym is);
          ceiling = ap (λ o. or_else o s.above) k.part ∙ k.above ∙ sym (above_first (λ v. not (low v)) steps not_low)
              ∙ sym (none_by (λ v. not (low v)) front (each-weaker low (λ v. not (not (low v))) front (λ v e. ap (λ b. not (not b)) e) around.0) back)
              ∙ ap (first_by (λ v. not (low v))) (sym is);
        }
      where
        other : (v : X) → low v ≡ true → high v ≡ false
        other v e = go (high v) refl
          where
            go : (b : Bool) → high v ≡ b → high v ≡ false
            go false f = f
            go true f = let bad : true ≡ false = sym e ∙ probe.apart v f in cc

        nothing : (test : X → Bool) (xs : List (Row Name X)) → Each (λ v. not (test v)) xs → first_by test xs ≡ None
        nothing test [] h = refl
        nothing test (x ∷ xs) h = none_by test (x ∷ []) (h.0, tt) xs ∙ nothing test xs h.1

    finds_at : (t : Tree X) (steps : List (Step X)) (u : Tree X) → IsAscending less (in_order t) → Seeking c t low high s steps u → IsMet low high u → Finds (in_order t) low high s
    finds_at t steps leaf h k met = misses_row t steps h k
    finds_at t steps (node l x r) h k met = meets_row t steps l x r h k met.0 met.1

    pub finds : (t : Tree X) → IsAscending less (in_order t) → Seeks c t low high s → Finds (in_order t) low high s
    finds t h k = finds_at t k.steps k.rest h k.seeking k.met

  pub few_steps : (t : Tree X) (rows : List (Row Name X)) (old new : ℕ) → Balanced t → in_order t ≡ rows → old ≤ new → new ≤ old + 2 * height t → FewSteps (length rows) old new
  few_steps t rows old new bal is more few = record {
    height = height t;
    low = subst (λ zs. 2 ^ height t ≤ (length zs + 1) ^ 2) is (height_squared t bal);
    few = omega (arith, few);
    counted = more;
  }
