-- A row that is moved, in the list of the rows and in the links.
use Rattle.std.proofs.Common.{◌≡◌, ℕ, suc, ◌+◌, ◌-◌, ◌<◌, ◌≤◌, ◌⊎◌, List, [], ◌∷◌, ◌++◌, length, Option, Some, None, refl, sym, ap, ◌∙◌, subst, inl, inr, arith, add-one, append_assoc, length-append}
use Rattle.std.proofs.lemmas.Bool.{cond-true, cond-false, lt-ltb, le-ltb}
use Rattle.std.specs.List.{slice_get, insert, remove}
use Rattle.std.specs.Option.{option_map}
use Rattle.ac_base.specs.declared.name.Name.{Name}
use Rattle.ac_chain.specs.declared.links.Links.{Links}
use Rattle.ac_base.specs.Rows.{Row}
use Rattle.ac_chain.specs.Rows.{Chained, chained, place_of, IsLive, next_name, put_at, moved_rows, moved}
use Rattle.ac_pool.specs.NamedRows.{index_of, name_at, HasName, IsOnce}
use Rattle.ac_chain.specs.ChainFields.{first_or, StandsFor, rows_in, IsChain, linked_before, unlinked}
use Rattle.ac_pool.proofs.Cuts.{apart, live_has, Cut, cut, cut-row, slice_get-cut, remove-cut, insert-cut, index_of-cut}
use Rattle.ac_chain.proofs.Ends.{split, name_at-after}
use Rattle.ac_chain.proofs.Standing.{unlinked-keeps, linked_before-keeps}
use Rattle.ac_chain.proofs.Chains.{view_of, rows_in-is, IsChain-from, moved_stands, placed}

module _ {X : Type 0} where
  pub same_head : (x b : Row Name X) (xs bs : List (Row Name X)) → x ∷ xs ≡ b ∷ bs → x ≡ b
  same_head x b xs bs e = cc

  pub same_tail : (x b : Row Name X) (xs bs : List (Row Name X)) → x ∷ xs ≡ b ∷ bs → xs ≡ bs
  same_tail x b xs bs e = cc

  -- a row and a place of one list: the place is after the row, or not
  pub two_cuts : (xs : List (Row Name X)) (r : Row Name X) (ys bs cs : List (Row Name X)) → xs ++ r ∷ ys ≡ bs ++ cs
      → ((us : List (Row Name X)) × (bs ≡ xs ++ r ∷ us) × (ys ≡ us ++ cs)) ⊎ ((us : List (Row Name X)) × (xs ≡ bs ++ us) × (cs ≡ us ++ r ∷ ys))
  two_cuts xs r ys [] cs e = inr (xs, refl, sym e)
  two_cuts [] r ys (b ∷ bs) cs e = inl (bs, ap (λ x. x ∷ bs) (sym (same_head r b ys (bs ++ cs) e)), same_tail r b ys (bs ++ cs) e)
  two_cuts (x ∷ xs) r ys (b ∷ bs) cs e =
      let h = same_head x b (xs ++ r ∷ ys) (bs ++ cs) e in
      elim (two_cuts xs r ys bs cs (same_tail x b (xs ++ r ∷ ys) (bs ++ cs) e)) [
        | inl k ↦ inl (k.0, (λ i. sym h i ∷ k.1 i), k.2)
        | inr k ↦ inr (k.0, (λ i. h i ∷ k.1 i), k.2)
      ]

  -- what a move leaves
  pub record Move (xs : List (Row Name X)) (r : Row Name X) (ys : List (Row Name X)) (place : Option Name) (to : List (Row Name X)) : Type 0 where
    pub left : List (Row Name X)
    pub right : List (Row Name X)
    pub same : xs ++ ys ≡ left ++ right
    pub is : to ≡ left ++ r ∷ right
    pub named : (place ≡ Some r.name → ⊥) → place ≡ first_or right None

  moved_rows-cut : (xs : List (Row Name X)) (r : Row Name X) (ys : List (Row Name X)) (j : ℕ) (left right : List (Row Name X)) → xs ++ ys ≡ left ++ right → j ≡ length left → put_at (remove (xs ++ r ∷ ys) (length xs)) j (slice_get (xs ++ r ∷ ys) (length xs)) ≡ left ++ r ∷ right
  moved_rows-cut xs r ys j left right same at =
      ap (put_at (remove (xs ++ r ∷ ys) (length xs)) j) (slice_get-cut xs r ys) ∙ ap (λ zs. insert zs j r) (remove-cut xs r ys ∙ same) ∙ ap (λ k. insert (left ++ right) k r) at ∙ insert-cut left r right

  length_past : (xs : List (Row Name X)) (r : Row Name X) (us : List (Row Name X)) → length (xs ++ r ∷ us) ≡ suc (length (xs ++ us))
  length_past [] r us = refl
  length_past (x ∷ xs) r us = ap suc (length_past xs r us)

  append-length : (xs us : List (Row Name X)) → length (xs ++ us) ≡ length xs + length us
  append-length xs us = length-append xs us

  move_at : (xs : List (Row Name X)) (r : Row Name X) (ys bs cs : List (Row Name X)) (place : Option Name) → xs ++ r ∷ ys ≡ bs ++ cs → place ≡ first_or cs None → Move xs r ys place (moved_rows (xs ++ r ∷ ys) (length xs) (length bs))
  move_at xs r ys bs cs place e at = elim (two_cuts xs r ys bs cs e) [
    | inl k ↦
        let us = k.0 in
        let same : xs ++ ys ≡ (xs ++ us) ++ cs = ap (λ zs. xs ++ zs) k.2 ∙ sym (append_assoc xs us cs) in
        let len : length bs ≡ suc (length (xs ++ us)) = ap length k.1 ∙ length_past xs r us in
        let more = append-length xs us in
        let lt : length xs < length bs = omega arith in
        let j : length bs - 1 ≡ length (xs ++ us) = omega arith in
        record {
          left = xs ++ us;
          right = cs;
          same = same;
          is = ap (λ i. put_at (remove (xs ++ r ∷ ys) (length xs)) i (slice_get (xs ++ r ∷ ys) (length xs))) (cond-true _ _ _ (lt-ltb (length xs) (length bs) lt)) ∙ moved_rows-cut xs r ys (length bs - 1) (xs ++ us) cs same j;
          named = λ n. at;
        }
    | inr k ↦
        let us = k.0 in
        let same : xs ++ ys ≡ bs ++ (us ++ ys) = ap (λ zs. zs ++ ys) k.1 ∙ append_assoc bs us ys in
        let len : length xs ≡ length bs + length us = ap length k.1 ∙ append-length bs us in
        let le : length bs ≤ length xs = omega arith in
        record {
          left = bs;
          right = us ++ ys;
          same = same;
          is = ap (λ i. put_at (remove (xs ++ r ∷ ys) (length xs)) i (slice_get (xs ++ r ∷ ys) (length xs))) (cond-false _ _ _ (le-ltb (length xs) (length bs) le)) ∙ moved_rows-cut xs r ys (length bs) bs (us ++ ys) same refl;
          named = λ n. at ∙ ap (λ zs. first_or zs None) k.2 ∙ first_past us r ys (λ e. n (at ∙ ap (λ zs. first_or zs None) k.2 ∙ e));
        }
  ]
    where
      first_past : (us : List (Row Name X)) (r : Row Name X) (ys : List (Row Name X)) → (first_or (us ++ r ∷ ys) None ≡ Some r.name → ⊥) → first_or (us ++ r ∷ ys) None ≡ first_or (us ++ ys) None
      first_past [] r ys n = absurd (n refl)
      first_past (u ∷ us) r ys n = refl

  -- a move as the public words have it, at the cut of the row
  pub move : (rows : List (Row Name X)) (place : Option Name) (a : Name) (k : Cut a rows) → ((b : Name) → place ≡ Some b → HasName b rows)
      → Move k.before k.at k.after place (moved_rows rows (index_of a rows) (place_of place rows))
  move rows place a k h =
      let p = split place rows h in
      let whole = k.before ++ k.at ∷ k.after in
      let m = move_at k.before k.at k.after p.before p.after place (sym k.is ∙ p.is) p.named in
      let is : moved_rows rows (index_of a rows) (place_of place rows) ≡ moved_rows whole (length k.before) (length p.before) = λ i. moved_rows (k.is i) (k.place i) (p.at i) in
      record { left = m.left; right = m.right; same = m.same; is = is ∙ m.is; named = m.named }

  pub moved_chain : (l : Links X) → IsChain l → (place : Option Name) (a : Name) → ((b : Name) → place ≡ Some b → IsLive (view_of l) b) → IsLive (view_of l) a → (place ≡ Some a → ⊥)
      → IsChain (linked_before (unlinked l a) place a) × (view_of (linked_before (unlinked l a) place a) ≡ moved (view_of l) place a)
  moved_chain l s place a hp ha n =
      let rows = rows_in l in
      let k = cut a rows (live_has a rows ha) in
      let r = k.at in
      let m = move rows place a k (placed l place hp) in
      let stands : StandsFor l (k.before ++ r ∷ k.after) = subst (λ zs. StandsFor l zs) k.is s in
      let t_r = moved_stands l k.before r k.after m.left m.right place stands m.same (m.named (λ e. n (e ∙ ap Some (sym k.named)))) in
      let u = linked_before (unlinked l a) place a in
      let t : StandsFor u (m.left ++ r ∷ m.right) = subst (λ b. StandsFor (linked_before (unlinked l b) place b) (m.left ++ r ∷ m.right)) (sym k.named) t_r in
      let one = unlinked-keeps l a in
      let two = linked_before-keeps (unlinked l a) place a in
      let all : rows_in u ≡ moved_rows rows (index_of a rows) (place_of place rows) = rows_in-is u (m.left ++ r ∷ m.right) t ∙ sym m.is in
      let next : u.nodes.next_serial ≡ l.nodes.next_serial = two.next ∙ one.next in
      let spare : u.nodes.spare ≡ l.nodes.spare = two.spare ∙ one.spare in
      (IsChain-from u (m.left ++ r ∷ m.right) t, λ i. chained (all i) (next i) (spare i))

  -- before itself
  pub moved_itself : (c : Chained X) (place : Option Name) (a : Name) → IsLive c a → place ≡ Some a → moved c place a ≡ c
  moved_itself c place a h e =
      let rows = c.rows in
      let k = cut a rows (live_has a rows h) in
      let same : place_of place rows ≡ length k.before = ap (λ p. place_of p rows) e ∙ k.place in
      let whole = k.before ++ k.at ∷ k.after in
      let is : moved_rows rows (index_of a rows) (place_of place rows) ≡ moved_rows whole (length k.before) (length k.before) = λ i. moved_rows (k.is i) (k.place i) (same i) in
      let le : length k.before ≤ length k.before = omega arith in
      let stays : moved_rows whole (length k.before) (length k.before) ≡ whole =
      ap (λ i. put_at (remove whole (length k.before)) i (slice_get whole (length k.before))) (cond-false _ _ _ (le-ltb (length k.before) (length k.before) le)) ∙ moved_rows-cut k.before k.at k.after (length k.before) k.before k.after refl refl in
      ap (λ zs. chained zs c.next_serial c.spare) (is ∙ stays ∙ sym k.is)

  place_of-after : (xs : List (Row Name X)) (r : Row Name X) (ys : List (Row Name X)) → IsOnce (xs ++ r ∷ ys) → place_of (first_or ys None) (xs ++ r ∷ ys) ≡ suc (length xs)
  place_of-after xs r [] once = length_past xs r [] ∙ ap suc (let n = append-length xs [] in omega arith)
  place_of-after xs r (y ∷ ys) once =
      let assoc : (xs ++ r ∷ []) ++ y ∷ ys ≡ xs ++ r ∷ y ∷ ys = append_assoc xs (r ∷ []) (y ∷ ys) in
      let once_y : IsOnce ((xs ++ r ∷ []) ++ y ∷ ys) = subst (λ zs. IsOnce zs) (sym assoc) once in
      ap (index_of y.name) (sym assoc) ∙ index_of-cut (xs ++ r ∷ []) y ys (λ t. apart (xs ++ r ∷ []) (y ∷ ys) once_y y.name t (inl refl))
      ∙ length_past xs r [] ∙ ap suc (let n = append-length xs [] in omega arith)

  pub next_name-cut : (c : Chained X) (a : Name) (k : Cut a c.rows) → next_name c a ≡ first_or k.after None
  next_name-cut c a k = ap (λ i. name_at c.rows i) (add-one (index_of a c.rows)) ∙ ap (λ i. name_at c.rows (suc i)) k.place ∙ ap (λ zs. name_at zs (suc (length k.before))) k.is ∙ name_at-after k.before k.at k.after

  -- before the one that follows it
  pub moved_before_next : (c : Chained X) (place : Option Name) (a : Name) → IsOnce c.rows → IsLive c a → place ≡ next_name c a → moved c place a ≡ c
  moved_before_next c place a once h e =
      let rows = c.rows in
      let k = cut a rows (live_has a rows h) in
      let whole = k.before ++ k.at ∷ k.after in
      let once_whole : IsOnce whole = subst (λ zs. IsOnce zs) k.is once in
      let at : place_of place rows ≡ suc (length k.before) = (λ i. place_of ((e ∙ next_name-cut c a k) i) (k.is i)) ∙ place_of-after k.before k.at k.after once_whole in
      let is : moved_rows rows (index_of a rows) (place_of place rows) ≡ moved_rows whole (length k.before) (suc (length k.before)) = λ i. moved_rows (k.is i) (k.place i) (at i) in
      let lt : length k.before < suc (length k.before) = omega arith in
      let back : suc (length k.before) - 1 ≡ length k.before = omega arith in
      let stays : moved_rows whole (length k.before) (suc (length k.before)) ≡ whole =
      ap (λ i. put_at (remove whole (length k.before)) i (slice_get whole (length k.before))) (cond-true _ _ _ (lt-ltb (length k.before) (suc (length k.before)) lt)) ∙ moved_rows-cut k.before k.at k.after (suc (length k.before) - 1) k.before k.after refl back in
      ap (λ zs. chained zs c.next_serial c.spare) (is ∙ stays ∙ sym k.is)

  -- the rows of a sound chain have different names
  pub once_from : (rows : List (Row Name X)) → ((i j : ℕ) (a : Name) → name_at rows i ≡ Some a → name_at rows j ≡ Some a → i ≡ j) → IsOnce rows
  once_from [] h = tt
  once_from (r ∷ rows) h = (
    λ t. let k = cut r.name rows t in
        let at : name_at rows (index_of r.name rows) ≡ Some r.name = ap (option_map (λ (x : Row Name X). x.name)) (cut-row r.name rows k) ∙ ap Some (sym k.named) in
        let no : 0 ≡ suc (index_of r.name rows) = h 0 (suc (index_of r.name rows)) r.name refl at in absurd (omega arith),
    once_from rows (λ i j a p q. let e : suc i ≡ suc j = h (suc i) (suc j) a p q in omega arith),
  )
