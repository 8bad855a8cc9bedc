-- Rows in another order: two exchanged, all the other way round, and all by a list of their names.
use Rattle.std.proofs.Common.{◌≡◌, ◌≢◌, ℕ, zero, suc, ◌+◌, ◌-◌, ◌<◌, List, [], ◌∷◌, ◌++◌, length, reverse, get_or, set, take, Option, Some, None, refl, sym, ap, ◌∙◌, subst, inl, inr, arith, append-nil, append_assoc, length-append}
use Rattle.std.proofs.lemmas.List.{map-append, take_more, take_all, length-map, nil_from_length, get_or_at, set_at, set-get_or, reverse-append, length-take-le}
use Rattle.std.proofs.lemmas.Option.{get_or_from_slice_get}
use Rattle.std.proofs.lemmas.List.Edits.{swap_is}
use Rattle.std.specs.List.{slice_get, swap}
use Rattle.std.specs.Option.{option_map}
use Rattle.ac_base.specs.declared.name.Name.{Name}
use Rattle.ac_pool.proofs.NameLaws.{cases_name}
use Rattle.ac_base.specs.Rows.{Row, names}
use Rattle.ac_chain.specs.Rows.{Chained, chained, with_rows, IsLive, next_name, moved, links_swapped, reversed, IsOrderOf, Reorders}
use Rattle.ac_pool.specs.NamedRows.{index_of, name_at, HasName, IsOnce}
use Rattle.ac_chain.specs.ChainFields.{first_or}
use Rattle.ac_pool.proofs.Cuts.{apart, HasName-left, HasName-right, HasName-either, HasName-put, HasName-cut, once_cut, once_gone, once_put, name_at_has, has_live, live_has, Cut, cut, index_here, index_past, index_of-cut, slice_get-cut}
use Rattle.ac_chain.proofs.Ends.{name_at-first}
use Rattle.ac_chain.proofs.Linking.{first_has}
use Rattle.ac_chain.proofs.Moves.{same_head, same_tail, move, moved_itself, moved_before_next, next_name-cut}

module _ {X : Type 0} where
  named_first : (ws : List (Row Name X)) (z : Name) → first_or ws None ≡ Some z → HasName z ws
  named_first ws z e = first_has ws z e

  -- one cut of a list of different names has its first name after it
  split_unique : (left right zs ws : List (Row Name X)) → left ++ right ≡ zs ++ ws → first_or right None ≡ first_or ws None → IsOnce (zs ++ ws) → (left ≡ zs) × (right ≡ ws)
  split_unique [] right [] ws e f once = (refl, e)
  split_unique [] right (z ∷ zs) ws e f once = absurd (once.0 (HasName-right z.name zs ws (named_first ws z.name (sym f ∙ ap (λ k. first_or k None) e))))
  split_unique (x ∷ left) right [] ws e f once =
      let once_x : IsOnce (x ∷ left ++ right) = subst (λ k. IsOnce k) (sym e) once in
      absurd (once_x.0 (HasName-right x.name left right (named_first right x.name (f ∙ ap (λ k. first_or k None) (sym e)))))
  split_unique (x ∷ left) right (z ∷ zs) ws e f once =
      let k = split_unique left right zs ws (same_tail x z (left ++ right) (zs ++ ws) e) f once.1 in
      let h = same_head x z (left ++ right) (zs ++ ws) e in ((λ i. h i ∷ k.0 i), k.1)

  cut_here : (rows xs : List (Row Name X)) (r : Row Name X) (ys : List (Row Name X)) → IsOnce rows → rows ≡ xs ++ r ∷ ys → Cut r.name rows
  cut_here rows xs r ys once is = record {
    before = xs;
    at = r;
    after = ys;
    is = is;
    named = refl;
    place = ap (index_of r.name) is ∙ index_of-cut xs r ys (λ t. apart xs (r ∷ ys) (subst (λ k. IsOnce k) is once) r.name t (inl refl));
  }

  -- where the row goes
  pub moves_to : (c : Chained X) (xs : List (Row Name X)) (r : Row Name X) (ys zs ws : List (Row Name X)) (place : Option Name) → IsOnce c.rows → c.rows ≡ xs ++ r ∷ ys → xs ++ ys ≡ zs ++ ws
      → place ≡ first_or ws None → (place ≡ Some r.name → ⊥) → moved c place r.name ≡ with_rows c (zs ++ r ∷ ws)
  unfolding cut_here
  moves_to c xs r ys zs ws place once is same at n =
      let k = cut_here c.rows xs r ys once is in
      let once_cut_rows : IsOnce (zs ++ ws) = subst (λ z. IsOnce z) same (once_cut xs r ys (subst (λ z. IsOnce z) is once)) in
      let has : (b : Name) → place ≡ Some b → HasName b c.rows = λ b e.
      subst (λ z. HasName b z) (sym is) (HasName-put b xs r ys (subst (λ z. HasName b z) (sym same) (HasName-right b zs ws (named_first ws b (sym at ∙ e))))) in
      let m = move c.rows place r.name k has in
      let u = split_unique m.left m.right zs ws (sym m.same ∙ same) (sym (m.named n) ∙ at) once_cut_rows in
      ap (λ z. chained z c.next_serial c.spare) (m.is ∙ (λ i. u.0 i ++ r ∷ u.1 i))

  first-not : (zs ws : List (Row Name X)) (r : Row Name X) → (HasName r.name ws → ⊥) → first_or ws None ≡ Some r.name → ⊥
  first-not zs ws r n e = n (named_first ws r.name e)

  -- the row before the other one goes behind it, and then the other one to where the first one was
  swap_forward : (c : Chained X) (ps : List (Row Name X)) (r : Row Name X) (ms : List (Row Name X)) (s : Row Name X) (zs : List (Row Name X)) → IsOnce c.rows → c.rows ≡ ps ++ r ∷ (ms ++ s ∷ zs)
      → moved (moved c (first_or zs None) r.name) (first_or (ms ++ s ∷ zs) None) s.name ≡ with_rows c (ps ++ s ∷ (ms ++ r ∷ zs))
  swap_forward c ps r ms s zs once is =
      let whole = ps ++ r ∷ (ms ++ s ∷ zs) in
      let once_w : IsOnce whole = subst (λ k. IsOnce k) is once in
      let r_gone = once_gone ps r (ms ++ s ∷ zs) once_w in
      let r_not_in : HasName r.name zs → ⊥ = λ t. r_gone (HasName-right r.name ps (ms ++ s ∷ zs) (HasName-right r.name ms (s ∷ zs) (inr t))) in
      let one = (ps ++ (ms ++ s ∷ [])) ++ r ∷ zs in
      let assoc_s : (ms ++ s ∷ []) ++ zs ≡ ms ++ s ∷ zs = append_assoc ms (s ∷ []) zs in
      let same_one : ps ++ (ms ++ s ∷ zs) ≡ (ps ++ (ms ++ s ∷ [])) ++ zs = ap (λ k. ps ++ k) (sym assoc_s) ∙ sym (append_assoc ps (ms ++ s ∷ []) zs) in
      let first = moves_to c ps r (ms ++ s ∷ zs) (ps ++ (ms ++ s ∷ [])) zs (first_or zs None) once is same_one refl (first-not ps zs r r_not_in) in
      let d = with_rows c one in
      let once_rest : IsOnce ((ps ++ (ms ++ s ∷ [])) ++ zs) = subst (λ k. IsOnce k) same_one (once_cut ps r (ms ++ s ∷ zs) once_w) in
      let once_d : IsOnce one = once_put (ps ++ (ms ++ s ∷ [])) r zs once_rest (λ t. r_gone (subst (λ k. HasName r.name k) (sym same_one) t)) in
      let d_is : one ≡ (ps ++ ms) ++ s ∷ (r ∷ zs) = ap (λ k. k ++ r ∷ zs) (sym (append_assoc ps ms (s ∷ []))) ∙ append_assoc (ps ++ ms) (s ∷ []) (r ∷ zs) in
      ap (λ x. moved x (first_or (ms ++ s ∷ zs) None) s.name) first ∙ second ms d once_d d_is
    where
      second : (ms : List (Row Name X)) (d : Chained X) → IsOnce d.rows → d.rows ≡ (ps ++ ms) ++ s ∷ (r ∷ zs) → moved d (first_or (ms ++ s ∷ zs) None) s.name ≡ with_rows d (ps ++ s ∷ (ms ++ r ∷ zs))
      second [] d once is =
          let h : HasName s.name d.rows = subst (λ k. HasName s.name k) (sym is) (HasName-right s.name (ps ++ []) (s ∷ r ∷ zs) (inl refl)) in
          moved_itself d (Some s.name) s.name (has_live s.name d.rows h) refl ∙ ap (λ k. with_rows d k) (is ∙ append_assoc ps [] (s ∷ r ∷ zs))
      second (m ∷ ms) d once is =
          let n : Some m.name ≡ Some s.name → ⊥ = λ e. once_gone (ps ++ m ∷ ms) s (r ∷ zs) (subst (λ k. IsOnce k) is once) (HasName-left s.name (ps ++ m ∷ ms) (r ∷ zs) (HasName-right s.name ps (m ∷ ms) (named_first (m ∷ ms) s.name e))) in
          moves_to d (ps ++ m ∷ ms) s (r ∷ zs) ps (m ∷ ms ++ r ∷ zs) (Some m.name) once is (append_assoc ps (m ∷ ms) (r ∷ zs)) refl n

  -- the row behind the other one goes right after it, and then the other one to where the first one was
  swap_backward : (c : Chained X) (ps : List (Row Name X)) (s : Row Name X) (ms : List (Row Name X)) (r : Row Name X) (zs : List (Row Name X)) → IsOnce c.rows → c.rows ≡ ps ++ s ∷ (ms ++ r ∷ zs)
      → moved (moved c (first_or (ms ++ r ∷ zs) None) r.name) (first_or zs None) s.name ≡ with_rows c (ps ++ r ∷ (ms ++ s ∷ zs))
  swap_backward c ps s ms r zs once is =
      let whole = ps ++ s ∷ (ms ++ r ∷ zs) in
      let once_w : IsOnce whole = subst (λ k. IsOnce k) is once in
      let d = with_rows c (ps ++ s ∷ (r ∷ (ms ++ zs))) in
      let s_gone = once_gone ps s (ms ++ r ∷ zs) once_w in
      let once_s : IsOnce (ps ++ (ms ++ r ∷ zs)) = once_cut ps s (ms ++ r ∷ zs) once_w in
      let s_not_in : HasName s.name zs → ⊥ = λ t. s_gone (HasName-right s.name ps (ms ++ r ∷ zs) (HasName-right s.name ms (r ∷ zs) (inr t))) in
      ap (λ x. moved x (first_or zs None) s.name) (first ms c once is)
      ∙ moves_to d ps s (r ∷ (ms ++ zs)) (ps ++ r ∷ ms) zs (first_or zs None) (once_d ms c once is) refl (sym (append_assoc ps (r ∷ ms) zs)) refl (first-not ps zs s s_not_in)
      ∙ ap (λ k. with_rows c k) (append_assoc ps (r ∷ ms) (s ∷ zs))
    where
      first : (ms : List (Row Name X)) (c : Chained X) → IsOnce c.rows → c.rows ≡ ps ++ s ∷ (ms ++ r ∷ zs) → moved c (first_or (ms ++ r ∷ zs) None) r.name ≡ with_rows c (ps ++ s ∷ (r ∷ (ms ++ zs)))
      first [] c once is =
          let h : HasName r.name c.rows = subst (λ k. HasName r.name k) (sym is) (HasName-right r.name ps (s ∷ r ∷ zs) (inr (inl refl))) in
          moved_itself c (Some r.name) r.name (has_live r.name c.rows h) refl ∙ ap (λ k. with_rows c k) is
      first (m ∷ ms) c once is =
          let at : c.rows ≡ (ps ++ s ∷ m ∷ ms) ++ r ∷ zs = is ∙ sym (append_assoc ps (s ∷ m ∷ ms) (r ∷ zs)) in
          let n : Some m.name ≡ Some r.name → ⊥ = λ e. once_gone (ps ++ s ∷ m ∷ ms) r zs (subst (λ k. IsOnce k) at once) (HasName-left r.name (ps ++ s ∷ m ∷ ms) zs (HasName-right r.name ps (s ∷ m ∷ ms) (inr (named_first (m ∷ ms) r.name e)))) in
          let same : (ps ++ s ∷ m ∷ ms) ++ zs ≡ (ps ++ s ∷ []) ++ (m ∷ ms ++ zs) = append_assoc ps (s ∷ m ∷ ms) zs ∙ sym (append_assoc ps (s ∷ []) (m ∷ ms ++ zs)) in
          moves_to c (ps ++ s ∷ m ∷ ms) r zs (ps ++ s ∷ []) (m ∷ ms ++ zs) (Some m.name) once at same refl n ∙ ap (λ k. with_rows c k) (append_assoc ps (s ∷ []) (r ∷ m ∷ ms ++ zs))

      once_d : (ms : List (Row Name X)) (c : Chained X) → IsOnce c.rows → c.rows ≡ ps ++ s ∷ (ms ++ r ∷ zs) → IsOnce (ps ++ s ∷ (r ∷ (ms ++ zs)))
      once_d ms c once is =
          let at : c.rows ≡ (ps ++ s ∷ ms) ++ r ∷ zs = is ∙ sym (append_assoc ps (s ∷ ms) (r ∷ zs)) in
          let once_at : IsOnce ((ps ++ s ∷ ms) ++ r ∷ zs) = subst (λ k. IsOnce k) at once in
          let gone = once_gone (ps ++ s ∷ ms) r zs once_at in
          let rest = once_cut (ps ++ s ∷ ms) r zs once_at in
          let same : (ps ++ s ∷ ms) ++ zs ≡ (ps ++ s ∷ []) ++ (ms ++ zs) = append_assoc ps (s ∷ ms) zs ∙ sym (append_assoc ps (s ∷ []) (ms ++ zs)) in
          subst (λ k. IsOnce k) (append_assoc ps (s ∷ []) (r ∷ (ms ++ zs)))
          (once_put (ps ++ s ∷ []) r (ms ++ zs) (subst (λ k. IsOnce k) same rest) (λ t. gone (subst (λ k. HasName r.name k) (sym same) t)))

  length_same : (ps : List (Row Name X)) (r s : Row Name X) (ms : List (Row Name X)) → length (ps ++ s ∷ ms) ≡ length (ps ++ r ∷ ms)
  length_same [] r s ms = refl
  length_same (p ∷ ps) r s ms = ap suc (length_same ps r s ms)

  length_two : (ps : List (Row Name X)) (r : Row Name X) (ms : List (Row Name X)) (s : Row Name X) (zs : List (Row Name X)) → (length ps < length (ps ++ r ∷ (ms ++ s ∷ zs))) × (length (ps ++ r ∷ ms) < length (ps ++ r ∷ (ms ++ s ∷ zs)))
  length_two ps r ms s zs =
      let a : length (ps ++ r ∷ (ms ++ s ∷ zs)) ≡ length ps + suc (length (ms ++ s ∷ zs)) = length-append ps (r ∷ (ms ++ s ∷ zs)) in
      let b : length (ms ++ s ∷ zs) ≡ length ms + suc (length zs) = length-append ms (s ∷ zs) in
      let d : length (ps ++ r ∷ ms) ≡ length ps + suc (length ms) = length-append ps (r ∷ ms) in
      (omega arith, omega arith)

  -- the two rows of a cut list change places
  set_two : (ps : List (Row Name X)) (r : Row Name X) (ms : List (Row Name X)) (s : Row Name X) (zs : List (Row Name X)) (x y : Row Name X) → set (set (ps ++ r ∷ (ms ++ s ∷ zs)) (length ps) x) (length (ps ++ r ∷ ms)) y ≡ ps ++ x ∷ (ms ++ y ∷ zs)
  set_two ps r ms s zs x y =
      ap (λ k. set k (length (ps ++ r ∷ ms)) y) (set_at ps r (ms ++ s ∷ zs) x (length ps) refl ∙ sym (append_assoc ps (x ∷ ms) (s ∷ zs)))
      ∙ set_at (ps ++ x ∷ ms) s zs y (length (ps ++ r ∷ ms)) (length_same ps r x ms) ∙ append_assoc ps (x ∷ ms) (y ∷ zs)

  set_two_back : (ps : List (Row Name X)) (r : Row Name X) (ms : List (Row Name X)) (s : Row Name X) (zs : List (Row Name X)) (x y : Row Name X) → set (set (ps ++ r ∷ (ms ++ s ∷ zs)) (length (ps ++ r ∷ ms)) y) (length ps) x ≡ ps ++ x ∷ (ms ++ y ∷ zs)
  set_two_back ps r ms s zs x y =
      ap (λ k. set k (length ps) x) (ap (λ k. set k (length (ps ++ r ∷ ms)) y) (sym (append_assoc ps (r ∷ ms) (s ∷ zs))) ∙ set_at (ps ++ r ∷ ms) s zs y (length (ps ++ r ∷ ms)) refl ∙ append_assoc ps (r ∷ ms) (y ∷ zs))
      ∙ set_at ps r (ms ++ y ∷ zs) x (length ps) refl

  get_first : (ps : List (Row Name X)) (r : Row Name X) (ms : List (Row Name X)) (s : Row Name X) (zs : List (Row Name X)) → get_or (ps ++ r ∷ (ms ++ s ∷ zs)) (length ps) r ≡ r
  get_first ps r ms s zs = get_or_at ps r (ms ++ s ∷ zs) r (length ps) refl

  get_second : (ps : List (Row Name X)) (r : Row Name X) (ms : List (Row Name X)) (s : Row Name X) (zs : List (Row Name X)) → get_or (ps ++ r ∷ (ms ++ s ∷ zs)) (length (ps ++ r ∷ ms)) r ≡ s
  get_second ps r ms s zs = ap (λ k. get_or k (length (ps ++ r ∷ ms)) r) (sym (append_assoc ps (r ∷ ms) (s ∷ zs))) ∙ get_or_at (ps ++ r ∷ ms) s zs r (length (ps ++ r ∷ ms)) refl

  swap-cut : (ps : List (Row Name X)) (r : Row Name X) (ms : List (Row Name X)) (s : Row Name X) (zs : List (Row Name X)) → swap (ps ++ r ∷ (ms ++ s ∷ zs)) (length ps) (length (ps ++ r ∷ ms)) ≡ ps ++ s ∷ (ms ++ r ∷ zs)
  swap-cut ps r ms s zs =
      let w = ps ++ r ∷ (ms ++ s ∷ zs) in
      let i = length ps in
      let j = length (ps ++ r ∷ ms) in
      let in_both = length_two ps r ms s zs in
      sym (swap_is w i j r in_both.0 in_both.1) ∙ (λ t. set (set w i (get_second ps r ms s zs t)) j (get_first ps r ms s zs t)) ∙ set_two ps r ms s zs s r

  swap-cut_back : (ps : List (Row Name X)) (r : Row Name X) (ms : List (Row Name X)) (s : Row Name X) (zs : List (Row Name X)) → swap (ps ++ r ∷ (ms ++ s ∷ zs)) (length (ps ++ r ∷ ms)) (length ps) ≡ ps ++ s ∷ (ms ++ r ∷ zs)
  swap-cut_back ps r ms s zs =
      let w = ps ++ r ∷ (ms ++ s ∷ zs) in
      let i = length ps in
      let j = length (ps ++ r ∷ ms) in
      let in_both = length_two ps r ms s zs in
      sym (swap_is w j i r in_both.1 in_both.0) ∙ (λ t. set (set w j (get_first ps r ms s zs t)) i (get_second ps r ms s zs t)) ∙ set_two_back ps r ms s zs s r

  swap-itself : (rows : List (Row Name X)) (i : ℕ) (d : Row Name X) → i < length rows → swap rows i i ≡ rows
  swap-itself rows i d h = sym (swap_is rows i i d h h) ∙ ap (λ k. set k i (get_or rows i d)) (set-get_or rows i d) ∙ set-get_or rows i d

  cut_at_place : (rows : List (Row Name X)) (b : Name) (xs : List (Row Name X)) (r : Row Name X) (ys : List (Row Name X)) → IsOnce rows → b ≡ r.name → rows ≡ xs ++ r ∷ ys → index_of b rows ≡ length xs
  cut_at_place rows b xs r ys once e is = ap (λ q. index_of q rows) e ∙ ap (index_of r.name) is ∙ index_of-cut xs r ys (λ t. apart xs (r ∷ ys) (subst (λ k. IsOnce k) is once) r.name t (inl refl))

  abbrev cut_at : (rows : List (Row Name X)) (b : Name) (xs : List (Row Name X)) (r : Row Name X) (ys : List (Row Name X)) → IsOnce rows → b ≡ r.name → rows ≡ xs ++ r ∷ ys → Cut b rows
  cut_at rows b xs r ys once e is = record { before = xs; at = r; after = ys; is = is; named = e; place = cut_at_place rows b xs r ys once e is }

  -- a move by the next names of each of two rows, at the names of a chain
  pub two_moves : (c : Chained X) (a b : Name) → IsOnce c.rows → IsLive c a → IsLive c b → moved (moved c (next_name c b) a) (next_name c a) b ≡ links_swapped c a b
  two_moves c a b once ha hb =
      let rows = c.rows in
      let k = cut a rows (live_has a rows ha) in
      let whole = k.before ++ k.at ∷ k.after in
      let once_w : IsOnce whole = subst (λ z. IsOnce z) k.is once in
      let hb_w : HasName b whole = subst (λ z. HasName b z) k.is (live_has b rows hb) in
      elim (HasName-either b k.before (k.at ∷ k.after) hb_w) [
        | inl t ↦
            let m = cut b k.before t in
            let is : rows ≡ m.before ++ m.at ∷ (m.after ++ k.at ∷ k.after) = k.is ∙ ap (λ z. z ++ k.at ∷ k.after) m.is ∙ append_assoc m.before (m.at ∷ m.after) (k.at ∷ k.after) in
            let kb = cut_at rows b m.before m.at (m.after ++ k.at ∷ k.after) once m.named is in
            let ka_place : index_of a rows ≡ length (m.before ++ m.at ∷ m.after) = k.place ∙ ap length m.is in
            (λ i. moved (moved c (next_name-cut c b kb i) (k.named i)) (next_name-cut c a k i) (m.named i))
            ∙ (swap_backward c m.before m.at m.after k.at k.after once is
            ∙ ap (λ z. with_rows c z) (sym ((λ i. swap (is i) (ka_place i) (cut_at_place rows b m.before m.at (m.after ++ k.at ∷ k.after) once m.named is i)) ∙ swap-cut_back m.before m.at m.after k.at k.after)))
        | inr t ↦ elim t [
          | inl e ↦
              let same : b ≡ a = e ∙ sym k.named in
              let one : moved c (next_name c b) a ≡ c = moved_before_next c (next_name c b) a once ha (ap (next_name c) same) in
              ap (λ x. moved x (next_name c a) b) one ∙ moved_before_next c (next_name c a) b once hb (ap (next_name c) (sym same))
              ∙ ap (λ z. with_rows c z) (sym (ap (λ q. swap rows (index_of a rows) (index_of q rows)) same ∙ swap-itself rows (index_of a rows) k.at ha))
          | inr u ↦
              let m = cut b k.after u in
              let is : rows ≡ k.before ++ k.at ∷ (m.before ++ m.at ∷ m.after) = k.is ∙ ap (λ z. k.before ++ k.at ∷ z) m.is in
              let is_b : rows ≡ (k.before ++ k.at ∷ m.before) ++ m.at ∷ m.after = is ∙ sym (append_assoc k.before (k.at ∷ m.before) (m.at ∷ m.after)) in
              let kb = cut_at rows b (k.before ++ k.at ∷ m.before) m.at m.after once m.named is_b in
              (λ i. moved (moved c (next_name-cut c b kb i) (k.named i)) ((next_name-cut c a k ∙ ap (λ z. first_or z None) m.is) i) (m.named i))
              ∙ (swap_forward c k.before k.at m.before m.at m.after once is
              ∙ ap (λ z. with_rows c z) (sym ((λ i. swap (is i) (k.place i) (cut_at_place rows b (k.before ++ k.at ∷ m.before) m.at m.after once m.named is_b i)) ∙ swap-cut k.before k.at m.before m.at m.after)))
        ]
      ]

  -- the row of a name, where another row is past over or moved
  abbrev pub row_of : Name → List (Row Name X) → Option (Row Name X)
  row_of a rows = slice_get rows (index_of a rows)

  row_of-past : (a : Name) (xs : List (Row Name X)) (r : Row Name X) (ys : List (Row Name X)) → a ≢ r.name → row_of a (xs ++ r ∷ ys) ≡ row_of a (xs ++ ys)
  row_of-past a [] r ys n = ap (slice_get (r ∷ ys)) (index_past a r ys n)
  row_of-past a (x ∷ xs) r ys n = elim (cases_name a x.name) [
    | inl e ↦ ap (slice_get (x ∷ xs ++ r ∷ ys)) (index_here a x (xs ++ r ∷ ys) e) ∙ sym (ap (slice_get (x ∷ xs ++ ys)) (index_here a x (xs ++ ys) e))
    | inr ne ↦ ap (slice_get (x ∷ xs ++ r ∷ ys)) (index_past a x (xs ++ r ∷ ys) ne) ∙ row_of-past a xs r ys n ∙ sym (ap (slice_get (x ∷ xs ++ ys)) (index_past a x (xs ++ ys) ne))
  ]

  row_of-here : (xs : List (Row Name X)) (r : Row Name X) (ys : List (Row Name X)) → IsOnce (xs ++ r ∷ ys) → row_of r.name (xs ++ r ∷ ys) ≡ Some r
  row_of-here xs r ys once = ap (slice_get (xs ++ r ∷ ys)) (index_of-cut xs r ys (λ t. apart xs (r ∷ ys) once r.name t (inl refl))) ∙ slice_get-cut xs r ys

  -- a row elsewhere is still the row of its name
  pub row_of-moved : (a : Name) (xs : List (Row Name X)) (r : Row Name X) (ys zs ws : List (Row Name X)) → IsOnce (xs ++ r ∷ ys) → IsOnce (zs ++ r ∷ ws) → xs ++ ys ≡ zs ++ ws → row_of a (zs ++ r ∷ ws) ≡ row_of a (xs ++ r ∷ ys)
  row_of-moved a xs r ys zs ws once_x once_z same = elim (cases_name a r.name) [
    | inl e ↦ ap (λ b. row_of b (zs ++ r ∷ ws)) e ∙ row_of-here zs r ws once_z ∙ sym (row_of-here xs r ys once_x) ∙ sym (ap (λ b. row_of b (xs ++ r ∷ ys)) e)
    | inr n ↦ row_of-past a zs r ws n ∙ ap (row_of a) (sym same) ∙ sym (row_of-past a xs r ys n)
  ]

  once_moved : (xs : List (Row Name X)) (r : Row Name X) (ys zs ws : List (Row Name X)) → IsOnce (xs ++ r ∷ ys) → xs ++ ys ≡ zs ++ ws → IsOnce (zs ++ r ∷ ws)
  once_moved xs r ys zs ws once same = once_put zs r ws (subst (λ k. IsOnce k) same (once_cut xs r ys once)) (λ t. once_gone xs r ys once (subst (λ k. HasName r.name k) (sym same) t))

  -- what a turn has done: the rows in `done` stand before the head, the last one first
  pub record Turned (head : Name) (from rows : List (Row Name X)) : Type 0 where
    pub first : Row Name X
    pub done : List (Row Name X)
    pub rest : List (Row Name X)
    pub named : head ≡ first.name
    pub was : from ≡ first ∷ (done ++ rest)
    pub is : rows ≡ reverse done ++ first ∷ rest

  pub turn_start : (rows : List (Row Name X)) (head : Name) → name_at rows 0 ≡ Some head → Turned head rows rows
  turn_start [] head e = cc
  turn_start (r ∷ rows) head e = record { first = r; done = []; rest = rows; named = (let h : Some r.name ≡ Some head = e in cc); was = refl; is = refl }

  turned_cut : (head : Name) (from rows : List (Row Name X)) → IsOnce rows → (t : Turned head from rows) → Cut head rows
  turned_cut head from rows once t = cut_at rows head (reverse t.done) t.first t.rest once t.named t.is

  pub turned_live : (c : Chained X) (head : Name) (from : List (Row Name X)) → Turned head from c.rows → IsLive c head
  turned_live c head from t = has_live head c.rows (subst (λ k. HasName head k) (sym t.is) (HasName-right head (reverse t.done) (t.first ∷ t.rest) (inl t.named)))

  turned_next : (c : Chained X) (head : Name) (from : List (Row Name X)) → IsOnce c.rows → (t : Turned head from c.rows) → next_name c head ≡ first_or t.rest None
  turned_next c head from once t = next_name-cut c head (cut_at c.rows head (reverse t.done) t.first t.rest once t.named t.is)

  reverse-push : (xs : List (Row Name X)) (r : Row Name X) → reverse (xs ++ r ∷ []) ≡ r ∷ reverse xs
  reverse-push xs r = reverse-append xs (r ∷ [])

  first_of_cut : (xs : List (Row Name X)) (h : Row Name X) (ys zs : List (Row Name X)) → first_or (xs ++ h ∷ ys) None ≡ first_or (xs ++ h ∷ zs) None
  first_of_cut [] h ys zs = refl
  first_of_cut (x ∷ xs) h ys zs = refl

  -- one turn more
  turned_step : (c : Chained X) (head : Name) (from : List (Row Name X)) (h : Row Name X) (done rest : List (Row Name X)) (name : Name) (place : Option Name) → IsOnce c.rows → head ≡ h.name → from ≡ h ∷ (done ++ rest) → c.rows ≡ reverse done ++ h ∷ rest
      → first_or rest None ≡ Some name → place ≡ name_at c.rows 0 → (t : Turned head from (moved c place name).rows) × (suc (length t.rest) ≡ length rest)
  turned_step c head from h done [] name place once named was is next at = cc
  turned_step c head from h done (r ∷ rest) name place once named was is next at =
      let same_name : r.name ≡ name = (let e : Some r.name ≡ Some name = next in cc) in
      let ds = reverse done ++ h ∷ [] in
      let cut_is : c.rows ≡ ds ++ r ∷ rest = is ∙ sym (append_assoc (reverse done) (h ∷ []) (r ∷ rest)) in
      let once_w : IsOnce (ds ++ r ∷ rest) = subst (λ k. IsOnce k) cut_is once in
      let first_is : place ≡ first_or (ds ++ rest) None = at ∙ name_at-first c.rows ∙ ap (λ k. first_or k None) is ∙ first_of_cut (reverse done) h (r ∷ rest) rest ∙ ap (λ k. first_or k None) (sym (append_assoc (reverse done) (h ∷ []) rest)) in
      let n : place ≡ Some r.name → ⊥ = λ e. once_gone ds r rest once_w (named_first (ds ++ rest) r.name (sym first_is ∙ e)) in
      let all : moved c place r.name ≡ with_rows c (r ∷ (ds ++ rest)) = moves_to c ds r rest [] (ds ++ rest) place once cut_is refl first_is n in
      let rows : (moved c place name).rows ≡ r ∷ (ds ++ rest) = ap (λ q. (moved c place q).rows) (sym same_name) ∙ ap (λ (x : Chained X). x.rows) all in (
        record {
          first = h;
          done = done ++ r ∷ [];
          rest = rest;
          named = named;
          was = was ∙ ap (λ k. h ∷ k) (sym (append_assoc done (r ∷ []) rest));
          is = rows ∙ ap (λ k. r ∷ k) (append_assoc (reverse done) (h ∷ []) rest) ∙ ap (λ k. k ++ h ∷ rest) (sym (reverse-push done r));
        },
        refl,
      )

  turned_on : (c : Chained X) (head : Name) (from : List (Row Name X)) (name : Name) (place : Option Name) → IsOnce c.rows → (t : Turned head from c.rows) → next_name c head ≡ Some name → place ≡ name_at c.rows 0
      → (u : Turned head from (moved c place name).rows) × (suc (length u.rest) ≡ length t.rest)
  turned_on c head from name place once t next at = turned_step c head from t.first t.done t.rest name place once t.named t.was t.is (sym (turned_next c head from once t) ∙ next) at

  pub turned_more : (c : Chained X) (head : Name) (from : List (Row Name X)) (name : Name) (place : Option Name) → IsOnce c.rows → Turned head from c.rows → next_name c head ≡ Some name → place ≡ name_at c.rows 0 → Turned head from (moved c place name).rows
  turned_more c head from name place once t next at = (turned_on c head from name place once t next at).0

  rest_none : (rest : List (Row Name X)) → first_or rest None ≡ None → rest ≡ []
  rest_none [] e = refl
  rest_none (r ∷ rest) e = cc

  pub turned_all : (c : Chained X) (head : Name) (from : List (Row Name X)) → IsOnce c.rows → Turned head from c.rows → next_name c head ≡ None → c.rows ≡ reverse from
  turned_all c head from once t next =
      let none : t.rest ≡ [] = rest_none t.rest (sym (turned_next c head from once t) ∙ next) in
      t.is ∙ ap (λ k. reverse t.done ++ t.first ∷ k) none ∙ sym (reverse-append (t.first ∷ []) t.done) ∙ ap (λ k. reverse (t.first ∷ k)) (sym (append-nil t.done) ∙ ap (λ k. t.done ++ k) (sym none)) ∙ ap reverse (sym t.was)

  turned_left : (rows : List (Row Name X)) (head : Name) (from : List (Row Name X)) → IsOnce rows → (t : Turned head from rows) → length rows - index_of head rows ≡ suc (length t.rest)
  turned_left rows head from once t =
      let len : length rows ≡ length (reverse t.done) + suc (length t.rest) = ap length t.is ∙ length-append (reverse t.done) (t.first ∷ t.rest) in
      let i : index_of head rows ≡ length (reverse t.done) = cut_at_place rows head (reverse t.done) t.first t.rest once t.named t.is in omega arith

  -- the rows that are left to turn grow fewer
  pub turned_falls : (c : Chained X) (head : Name) (from : List (Row Name X)) (name : Name) (place : Option Name) → IsOnce c.rows → Turned head from c.rows → next_name c head ≡ Some name → place ≡ name_at c.rows 0 → IsOnce (moved c place name).rows
      → length (moved c place name).rows - index_of head (moved c place name).rows < length c.rows - index_of head c.rows
  turned_falls c head from name place once t next at once_after =
      let u = turned_on c head from name place once t next at in
      let a = turned_left c.rows head from once t in
      let b = turned_left (moved c place name).rows head from once_after u.0 in
      let e = u.1 in omega arith

  pub live_at : (c : Chained X) (i : ℕ) (a : Name) → name_at c.rows i ≡ Some a → IsLive c a
  live_at c i a e = has_live a c.rows (name_at_has c.rows i a e)

  -- a move keeps all names
  pub live_moved : (c : Chained X) (place : Option Name) (a : Name) → ((b : Name) → place ≡ Some b → IsLive c b) → IsLive c a → (q : Name) → IsLive c q → IsLive (moved c place a) q
  live_moved c place a hp ha q hq =
      let k = cut a c.rows (live_has a c.rows ha) in
      let m = move c.rows place a k (λ b e. live_has b c.rows (hp b e)) in
      let there : HasName q (moved c place a).rows = subst (λ z. HasName q z) (sym m.is) (elim (HasName-cut q k.before k.at k.after (subst (λ z. HasName q z) k.is (live_has q c.rows hq))) [
        | inl e ↦ HasName-right q m.left (k.at ∷ m.right) (inl e)
        | inr t ↦ HasName-put q m.left k.at m.right (subst (λ z. HasName q z) m.same t)
      ]) in has_live q (moved c place a).rows there

  pub length_moved : (c : Chained X) (place : Option Name) (a : Name) → ((b : Name) → place ≡ Some b → IsLive c b) → IsLive c a → length (moved c place a).rows ≡ length c.rows
  length_moved c place a hp ha =
      let k = cut a c.rows (live_has a c.rows ha) in
      let m = move c.rows place a k (λ b e. live_has b c.rows (hp b e)) in
      let x : length c.rows ≡ length k.before + suc (length k.after) = ap length k.is ∙ length-append k.before (k.at ∷ k.after) in
      let y : length (moved c place a).rows ≡ length m.left + suc (length m.right) = ap length m.is ∙ length-append m.left (k.at ∷ m.right) in
      let z : length k.before + length k.after ≡ length m.left + length m.right = sym (length-append k.before k.after) ∙ ap length m.same ∙ length-append m.left m.right in omega arith

  -- what a relinking has done: the rows in `done` stand at the end, in the order of the list
  pub record Relinked (order : List Name) (k : ℕ) (from c : Chained X) : Type 0 where
    pub rest : List (Row Name X)
    pub done : List (Row Name X)
    pub is : c.rows ≡ rest ++ done
    pub names : names done ≡ take k order
    pub rows : (a : Name) → row_of a c.rows ≡ row_of a from.rows
    pub live : (a : Name) → IsLive from a → IsLive c a
    pub length : length c.rows ≡ length from.rows
    pub next : c.next_serial ≡ from.next_serial
    pub spare : c.spare ≡ from.spare

  pub relink_start : (order : List Name) (c : Chained X) → Relinked order 0 c c
  relink_start order c = record {
    rest = c.rows;
    done = [];
    is = sym (append-nil c.rows);
    names = refl;
    rows = λ a. refl;
    live = λ a h. h;
    length = refl;
    next = refl;
    spare = refl;
  }

  -- a name of the rows at the end came earlier in the list
  named_at : (a : Name) (done : List (Row Name X)) → HasName a done → (j : ℕ) × (j < length (names done)) × (slice_get (names done) j ≡ Some a)
  named_at a [] h = absurd h
  named_at a (r ∷ done) h = elim h [
    | inl e ↦ (0, omega arith, ap Some (sym e))
    | inr t ↦ let k = named_at a done t in (suc k.0, (let lt = k.1 in omega arith), k.2)
  ]

  pub relink_more : (order : List Name) (k : ℕ) (a : Name) (from c : Chained X) → IsOrderOf order from → IsOnce c.rows → slice_get order k ≡ Some a → k < length order → Relinked order k from c → Relinked order (k + 1) from (moved c None a)
  relink_more order k a from c o once at within t =
      let live : IsLive c a = t.live a (o.live k a at) in
      let h : HasName a (t.rest ++ t.done) = subst (λ z. HasName a z) t.is (live_has a c.rows live) in
      let in_rest : HasName a t.rest = elim (HasName-either a t.rest t.done h) [
        | inl l ↦ l
        | inr d ↦
            let j = named_at a t.done d in
            let len : length (names t.done) ≡ length (take k order) = ap length t.names in
            let taken_len : length (take k order) ≡ k = length-take-le k order (omega arith) in
            let before : j.0 < k = (let lt = j.1 in omega arith) in
            let there : slice_get order j.0 ≡ Some a = sym (slice_get-take order k j.0 before) ∙ ap (λ z. slice_get z j.0) (sym t.names) ∙ j.2 in
            let same : j.0 ≡ k = o.once j.0 k a there at in absurd (omega arith)
      ] in
      let m = cut a t.rest in_rest in
      let r = m.at in
      let whole : c.rows ≡ m.before ++ r ∷ (m.after ++ t.done) = t.is ∙ ap (λ z. z ++ t.done) m.is ∙ append_assoc m.before (r ∷ m.after) t.done in
      let once_w : IsOnce (m.before ++ r ∷ (m.after ++ t.done)) = subst (λ z. IsOnce z) whole once in
      let same : m.before ++ (m.after ++ t.done) ≡ (m.before ++ (m.after ++ t.done)) ++ [] = sym (append-nil (m.before ++ (m.after ++ t.done))) in
      let n : None ≡ Some r.name → ⊥ = λ e. cc in
      let to_r : moved c None r.name ≡ with_rows c ((m.before ++ (m.after ++ t.done)) ++ r ∷ []) = moves_to c m.before r (m.after ++ t.done) (m.before ++ (m.after ++ t.done)) [] None once whole same refl n in
      let to : moved c None a ≡ with_rows c ((m.before ++ (m.after ++ t.done)) ++ r ∷ []) = ap (moved c None) m.named ∙ to_r in
      let rows : (moved c None a).rows ≡ (m.before ++ (m.after ++ t.done)) ++ r ∷ [] = ap (λ (x : Chained X). x.rows) to in
      let no_place : (b : Name) → None ≡ Some b → IsLive c b = λ b e. cc in
      record {
        rest = m.before ++ m.after;
        done = t.done ++ r ∷ [];
        is = rows ∙ ap (λ z. z ++ r ∷ []) (sym (append_assoc m.before m.after t.done)) ∙ append_assoc (m.before ++ m.after) t.done (r ∷ []);
        names = map-append (λ (x : Row Name X). x.name) t.done (r ∷ []) ∙ (λ i. t.names i ++ sym m.named i ∷ []) ∙ sym (take_more order k a within ∙ ap (λ b. take k order ++ b ∷ []) (get_or_from_slice_get order k a a at));
        rows = λ b. ap (row_of b) rows ∙ row_of-moved b m.before r (m.after ++ t.done) (m.before ++ (m.after ++ t.done)) [] once_w (once_moved m.before r (m.after ++ t.done) (m.before ++ (m.after ++ t.done)) [] once_w same) same ∙ ap (row_of b) (sym whole) ∙ t.rows b;
        live = λ b hb. live_moved c None a no_place live b (t.live b hb);
        length = length_moved c None a no_place live ∙ t.length;
        next = t.next;
        spare = t.spare;
      }
    where
      slice_get-take : (xs : List Name) (k j : ℕ) → j < k → slice_get (take k xs) j ≡ slice_get xs j
      slice_get-take xs zero j h = absurd (omega arith)
      slice_get-take [] (suc k) j h = refl
      slice_get-take (x ∷ xs) (suc k) zero h = refl
      slice_get-take (x ∷ xs) (suc k) (suc j) h = slice_get-take xs k j (omega arith)

  pub relink_all : (order : List Name) (from c : Chained X) → IsOrderOf order from → Relinked order (length order) from c → (names c.rows ≡ order) × Reorders from c
  relink_all order from c o t =
      let all : names t.done ≡ order = t.names ∙ take_all (length order) order (omega arith) in
      let len : length t.done ≡ length order = sym (length-map t.done (λ (x : Row Name X). x.name)) ∙ ap length all in
      let sum : length c.rows ≡ length t.rest + length t.done = ap length t.is ∙ length-append t.rest t.done in
      let zero_rest : length t.rest ≡ 0 = (let a = o.all in let b = t.length in omega arith) in
      let none : t.rest ≡ [] = nil_from_length t.rest zero_rest in (
        ap names (t.is ∙ ap (λ z. z ++ t.done) none) ∙ all,
        record { values = λ a. ap (option_map (λ (r : Row Name X). r.value)) (t.rows a); next = t.next; spare = t.spare },
      )

module _ {X : Type 0} where
  reverse_none : (rows : List (Row Name X)) → name_at rows 0 ≡ None → rows ≡ reverse rows
  reverse_none [] e = refl
  reverse_none (r ∷ rows) e = cc

  pub reversed_none : (c : Chained X) → name_at c.rows 0 ≡ None → c ≡ reversed c
  reversed_none c e = ap (λ rows. with_rows c rows) (reverse_none c.rows e)
