-- What a list is after rows changed places, each with its name.
use Rattle.std.proofs.Common.{◌≡◌, ◌≢◌, ◌⊎◌, ℕ, suc, ◌<◌, List, ◌∷◌, ◌++◌, length, Option, Some, None, Result, Ok, Err, refl, sym, ap, ◌∙◌, subst, inl, inr, arith, eq-eqb, ne_eqb, append-nil, append_assoc, []}
use Rattle.std.specs.Prelude.{◌==◌, slice_get, if◌then◌else◌}
use Rattle.std.specs.Option.{option_map, ForSome}
use Rattle.std.specs.List.{swap}
use Rattle.std.proofs.Math.Nat.{suc-add}
use Rattle.std.proofs.lemmas.Bool.{cases_eq, cases_lt, cond-true, cond-false}
use Rattle.std.proofs.lemmas.Option.{none-some, slice_get-get_or, slice_get-map, slice_get_past}
use Rattle.std.proofs.lemmas.List.Edits.{length-swap, swapped_from_swap}
use Rattle.ac_base.specs.declared.name.Name.{Name}
use Rattle.ac_base.specs.declared.fault.Fault.{Fault}
use Rattle.ac_base.specs.declared.fault.Fault.TheVariants as fault
use Rattle.ac_base.specs.declared.cursor.Cursor.{Cursor}
use Rattle.ac_chain.specs.Rows.{Chained, place_of, IsLive, IsSound, moved, moved_rows}
use Rattle.ac_pool.specs.NamedRows.{index_of, name_at, HasName, IsOnce}
use Rattle.ac_chain.specs.ChainFields.{first_or}
use Rattle.ac_pool.proofs.Cuts.{live_has, has_live, cut-row, name_at_has, index_of-cut, apart, once_cut, HasName-put, HasName-cut, HasName-right}
use Rattle.ac_pool.proofs.Cuts.{cut as cut_at}
use Rattle.ac_chain.proofs.Chains.{index_at}
use Rattle.ac_chain.proofs.Moves.{once_from, move, moved_itself}
use Rattle.ac_model.specs.Rows as model
use Rattle.ac_base.specs.Rows.{Row, row}
use Rattle.ac_model.specs.Rows.{named, cut, put, with_exchanged_rows}
use Rattle.ac_model.specs.Objects.{Object, plain}
use Rattle.ac_model.specs.Letters.{mark_at}
use Rattle.ac_model.specs.Lists.{moved_before, one_row, splice_within_call, splice_one_self_call}
use Rattle.ac_model.specs.Calls.{Changing, Same, Marks, Done}
use Rattle.ac_model.proofs.RowLaws.{at_its_place}
use Rattle.ac_model.specs.Objects.{plains}
use Rattle.ac_model.specs.Cursors.{mark}
use Rattle.ac_chain.proofs.Marks.{Alone, alone, place_is}
use Rattle.ac_model.proofs.Plains.{slice_get-plains}
use Rattle.ac_model.proofs.Plains.{plains-append, length-plains}
use Rattle.ac_chain.proofs.Grows.{put_cut, past_end}

pub same_rows : {A : Type 0} (xs ys : List A) → ((i : ℕ) → slice_get xs i ≡ slice_get ys i) → xs ≡ ys
same_rows [] [] h = refl
same_rows [] (y ∷ ys) h = absurd (none-some y (h 0))
same_rows (x ∷ xs) [] h = absurd (none-some x (sym (h 0)))
same_rows (x ∷ xs) (y ∷ ys) h =
    let first : Some x ≡ Some y = h 0 in let same : x ≡ y = cc in
    let rest = same_rows xs ys (λ i. h (suc i)) in λ i. same i ∷ rest i

-- the serial of a place, and 0 for the end
abbrev pub serial_at : Option Name → ℕ
serial_at None = 0
serial_at (Some b) = b.serial

-- where a row stood before two rows changed places
abbrev pub WasAt : ℕ → ℕ → ℕ → ℕ → Type 0
WasAt i j m n = ((m ≡ i) × (n ≡ j)) ⊎ (((m ≡ j) × (n ≡ i)) ⊎ ((m ≢ i) × (m ≢ j) × (n ≡ m)))

module _ {X : Type 0} where
  abbrev plain_of : Row Name X → Row ℕ X
  plain_of r = row r.name.serial r.value

  swap_first : (rows : List (Row Name X)) (d : Row Name X) (i j : ℕ) → i < length rows → j < length rows → slice_get (swap rows i j) i ≡ slice_get rows j
  swap_first rows d i j hi hj =
      let e = length-swap rows i j in
      slice_get-get_or (swap rows i j) i d (omega arith) ∙ ap Some (swapped_from_swap rows (swap rows i j) i j d hi hj refl).0 ∙ sym (slice_get-get_or rows j d hj)

  swap_second : (rows : List (Row Name X)) (d : Row Name X) (i j : ℕ) → i < length rows → j < length rows → slice_get (swap rows i j) j ≡ slice_get rows i
  swap_second rows d i j hi hj =
      let e = length-swap rows i j in
      slice_get-get_or (swap rows i j) j d (omega arith) ∙ ap Some (swapped_from_swap rows (swap rows i j) i j d hi hj refl).1 ∙ sym (slice_get-get_or rows i d hi)

  swap_other : (rows : List (Row Name X)) (d : Row Name X) (i j m : ℕ) → i < length rows → j < length rows → m ≢ i → m ≢ j → slice_get (swap rows i j) m ≡ slice_get rows m
  swap_other rows d i j m hi hj ni nj =
      let e = length-swap rows i j in
      elim (cases_lt m (length rows)) [
        | inl lt ↦ slice_get-get_or (swap rows i j) m d (omega arith) ∙ ap Some ((swapped_from_swap rows (swap rows i j) i j d hi hj refl).2 m ni nj) ∙ sym (slice_get-get_or rows m d lt)
        | inr le ↦ slice_get_past (swap rows i j) m (omega arith) ∙ sym (slice_get_past rows m le)
      ]

  named_row : (rows : List (Row Name X)) (a : Name) (r : Row Name X) → Alone a rows → slice_get rows (index_of a rows) ≡ Some r → named (plains rows) a.serial ≡ Some (plain_of r)
  named_row rows a r h is = sym (at_its_place (plains rows) a.serial) ∙ ap (slice_get (plains rows)) (place_is a rows h) ∙ slice_get-plains rows (index_of a rows) ∙ ap (option_map plain_of) is

  -- a row under the name's serial stands at the name's place
  its_place : (rows : List (Row Name X)) (a : Name) (m : ℕ) (r : Row Name X) → IsOnce rows → Alone a rows → slice_get rows m ≡ Some r → r.name.serial ≡ a.serial → m ≡ index_of a rows
  unfolding Alone
  its_place rows a m r once h is e =
      let name : name_at rows m ≡ Some r.name = ap (option_map (λ (q : Row Name X). q.name)) is in
      let same : r.name ≡ a = h r.name (name_at_has rows m r.name name) e in
      sym (index_at rows once m a (name ∙ ap Some same)).1

  abbrev exchange : List (Row ℕ X) → ℕ → ℕ → Row ℕ X → Row ℕ X
  exchange rows first second r =
      if r.name == first then model.instead r (named rows second)
      else if r.name == second then model.instead r (named rows first)
      else r

  pub exchanged_row : (rows : List (Row Name X)) (a b : Name) (ra rb : Row Name X) → IsOnce rows → Alone a rows → Alone b rows
      → slice_get rows (index_of a rows) ≡ Some ra → ra.name ≡ a → slice_get rows (index_of b rows) ≡ Some rb → rb.name ≡ b → index_of a rows < length rows → index_of b rows < length rows
      → (m : ℕ) → slice_get (plains (swap rows (index_of a rows) (index_of b rows))) m ≡ slice_get (with_exchanged_rows (plains rows) a.serial b.serial) m
  exchanged_row rows a b ra rb once ha hb at_a name_a at_b name_b la lb m =
      let i = index_of a rows in
      let j = index_of b rows in
      let E = exchange (plains rows) a.serial b.serial in
      let named_a = named_row rows a ra ha at_a in
      let named_b = named_row rows b rb hb at_b in
      let left = slice_get-plains (swap rows i j) m in
      let right : slice_get (with_exchanged_rows (plains rows) a.serial b.serial) m ≡ option_map E (option_map plain_of (slice_get rows m)) =
      slice_get-map E (plains rows) m ∙ ap (option_map E) (slice_get-plains rows m) in
      let serial_a : ra.name.serial ≡ a.serial = ap (λ (n : Name). n.serial) name_a in
      let serial_b : rb.name.serial ≡ b.serial = ap (λ (n : Name). n.serial) name_b in
      left ∙ elim (cases_eq m i) [
        | inl e ↦
            let here : E (plain_of ra) ≡ plain_of rb = cond-true _ _ _ (eq-eqb ra.name.serial a.serial serial_a) ∙ ap (model.instead (plain_of ra)) named_b in
            ap (option_map plain_of) (ap (slice_get (swap rows i j)) e ∙ swap_first rows ra i j la lb ∙ at_b) ∙ ap Some (sym here) ∙ sym (ap (λ o. option_map E (option_map plain_of o)) (ap (slice_get rows) e ∙ at_a))
        | inr ni ↦ elim (cases_eq m j) [
          | inl e ↦
              let differ : rb.name.serial ≢ a.serial = λ q. ni (its_place rows a m rb once ha (ap (slice_get rows) e ∙ at_b) q) in
              let here : E (plain_of rb) ≡ plain_of ra = cond-false _ _ _ (ne_eqb rb.name.serial a.serial differ) ∙ cond-true _ _ _ (eq-eqb rb.name.serial b.serial serial_b) ∙ ap (model.instead (plain_of rb)) named_a in
              ap (option_map plain_of) (ap (slice_get (swap rows i j)) e ∙ swap_second rows ra i j la lb ∙ at_a) ∙ ap Some (sym here) ∙ sym (ap (λ o. option_map E (option_map plain_of o)) (ap (slice_get rows) e ∙ at_b))
          | inr nj ↦ ap (option_map plain_of) (swap_other rows ra i j m la lb ni nj) ∙ other (slice_get rows m) refl ni nj
        ]
      ] ∙ sym right
    where
      other : (o : Option (Row Name X)) → slice_get rows m ≡ o → m ≢ index_of a rows → m ≢ index_of b rows → option_map plain_of (slice_get rows m) ≡ option_map (exchange (plains rows) a.serial b.serial) (option_map plain_of (slice_get rows m))
      other None is ni nj = rw is refl
      other (Some r) is ni nj =
          let na : r.name.serial ≢ a.serial = λ q. ni (its_place rows a m r once ha is q) in
          let nb : r.name.serial ≢ b.serial = λ q. nj (its_place rows b m r once hb is q) in
          let here : exchange (plains rows) a.serial b.serial (plain_of r) ≡ plain_of r = cond-false _ _ _ (ne_eqb r.name.serial a.serial na) ∙ cond-false _ _ _ (ne_eqb r.name.serial b.serial nb) in
          rw is (ap Some (sym here))

  pub swap_was : (rows : List (Row Name X)) (d : Row Name X) (i j : ℕ) → i < length rows → j < length rows → (m : ℕ) → (n : ℕ) × (slice_get (swap rows i j) m ≡ slice_get rows n) × WasAt i j m n
  swap_was rows d i j hi hj m = elim (cases_eq m i) [
    | inl e ↦ (j, ap (slice_get (swap rows i j)) e ∙ swap_first rows d i j hi hj, inl (e, refl))
    | inr ni ↦ elim (cases_eq m j) [
      | inl e ↦ (i, ap (slice_get (swap rows i j)) e ∙ swap_second rows d i j hi hj, inr (inl (e, refl)))
      | inr nj ↦ (m, swap_other rows d i j m hi hj ni nj, inr (inr (ni, nj, refl)))
    ]
  ]

  pub swap_had : (rows : List (Row Name X)) (i j : ℕ) → i < length rows → j < length rows → (c : Name) → HasName c (swap rows i j) → HasName c rows
  swap_had rows i j hi hj c h =
      let k = cut_at c (swap rows i j) h in
      let m = index_of c (swap rows i j) in
      let name : name_at (swap rows i j) m ≡ Some c = ap (option_map (λ (q : Row Name X). q.name)) (cut-row c (swap rows i j) k) ∙ ap Some (sym k.named) in
      let was = swap_was rows k.at i j hi hj m in
      name_at_has rows was.0 c (sym (ap (option_map (λ (q : Row Name X). q.name)) was.1) ∙ name)

  cut_one : (xs : List (Row ℕ X)) (y : Row ℕ X) (ys : List (Row ℕ X)) → cut (xs ++ y ∷ ys) (length xs) 1 ≡ xs ++ ys
  cut_one [] y ys = refl
  cut_one (x ∷ xs) y ys = rw (suc-add (length xs) 1) (ap (λ zs. x ∷ zs) (cut_one xs y ys))

  -- a place before what is right of it
  seam : (k : Chained X) (place : Option Name) (left right : List (Row Name X)) → IsSound k → IsOnce (left ++ right) → ((b : Name) → HasName b (left ++ right) → HasName b k.rows)
      → place ≡ first_or right None → model.place_of (plains (left ++ right)) (serial_at place) ≡ length (plains left)
  unfolding Alone
  seam k place left [] s once had e =
      ap (λ p. model.place_of (plains (left ++ [])) (serial_at p)) e
      ∙ past_end (left ++ []) (λ b t. (s.issued b (has_live b k.rows (had b t))).0)
      ∙ ap (λ zs. length (plains zs)) (append-nil left)
  seam k place left (r ∷ right) s once had e =
      let here : HasName r.name (left ++ r ∷ right) = HasName-right r.name left (r ∷ right) (inl refl) in
      let live = has_live r.name k.rows (had r.name here) in
      ap (λ p. model.place_of (plains (left ++ r ∷ right)) (serial_at p)) e
      ∙ place_is r.name (left ++ r ∷ right) (λ b t q. alone k r.name s live b (had b t) q)
      ∙ index_of-cut left r right (λ t. apart left (r ∷ right) once r.name t (inl refl))
      ∙ sym (length-plains left)

  pub moved_plain : (k : Chained X) (place : Option Name) (a : Name) → IsSound k → ForSome place (IsLive k) → IsLive k a
      → plains (moved_rows k.rows (index_of a k.rows) (place_of place k.rows)) ≡ moved_before (plains k.rows) (mark_at 0 (serial_at place)) (mark_at 0 a.serial)
  unfolding Alone
  moved_plain k place a s hp ha = elim (cases_eq (serial_at place) a.serial) [
    | inl e ↦
        let itself : place ≡ Some a = same place hp e in
        ap (λ (d : Chained X). plains d.rows) (moved_itself k place a ha itself) ∙ sym (cond-true _ _ _ (eq-eqb (serial_at place) a.serial e))
    | inr n ↦ elsewhere n ∙ sym (cond-false _ _ _ (ne_eqb (serial_at place) a.serial n))
  ]
    where
      same : (p : Option Name) → ForSome p (IsLive k) → serial_at p ≡ a.serial → p ≡ Some a
      same None h e = absurd (let some = (s.issued a ha).0 in omega arith)
      same (Some b) h e = ap Some (alone k a s ha b (live_has b k.rows (h b refl)) e)

      elsewhere : serial_at place ≢ a.serial → plains (moved_rows k.rows (index_of a k.rows) (place_of place k.rows))
          ≡ put (cut (plains k.rows) (model.place_of (plains k.rows) a.serial) 1) (model.place_of (cut (plains k.rows) (model.place_of (plains k.rows) a.serial) 1) (serial_at place)) (one_row (named (plains k.rows) a.serial))
      elsewhere n =
          let once = once_from k.rows s.once in
          let c = cut_at a k.rows (live_has a k.rows ha) in
          let m = move k.rows place a c (λ b e. live_has b k.rows (hp b e)) in
          let P = plains k.rows in
          let are : P ≡ plains c.before ++ plain_of c.at ∷ plains c.after = ap plains c.is ∙ plains-append c.before (c.at ∷ c.after) in
          let at : model.place_of P a.serial ≡ length (plains c.before) = place_is a k.rows (alone k a s ha) ∙ c.place ∙ sym (length-plains c.before) in
          let left : cut P (model.place_of P a.serial) 1 ≡ plains (m.left ++ m.right) =
          (λ i. cut (are i) (at i) 1) ∙ cut_one (plains c.before) (plain_of c.at) (plains c.after) ∙ sym (plains-append c.before c.after) ∙ ap plains m.same in
          let once_left : IsOnce (m.left ++ m.right) = subst (λ zs. IsOnce zs) m.same (once_cut c.before c.at c.after (subst (λ zs. IsOnce zs) c.is once)) in
          let had : (b : Name) → HasName b (m.left ++ m.right) → HasName b k.rows = λ b t. subst (λ zs. HasName b zs) (sym c.is) (HasName-put b c.before c.at c.after (subst (λ zs. HasName b zs) (sym m.same) t)) in
          let not_itself : place ≡ Some c.at.name → ⊥ = λ e. n (ap serial_at e ∙ ap (λ (q : Name). q.serial) (sym c.named)) in
          let spot = seam k place m.left m.right s once_left had (m.named not_itself) in
          let one : named P a.serial ≡ Some (plain_of c.at) = named_row k.rows a c.at (alone k a s ha) (cut-row a k.rows c) in
          let split = plains-append m.left m.right in
          let there : plains (m.left ++ c.at ∷ m.right) ≡ plains m.left ++ plain_of c.at ∷ plains m.right = plains-append m.left (c.at ∷ m.right) in
          let back : put (plains m.left ++ plains m.right) (length (plains m.left)) (plain_of c.at ∷ []) ≡ plains m.left ++ plain_of c.at ∷ plains m.right = put_cut (plains m.left) (plains m.right) (plain_of c.at ∷ []) ∙ append_assoc (plains m.left) (plain_of c.at ∷ []) (plains m.right) in
          let whole : put (plains (m.left ++ m.right)) (model.place_of (plains (m.left ++ m.right)) (serial_at place)) (one_row (named P a.serial)) ≡ put (plains m.left ++ plains m.right) (length (plains m.left)) (plain_of c.at ∷ []) =
          λ i. put (split i) (spot i) (one_row (one i)) in
          ap plains m.is ∙ there ∙ sym back ∙ sym whole ∙ (λ i. put (sym left i) (model.place_of (sym left i) (serial_at place)) (one_row (named P a.serial)))

  pub move_had : (k : Chained X) (place : Option Name) (a : Name) → ForSome place (IsLive k) → IsLive k a → (b : Name) → HasName b (moved k place a).rows → HasName b k.rows
  move_had k place a hp ha b h =
      let c = cut_at a k.rows (live_has a k.rows ha) in
      let m = move k.rows place a c (λ d e. live_has d k.rows (hp d e)) in
      elim (HasName-cut b m.left c.at m.right (subst (λ zs. HasName b zs) m.is h)) [
        | inl e ↦ subst (λ zs. HasName b zs) (sym c.is) (HasName-right b c.before (c.at ∷ c.after) (inl e))
        | inr t ↦ subst (λ zs. HasName b zs) (sym c.is) (HasName-put b c.before c.at c.after (subst (λ zs. HasName b zs) (sym m.same) t))
      ]

  -- the variable of an element that is moved keeps its value
  pub position_kept : (o new : Object Name X) (b q : Cursor) (r : Result Done Fault) → mark new q ≡ mark o q → Changing Same (splice_within_call (plain o) (mark o b) (mark o q)) o new r
      → Changing (λ _ m. Marks new q m) (splice_one_self_call (plain o) (mark o b) (mark o q)) o new r
  position_kept o new b q (Ok x) kept h = (h.0, h.1, kept)
  position_kept o new b q (Err (fault.Raised reason)) kept h = h
  position_kept o new b q (Err fault.NoMemory) kept h = h
