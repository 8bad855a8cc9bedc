-- What a comparison of a list's elements has found so far: of two lists one by one, and of each element with the one before it.
use Rattle.std.proofs.Common.{◌≡◌, suc, ◌-◌, ◌<◌, Bool, true, false, not, List, ◌∷◌, length, Option, Some, None, is_none, is_some, refl, sym, ap, ◌∙◌, subst, arith, []}
use Rattle.std.proofs.lemmas.Bool.{and_parts}
use Rattle.ac_base.specs.declared.name.Name.{Name}
use Rattle.ac_chain.specs.Rows.{Chained, place_of, next_name, IsLive, IsSound, value_of}
use Rattle.ac_pool.specs.NamedRows.{index_of, name_at}
use Rattle.ac_chain.specs.ChainFields.{first_or}
use Rattle.ac_chain.proofs.Moves.{once_from}
use Rattle.ac_base.specs.Rows.{Row, values}
use Rattle.ac_model.specs.Rows.{is_ascending}
use Rattle.ac_model.specs.Sequences.{are_equal}
use Rattle.ac_base.specs.Rows.{values}
use Rattle.ac_chain.proofs.Walks.{Forward, Ahead, ahead, forward_first, forward_end, forward_left}
use Rattle.ac_chain.proofs.Searches.{some_value}

turned : (r s : Bool) → s ≡ not r → r ≡ not s
turned true s e = sym (ap not e)
turned false s e = sym (ap not e)

module _ {T : Type 0} where
  -- two walks side by side: what is left of them decides
  pub record Comparing (same : T → T → Bool) (c d : Chained T) (here there : Option Name) : Type 0 where
    pub lefts : List (Row Name T)
    pub rights : List (Row Name T)
    pub walk_left : Forward c here lefts
    pub walk_right : Forward d there rights
    pub answer : are_equal same (values lefts) (values rights) ≡ are_equal same (values c.rows) (values d.rows)

  pub comparing_start : (same : T → T → Bool) (c d : Chained T) (here there : Option Name) → here ≡ name_at c.rows 0 → there ≡ name_at d.rows 0 → Comparing same c d here there
  comparing_start same c d here there e f = record {
    lefts = c.rows;
    rights = d.rows;
    walk_left = forward_first c here e;
    walk_right = forward_first d there f;
    answer = refl;
  }

  heads_differ : (same : T → T → Bool) (v w : T) (vs ws : List T) → same v w ≡ false → are_equal same (v ∷ vs) (w ∷ ws) ≡ false
  heads_differ same v w vs ws h = rw h refl

  heads_same : (same : T → T → Bool) (v w : T) (vs ws : List T) → same v w ≡ true → are_equal same (v ∷ vs) (w ∷ ws) ≡ are_equal same vs ws
  heads_same same v w vs ws h = rw h refl

  module _ (same : T → T → Bool) (c d : Chained T) (left_sound : IsSound c) (right_sound : IsSound d) (a b : Name) (t : Comparing same c d (Some a) (Some b)) where
    ahead_left : Ahead c a t.lefts
    ahead_left = ahead c (once_from c.rows left_sound.once) a t.lefts t.walk_left

    ahead_right : Ahead d b t.rights
    ahead_right = ahead d (once_from d.rows right_sound.once) b t.rights t.walk_right

    pub left_live : IsLive c a
    left_live = ahead_left.live

    pub right_live : IsLive d b
    right_live = ahead_right.live

    row_test : (v w : T) (r : Bool) → Some v ≡ value_of c a → Some w ≡ value_of d b → r ≡ same v w → same ahead_left.row.value ahead_right.row.value ≡ r
    row_test v w r ev ew test =
        let p = some_value v ahead_left.row.value (ev ∙ ahead_left.value) in
        let q = some_value w ahead_right.row.value (ew ∙ ahead_right.value) in
        (λ i. same (sym p i) (sym q i)) ∙ sym test

    pub compare_differs : (v w : T) (r : Bool) → Some v ≡ value_of c a → Some w ≡ value_of d b → r ≡ same v w → r ≡ false → false ≡ are_equal same (values c.rows) (values d.rows)
    compare_differs v w r ev ew test miss =
        sym (heads_differ same ahead_left.row.value ahead_right.row.value (values ahead_left.rest) (values ahead_right.rest) (row_test v w r ev ew test ∙ miss))
        ∙ (λ i. are_equal same (values (sym ahead_left.is i)) (values (sym ahead_right.is i))) ∙ t.answer

    pub compare_more : (v w : T) (r : Bool) → Some v ≡ value_of c a → Some w ≡ value_of d b → r ≡ same v w → r ≡ true → (here there : Option Name) → here ≡ next_name c a → there ≡ next_name d b → Comparing same c d here there
    compare_more v w r ev ew test hit here there eh et = record {
      lefts = ahead_left.rest;
      rights = ahead_right.rest;
      walk_left = subst (λ p. Forward c p ahead_left.rest) (sym eh) ahead_left.next;
      walk_right = subst (λ p. Forward d p ahead_right.rest) (sym et) ahead_right.next;
      answer =
          sym (heads_same same ahead_left.row.value ahead_right.row.value (values ahead_left.rest) (values ahead_right.rest) (row_test v w r ev ew test ∙ hit))
          ∙ (λ i. are_equal same (values (sym ahead_left.is i)) (values (sym ahead_right.is i))) ∙ t.answer;
    }

    pub compare_less : (here : Option Name) → here ≡ next_name c a → length c.rows - place_of here c.rows < length c.rows - place_of (Some a) c.rows
    compare_less here e =
        let once = once_from c.rows left_sound.once in
        let now = forward_left c (Some a) t.lefts once t.walk_left in
        let then = forward_left c here ahead_left.rest once (subst (λ p. Forward c p ahead_left.rest) (sym e) ahead_left.next) in
        let len : length t.lefts ≡ length (ahead_left.row ∷ ahead_left.rest) = ap length ahead_left.is in
        omega arith

  pub compare_short : (same : T → T → Bool) (c d : Chained T) → IsSound c → (a : Name) → Comparing same c d (Some a) None → false ≡ are_equal same (values c.rows) (values d.rows)
  compare_short same c d s a t =
      let k = ahead c (once_from c.rows s.once) a t.lefts t.walk_left in
      let none = forward_end d t.rights t.walk_right in
      (λ i. are_equal same (values (sym k.is i)) (values (sym none i))) ∙ t.answer

  pub compare_end : (same : T → T → Bool) (c d : Chained T) (there : Option Name) (r : Bool) → Comparing same c d None there → is_some there ≡ not r → r ≡ are_equal same (values c.rows) (values d.rows)
  compare_end same c d there r t e =
      let none = forward_end c t.lefts t.walk_left in
      turned r (is_some there) e ∙ ap is_none t.walk_right.at ∙ rest same t.rights ∙ ap (λ ls. are_equal same (values ls) (values t.rights)) (sym none) ∙ t.answer
    where
      rest : (same : T → T → Bool) (rights : List (Row Name T)) → is_none (first_or rights None) ≡ are_equal same [] (values rights)
      rest same [] = refl
      rest same (x ∷ rights) = refl

  lengths_same : (same : T → T → Bool) (vs ws : List T) → are_equal same vs ws ≡ true → length vs ≡ length ws
  lengths_same same [] [] h = refl
  lengths_same same [] (w ∷ ws) h = cc
  lengths_same same (v ∷ vs) [] h = cc
  lengths_same same (v ∷ vs) (w ∷ ws) h = ap suc (lengths_same same vs ws (and_parts (same v w) (are_equal same vs ws) h).1)

  -- a walk that compares each value with the one before it
  pub record Ascending (less : T → T → Bool) (c : Chained T) (before : Name) : Type 0 where
    pub left : List (Row Name T)
    pub walk : Forward c (Some before) left
    pub answer : is_ascending less (values left) ≡ is_ascending less (values c.rows)

  pub ascending_start : (less : T → T → Bool) (c : Chained T) (first : Name) → name_at c.rows 0 ≡ Some first → Ascending less c first
  ascending_start less c first e = record { left = c.rows; walk = forward_first c (Some first) (sym e); answer = refl }

  falls : (less : T → T → Bool) (v w : T) (vs : List T) → less w v ≡ true → is_ascending less (v ∷ w ∷ vs) ≡ false
  falls less v w vs h = rw h refl

  rises : (less : T → T → Bool) (v w : T) (vs : List T) → less w v ≡ false → is_ascending less (v ∷ w ∷ vs) ≡ is_ascending less (w ∷ vs)
  rises less v w vs h = rw h refl

  module _ (less : T → T → Bool) (c : Chained T) (sound : IsSound c) (before : Name) (t : Ascending less c before) where
    first : Ahead c before t.left
    first = ahead c (once_from c.rows sound.once) before t.left t.walk

    pub before_live : IsLive c before
    before_live = first.live

    pub ascending_end : None ≡ next_name c before → true ≡ is_ascending less (values c.rows)
    ascending_end e =
        let none = forward_end c first.rest (subst (λ p. Forward c p first.rest) (sym e) first.next) in
        ap (λ rows. is_ascending less (values (first.row ∷ rows))) (sym none) ∙ ap (λ rows. is_ascending less (values rows)) (sym first.is) ∙ t.answer

    module _ (name : Name) (e : Some name ≡ next_name c before) where
      second : Ahead c name first.rest
      second = ahead c (once_from c.rows sound.once) name first.rest (subst (λ p. Forward c p first.rest) (sym e) first.next)

      pub name_live : IsLive c name
      name_live = second.live

      two : t.left ≡ first.row ∷ second.row ∷ second.rest
      two = first.is ∙ ap (λ rows. first.row ∷ rows) second.is

      row_less : (v w : T) (r : Bool) → Some w ≡ value_of c name → Some v ≡ value_of c before → r ≡ less w v → less second.row.value first.row.value ≡ r
      row_less v w r ew ev er =
          let p = some_value w second.row.value (ew ∙ second.value) in
          let q = some_value v first.row.value (ev ∙ first.value) in
          (λ i. less (sym p i) (sym q i)) ∙ sym er

      pub ascending_falls : (v w : T) (r : Bool) → Some w ≡ value_of c name → Some v ≡ value_of c before → r ≡ less w v → r ≡ true → false ≡ is_ascending less (values c.rows)
      ascending_falls v w r ew ev er hit =
          sym (falls less first.row.value second.row.value (values second.rest) (row_less v w r ew ev er ∙ hit)) ∙ ap (λ rows. is_ascending less (values rows)) (sym two) ∙ t.answer

      pub ascending_more : (v w : T) (r : Bool) → Some w ≡ value_of c name → Some v ≡ value_of c before → r ≡ less w v → r ≡ false → Ascending less c name
      ascending_more v w r ew ev er miss = record {
        left = first.rest;
        walk = subst (λ p. Forward c p first.rest) (sym e) first.next;
        answer = ap (λ rows. is_ascending less (values rows)) second.is
            ∙ sym (rises less first.row.value second.row.value (values second.rest) (row_less v w r ew ev er ∙ miss)) ∙ ap (λ rows. is_ascending less (values rows)) (sym two) ∙ t.answer;
      }

      pub ascending_less : length c.rows - index_of name c.rows < length c.rows - index_of before c.rows
      ascending_less =
          let once = once_from c.rows sound.once in
          let now = forward_left c (Some before) t.left once t.walk in
          let then = forward_left c (Some name) first.rest once (subst (λ p. Forward c p first.rest) (sym e) first.next) in
          let len : length t.left ≡ length (first.row ∷ first.rest) = ap length first.is in
          omega arith
