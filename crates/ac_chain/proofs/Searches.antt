-- What a search over a chain's rows has found so far, and how a test of equality answers.
use Rattle.std.proofs.Common.{◌≡◌, ◌-◌, ◌<◌, Bool, true, false, List, ◌∷◌, length, Option, Some, None, refl, sym, ap, ◌∙◌, subst, arith, []}
use Rattle.ac_base.specs.declared.name.Name.{Name}
use Rattle.ac_chain.specs.Rows.{Chained, place_of, next_name, prev_name, IsLive, IsSound, value_of}
use Rattle.ac_chain.proofs.Moves.{once_from}
use Rattle.ac_chain.specs.Search.{found_in, count_to}
use Rattle.ac_chain.proofs.Walks.{Forward, Backward, ahead, behind, forward_end, backward_end, forward_left, backward_left}
use Rattle.ac_base.specs.Rows.{Row}

module _ {T : Type 0} where
  pub some_value : (v w : T) → Some v ≡ Some w → v ≡ w
  some_value v w e = cc

  -- so far nothing was found: what is left decides
  pub record Searching (same : T → T → Bool) (e : T) (whole left : List (Row Name T)) : Type 0 where
    pub found : found_in same e left ≡ found_in same e whole

  pub search_start : (same : T → T → Bool) (e : T) (whole : List (Row Name T)) → Searching same e whole whole
  search_start same e whole = record { found = refl }

  pub first_found : (same : T → T → Bool) (e : T) (r : Row Name T) (rest : List (Row Name T)) → same r.value e ≡ true → found_in same e (r ∷ rest) ≡ Some r.name
  first_found same e r rest h = rw h refl

  pub first_passed : (same : T → T → Bool) (e : T) (r : Row Name T) (rest : List (Row Name T)) → same r.value e ≡ false → found_in same e (r ∷ rest) ≡ found_in same e rest
  first_passed same e r rest h = rw h refl

  pub search_hit : (same : T → T → Bool) (e v : T) (whole left rest : List (Row Name T)) (r : Row Name T) (a : Name) → Searching same e whole left → left ≡ r ∷ rest → a ≡ r.name → Some v ≡ Some r.value → same v e ≡ true → Some a ≡ found_in same e whole
  search_hit same e v whole left rest r a s is named value hit =
      ap Some named ∙ sym (first_found same e r rest (ap (λ w. same w e) (sym (some_value v r.value value)) ∙ hit)) ∙ ap (found_in same e) (sym is) ∙ s.found

  pub search_miss : (same : T → T → Bool) (e v : T) (whole left rest : List (Row Name T)) (r : Row Name T) → Searching same e whole left → left ≡ r ∷ rest → Some v ≡ Some r.value → same v e ≡ false → Searching same e whole rest
  search_miss same e v whole left rest r s is value miss = record {
    found = sym (first_passed same e r rest (ap (λ w. same w e) (sym (some_value v r.value value)) ∙ miss)) ∙ ap (found_in same e) (sym is) ∙ s.found;
  }

  pub search_end : (same : T → T → Bool) (e : T) (whole left : List (Row Name T)) → Searching same e whole left → left ≡ [] → None ≡ found_in same e whole
  search_end same e whole left s none = ap (found_in same e) (sym none) ∙ s.found

  -- a search from a place on, and one back
  pub record SearchingOn (c : Chained T) (same : T → T → Bool) (e : T) (whole : List (Row Name T)) (place : Option Name) : Type 0 where
    pub left : List (Row Name T)
    pub walk : Forward c place left
    pub searching : Searching same e whole left

  pub record SearchingBack (c : Chained T) (same : T → T → Bool) (e : T) (whole : List (Row Name T)) (place : Option Name) : Type 0 where
    pub left : List (Row Name T)
    pub walk : Backward c place left
    pub searching : Searching same e whole left

  module _ (c : Chained T) (sound : IsSound c) (same : T → T → Bool) (e : T) (whole : List (Row Name T)) (a : Name) where
    pub on_live : SearchingOn c same e whole (Some a) → IsLive c a
    on_live s = (ahead c (once_from c.rows sound.once) a s.left s.walk).live

    pub on_hit : (v : T) → SearchingOn c same e whole (Some a) → Some v ≡ value_of c a → same v e ≡ true → Some a ≡ found_in same e whole
    on_hit v s is hit = let k = ahead c (once_from c.rows sound.once) a s.left s.walk in search_hit same e v whole s.left k.rest k.row a s.searching k.is k.named (is ∙ k.value) hit

    pub on_miss : (v : T) → SearchingOn c same e whole (Some a) → Some v ≡ value_of c a → same v e ≡ false → (next : Option Name) → next ≡ next_name c a → SearchingOn c same e whole next
    on_miss v s is miss next n = let k = ahead c (once_from c.rows sound.once) a s.left s.walk in
        record { left = k.rest; walk = subst (λ p. Forward c p k.rest) (sym n) k.next; searching = search_miss same e v whole s.left k.rest k.row s.searching k.is (is ∙ k.value) miss }

    pub on_less : SearchingOn c same e whole (Some a) → (next : Option Name) → next ≡ next_name c a → length c.rows - place_of next c.rows < length c.rows - place_of (Some a) c.rows
    on_less s next n =
        let once = once_from c.rows sound.once in
        let k = ahead c once a s.left s.walk in
        let now = forward_left c (Some a) s.left once s.walk in
        let then = forward_left c next k.rest once (subst (λ p. Forward c p k.rest) (sym n) k.next) in
        let len : length s.left ≡ length (k.row ∷ k.rest) = ap length k.is in
        omega arith

    pub back_live : SearchingBack c same e whole (Some a) → IsLive c a
    back_live s = (behind c (once_from c.rows sound.once) a s.left s.walk).live

    pub back_hit : (v : T) → SearchingBack c same e whole (Some a) → Some v ≡ value_of c a → same v e ≡ true → Some a ≡ found_in same e whole
    back_hit v s is hit = let k = behind c (once_from c.rows sound.once) a s.left s.walk in search_hit same e v whole s.left k.rest k.row a s.searching k.is k.named (is ∙ k.value) hit

    pub back_miss : (v : T) → SearchingBack c same e whole (Some a) → Some v ≡ value_of c a → same v e ≡ false → (next : Option Name) → next ≡ prev_name c a → SearchingBack c same e whole next
    back_miss v s is miss next n = let k = behind c (once_from c.rows sound.once) a s.left s.walk in
        record { left = k.rest; walk = subst (λ p. Backward c p k.rest) (sym n) k.next; searching = search_miss same e v whole s.left k.rest k.row s.searching k.is (is ∙ k.value) miss }

    pub back_less : SearchingBack c same e whole (Some a) → (next : Option Name) → next ≡ prev_name c a → count_to next c.rows < count_to (Some a) c.rows
    back_less s next n =
        let once = once_from c.rows sound.once in
        let k = behind c once a s.left s.walk in
        let now = backward_left c (Some a) s.left once s.walk in
        let then = backward_left c next k.rest once (subst (λ p. Backward c p k.rest) (sym n) k.next) in
        let len : length s.left ≡ length (k.row ∷ k.rest) = ap length k.is in
        omega arith

  pub on_end : (c : Chained T) (same : T → T → Bool) (e : T) (whole : List (Row Name T)) → SearchingOn c same e whole None → None ≡ found_in same e whole
  on_end c same e whole s = search_end same e whole s.left s.searching (forward_end c s.left s.walk)

  pub back_end : (c : Chained T) (same : T → T → Bool) (e : T) (whole : List (Row Name T)) → SearchingBack c same e whole None → None ≡ found_in same e whole
  back_end c same e whole s = search_end same e whole s.left s.searching (backward_end c s.left s.walk)
