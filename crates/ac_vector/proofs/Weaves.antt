-- Rows on two stacks, taken off in the order of both.
use Rattle.std.proofs.Common.{◌≡◌, ℕ, ◌+◌, ◌-◌, ◌≤◌, Bool, true, false, List, [], ◌∷◌, ◌++◌, length, map, reverse, take, drop, Some, None, refl, sym, ap, ◌∙◌, subst, inl, inr, arith, append_assoc, append-nil, length-append}
use Rattle.std.proofs.lemmas.Bool.{cond-true, cond-false}
use Rattle.std.proofs.lemmas.List.{map-append, length-map, length-reverse, nil_from_length, reverse-append}
use Rattle.std.proofs.Math.Seq.{take-append_seam, drop-append_seam}
use Rattle.ac_base.specs.declared.name.Name.{Name}
use Rattle.ac_base.specs.Rows.{Row, names, values}
use Rattle.ac_pool.specs.Contents.{Contents}
use Rattle.ac_pool.specs.Link.{name_in}
use Rattle.ac_pool.specs.NamedRows.{HasName, IsOnce}
use Rattle.ac_pool.proofs.Cuts.{HasName-cut, HasName-put, HasName-right, once_cut, once_gone, once_put}
use Rattle.ac_model.specs.Objects.{plain_row, plains}
use Rattle.ac_model.specs.Rows.{merged}
use Rattle.ac_model.proofs.Plains.{plains-append}
use Rattle.ac_model.proofs.RowLaws.{merged_heads}
use Rattle.ac_vector.specs.declared.weaving.Line.{Line}
use Rattle.ac_vector.specs.Stacks.{IsNext, Weaves, is_second, line_row, stacked}
use Rattle.ac_vector.proofs.Arrays.{rows_in-parts}
use Rattle.ac_vector.proofs.Slots.{Last, last_of}
use Rattle.ac_vector.specs.ArrayFields.{names_in, rows_in, slots_of}

module _ {X : Type 0} where
  stacked-push : (lines : List (Line X)) (l : Line X) → stacked (lines ++ l ∷ []) ≡ line_row l ∷ stacked lines
  stacked-push lines l = ap (map line_row) (reverse-append lines (l ∷ []))

  pub length-stacked : (lines : List (Line X)) → length (stacked lines) ≡ length lines
  length-stacked lines = length-map (reverse lines) line_row ∙ length-reverse lines

  -- so far: so many rows went from two lists to a stack
  pub record Stacking (p : Contents ℕ) (js : List ℕ) (vs : List X) (start : List (Line X)) (i : ℕ) (ks : List ℕ) (ws : List X) (now : List (Line X)) : Type 0 where
    pub live : ks ≡ slots_of (names_in p ks)
    pub named : names_in p ks ++ names (stacked now) ≡ names_in p js ++ names (stacked start)
    pub valued : ws ++ values (stacked now) ≡ vs ++ values (stacked start)
    pub more : length now ≡ length start + i
    pub slots_left : length ks + i ≡ length js
    pub values_left : length ws + i ≡ length vs

  pub stacking_start : (p : Contents ℕ) (js : List ℕ) (vs : List X) (start : List (Line X)) → js ≡ slots_of (names_in p js) → Stacking p js vs start 0 js vs start
  stacking_start p js vs start live = record { live = live; named = refl; valued = refl; more = omega arith; slots_left = omega arith; values_left = omega arith }

  -- the last slot leads to a name
  pub stacking_name : (p : Contents ℕ) (js : List ℕ) (vs : List X) (start : List (Line X)) (i : ℕ) (ks ls : List ℕ) (k : ℕ) (ws : List X) (now : List (Line X)) → Stacking p js vs start i ks ws now → ks ≡ ls ++ k ∷ [] → Last p ls k
  stacking_name p js vs start i ks ls k ws now s are = last_of p ls k (subst (λ zs. zs ≡ slots_of (names_in p zs)) are s.live)

  pub stacking_more : (p : Contents ℕ) (js : List ℕ) (vs : List X) (start : List (Line X)) (i : ℕ) (ks ls : List ℕ) (k : ℕ) (ws us : List X) (now then : List (Line X)) (l : Line X) → Stacking p js vs start i ks ws now
      → ks ≡ ls ++ k ∷ [] → Some l.name ≡ name_in p k → ws ≡ us ++ l.value ∷ [] → then ≡ now ++ l ∷ [] → Stacking p js vs start (i + 1) ls us then
  stacking_more p js vs start i ks ls k ws us now then l s slots_are name_is valued pushed =
      let top : stacked then ≡ line_row l ∷ stacked now = ap stacked pushed ∙ stacked-push now l in
      let d = stacking_name p js vs start i ks ls k ws now s slots_are in
      let same : d.name ≡ l.name = (let e : Some l.name ≡ Some d.name = name_is ∙ d.is in cc) in
      let named : names_in p ks ≡ names_in p ls ++ l.name ∷ [] = ap (names_in p) slots_are ∙ d.all ∙ ap (λ a. names_in p ls ++ a ∷ []) same in
      let more = s.more in let slots_left = s.slots_left in let values_left = s.values_left in
      let count = ap length pushed ∙ length-append now (l ∷ []) in
      let fewer_slots = ap length slots_are ∙ length-append ls (k ∷ []) in
      let fewer_values = ap length valued ∙ length-append us (l.value ∷ []) in
      record {
        live = d.live;
        named = ap (λ zs. names_in p ls ++ names zs) top ∙ sym (append_assoc (names_in p ls) (l.name ∷ []) (names (stacked now))) ∙ ap (λ zs. zs ++ names (stacked now)) (sym named) ∙ s.named;
        valued = ap (λ zs. us ++ values zs) top ∙ sym (append_assoc us (l.value ∷ []) (values (stacked now))) ∙ ap (λ zs. zs ++ values (stacked now)) (sym valued) ∙ s.valued;
        more = omega arith;
        slots_left = omega arith;
        values_left = omega arith;
      }

  same_rows : (xs ys : List (Row Name X)) → names xs ≡ names ys → values xs ≡ values ys → xs ≡ ys
  same_rows xs ys e f = sym (rows_in-parts xs) ∙ (λ i. rows_in (e i) (f i)) ∙ rows_in-parts ys

  -- all rows went to two stacks, those behind the seam first
  pub record Unstacked (rs : List (Row Name X)) (seam : ℕ) (mine theirs : List (Line X)) : Type 0 where
    pub before : stacked mine ≡ take seam rs
    pub behind : stacked theirs ≡ drop seam rs

  module _ (rs : List (Row Name X)) (seam behind : ℕ) (fits : seam ≤ length rs) (rest : behind ≡ length rs - seam) (js ks : List Name) (us ws : List X) (mine theirs : List (Line X))
      (counts : length theirs ≡ behind) (count : length mine ≡ seam)
      (names_first : js ++ names (stacked theirs) ≡ names rs) (values_first : us ++ values (stacked theirs) ≡ values rs)
      (names_then : ks ++ names (stacked mine) ≡ js) (values_then : ws ++ values (stacked mine) ≡ us) where
    all_names : ks ++ (names (stacked mine) ++ names (stacked theirs)) ≡ names rs
    all_names = sym (append_assoc ks (names (stacked mine)) (names (stacked theirs))) ∙ ap (λ zs. zs ++ names (stacked theirs)) names_then ∙ names_first

    all_values : ws ++ (values (stacked mine) ++ values (stacked theirs)) ≡ values rs
    all_values = sym (append_assoc ws (values (stacked mine)) (values (stacked theirs))) ∙ ap (λ zs. zs ++ values (stacked theirs)) values_then ∙ values_first

    no_more_names : ks ≡ []
    no_more_names =
        let m = length-map (stacked mine) (λ (r : Row Name X). r.name) ∙ length-stacked mine in
        let t = length-map (stacked theirs) (λ (r : Row Name X). r.name) ∙ length-stacked theirs in
        let all = sym (length-map rs (λ (r : Row Name X). r.name)) ∙ ap length (sym all_names) ∙ length-append ks (names (stacked mine) ++ names (stacked theirs)) in
        nil_from_length ks (omega (arith, length-append (names (stacked mine)) (names (stacked theirs))))

    no_more_values : ws ≡ []
    no_more_values =
        let m = length-map (stacked mine) (λ (r : Row Name X). r.value) ∙ length-stacked mine in
        let t = length-map (stacked theirs) (λ (r : Row Name X). r.value) ∙ length-stacked theirs in
        let all = sym (length-map rs (λ (r : Row Name X). r.value)) ∙ ap length (sym all_values) ∙ length-append ws (values (stacked mine) ++ values (stacked theirs)) in
        nil_from_length ws (omega (arith, length-append (values (stacked mine)) (values (stacked theirs))))

    together : stacked mine ++ stacked theirs ≡ rs
    together =
        same_rows (stacked mine ++ stacked theirs) rs
        (map-append (λ (r : Row Name X). r.name) (stacked mine) (stacked theirs) ∙ ap (λ zs. zs ++ (names (stacked mine) ++ names (stacked theirs))) (sym no_more_names) ∙ all_names)
        (map-append (λ (r : Row Name X). r.value) (stacked mine) (stacked theirs) ∙ ap (λ zs. zs ++ (values (stacked mine) ++ values (stacked theirs))) (sym no_more_values) ∙ all_values)

    seam_is : length (stacked mine) ≡ seam
    seam_is = length-stacked mine ∙ count

    pub unstacked : Unstacked rs seam mine theirs
    unstacked = record {
      before = sym (take-append_seam (stacked mine) (stacked theirs)) ∙ (λ i. take (seam_is i) (together i));
      behind = sym (drop-append_seam (stacked mine) (stacked theirs)) ∙ (λ i. drop (seam_is i) (together i));
    }

  -- a row goes before those in the middle
  module _ (xs ys : List (Row Name X)) (r : Row Name X) (zs : List (Row Name X)) where
    before_mid : xs ++ (ys ++ r ∷ zs) ≡ (xs ++ ys) ++ r ∷ zs
    before_mid = sym (append_assoc xs ys (r ∷ zs))

    behind_front : (xs ++ r ∷ []) ++ (ys ++ zs) ≡ xs ++ r ∷ (ys ++ zs)
    behind_front = append_assoc xs (r ∷ []) (ys ++ zs)

    shift_there : (a : Name) → HasName a (xs ++ (ys ++ r ∷ zs)) → HasName a ((xs ++ r ∷ []) ++ (ys ++ zs))
    shift_there a h = subst (λ ws. HasName a ws) (sym behind_front) (elim (HasName-cut a (xs ++ ys) r zs (subst (λ ws. HasName a ws) before_mid h)) [
      | inl e ↦ HasName-right a xs (r ∷ (ys ++ zs)) (inl e)
      | inr t ↦ HasName-put a xs r (ys ++ zs) (subst (λ ws. HasName a ws) (append_assoc xs ys zs) t)
    ])

    shift_from : (a : Name) → HasName a ((xs ++ r ∷ []) ++ (ys ++ zs)) → HasName a (xs ++ (ys ++ r ∷ zs))
    shift_from a h = subst (λ ws. HasName a ws) (sym before_mid) (elim (HasName-cut a xs r (ys ++ zs) (subst (λ ws. HasName a ws) behind_front h)) [
      | inl e ↦ HasName-right a (xs ++ ys) (r ∷ zs) (inl e)
      | inr t ↦ HasName-put a (xs ++ ys) r zs (subst (λ ws. HasName a ws) (sym (append_assoc xs ys zs)) t)
    ])

    shift_alone : IsOnce (xs ++ (ys ++ r ∷ zs)) → IsOnce ((xs ++ r ∷ []) ++ (ys ++ zs))
    shift_alone h =
        let all : IsOnce ((xs ++ ys) ++ r ∷ zs) = subst (λ ws. IsOnce ws) before_mid h in
        let same = append_assoc xs ys zs in
        subst (λ ws. IsOnce ws) (sym behind_front)
        (once_put xs r (ys ++ zs) (subst (λ ws. IsOnce ws) same (once_cut (xs ++ ys) r zs all)) (λ t. once_gone (xs ++ ys) r zs all (subst (λ ws. HasName r.name ws) (sym same) t)))

    shift_long : length (xs ++ r ∷ []) + (length ys + length zs) ≡ length xs + (length ys + length (r ∷ zs))
    shift_long = omega (arith, length-append xs (r ∷ []))

  module _ (less : X → X → Bool) where
    -- the row that comes first in a merge
    second_first : (rows : List (Row Name X)) (r : Row Name X) (others : List (Row Name X)) → is_second less rows (r ∷ others) ≡ true → merged less (plains rows) (plains (r ∷ others)) ≡ plain_row r ∷ merged less (plains rows) (plains others)
    second_first [] r others t = refl
    second_first (m ∷ rows) r others t = merged_heads less (plain_row m) (plain_row r) (plains rows) (plains others) ∙ cond-true _ _ _ t

    first_first : (r : Row Name X) (rows others : List (Row Name X)) → is_second less (r ∷ rows) others ≡ false → merged less (plains (r ∷ rows)) (plains others) ≡ plain_row r ∷ merged less (plains rows) (plains others)
    first_first r rows [] f = refl
    first_first r rows (s ∷ others) f = merged_heads less (plain_row r) (plain_row s) (plains rows) (plains others) ∙ cond-false _ _ _ f

    -- so far: some rows were put, and what was put and then the merge of what is left is the merge of all
    pub record Weaving (rows others : List (Row Name X)) (ks : List ℕ) (vs : List X) (rows_left others_left : List (Row Name X)) : Type 0 where
      pub done : List (Row Name X)
      pub named : ks ≡ slots_of (names done)
      pub valued : vs ≡ values done
      pub merges : merged less (plains rows) (plains others) ≡ plains done ++ merged less (plains rows_left) (plains others_left)
      pub there : (a : Name) → HasName a (rows ++ others) → HasName a (done ++ (rows_left ++ others_left))
      pub from : (a : Name) → HasName a (done ++ (rows_left ++ others_left)) → HasName a (rows ++ others)
      pub alone : IsOnce (rows ++ others) → IsOnce (done ++ (rows_left ++ others_left))
      pub long : length done + (length rows_left + length others_left) ≡ length rows + length others

    pub weaving_start : (rows others : List (Row Name X)) (ks : List ℕ) (vs : List X) → ks ≡ [] → vs ≡ [] → Weaving rows others ks vs rows others
    weaving_start rows others ks vs e f = record {
      done = [];
      named = e;
      valued = f;
      merges = refl;
      there = λ a h. h;
      from = λ a h. h;
      alone = λ h. h;
      long = omega arith;
    }

    module _ (rows others : List (Row Name X)) (js ks : List ℕ) (vs ws : List X) (l : Line X) (more_slots : ks ≡ js ++ l.name.slot ∷ []) (more_values : ws ≡ vs ++ l.value ∷ []) where
      put_names : (done : List (Row Name X)) → js ≡ slots_of (names done) → ks ≡ slots_of (names (done ++ line_row l ∷ []))
      put_names done e =
          more_slots ∙ ap (λ zs. zs ++ l.name.slot ∷ []) e ∙ sym (map-append (λ (a : Name). a.slot) (names done) (l.name ∷ [])) ∙ ap slots_of (sym (map-append (λ (s : Row Name X). s.name) done (line_row l ∷ [])))

      put_values : (done : List (Row Name X)) → vs ≡ values done → ws ≡ values (done ++ line_row l ∷ [])
      put_values done e = more_values ∙ ap (λ zs. zs ++ l.value ∷ []) e ∙ sym (map-append (λ (s : Row Name X). s.value) done (line_row l ∷ []))

      put_merges : (done : List (Row Name X)) (all rest : List (Row ℕ X)) → all ≡ plain_row (line_row l) ∷ rest → plains done ++ all ≡ plains (done ++ line_row l ∷ []) ++ rest
      put_merges done all rest e =
          ap (λ zs. plains done ++ zs) e ∙ sym (append_assoc (plains done) (plain_row (line_row l) ∷ []) rest) ∙ ap (λ zs. zs ++ rest) (sym (plains-append done (line_row l ∷ [])))

      second : (p q : List (Row Name X)) → Weaving rows others js vs p (line_row l ∷ q) → is_second less p (line_row l ∷ q) ≡ true → Weaving rows others ks ws p q
      second p q w t = let r = line_row l in let shift = shift_long w.done p r q in record {
        done = w.done ++ r ∷ [];
        named = put_names w.done w.named;
        valued = put_values w.done w.valued;
        merges = w.merges ∙ put_merges w.done (merged less (plains p) (plains (r ∷ q))) (merged less (plains p) (plains q)) (second_first p r q t);
        there = λ a h. shift_there w.done p r q a (w.there a h);
        from = λ a h. w.from a (shift_from w.done p r q a h);
        alone = λ h. shift_alone w.done p r q (w.alone h);
        long = shift ∙ w.long;
      }

      first : (p q : List (Row Name X)) → Weaving rows others js vs (line_row l ∷ p) q → is_second less (line_row l ∷ p) q ≡ false → Weaving rows others ks ws p q
      first p q w f = let r = line_row l in let long = w.long in let more = length-append w.done (r ∷ []) in record {
        done = w.done ++ r ∷ [];
        named = put_names w.done w.named;
        valued = put_values w.done w.valued;
        merges = w.merges ∙ put_merges w.done (merged less (plains (r ∷ p)) (plains q)) (merged less (plains p) (plains q)) (first_first r p q f);
        there = λ a h. shift_there w.done [] r (p ++ q) a (w.there a h);
        from = λ a h. w.from a (shift_from w.done [] r (p ++ q) a h);
        alone = λ h. shift_alone w.done [] r (p ++ q) (w.alone h);
        long = omega arith;
      }

      pub weaving_more : (p q p1 q1 : List (Row Name X)) → Weaving rows others js vs p q → IsNext less p q (Some l) p1 q1 → Weaving rows others ks ws p1 q1
      weaving_more p q p1 q1 w next = elim next [
        | inl h ↦ subst (λ zs. Weaving rows others ks ws zs q1) (sym h.2) (second p q1 (subst (λ zs. Weaving rows others js vs p zs) h.1 w) (subst (λ zs. is_second less p zs ≡ true) h.1 h.0))
        | inr h ↦ subst (λ zs. Weaving rows others ks ws p1 zs) (sym h.2) (first p1 q (subst (λ zs. Weaving rows others js vs zs q) h.1 w) (subst (λ zs. is_second less zs q ≡ false) h.1 h.0))
      ]

    all_woven : (rows others : List (Row Name X)) (ks : List ℕ) (vs : List X) → Weaving rows others ks vs [] [] → Weaves less rows others ks vs
    all_woven rows others ks vs w =
        let all : w.done ++ [] ≡ w.done = append-nil w.done in
        let long = w.long in
        record {
          now = w.done;
          named = w.named;
          valued = w.valued;
          woven = record {
            merges = sym (w.merges ∙ append-nil (plains w.done));
            there = λ a h. subst (λ zs. HasName a zs) all (w.there a h);
            from = λ a h. w.from a (subst (λ zs. HasName a zs) (sym all) h);
            alone = λ h. subst (λ zs. IsOnce zs) all (w.alone h);
            long = omega arith;
          };
        }

    pub weaving_end : (rows others : List (Row Name X)) (ks : List ℕ) (vs : List X) (p q p1 q1 : List (Row Name X)) → Weaving rows others ks vs p q → IsNext less p q None p1 q1 → Weaves less rows others ks vs
    weaving_end rows others ks vs p q p1 q1 w none = all_woven rows others ks vs (subst (λ zs. Weaving rows others ks vs [] zs) none.1 (subst (λ zs. Weaving rows others ks vs zs q) none.0 w))
