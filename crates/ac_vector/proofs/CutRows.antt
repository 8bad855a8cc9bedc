-- An array without its last row, and one without the rows from a place on.
use Rattle.std.proofs.Common.{◌≡◌, ◌≢◌, ℕ, ◌+◌, ◌-◌, List, [], ◌∷◌, ◌++◌, length, take, Some, None, is_some, refl, sym, ap, ◌∙◌, subst, inl, inr, arith, append-nil, length-append}
use Rattle.std.specs.List.{remove}
use Rattle.std.proofs.Math.Seq.{take-append_seam}
use Rattle.std.proofs.lemmas.List.{take-map, length-map}
use Rattle.ac_base.specs.declared.name.Name.{Name}
use Rattle.ac_base.specs.Rows.{Row, names, values}
use Rattle.ac_pool.specs.Contents as pool
use Rattle.ac_pool.specs.Contents.{Contents, value_of, IsLive, live_count, slot_count, taken}
use Rattle.ac_pool.proofs.NameLaws.{cases_name}
use Rattle.ac_pool.proofs.ContentsLaws.{value_of-taken_same, value_of-taken_other, live_count-taken, slot_count-taken, taken_live}
use Rattle.ac_chain.specs.Rows.{Chained, chained, removed}
use Rattle.ac_pool.specs.NamedRows.{index_of, name_at, name_before, IsOnce}
use Rattle.ac_pool.proofs.Cuts.{name_at_has, HasName-right, apart, index_of-cut, remove-cut}
use Rattle.ac_chain.proofs.Deletes.{last_split}
use Rattle.ac_vector.specs.ArrayFields.{StandsFor, IsArray}
use Rattle.ac_vector.proofs.NamesAt.{at_left, at_either, at_within}
use Rattle.ac_vector.proofs.Arrays.{view_of, Leaves, leaves, old_stands, once, place_at}

module _ {X : Type 0} where
  module _ {ns : List Name} {vs : List X} {p : Contents ℕ} (rs : List (Row Name X)) (r : Row Name X) (s : StandsFor ns vs p (rs ++ r ∷ [])) (q : Contents ℕ) (is : q ≡ taken p r.name) (sound : pool.IsSound q) where
    last_live : IsLive p r.name
    last_live = ap is_some (place_at s r.name (HasName-right r.name rs (r ∷ []) (inl refl)))

    gone : value_of q r.name ≡ None
    gone = ap (λ c. value_of c r.name) is ∙ value_of-taken_same p r.name

    others : (b : Name) → b ≢ r.name → value_of q b ≡ value_of p b
    others b ne = ap (λ c. value_of c b) is ∙ value_of-taken_other p r.name b ne

    pub popped_stands : StandsFor (names rs) (values rs) q rs
    popped_stands = record {
      named = refl;
      valued = refl;
      placed = λ i b e. others b (λ same. apart rs (r ∷ []) (once s) b (name_at_has rs i b e) (inl same)) ∙ s.placed i b (at_left rs (r ∷ []) i b e);
      all = λ i b e. elim (cases_name b r.name) [
        | inl same ↦ let no : None ≡ Some i = sym gone ∙ ap (value_of q) (sym same) ∙ e in absurd cc
        | inr ne ↦ elim (at_either rs (r ∷ []) i b (s.all i b (sym (others b ne) ∙ e))) [
          | inl t ↦ t
          | inr t ↦ let first : t.0 ≡ 0 = (let less = at_within (r ∷ []) t.0 b t.2 in omega arith) in
              let named : Some r.name ≡ Some b = ap (λ k. name_at (r ∷ []) k) (sym first) ∙ t.2 in
              absurd (ne cc)
        ]
      ];
      count = let fewer : live_count q ≡ live_count p - 1 = ap live_count is ∙ live_count-taken p r.name last_live in let old = s.count in omega (arith, length-append rs (r ∷ []));
      sound = sound;
    }

  -- the two lists without their last items
  take_last : (rs : List (Row Name X)) (r : Row Name X) → take (length (rs ++ r ∷ []) - 1) (rs ++ r ∷ []) ≡ rs
  take_last rs r = let less : length (rs ++ r ∷ []) - 1 ≡ length rs = omega (arith, length-append rs (r ∷ [])) in ap (λ k. take k (rs ++ r ∷ [])) less ∙ take-append_seam rs (r ∷ [])

  module _ {ns : List Name} {vs : List X} {p : Contents ℕ} {m n : ℕ} {old : Chained X} (h : IsArray ns vs p m n) (is : view_of ns vs p ≡ old) where
    pub popped_array : (a : Name) → Some a ≡ name_before old.rows (length old.rows) → (ks : List Name) (ws : List X) (q : Contents ℕ) (k l x y : ℕ) → x ≡ length ns → ks ≡ take (x - 1) ns → y ≡ length vs → ws ≡ take (y - 1) vs
        → q ≡ taken p a → pool.IsSound q → k ≡ m → l ≡ n → Leaves ks ws q k l (removed old a)
    popped_array a e ks ws q k l x y name_count names_are value_count values_are freed sound names_room values_room =
        let s = old_stands h is in
        let d = last_split old.rows a e in
        let t : StandsFor ns vs p (d.rest ++ d.last ∷ []) = subst (λ zs. StandsFor ns vs p zs) d.is s in
        let same_names : ks ≡ names d.rest = names_are ∙ ap (λ i. take (i - 1) ns) name_count ∙ ap (λ us. take (length us - 1) us) t.named
        ∙ ap (λ i. take (i - 1) (names (d.rest ++ d.last ∷ []))) (length-map (d.rest ++ d.last ∷ []) (λ (r : Row Name X). r.name))
        ∙ take-map (λ (r : Row Name X). r.name) (length (d.rest ++ d.last ∷ []) - 1) (d.rest ++ d.last ∷ []) ∙ ap names (take_last d.rest d.last) in
        let same_values : ws ≡ values d.rest = values_are ∙ ap (λ i. take (i - 1) vs) value_count ∙ ap (λ us. take (length us - 1) us) t.valued
        ∙ ap (λ i. take (i - 1) (values (d.rest ++ d.last ∷ []))) (length-map (d.rest ++ d.last ∷ []) (λ (r : Row Name X). r.value))
        ∙ take-map (λ (r : Row Name X). r.value) (length (d.rest ++ d.last ∷ []) - 1) (d.rest ++ d.last ∷ []) ∙ ap values (take_last d.rest d.last) in
        let freed_last : q ≡ taken p d.last.name = freed ∙ ap (taken p) d.named in
        let u : StandsFor ks ws q d.rest = subst (λ us. StandsFor ks us q d.rest) (sym same_values) (subst (λ us. StandsFor us (values d.rest) q d.rest) (sym same_names) (popped_stands d.rest d.last t q freed_last sound)) in
        let live = last_live d.rest d.last t q freed_last sound in
        let alone : IsOnce (d.rest ++ d.last ∷ []) = once t in
        let index : index_of a old.rows ≡ length d.rest = (λ i. index_of (d.named i) (d.is i)) ∙ index_of-cut d.rest d.last [] (λ z. apart d.rest (d.last ∷ []) alone d.last.name z (inl refl)) in
        let rows : d.rest ≡ remove old.rows (index_of a old.rows) = sym ((λ i. remove (d.is i) (index i)) ∙ remove-cut d.rest d.last [] ∙ append-nil d.rest) in
        let was = freed_last ∙ taken_live p d.last.name live in
        let next : q.next_serial ≡ old.next_serial = ap (λ (c : Contents ℕ). c.next_serial) was ∙ ap (λ (c : Chained X). c.next_serial) is in
        let spare : q.spare ≡ old.spare + 1 = ap (λ (c : Contents ℕ). c.spare) was ∙ ap (λ (c : Chained X). c.spare + 1) is in
        let slots : slot_count q ≡ slot_count p = ap slot_count freed ∙ slot_count-taken p a in
        leaves u k l (omega (arith, h.names)) (omega (arith, h.values)) (removed old a) (λ i. chained (rows i) (next i) (spare i))
