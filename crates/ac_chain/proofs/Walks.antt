-- Walks over a chain's rows: from a place on, and back from one.
use Rattle.std.proofs.Common.{◌≡◌, suc, ◌+◌, ◌-◌, List, [], ◌∷◌, ◌++◌, length, reverse, take, drop, Option, Some, None, refl, sym, ap, ◌∙◌, subst, inl, arith, append_assoc, length-append}
use Rattle.std.specs.Option.{option_map, ForSome}
use Rattle.std.proofs.Math.Seq.{drop-append_seam, take-append_seam}
use Rattle.std.proofs.lemmas.List.{reverse-append, reverse-reverse, length-reverse}
use Rattle.std.proofs.lemmas.Option.{none-some}
use Rattle.ac_base.specs.declared.name.Name.{Name}
use Rattle.ac_base.specs.Rows.{Row}
use Rattle.ac_chain.specs.Rows.{Chained, place_of, next_name, prev_name, IsLive, value_of}
use Rattle.ac_pool.specs.NamedRows.{index_of, name_at, name_before, HasName, IsOnce}
use Rattle.ac_chain.specs.ChainFields.{first_or, last_or}
use Rattle.ac_pool.proofs.Cuts.{Cut, cut, cut-row, live_has, has_live, HasName-right, index_of-cut, apart}
use Rattle.ac_chain.proofs.Ends.{split, name_at-first, name_before-cut, last_or-append}
use Rattle.ac_chain.proofs.Moves.{next_name-cut}
use Rattle.ac_chain.specs.Search.{count_to}

same_name : (a b : Name) → Some a ≡ Some b → a ≡ b
same_name a b e = cc

module _ {X : Type 0} where
  -- a walk forward at a place: these rows are left
  pub record Forward (c : Chained X) (place : Option Name) (left : List (Row Name X)) : Type 0 where
    pub before : List (Row Name X)
    pub is : c.rows ≡ before ++ left
    pub at : place ≡ first_or left None

  -- and one back
  pub record Backward (c : Chained X) (place : Option Name) (left : List (Row Name X)) : Type 0 where
    pub after : List (Row Name X)
    pub is : c.rows ≡ reverse left ++ after
    pub at : place ≡ first_or left None

  pub forward_start : (c : Chained X) (place : Option Name) → ForSome place (IsLive c) → Forward c place (drop (place_of place c.rows) c.rows)
  forward_start c place h =
      let s = split place c.rows (λ a e. live_has a c.rows (h a e)) in
      let left : drop (place_of place c.rows) c.rows ≡ s.after = (λ i. drop (s.at i) (s.is i)) ∙ drop-append_seam s.before s.after in
      record { before = s.before; is = s.is ∙ ap (λ zs. s.before ++ zs) (sym left); at = s.named ∙ ap (λ zs. first_or zs None) (sym left) }

  pub forward_first : (c : Chained X) (place : Option Name) → place ≡ name_at c.rows 0 → Forward c place c.rows
  forward_first c place e = record { before = []; is = refl; at = e ∙ name_at-first c.rows }

  cut_at : (c : Chained X) → IsOnce c.rows → (a : Name) (before : List (Row Name X)) (r : Row Name X) (after : List (Row Name X)) → c.rows ≡ before ++ r ∷ after → a ≡ r.name → Cut a c.rows
  cut_at c once a before r after is e =
      let once_cut : IsOnce (before ++ r ∷ after) = subst (λ zs. IsOnce zs) is once in
      record {
        before = before;
        at = r;
        after = after;
        is = is;
        named = e;
        place = (λ i. index_of (e i) (is i)) ∙ index_of-cut before r after (λ t. apart before (r ∷ after) once_cut r.name t (inl refl));
      }

  -- the row at the place of a walk forward, and the walk behind it
  pub record Ahead (c : Chained X) (a : Name) (left : List (Row Name X)) : Type 0 where
    pub row : Row Name X
    pub rest : List (Row Name X)
    pub is : left ≡ row ∷ rest
    pub named : a ≡ row.name
    pub value : value_of c a ≡ Some row.value
    pub live : IsLive c a
    pub next : Forward c (next_name c a) rest

  pub ahead : (c : Chained X) → IsOnce c.rows → (a : Name) (left : List (Row Name X)) → Forward c (Some a) left → Ahead c a left
  unfolding cut_at
  ahead c once a [] f = absurd (none-some a (sym f.at))
  ahead c once a (r ∷ rest) f =
      let same = same_name a r.name f.at in
      let k = cut_at c once a f.before r rest f.is same in
      record {
        row = r;
        rest = rest;
        is = refl;
        named = same;
        value = ap (option_map (λ (q : Row Name X). q.value)) (cut-row a c.rows k);
        live = has_live a c.rows (subst (λ zs. HasName a zs) (sym f.is) (HasName-right a f.before (r ∷ rest) (inl same)));
        next = record { before = f.before ++ r ∷ []; is = f.is ∙ sym (append_assoc f.before (r ∷ []) rest); at = next_name-cut c a k };
      }

  pub forward_end : (c : Chained X) (left : List (Row Name X)) → Forward c None left → left ≡ []
  forward_end c [] f = refl
  forward_end c (r ∷ rest) f = absurd (none-some r.name f.at)

  -- how many rows are left
  pub forward_left : (c : Chained X) (place : Option Name) (left : List (Row Name X)) → IsOnce c.rows → Forward c place left → length c.rows - place_of place c.rows ≡ length left
  unfolding cut_at
  forward_left c place [] once f = let e : place_of place c.rows ≡ length c.rows = ap (λ p. place_of p c.rows) f.at in let none : length c.rows - length c.rows ≡ 0 = omega arith in ap (λ n. length c.rows - n) e ∙ none
  forward_left c place (r ∷ rest) once f =
      let k = cut_at c once r.name f.before r rest f.is refl in
      let e : place_of place c.rows ≡ index_of r.name c.rows = ap (λ p. place_of p c.rows) f.at in
      let i : index_of r.name c.rows ≡ length f.before = k.place in
      let sum : length c.rows ≡ length f.before + suc (length rest) = ap length f.is ∙ length-append f.before (r ∷ rest) in
      omega arith

  -- the row at the place of a walk back, and the walk before it
  pub record Behind (c : Chained X) (a : Name) (left : List (Row Name X)) : Type 0 where
    pub row : Row Name X
    pub rest : List (Row Name X)
    pub is : left ≡ row ∷ rest
    pub named : a ≡ row.name
    pub value : value_of c a ≡ Some row.value
    pub live : IsLive c a
    pub next : Backward c (prev_name c a) rest

  reverse-cons : (r : Row Name X) (rest after : List (Row Name X)) → reverse (r ∷ rest) ++ after ≡ reverse rest ++ r ∷ after
  reverse-cons r rest after = ap (λ zs. zs ++ after) (reverse-append (r ∷ []) rest) ∙ append_assoc (reverse rest) (r ∷ []) after

  last_reverse : (rows : List (Row Name X)) → last_or None (reverse rows) ≡ first_or rows None
  last_reverse [] = refl
  last_reverse (r ∷ rows) = ap (last_or None) (reverse-append (r ∷ []) rows) ∙ last_or-append None (reverse rows) (r ∷ [])

  pub behind : (c : Chained X) → IsOnce c.rows → (a : Name) (left : List (Row Name X)) → Backward c (Some a) left → Behind c a left
  unfolding cut_at
  behind c once a [] f = absurd (none-some a (sym f.at))
  behind c once a (r ∷ rest) f =
      let same = same_name a r.name f.at in
      let is : c.rows ≡ reverse rest ++ r ∷ f.after = f.is ∙ reverse-cons r rest f.after in
      let k = cut_at c once a (reverse rest) r f.after is same in
      record {
        row = r;
        rest = rest;
        is = refl;
        named = same;
        value = ap (option_map (λ (q : Row Name X). q.value)) (cut-row a c.rows k);
        live = has_live a c.rows (subst (λ zs. HasName a zs) (sym is) (HasName-right a (reverse rest) (r ∷ f.after) (inl same)));
        next = record { after = r ∷ f.after; is = is; at = (λ i. name_before (is i) (k.place i)) ∙ name_before-cut (reverse rest) (r ∷ f.after) ∙ last_reverse rest };
      }

  pub backward_end : (c : Chained X) (left : List (Row Name X)) → Backward c None left → left ≡ []
  backward_end c [] f = refl
  backward_end c (r ∷ rest) f = absurd (none-some r.name f.at)

  pub backward_left : (c : Chained X) (place : Option Name) (left : List (Row Name X)) → IsOnce c.rows → Backward c place left → count_to place c.rows ≡ length left
  unfolding cut_at
  backward_left c place [] once f = ap (λ p. count_to p c.rows) f.at
  backward_left c place (r ∷ rest) once f =
      let is : c.rows ≡ reverse rest ++ r ∷ f.after = f.is ∙ reverse-cons r rest f.after in
      let k = cut_at c once r.name (reverse rest) r f.after is refl in
      let i : index_of r.name c.rows ≡ length (reverse rest) = k.place in
      let e : count_to place c.rows ≡ index_of r.name c.rows + 1 = ap (λ p. count_to p c.rows) f.at in
      let len = length-reverse rest in
      omega arith

  pub backward_start : (c : Chained X) (place : Option Name) → ForSome place (IsLive c) → Backward c place (reverse (take (count_to place c.rows) c.rows))
  backward_start c None h = record { after = c.rows; is = refl; at = refl }
  backward_start c (Some a) h =
      let k = cut a c.rows (live_has a c.rows (h a refl)) in
      let count : index_of a c.rows + 1 ≡ length (k.before ++ k.at ∷ []) = let p = k.place in let n = length-append k.before (k.at ∷ []) in omega arith in
      let is : c.rows ≡ (k.before ++ k.at ∷ []) ++ k.after = k.is ∙ sym (append_assoc k.before (k.at ∷ []) k.after) in
      let taken : take (index_of a c.rows + 1) c.rows ≡ k.before ++ k.at ∷ [] = (λ i. take (count i) (is i)) ∙ take-append_seam (k.before ++ k.at ∷ []) k.after in
      let left : reverse (take (index_of a c.rows + 1) c.rows) ≡ k.at ∷ reverse k.before = ap reverse taken ∙ reverse-append k.before (k.at ∷ []) in
      subst (λ zs. Backward c (Some a) zs) (sym left) (record {
        after = k.after;
        is = k.is ∙ sym (reverse-cons k.at (reverse k.before) k.after ∙ ap (λ zs. zs ++ k.at ∷ k.after) (reverse-reverse k.before));
        at = ap Some k.named;
      })
