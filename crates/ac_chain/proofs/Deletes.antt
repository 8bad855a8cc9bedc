-- Rows that are taken out one after another, and what a list is after that.
use Rattle.std.proofs.Common.{◌≡◌, ℕ, suc, ◌+◌, ◌-◌, ◌≤◌, List, ◌∷◌, ◌++◌, length, take, drop, Option, Some, None, refl, sym, ap, ◌∙◌, subst, inl, inr, arith, append_assoc, append-nil, length-append, []}
use Rattle.std.specs.List.{remove}
use Rattle.std.proofs.lemmas.Bool.{cases_eq}
use Rattle.std.proofs.lemmas.List.{drop_all, take-append-drop}
use Rattle.std.proofs.Math.Seq.{take-append_seam, drop-append_seam, drop-append-add}
use Rattle.ac_base.specs.declared.name.Name.{Name}
use Rattle.ac_pool.specs.NamedRows as pool
use Rattle.ac_chain.specs.Rows.{Chained, IsLive, IsSound, place_of, removed, next_name}
use Rattle.ac_pool.specs.NamedRows.{index_of, name_before, HasName, IsOnce}
use Rattle.ac_chain.specs.ChainFields.{first_or}
use Rattle.ac_chain.proofs.Ends.{split, name_at-after}
use Rattle.ac_pool.proofs.Cuts.{apart, index_here, index_of-cut, remove-cut, live_has, has_live, HasName-left, HasName-right, HasName-either}
use Rattle.ac_chain.proofs.Moves.{once_from}
use Rattle.ac_chain.proofs.Linking.{first_has}
use Rattle.ac_base.specs.Rows.{Row}
use Rattle.ac_chain.specs.Cut.{IsCut}

module _ {X : Type 0} where
  -- so far: so many rows from the place on are gone
  pub record Cutting (from : Chained X) (start count : ℕ) (place : Option Name) (now : Chained X) : Type 0 where
    pub before : List (Row Name X)
    pub gone : List (Row Name X)
    pub after : List (Row Name X)
    pub was : from.rows ≡ before ++ (gone ++ after)
    pub is : now.rows ≡ before ++ after
    pub at : length before ≡ start
    pub many : length gone ≡ count
    pub named : place ≡ first_or after None
    pub next : now.next_serial ≡ from.next_serial
    pub spare : now.spare ≡ from.spare + count
    pub sound : IsSound now

  pub cutting_start : (from : Chained X) (place : Option Name) → ((a : Name) → place ≡ Some a → IsLive from a) → IsSound from → Cutting from (place_of place from.rows) 0 place from
  cutting_start from place h sound =
      let s = split place from.rows (λ a e. live_has a from.rows (h a e)) in
      record { before = s.before; gone = []; after = s.after; was = s.is; is = s.is; at = sym s.at; many = refl; named = s.named; next = refl; spare = omega arith; sound = sound }

  -- one more is gone
  pub cutting_more : (from : Chained X) (start count : ℕ) (place then : Option Name) (now later : Chained X) (a : Name) → Cutting from start count place now → place ≡ Some a
      → then ≡ next_name now a → later ≡ removed now a → IsSound later → Cutting from start (count + 1) then later
  cutting_more from start count place then now later a c e n r sound = from_rest c.after refl
    where
      from_rest : (rest : List (Row Name X)) → c.after ≡ rest → Cutting from start (count + 1) then later
      from_rest [] is = absurd (let k : None ≡ Some a = sym (c.named ∙ ap (λ rows. first_or rows None) is) ∙ e in cc)
      from_rest (x ∷ rest) is =
          let k : Some x.name ≡ Some a = sym (c.named ∙ ap (λ rows. first_or rows None) is) ∙ e in
          let same : a ≡ x.name = cc in
          let rows : now.rows ≡ c.before ++ x ∷ rest = c.is ∙ ap (λ rows. c.before ++ rows) is in
          let once : IsOnce (c.before ++ x ∷ rest) = subst (λ rows. IsOnce rows) rows (once_from now.rows c.sound.once) in
          let index : index_of a now.rows ≡ length c.before = (λ i. index_of (same i) (rows i)) ∙ index_of-cut c.before x rest (λ t. apart c.before (x ∷ rest) once x.name t (inl refl)) in
          let more = length-append c.gone (x ∷ []) in
          let many = c.many in
          let spare = c.spare in
          let less : later.spare ≡ now.spare + 1 = ap (λ (d : Chained X). d.spare) r in
          let step : index_of a now.rows + 1 ≡ suc (length c.before) = omega arith in
          record {
            before = c.before;
            gone = c.gone ++ x ∷ [];
            after = rest;
            was = c.was ∙ ap (λ rows. c.before ++ (c.gone ++ rows)) is ∙ ap (λ rows. c.before ++ rows) (sym (append_assoc c.gone (x ∷ []) rest));
            is = ap (λ (d : Chained X). d.rows) r ∙ (λ i. remove (rows i) (index i)) ∙ remove-cut c.before x rest;
            at = c.at;
            many = omega arith;
            named = n ∙ (λ i. pool.name_at (rows i) (step i)) ∙ name_at-after c.before x rest;
            next = ap (λ (d : Chained X). d.next_serial) r ∙ c.next;
            spare = omega arith;
            sound = sound;
          }

  unnamed : (rows : List (Row Name X)) → None ≡ first_or rows None → rows ≡ []
  unnamed [] e = refl
  unnamed (r ∷ rows) e = absurd (let k : None ≡ Some r.name = e in cc)

  -- all are gone, or there are no more
  pub cutting_end : (from : Chained X) (start count all : ℕ) (place : Option Name) (now : Chained X) → Cutting from start count place now → count ≤ all → ((count ≡ all → ⊥) → place ≡ None) → IsCut from start all now
  cutting_end from start count all place now c le stopped =
      let kept : take start from.rows ≡ c.before = (λ i. take (sym c.at i) (c.was i)) ∙ take-append_seam c.before (c.gone ++ c.after) in
      let left : drop (start + all) from.rows ≡ c.after = (λ i. drop (sym c.at i + all) (c.was i)) ∙ drop-append-add c.before (c.gone ++ c.after) all ∙ rest in
      let one = ap length c.was ∙ length-append c.before (c.gone ++ c.after) in
      let two = length-append c.gone c.after in
      let three = ap length c.is ∙ length-append c.before c.after in
      let many = c.many in
      let spare = c.spare in
      record { rows = c.is ∙ (λ i. sym kept i ++ sym left i); next = c.next; slots = omega arith }
    where
      rest : drop all (c.gone ++ c.after) ≡ c.after
      rest = elim (cases_eq count all) [
        | inl same ↦ ap (λ n. drop n (c.gone ++ c.after)) (sym same ∙ sym c.many) ∙ drop-append_seam c.gone c.after
        | inr fewer ↦
            let none : c.after ≡ [] = unnamed c.after (sym (stopped fewer) ∙ c.named) in
            let many = c.many in
            let gone : drop all (c.gone ++ []) ≡ [] = ap (drop all) (append-nil c.gone) ∙ drop_all all c.gone (omega arith) in
            ap (λ rows. drop all (c.gone ++ rows)) none ∙ gone ∙ sym none
      ]

  pub cutting_live : (from : Chained X) (start count : ℕ) (place : Option Name) (now : Chained X) → Cutting from start count place now → (a : Name) → place ≡ Some a → IsLive now a
  cutting_live from start count place now c a e = has_live a now.rows (subst (λ rows. HasName a rows) (sym c.is) (HasName-right a c.before c.after (first_has c.after a (sym c.named ∙ e))))

  -- so far: so many rows at the end are gone
  pub record Dropping (from : Chained X) (count : ℕ) (now : Chained X) : Type 0 where
    pub gone : List (Row Name X)
    pub was : from.rows ≡ now.rows ++ gone
    pub many : length gone ≡ count
    pub next : now.next_serial ≡ from.next_serial
    pub spare : now.spare ≡ from.spare + count
    pub sound : IsSound now

  pub dropping_start : (from : Chained X) → IsSound from → Dropping from 0 from
  dropping_start from sound = record { gone = []; was = sym (append-nil from.rows); many = refl; next = refl; spare = omega arith; sound = sound }

  pub record LastOf (rows : List (Row Name X)) (a : Name) : Type 0 where
    pub rest : List (Row Name X)
    pub last : Row Name X
    pub is : rows ≡ rest ++ last ∷ []
    pub named : a ≡ last.name

  pub last_split : (rows : List (Row Name X)) (a : Name) → Some a ≡ name_before rows (length rows) → LastOf rows a
  last_split [] a e = absurd (let k : Some a ≡ None = e in cc)
  last_split (r ∷ []) a e = record { rest = []; last = r; is = refl; named = let k : Some a ≡ Some r.name = e in cc }
  last_split (r ∷ q ∷ rows) a e = let s = last_split (q ∷ rows) a e in record { rest = r ∷ s.rest; last = s.last; is = ap (λ xs. r ∷ xs) s.is; named = s.named }

  pub none_last : (rows : List (Row Name X)) → None ≡ name_before rows (length rows) → rows ≡ []
  none_last [] e = refl
  none_last (r ∷ rows) e = absurd (there r rows e)
    where
      there : (r : Row Name X) (rows : List (Row Name X)) → None ≡ pool.name_at (r ∷ rows) (length rows) → ⊥
      there r [] e = let k : None ≡ Some r.name = e in cc
      there r (q ∷ rows) e = there q rows e

  pub dropping_more : (from : Chained X) (count : ℕ) (now later : Chained X) (a : Name) → Dropping from count now → Some a ≡ name_before now.rows (length now.rows)
      → later ≡ removed now a → IsSound later → Dropping from (count + 1) later
  dropping_more from count now later a d e r sound =
      let s = last_split now.rows a e in
      let once : IsOnce (s.rest ++ s.last ∷ []) = subst (λ rows. IsOnce rows) s.is (once_from now.rows d.sound.once) in
      let index : index_of a now.rows ≡ length s.rest = (λ i. index_of (s.named i) (s.is i)) ∙ index_of-cut s.rest s.last [] (λ t. apart s.rest (s.last ∷ []) once s.last.name t (inl refl)) in
      let is : later.rows ≡ s.rest = ap (λ (c : Chained X). c.rows) r ∙ (λ i. remove (s.is i) (index i)) ∙ remove-cut s.rest s.last [] ∙ append-nil s.rest in
      let less : later.spare ≡ now.spare + 1 = ap (λ (c : Chained X). c.spare) r in
      let many = d.many in
      let spare = d.spare in
      record {
        gone = s.last ∷ d.gone;
        was = d.was ∙ ap (λ rows. rows ++ d.gone) s.is ∙ append_assoc s.rest (s.last ∷ []) d.gone ∙ ap (λ rows. rows ++ s.last ∷ d.gone) (sym is);
        many = omega arith;
        next = ap (λ (c : Chained X). c.next_serial) r ∙ d.next;
        spare = omega arith;
        sound = sound;
      }

  pub dropping_end : (from : Chained X) (count all : ℕ) (now : Chained X) → Dropping from count now → count ≤ all → ((count ≡ all → ⊥) → None ≡ name_before now.rows (length now.rows)) → IsCut from (length from.rows - all) all now
  dropping_end from count all now d le stopped =
      let total = ap length d.was ∙ length-append now.rows d.gone in
      let many = d.many in
      let spare = d.spare in
      let place : length from.rows - all ≡ length now.rows = elim (cases_eq count all) [
        | inl same ↦ omega arith
        | inr fewer ↦ let none : length now.rows ≡ 0 = ap length (none_last now.rows (stopped fewer)) in omega arith
      ] in
      let kept : take (length from.rows - all) from.rows ≡ now.rows = (λ i. take (place i) (d.was i)) ∙ take-append_seam now.rows d.gone in
      let left : drop (length from.rows - all + all) from.rows ≡ [] = drop_all (length from.rows - all + all) from.rows (omega arith) in
      record { rows = sym (append-nil now.rows) ∙ (λ i. sym kept i ++ sym left i); next = d.next; slots = omega arith }

  pub dropping_live : (now : Chained X) (a : Name) → Some a ≡ name_before now.rows (length now.rows) → IsLive now a
  dropping_live now a e = let s = last_split now.rows a e in has_live a now.rows (subst (λ rows. HasName a rows) (sym s.is) (HasName-right a s.rest (s.last ∷ []) (inl s.named)))

  pub cut_has : (a : Name) (rows : List (Row Name X)) (i n : ℕ) → HasName a (take i rows ++ drop (i + n) rows) → HasName a rows
  cut_has a rows i n t = elim (HasName-either a (take i rows) (drop (i + n) rows) t) [
    | inl left ↦ subst (λ zs. HasName a zs) (take-append-drop i rows) (HasName-left a (take i rows) (drop i rows) left)
    | inr right ↦ subst (λ zs. HasName a zs) (take-append-drop (i + n) rows) (HasName-right a (take (i + n) rows) (drop (i + n) rows) right)
  ]

  pub first_place : (rows : List (Row Name X)) (place : Option Name) → place ≡ pool.name_at rows 0 → place_of place rows ≡ 0
  first_place [] place e = ap (λ p. place_of {X = X} p []) e
  first_place (r ∷ rows) place e = ap (λ p. place_of p (r ∷ rows)) e ∙ index_here r.name r rows refl
