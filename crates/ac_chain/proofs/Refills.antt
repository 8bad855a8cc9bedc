-- Rows that give way to copies, and what a list is after that.
use Rattle.std.proofs.Common.{◌≡◌, ℕ, zero, suc, ◌+◌, ◌-◌, ◌<◌, ◌≤◌, List, ◌∷◌, ◌++◌, length, take, reverse, Option, Some, None, refl, sym, ap, ◌∙◌, subst, inl, inr, arith, append_assoc, append-nil, length-append, []}
use Rattle.std.specs.Prelude.{max}
use Rattle.std.specs.List.{slice_get}
use Rattle.std.specs.Option.{option_map}
use Rattle.std.proofs.lemmas.Bool.{cases_lt}
use Rattle.std.proofs.lemmas.List.{reverse-append, reverse-reverse, length-reverse, length-map, nil_from_length}
use Rattle.std.proofs.Math.Nat.{le-max_left}
use Rattle.ac_base.specs.declared.name.Name.{Name}
use Rattle.ac_base.specs.Growth.{pow8}
use Rattle.ac_chain.specs.Rows as chain
use Rattle.ac_chain.specs.Rows.{Chained, IsLive, IsSound, prev_name, reserved, cleared}
use Rattle.ac_pool.specs.NamedRows.{index_of, name_before, HasName, IsOnce}
use Rattle.ac_chain.specs.ChainFields.{last_or}
use Rattle.ac_pool.proofs.Cuts.{apart, index_of-cut, slice_get-cut, has_live, HasName-right}
use Rattle.ac_chain.proofs.Ends.{name_before-cut}
use Rattle.ac_chain.proofs.Chains.{index_at}
use Rattle.ac_chain.proofs.Moves.{once_from}
use Rattle.ac_base.specs.Rows.{Row, values}
use Rattle.ac_model.specs.Rows.{fresh}
use Rattle.ac_model.proofs.Lengths.{length-fresh}
use Rattle.ac_model.specs.Objects.{plains}
use Rattle.ac_chain.specs.Put.{IsPut}
use Rattle.ac_chain.specs.Refill.{IsRefilled}
use Rattle.ac_base.specs.Rows.{values}
use Rattle.ac_model.proofs.Plains.{length-plains}
use Rattle.ac_chain.proofs.Puts.{put_none, put_length, reserved_enough, reserved_slots, reserved_kept}
use Rattle.ac_chain.proofs.Deletes.{last_split, none_last}

module _ {X : Type 0} where
  -- how many rows are left from the one with this name backwards
  abbrev pub left : List (Row Name X) → Option Name → ℕ
  left rows None = 0
  left rows (Some a) = suc (index_of a rows)

  -- so far: the rows at the end are copied, the last one first
  pub record Copying (rows : List (Row Name X)) (place : Option Name) (made : List X) : Type 0 where
    pub rest : List (Row Name X)
    pub done : List (Row Name X)
    pub is : rows ≡ rest ++ done
    pub named : place ≡ name_before rest (length rest)
    pub copies : made ≡ reverse (values done)

  pub copying_start : (rows : List (Row Name X)) (place : Option Name) → place ≡ name_before rows (length rows) → Copying rows place []
  copying_start rows place e = record { rest = rows; done = []; is = sym (append-nil rows); named = e; copies = refl }

  -- the row of the name at which the copying is
  record AtRow (rows : List (Row Name X)) (a : Name) (made : List X) : Type 0 where
    before : List (Row Name X)
    at : Row Name X
    done : List (Row Name X)
    is : rows ≡ before ++ at ∷ done
    named : a ≡ at.name
    copies : made ≡ reverse (values done)

  at_row : (rows : List (Row Name X)) (place : Option Name) (made : List X) (a : Name) → Copying rows place made → place ≡ Some a → AtRow rows a made
  at_row rows place made a c e =
      let s = last_split c.rest a (sym e ∙ c.named) in
      record { before = s.rest; at = s.last; done = c.done; is = c.is ∙ ap (λ xs. xs ++ c.done) s.is ∙ append_assoc s.rest (s.last ∷ []) c.done; named = s.named; copies = c.copies }

  pub copying_live : (k : Chained X) (place : Option Name) (made : List X) (a : Name) → Copying k.rows place made → place ≡ Some a → IsLive k a
  copying_live k place made a c e = let r = at_row k.rows place made a c e in has_live a k.rows (subst (λ rows. HasName a rows) (sym r.is) (HasName-right a r.before (r.at ∷ r.done) (inl r.named)))

  pub copying_more : (k : Chained X) (place then : Option Name) (made : List X) (a : Name) (v : X) → IsSound k → Copying k.rows place made → place ≡ Some a → Some v ≡ chain.value_of k a → then ≡ prev_name k a
      → Copying k.rows then (made ++ v ∷ [])
  copying_more k place then made a v s c e value n =
      let r = at_row k.rows place made a c e in
      let once : IsOnce (r.before ++ r.at ∷ r.done) = subst (λ rows. IsOnce rows) r.is (once_from k.rows s.once) in
      let index : index_of a k.rows ≡ length r.before = (λ i. index_of (r.named i) (r.is i)) ∙ index_of-cut r.before r.at r.done (λ t. apart r.before (r.at ∷ r.done) once r.at.name t (inl refl)) in
      let there : Some v ≡ Some r.at.value = value ∙ ap (option_map (λ (x : Row Name X). x.value)) ((λ i. slice_get (r.is i) (index i)) ∙ slice_get-cut r.before r.at r.done) in
      let same : v ≡ r.at.value = cc in
      let whole : name_before r.before (length r.before) ≡ last_or None r.before = ap (λ rows. name_before rows (length r.before)) (sym (append-nil r.before)) ∙ name_before-cut r.before [] in
      record {
        rest = r.before;
        done = r.at ∷ r.done;
        is = r.is;
        named = n ∙ (λ i. name_before (r.is i) (index i)) ∙ name_before-cut r.before (r.at ∷ r.done) ∙ sym whole;
        copies = (λ i. r.copies i ++ same i ∷ []) ∙ sym (reverse-append (r.at.value ∷ []) (values r.done));
      }

  pub copying_end : (rows : List (Row Name X)) (place : Option Name) (made : List X) → Copying rows place made → place ≡ None → made ≡ reverse (values rows)
  copying_end rows place made c e =
      let none = none_last c.rest (sym e ∙ c.named) in
      c.copies ∙ ap (λ xs. reverse (values xs)) (ap (λ xs. xs ++ c.done) (sym none) ∙ sym c.is)

  left_before : (rows : List (Row Name X)) → IsOnce rows → (n : ℕ) (o : Option Name) → o ≡ name_before rows n → left rows o ≤ n
  left_before rows once zero o e = let none : left rows o ≡ 0 = ap (left rows) e in omega arith
  left_before rows once (suc i) None e = omega arith
  left_before rows once (suc i) (Some b) e = let at = (index_at rows once i b (sym e)).1 in omega arith

  pub copying_falls : (k : Chained X) (place then : Option Name) (a : Name) → IsSound k → place ≡ Some a → then ≡ prev_name k a → left k.rows then < left k.rows place
  copying_falls k place then a s e n =
      let few = left_before k.rows (once_from k.rows s.once) (index_of a k.rows) then n in
      let more : left k.rows place ≡ suc (index_of a k.rows) = ap (left k.rows) e in omega arith

  -- so many values as the source has rows
  count_copies : (made : List X) (rows : List (Row Name X)) → made ≡ reverse (values rows) → length made ≡ length rows
  count_copies made rows e = ap length e ∙ length-reverse (values rows) ∙ length-map rows (λ (r : Row Name X). r.value)

  -- the slots that were reserved for the copies, and the chain once it was cleared
  pub record Ready (c e : Chained X) (count : ℕ) : Type 0 where
    pub rows : e.rows ≡ []
    pub next : e.next_serial ≡ c.next_serial
    pub enough : count ≤ e.spare
    pub kept : count ≤ length c.rows + c.spare → e.spare ≡ length c.rows + c.spare
    pub bound : e.spare ≤ max (length c.rows + c.spare) (pow8 count)

  pub ready : (c d e : Chained X) (n count : ℕ) → d ≡ reserved c n → n ≡ count - length c.rows → e ≡ cleared d → Ready c e count
  ready c d e n count is need clear =
      let r = reserved_enough c d n is in
      let all = reserved_slots c d n is in
      let rows : length d.rows ≡ length c.rows = ap length r.rows in
      let enough = r.enough in
      let spare : e.spare ≡ length d.rows + d.spare = ap (λ (x : Chained X). x.spare) clear in
      let within = λ (fits : n ≤ c.spare). (let same : d.spare ≡ c.spare = ap (λ (x : Chained X). x.spare) (is ∙ reserved_kept c n fits) in (let sum : e.spare ≡ length c.rows + c.spare = omega arith in sum)) in
      record {
        rows = ap (λ (x : Chained X). x.rows) clear;
        next = ap (λ (x : Chained X). x.next_serial) clear ∙ r.next;
        enough = omega arith;
        kept = λ few. within (omega arith);
        bound = elim (cases_lt (length c.rows) count) [
          | inl more ↦ let sum : length c.rows + n ≡ count = omega arith in
              subst (λ m. m ≤ max (length c.rows + c.spare) (pow8 count)) (sym spare) (subst (λ m. length d.rows + d.spare ≤ max (length c.rows + c.spare) (pow8 m)) sum all)
          | inr fewer ↦ subst (λ m. m ≤ max (length c.rows + c.spare) (pow8 count)) (sym (within (omega arith))) (le-max_left (length c.rows + c.spare) (pow8 count))
        ];
      }

  -- the copies in place of the rows
  pub record Refilled (c : Chained X) (source : List (Row Name X)) (now : Chained X) : Type 0 where
    pub refilled : IsRefilled c (values source) now
    pub slots : length source ≤ length c.rows + c.spare → length now.rows + now.spare ≡ length c.rows + c.spare
    pub grown : length now.rows + now.spare ≤ max (length c.rows + c.spare) (pow8 (length now.rows))

  pub refilled : (c d e now : Chained X) (n : ℕ) (made : List X) (source : List (Row Name X)) → d ≡ reserved c n → n ≡ length source - length c.rows → e ≡ cleared d → made ≡ reverse (values source)
      → IsPut e.rows e.next_serial None (reverse made) now → now.spare + length made ≡ e.spare → Refilled c source now
  refilled c d e now n made source is need clear copies p spare =
      let t = ready c d e n (length source) is need clear in
      let count = count_copies made source copies in
      let all : reverse made ≡ values source = ap reverse copies ∙ reverse-reverse (values source) in
      let more = put_length e.rows e.next_serial None (reverse made) now p in
      let none : length e.rows ≡ 0 = ap length t.rows in
      let same = length-reverse made in
      let total : length now.rows ≡ length source = omega arith in
      let sum : length now.rows + now.spare ≡ e.spare = omega arith in
      let q = subst (λ next. IsPut [] next None (values source) now) t.next (subst (λ rows. IsPut rows e.next_serial None (values source) now) t.rows (subst (λ vs. IsPut e.rows e.next_serial None vs now) all p)) in
      record {
        refilled = record { rows = alone q; next = q.risen };
        slots = λ few. sum ∙ t.kept few;
        grown = subst (λ m. m ≤ max (length c.rows + c.spare) (pow8 (length now.rows))) (sym sum) (subst (λ m. e.spare ≤ max (length c.rows + c.spare) (pow8 m)) (sym total) t.bound);
      }
    where
      alone : {next : ℕ} {vs : List X} → (q : IsPut [] next None vs now) → plains now.rows ≡ fresh next vs
      alone q =
          let before : q.before ≡ [] = nil_from_length q.before (sym q.at) in
          let sum = length-append q.before q.after in
          let none : 0 ≡ length (q.before ++ q.after) = ap length q.were in
          let after : q.after ≡ [] = nil_from_length q.after (omega arith) in
          ap plains (q.are ∙ (λ i. before i ++ q.more ++ after i) ∙ append-nil q.more) ∙ q.fresh_names

  pub refill_fits : (c d e : Chained X) (n : ℕ) (made : List X) (source : List (Row Name X)) → d ≡ reserved c n → n ≡ length source - length c.rows → e ≡ cleared d → made ≡ reverse (values source) → length made ≤ e.spare
  refill_fits c d e n made source is need clear copies = let enough = (ready c d e n (length source) is need clear).enough in let count = count_copies made source copies in omega arith

  -- where nothing was left to be taken out
  pub put_nothing : (c : Chained X) (values rest : List X) (count : ℕ) → values ≡ rest ++ [] → rest ≡ take (count - 1) values → count ≡ 0 → IsPut c.rows c.next_serial None (reverse values) c
  put_nothing c values rest count e r none =
      let zero : count - 1 ≡ 0 = omega arith in
      let empty : values ≡ [] = e ∙ ap (λ vs. vs ++ []) (r ∙ ap (λ n. take n values) zero) in
      subst (λ vs. IsPut c.rows c.next_serial None (reverse vs) c) (sym empty) (put_none c None (λ a t. absurd (let k : None ≡ Some a = t in cc)))

  pub refilled_length : (k now : Chained X) (source : List (Row Name X)) → IsRefilled k (values source) now → length now.rows ≡ length source
  refilled_length k now source f =
      sym (length-plains now.rows) ∙ ap length f.rows ∙ length-fresh k.next_serial (values source) ∙ length-map source (λ (r : Row Name X). r.value)
