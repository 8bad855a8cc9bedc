-- What a merge of one chain's values into another's rows has done so far, and what it leaves of the two lists.
use Rattle.std.proofs.Common.{◌≡◌, ℕ, ◌+◌, ◌-◌, ◌<◌, ◌≤◌, ◌^◌, Bool, List, ◌∷◌, ◌++◌, length, drop, Option, Some, None, refl, sym, ap, ◌∙◌, subst, inl, inr, arith, append_assoc, length-append, []}
use Rattle.std.specs.List.{insert}
use Rattle.std.specs.Option.{ForSome}
use Rattle.std.proofs.lemmas.Bool.{cases_Bool, cond-true, cond-false}
use Rattle.std.proofs.lemmas.List.{length-map}
use Rattle.std.proofs.Math.Seq.{drop-append_seam}
use Rattle.ac_base.specs.declared.name.Name.{Name}
use Rattle.ac_chain.specs.Rows as chain
use Rattle.ac_chain.specs.Rows.{Chained, place_of, IsLive, IsSound, IsFresh, inserted, reserved}
use Rattle.ac_pool.specs.NamedRows.{name_at, index_of, HasName, IsOnce}
use Rattle.ac_chain.specs.ChainFields.{first_or}
use Rattle.ac_pool.proofs.Cuts.{insert-cut, live_has, has_live, HasName-right, HasName-cut}
use Rattle.ac_chain.proofs.Ends.{name_at-first}
use Rattle.ac_chain.proofs.Linking.{first_has}
use Rattle.ac_chain.proofs.Moves.{once_from}
use Rattle.ac_base.specs.Rows.{Row, row}
use Rattle.ac_model.specs.Rows.{fresh, merged}
use Rattle.ac_model.proofs.Lengths.{length-merged, length-fresh}
use Rattle.ac_model.proofs.RowLaws.{merged_with_none, merged_heads}
use Rattle.ac_chain.specs.Merging.{KeepsNames, IsMerged, is_behind}
use Rattle.ac_model.specs.Objects.{plains}
use Rattle.ac_chain.specs.Put.{HasGrown}
use Rattle.ac_chain.specs.Search.{found_in}
use Rattle.ac_base.specs.Rows.{values}
use Rattle.ac_model.proofs.Plains.{plains-append, length-plains}
use Rattle.ac_chain.proofs.Puts.{place_cut, reserved_enough, reserved_grown}
use Rattle.ac_chain.proofs.Searches.{first_found, first_passed}
use Rattle.ac_chain.proofs.Transfers.{Leaving, leaving_none, leaving_more, leaving_count, leaving_all, leaving_cleared, none_left, some_left, Taken}

module _ {X : Type 0} (less : X → X → Bool) where
  -- rows before which a value goes, behind the ones that it isn't less than
  record Parted (v : X) (rows : List (Row Name X)) (place : Option Name) : Type 0 where
    skipped : List (Row Name X)
    rest : List (Row Name X)
    is : rows ≡ skipped ++ rest
    at : place ≡ first_or rest None
    merges : (n : ℕ) (others : List (Row ℕ X)) → merged less (plains rows) (row n v ∷ others) ≡ plains skipped ++ row n v ∷ merged less (plains rest) others

  parted : (v : X) (rows : List (Row Name X)) (place : Option Name) → place ≡ found_in (is_behind less) v rows → Parted v rows place
  parted v [] place e = record { skipped = []; rest = []; is = refl; at = e; merges = λ n others. refl }
  parted v (r ∷ rows) place e = elim (cases_Bool (less v r.value)) [
    | inl t ↦ record {
      skipped = [];
      rest = r ∷ rows;
      is = refl;
      at = e ∙ first_found (is_behind less) v r rows t;
      merges = λ n others. merged_heads less (row r.name.serial r.value) (row n v) (plains rows) others ∙ cond-true _ _ _ t;
    }
    | inr f ↦ let k = parted v rows place (e ∙ first_passed (is_behind less) v r rows f) in record {
      skipped = r ∷ k.skipped;
      rest = k.rest;
      is = ap (λ zs. r ∷ zs) k.is;
      at = k.at;
      merges = λ n others. merged_heads less (row r.name.serial r.value) (row n v) (plains rows) others ∙ cond-false _ _ _ f ∙ ap (λ zs. row r.name.serial r.value ∷ zs) (k.merges n others);
    }
  ]

  -- so far: some values have moved, and the others go behind the place
  pub record Merging (t0 s0 : Chained X) (place : Option Name) (t s : Chained X) : Type 0 where
    pub moved : List X
    pub leaving : Leaving s0 moved s
    pub done : List (Row Name X)
    pub after : List (Row Name X)
    pub is : t.rows ≡ done ++ after
    pub at : place ≡ first_or after None
    pub merges : merged less (plains t0.rows) (fresh t0.next_serial (values s0.rows)) ≡ plains done ++ merged less (plains after) (fresh t.next_serial (values s.rows))
    pub risen : t.next_serial ≡ t0.next_serial + length moved
    pub longer : length t.rows ≡ length t0.rows + length moved
    pub slots : length t.rows + t.spare ≡ length t0.rows + t0.spare
    pub names : KeepsNames t0 t
    pub target : IsSound t

  pub merging_start : (t0 s0 : Chained X) (place : Option Name) → place ≡ name_at t0.rows 0 → IsSound t0 → IsSound s0 → Merging t0 s0 place t0 s0
  merging_start t0 s0 place e t s = record {
    moved = [];
    leaving = leaving_none s0 s;
    done = [];
    after = t0.rows;
    is = refl;
    at = e ∙ name_at-first t0.rows;
    merges = refl;
    risen = omega arith;
    longer = omega arith;
    slots = refl;
    names = λ a live lt. live;
    target = t;
  }

  module _ (t0 s0 : Chained X) (place : Option Name) (t s : Chained X) (m : Merging t0 s0 place t s) where
    pub merging_place : ForSome place (IsLive t)
    merging_place = λ a e. has_live a t.rows (subst (λ rows. HasName a rows) (sym m.is) (HasName-right a m.done m.after (first_has m.after a (sym m.at ∙ e))))

    pub merging_room : (first : Name) → Some first ≡ name_at s.rows 0 → length s0.rows ≤ t0.spare → 0 < t.spare
    merging_room first e h = let count = leaving_count s0 s m.moved m.leaving in let some = some_left s.rows first e in let len = m.longer in let sum = m.slots in omega arith

    pub merging_serials : (first : Name) → Some first ≡ name_at s.rows 0 → t0.next_serial + length s0.rows < 2 ^ 64 → t.next_serial < 2 ^ 64 - 1
    merging_serials first e h = let count = leaving_count s0 s m.moved m.leaving in let some = some_left s.rows first e in let risen = m.risen in omega arith

    left_at : drop (place_of place t.rows) t.rows ≡ m.after
    left_at =
        let at : place_of place t.rows ≡ length m.done = ap (place_of place) m.is ∙ place_cut place m.done m.after (subst (λ rows. IsOnce rows) m.is (once_from t.rows m.target.once)) m.at in
        (λ i. drop (at i) (m.is i)) ∙ drop-append_seam m.done m.after

    pub merging_found : (v : X) (then : Option Name) → then ≡ found_in (is_behind less) v (drop (place_of place t.rows) t.rows) → ForSome then (IsLive t)
    merging_found v then found = λ a e.
        let k = parted v m.after then (found ∙ ap (found_in (is_behind less) v) left_at) in
        has_live a t.rows (subst (λ rows. HasName a rows) (sym m.is) (HasName-right a m.done m.after (subst (λ rows. HasName a rows) (sym k.is) (HasName-right a k.skipped k.rest (first_has k.rest a (sym k.at ∙ e))))))

    pub merging_more : (first : Name) (v : X) (s1 t1 : Chained X) (a : Name) (then : Option Name) → 0 < t.spare → Taken s first v s1 → then ≡ found_in (is_behind less) v (drop (place_of place t.rows) t.rows)
        → IsFresh t a → t1 ≡ inserted t then (row a v) → IsSound t1 → Merging t0 s0 then t1 s1
    merging_more first v s1 t1 a then some tk found f e sound =
        let k = parted v m.after then (found ∙ ap (found_in (is_behind less) v) left_at) in
        let r = row a v in
        let front = m.done ++ k.skipped in
        let whole : t.rows ≡ front ++ k.rest = m.is ∙ ap (λ zs. m.done ++ zs) k.is ∙ sym (append_assoc m.done k.skipped k.rest) in
        let at : place_of then t.rows ≡ length front = ap (place_of then) whole ∙ place_cut then front k.rest (subst (λ rows. IsOnce rows) whole (once_from t.rows m.target.once)) k.at in
        let rows : t1.rows ≡ front ++ r ∷ k.rest = ap (λ (d : Chained X). d.rows) e ∙ (λ i. insert (whole i) (at i) r) ∙ insert-cut front r k.rest in
        let next : t1.next_serial ≡ t.next_serial + 1 = ap (λ (d : Chained X). d.next_serial) e in
        let spare = ap (λ (d : Chained X). d.spare) e in
        let was = ap length whole ∙ length-append front k.rest in
        let now = ap length rows ∙ length-append front (r ∷ k.rest) in
        let more = length-append m.moved (v ∷ []) in
        let risen = m.risen in
        let longer = m.longer in
        let slots = m.slots in
        let n = t.next_serial in
        let vs = values s1.rows in
        let others = merged less (plains k.rest) (fresh (n + 1) vs) in
        record {
          moved = m.moved ++ v ∷ [];
          leaving = leaving_more s0 s s1 m.moved v first m.leaving tk;
          done = front ++ r ∷ [];
          after = k.rest;
          is = rows ∙ sym (append_assoc front (r ∷ []) k.rest);
          at = k.at;
          merges = m.merges ∙ (λ i. plains m.done ++ merged less (plains m.after) (fresh n (values (tk.is i)))) ∙ (λ i. plains m.done ++ merged less (plains m.after) (row n (tk.value i) ∷ fresh (n + 1) vs))
              ∙ ap (λ zs. plains m.done ++ zs) (k.merges n (fresh (n + 1) vs)) ∙ sym (append_assoc (plains m.done) (plains k.skipped) (row n v ∷ others)) ∙ sym (append_assoc (plains m.done ++ plains k.skipped) (row n v ∷ []) others)
              ∙ (λ i. (sym (plains-append m.done k.skipped) i ++ row (sym f.serial i) v ∷ []) ++ merged less (plains k.rest) (fresh (sym next i) vs))
              ∙ ap (λ zs. zs ++ merged less (plains k.rest) (fresh t1.next_serial vs)) (sym (plains-append front (r ∷ [])));
          risen = omega arith;
          longer = omega arith;
          slots = omega arith;
          names = λ b live lt. elim (HasName-cut b front r k.rest (subst (λ zs. HasName b zs) rows (live_has b t1.rows live))) [
            | inl same ↦ absurd (let high : b.serial ≡ t.next_serial = ap (λ (c : Name). c.serial) same ∙ f.serial in omega arith)
            | inr t2 ↦ m.names b (has_live b t.rows (subst (λ zs. HasName b zs) (sym whole) t2)) lt
          ];
          target = sound;
        }

    pub merging_end : None ≡ name_at s.rows 0 → IsMerged less t0 (values s0.rows) t
    merging_end e = record {
      rows = ap plains m.is ∙ plains-append m.done m.after
          ∙ sym (m.merges ∙ ap (λ rows. plains m.done ++ merged less (plains m.after) (fresh t.next_serial (values rows))) (none_left s.rows e) ∙ ap (λ zs. plains m.done ++ zs) (merged_with_none less (plains m.after)));
      next = m.risen ∙ ap (λ vs. t0.next_serial + length vs) (leaving_all s0 s m.moved m.leaving e);
      names = m.names;
    }

    pub merging_cleared : None ≡ name_at s.rows 0 → s ≡ chain.cleared s0
    merging_cleared e = leaving_cleared s0 s m.moved m.leaving e

  pub merged_length : (c now from : Chained X) → IsMerged less c (values from.rows) now → length now.rows ≡ length c.rows + length from.rows
  merged_length c now from f =
      let vs = values from.rows in
      let a = sym (length-plains now.rows) ∙ ap length f.rows ∙ length-merged less (plains c.rows) (fresh c.next_serial vs) in
      let b = length-plains c.rows in
      let d = length-fresh c.next_serial vs ∙ length-map from.rows (λ (r : Row Name X). r.value) in
      omega arith

  -- what was merged after so many slots were reserved
  pub reserved_merged : (c d now : Chained X) (n : ℕ) (vs : List X) → d ≡ reserved c n → IsMerged less d vs now → IsMerged less c vs now
  reserved_merged c d now n vs is f =
      let r = reserved_enough c d n is in
      record {
        rows = f.rows ∙ (λ i. merged less (plains (r.rows i)) (fresh (r.next i) vs));
        next = f.next ∙ ap (λ m. m + length vs) r.next;
        names = λ a live lt. subst (λ rows. index_of a rows < length rows) r.rows (f.names a live (subst (λ m. a.serial < m) (sym r.next) lt));
      }

  pub merged_grown : (c d now from : Chained X) → d ≡ reserved c (length from.rows) → IsMerged less d (values from.rows) now → length now.rows + now.spare ≡ length d.rows + d.spare → HasGrown c (length from.rows) now
  merged_grown c d now from is f sum = reserved_grown c d now (length from.rows) is (merged_length c now from (reserved_merged c d now (length from.rows) (values from.rows) is f)) sum
