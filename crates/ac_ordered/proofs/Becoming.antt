-- What each change of a tree leaves, as an index of its rows is seen.
use Rattle.std.proofs.Common.{◌≡◌, ◌+◌, ◌-◌, ◌<◌, ◌≤◌, ℕ, Bool, true, false, true≢false, nat_lt, List, [], ◌∷◌, length, Option, Some, None, refl, sym, ap, ◌∙◌, subst, inl, inr, arith}
use Rattle.std.specs.Prelude.{is_some, max, option_map}
use Rattle.std.specs.List.{insert, remove, slice_set, prefix_len}
use Rattle.std.proofs.Math.Nat.{le-max_left, le-max_right}
use Rattle.std.proofs.lemmas.Bool.{cond-true, cond-false, cases_lt, le-leb, lt-leb, lt-ltb}
use Rattle.std.proofs.lemmas.List.{length-map}
use Rattle.std.proofs.lemmas.Option.{none-some}
use Rattle.std.proofs.lemmas.List.Sums.{prefix_len-le-length}
use Rattle.ac_base.specs.declared.limit.Limit.{Limit}
use Rattle.ac_base.specs.declared.limit.Limit.TheVariants.{Unbounded, Bounded}
use Rattle.ac_base.specs.declared.name.Name.{Name}
use Rattle.ac_base.specs.Growth.{pow8}
use Rattle.ac_base.specs.Limits.{is_past}
use Rattle.ac_base.specs.Rows.{Row, row, values}
use Rattle.ac_balance.specs.declared.entry.Entry.{Entry}
use Rattle.ac_pool.specs.NamedRows.{HasName, index_of}
use Rattle.ac_balance.specs.Indexed as tree
use Rattle.ac_balance.specs.Indexed.{IsSound, IsThere, IsFresh, entry, key_of}
use Rattle.ac_pool.proofs.Cuts.{live_has}
use Rattle.ac_model.specs.Keyed.{ascending, added, with_reordered}
use Rattle.ac_base.proofs.Powers.{pow8-enough}
use Rattle.ac_model.specs.Objects.{plains, capacity_after}
use Rattle.ac_model.specs.Rows.{cut, put, place_of, with_value, with_some_value, value_at}
use Rattle.ac_setwork.specs.Indexed.{Becomes, MakesRoom, HasSlots, is_there, plain_rows, slots}
use Rattle.ac_setwork.proofs.Slots.{after_grown, after_kept}
use Rattle.ac_ordered.specs.Ascents.{Nothing, ascent, row_in}
use Rattle.ac_ordered.proofs.Ascents.{Kept, alone, once_in, entry_there, has_among, has_insert, has_remove, has_set, insert_has, insert_is, kept, place_is, prefix_is, remove_is, rows_of, set_is, value_is}

kept_none : (limit : Limit) (need : ℕ) → None ≡ capacity_after limit None need
kept_none Unbounded need = refl
kept_none (Bounded most) need = refl

not_past : (most length : ℕ) → nat_lt most length ≡ false → length ≤ most
not_past most length h = elim (cases_lt most length) [ inl lt ↦ absurd (true≢false (sym (lt-ltb most length lt) ∙ h)) | inr le ↦ le ]

module _ {V : Type 0} (less : V → V → Bool) (x : tree.Indexed V Nothing) where
  -- a row more
  pub added_becomes : (x2 : tree.Indexed V Nothing) (a : Name) (v : V) → x2 ≡ tree.added less x a v tt → IsFresh x a
      → Becomes (ascent x) (ascent x2) (added (ascending less) (plain_rows (ascent x)) x.next_serial (v ∷ [])) (x.next_serial + 1) (x.spare - 1)
  added_becomes x2 a v e fresh =
      let i = prefix_len (λ (r : Kept V). less r.value.key v) x.rows in let le = prefix_len-le-length (λ (r : Kept V). less r.value.key v) x.rows in let p = plain_rows (ascent x) in
      let new : Kept V = row a (entry v tt) in
      subst (λ y. Becomes (ascent x) (ascent y) (added (ascending less) p x.next_serial (v ∷ [])) (x.next_serial + 1) (x.spare - 1)) (sym e) (record {
        plainly = insert_is x.rows i new le ∙ (λ j. put p (prefix_is (λ w. less w v) x.rows j) (row (fresh.serial j) v ∷ []));
        same_slots = kept x.rows (insert x.rows i new) x.next_serial (λ b t lt. elim (has_insert b x.rows i new le t) [
          | inl same ↦ absurd (let s = ap (λ (n : Name). n.serial) same in let f = fresh.serial in omega (arith, s, f, lt))
          | inr u ↦ u
        ]);
        next = refl;
        spare = refl;
        capacity = refl;
      })

  pub added_there : (x2 : tree.Indexed V Nothing) (a : Name) (v : V) → x2 ≡ tree.added less x a v tt → is_there (ascent x2) a ≡ true
  added_there x2 a v e =
      let i = prefix_len (λ (r : Kept V). less r.value.key v) x.rows in let new : Kept V = row a (entry v tt) in
      ap (λ y. is_there (ascent y) a) e ∙ has_among a (insert x.rows i new) (insert_has x.rows i new (prefix_len-le-length (λ (r : Kept V). less r.value.key v) x.rows))

  module _ (s : IsSound less x) (a : Name) (live : IsThere x a) where
    has : HasName a x.rows
    has = live_has a x.rows live

    pub key_there : (k : V) × (key_of x a ≡ Some k)
    key_there = let e = entry_there a x.rows has in (e.0.key, ap (option_map (λ (f : Entry V Nothing). f.key)) e.1)

    place : place_of (plain_rows (ascent x)) a.serial ≡ index_of a x.rows
    place = place_is a x.rows (alone less x a s live)

    gone : plains (rows_of (remove x.rows (index_of a x.rows))) ≡ cut (plain_rows (ascent x)) (place_of (plain_rows (ascent x)) a.serial) 1
    gone = remove_is x.rows (index_of a x.rows) live ∙ ap (λ i. cut (plain_rows (ascent x)) i 1) (sym place)

    -- a row less
    pub taken_becomes : (x2 : tree.Indexed V Nothing) → x2 ≡ tree.taken x a → Becomes (ascent x) (ascent x2) (cut (plain_rows (ascent x)) (place_of (plain_rows (ascent x)) a.serial) 1) x.next_serial (x.spare + 1)
    taken_becomes x2 e =
        let there : is_some (tree.value_at x.rows a) ≡ true = ap is_some (entry_there a x.rows has).1 in
        subst (λ y. Becomes (ascent x) (ascent y) (cut (plain_rows (ascent x)) (place_of (plain_rows (ascent x)) a.serial) 1) x.next_serial (x.spare + 1)) (sym (e ∙ cond-true _ _ _ there)) (record {
          plainly = gone;
          same_slots = kept x.rows (remove x.rows (index_of a x.rows)) x.next_serial (λ b t lt. has_remove b x.rows (index_of a x.rows) t);
          next = refl;
          spare = refl;
          capacity = refl;
        })

    -- another row at the same place
    pub changed_becomes : (x2 : tree.Indexed V Nothing) (f : V → V) (k : V) → x2 ≡ tree.with_changed x a f → key_of x a ≡ Some k → Becomes (ascent x) (ascent x2) (with_value (plain_rows (ascent x)) a.serial (f k)) x.next_serial x.spare
    changed_becomes x2 f k e at =
        let there = entry_there a x.rows has in
        let same : Some there.0.key ≡ Some k = sym (ap (option_map (λ (g : Entry V Nothing). g.key)) there.1) ∙ at in let is : there.0.key ≡ k = cc in
        let new : Entry V Nothing = entry (f there.0.key) there.0.value in
        subst (λ y. Becomes (ascent x) (ascent y) (with_value (plain_rows (ascent x)) a.serial (f k)) x.next_serial x.spare) (sym (e ∙ ap (tree.key_put x a f) there.1)) (record {
          plainly = set_is a x.rows new (alone less x a s live) (once_in less x s) has ∙ ap (λ w. with_value (plain_rows (ascent x)) a.serial (f w)) is;
          same_slots = kept x.rows (slice_set x.rows (index_of a x.rows) (row a new)) x.next_serial (λ b t lt. has_set a b x.rows new has t);
          next = refl;
          spare = refl;
          capacity = refl;
        })

    pub element_becomes : (x2 : tree.Indexed V Nothing) (f : V → V) → x2 ≡ tree.with_changed x a f
        → Becomes (ascent x) (ascent x2) (with_some_value (plain_rows (ascent x)) a.serial (option_map f (value_at (plain_rows (ascent x)) a.serial))) x.next_serial x.spare
    element_becomes x2 f e =
        let k = key_there in let at = value_is x a (alone less x a s live) ∙ k.1 in
        subst (λ o. Becomes (ascent x) (ascent x2) (with_some_value (plain_rows (ascent x)) a.serial (option_map f o)) x.next_serial x.spare) (sym at) (changed_becomes x2 f k.0 e k.1)

    -- a row under its name, at its place
    pub reordered_becomes : (x2 : tree.Indexed V Nothing) (v : V) → x2 ≡ tree.with_new_row less x a v tt → Becomes (ascent x) (ascent x2) (with_reordered (ascending less) (plain_rows (ascent x)) a.serial v) x.next_serial x.spare
    reordered_becomes x2 v e =
        let rest = remove x.rows (index_of a x.rows) in let i = prefix_len (λ (r : Kept V). less r.value.key v) rest in let le = prefix_len-le-length (λ (r : Kept V). less r.value.key v) rest in
        let new : Kept V = row a (entry v tt) in
        subst (λ y. Becomes (ascent x) (ascent y) (with_reordered (ascending less) (plain_rows (ascent x)) a.serial v) x.next_serial x.spare) (sym e) (record {
          plainly = insert_is rest i new le ∙ ap (λ j. put (plains (rows_of rest)) j (row a.serial v ∷ [])) (prefix_is (λ w. less w v) rest)
              ∙ ap (λ (p : List (Row ℕ V)). put p (prefix_len (λ w. less w v) (values p)) (row a.serial v ∷ [])) gone;
          same_slots = kept x.rows (insert rest i new) x.next_serial (λ b t lt. elim (has_insert b rest i new le t) [
            | inl same ↦ subst (λ n. HasName n x.rows) (sym same) has
            | inr u ↦ has_remove b x.rows (index_of a x.rows) u
          ]);
          next = refl;
          spare = refl;
          capacity = refl;
        })

pub key_of_row : {V : Type 0} (o : Option (Entry V Nothing)) (p : V × Nothing) → option_map (λ (e : Entry V Nothing). (e.key, e.value)) o ≡ Some p → option_map (λ (e : Entry V Nothing). e.key) o ≡ Some p.0
key_of_row None p h = absurd (none-some p h)
key_of_row {V} (Some e) p h = let k : Some (e.key, e.value) ≡ Some p = h in let same : (e.key, e.value) ≡ p = cc in ap (λ (q : V × Nothing). Some q.0) same

-- room for so many rows more, where a bounded tree has all its slots
module _ {V : Type 0} (limit : Limit) (n : ℕ) (x : tree.Indexed V Nothing) where
  same_room : is_past limit (length (ascent x).rows + n) ≡ false → HasSlots limit None (slots (ascent x)) → n ≤ x.spare → MakesRoom limit n (ascent x) (ascent x)
  same_room within has_slots le = record { rows = refl; next = refl; capacity = kept_none limit (length (ascent x).rows + n); enough = le; has_slots = has_slots; most = le-max_left (slots (ascent x)) (pow8 (length (ascent x).rows + n)); now_slots = sym (after_kept (slots (ascent x)) (length (ascent x).rows + n) (omega (arith, le))) }

  abbrev grown : tree.Indexed V Nothing
  grown = tree.indexed x.rows x.next_serial (pow8 (length x.rows + n) - length x.rows)

  more_room : limit ≡ Unbounded → x.spare < n → MakesRoom limit n (ascent x) (ascent grown)
  more_room none lt =
      let count = length-map x.rows row_in in let enough = pow8-enough (length x.rows + n) in
      let all : slots (ascent grown) ≡ pow8 (length (ascent x).rows + n) = ap (λ m. m + (pow8 (length x.rows + n) - length x.rows)) count ∙ omega (arith, enough) ∙ ap (λ m. pow8 (m + n)) (sym count) in
      record {
        rows = refl;
        next = refl;
        capacity = kept_none limit (length (ascent x).rows + n);
        enough = omega (arith, enough);
        has_slots = subst (λ l. HasSlots l None (slots (ascent grown))) (sym none) tt;
        most = subst (λ m. m ≤ max (slots (ascent x)) (pow8 (length (ascent x).rows + n))) (sym all) (le-max_right (slots (ascent x)) (pow8 (length (ascent x).rows + n)));
        now_slots = all ∙ sym (after_grown (slots (ascent x)) (length (ascent x).rows + n) (omega (arith, lt)));
      }

pub room_made : {V : Type 0} (limit : Limit) (n : ℕ) (x x2 : tree.Indexed V Nothing) → is_past limit (length (ascent x).rows + n) ≡ false → HasSlots limit None (slots (ascent x)) → x2 ≡ tree.reserved x n → MakesRoom limit n (ascent x) (ascent x2)
room_made {V} limit n x x2 within has_slots e = subst (λ y. MakesRoom limit n (ascent x) (ascent y)) (sym e) (elim (cases_lt x.spare n) [
  | inl lt ↦ subst (λ y. MakesRoom limit n (ascent x) (ascent y)) (sym (cond-false _ _ _ (lt-leb n x.spare lt))) (more_room limit n x (unbounded limit within has_slots lt) lt)
  | inr le ↦ subst (λ y. MakesRoom limit n (ascent x) (ascent y)) (sym (cond-true _ _ _ (le-leb n x.spare le))) (same_room limit n x within has_slots le)
])
  where
    unbounded : (l : Limit) → is_past l (length (ascent x).rows + n) ≡ false → HasSlots l None (slots (ascent x)) → x.spare < n → l ≡ Unbounded
    unbounded Unbounded past all lt = refl
    unbounded (Bounded most) past all lt = absurd (let le = not_past most (length (ascent x).rows + n) past in omega (arith, le, all, lt))
