-- An array whose values are handed out, the last one first.
use Rattle.std.proofs.Common.{◌≡◌, ℕ, ◌+◌, ◌-◌, ◌<◌, List, [], ◌∷◌, ◌++◌, length, reverse, take, Option, Some, None, Result, Ok, Err, refl, sym, ap, ◌∙◌, subst, arith, inl, append-nil, length-append}
use Rattle.std.specs.Option.{option_map, option_to_list}
use Rattle.std.proofs.lemmas.List.{length-map, length-reverse, length-take, map-append, reverse-append, reverse-reverse}
use Rattle.ac_base.specs.declared.fault.NoMemory.{NoMemory}
use Rattle.ac_base.specs.declared.name.Name.{Name}
use Rattle.ac_base.specs.Rows.{Row, row, values}
use Rattle.ac_pool.specs.NamedRows.{IsOnce, index_of, name_before}
use Rattle.ac_chain.specs.Rows.{Chained, chained, IsSound, cleared, removed, slots_in, value_of, with_rows}
use Rattle.ac_pool.proofs.Cuts.{apart, index_of-cut, remove-cut, slice_get-cut}
use Rattle.ac_chain.proofs.Deletes.{last_split}
use Rattle.ac_chain.proofs.Moved.{cleared_slots}
use Rattle.ac_chain.proofs.Moves.{once_from}
use Rattle.ac_model.specs.Rows.{over}
use Rattle.ac_pool.specs.Contents.{Contents}
use Rattle.ac_vector.specs.ArrayFields.{IsArray}
use Rattle.ac_vector.specs.Popped.{IsPopped, Popped}
use Rattle.ac_vector.proofs.Arrays.{old_stands, once, view_of}
use Rattle.ac_vector.proofs.Orders.{length-over}
use Rattle.ac_vector.proofs.Rewrites.{values-over}
use Rattle.std.specs.List.{remove}
use Rattle.std.specs.Prelude.{IfOk, IfErr, min, slice_get}

module _ {X : Type 0} where
  -- the last row's value
  last_value : (rows : List (Row Name X)) (a : Name) (e : Some a ≡ name_before rows (length rows)) → IsOnce rows → option_map (λ (r : Row Name X). r.value) (slice_get rows (index_of a rows)) ≡ Some (last_split rows a e).last.value
  last_value rows a e once =
      let d = last_split rows a e in
      let alone : IsOnce (d.rest ++ d.last ∷ []) = subst (λ zs. IsOnce zs) d.is once in
      let at : index_of a rows ≡ length d.rest = (λ i. index_of (d.named i) (d.is i)) ∙ index_of-cut d.rest d.last [] (λ z. apart d.rest (d.last ∷ []) alone d.last.name z (inl refl)) in
      ap (option_map (λ (r : Row Name X). r.value)) ((λ i. slice_get (d.is i) (at i)) ∙ slice_get-cut d.rest d.last [])

  -- what a vector's last value was, where a row's was there
  popped_is : (vs ws us : List X) (v : X) (r : Option X) (x : ℕ) → vs ≡ us ++ v ∷ [] → vs ≡ ws ++ option_to_list r → x ≡ length vs → ws ≡ take (x - 1) vs → r ≡ Some v
  popped_is vs ws us v None x are items count short =
      let all : length vs ≡ length us + 1 = ap length are ∙ length-append us (v ∷ []) in
      let same : length vs ≡ length ws = ap length (items ∙ append-nil ws) in
      let less : length ws ≡ min (x - 1) (length vs) = ap length short ∙ length-take (x - 1) vs in
      absurd (omega arith)
  popped_is vs ws us v (Some u) x are items count short =
      let heads : u ∷ reverse ws ≡ v ∷ reverse us = sym (reverse-append ws (u ∷ [])) ∙ ap reverse (sym items ∙ are) ∙ reverse-append us (v ∷ []) in
      let same : u ≡ v = cc in ap Some same

  pub popped_value : {ns : List Name} {vs : List X} {p : Contents ℕ} {m n : ℕ} {old : Chained X} → IsArray ns vs p m n → view_of ns vs p ≡ old → (a : Name) → Some a ≡ name_before old.rows (length old.rows) → (ws : List X) (r : Option X) (x : ℕ)
      → vs ≡ ws ++ option_to_list r → x ≡ length vs → ws ≡ take (x - 1) vs → r ≡ value_of old a
  popped_value {ns} {vs} {p} {m} {n} {old} h is a e ws r x items count short =
      let s = old_stands h is in
      let d = last_split old.rows a e in
      let are : vs ≡ values d.rest ++ d.last.value ∷ [] = s.valued ∙ ap values d.is ∙ map-append (λ (q : Row Name X). q.value) d.rest (d.last ∷ []) in
      popped_is vs ws (values d.rest) d.last.value r x are items count short ∙ sym (last_value old.rows a e (once s))

  -- the row that is removed at the end
  pub popped_last : (c now : Chained X) (a : Name) (v : Option X) → IsSound c → Some a ≡ name_before c.rows (length c.rows) → v ≡ value_of c a → now ≡ removed c a → IsPopped c v now
  popped_last c now a v s e is gone =
      let d = last_split c.rows a e in
      let once : IsOnce (d.rest ++ d.last ∷ []) = subst (λ zs. IsOnce zs) d.is (once_from c.rows s.once) in
      let at : index_of a c.rows ≡ length d.rest = (λ i. index_of (d.named i) (d.is i)) ∙ index_of-cut d.rest d.last [] (λ z. apart d.rest (d.last ∷ []) once d.last.name z (inl refl)) in
      let value : value_of c a ≡ Some d.last.value = last_value c.rows a e (once_from c.rows s.once) in
      let rows : remove c.rows (index_of a c.rows) ≡ d.rest = (λ i. remove (d.is i) (at i)) ∙ remove-cut d.rest d.last [] ∙ append-nil d.rest in
      subst (λ x. IsPopped c x now) (sym (is ∙ value)) (record {
        rest = d.rest;
        name = d.last.name;
        rows = d.is;
        left = gone ∙ ap (λ zs. chained zs c.next_serial (c.spare + 1)) rows;
      })

  -- so far: the values were handed out from the end, and the slots are spare
  pub record Draining (from now : Chained X) : Type 0 where
    pub next : now.next_serial ≡ from.next_serial
    pub slots : slots_in now ≡ slots_in from
    pub sound : IsSound now

  pub draining_more : (from now later : Chained X) (v : X) → Draining from now → Popped now v later → IsSound later → Draining from later
  draining_more from now later v d p sound =
      let rows : length now.rows ≡ length later.rows + 1 = ap length p.rows ∙ length-append p.rest (row p.name v ∷ []) ∙ ap (λ (c : Chained X). length c.rows + 1) (sym p.left) in
      let spare : later.spare ≡ now.spare + 1 = ap (λ (c : Chained X). c.spare) p.left in
      let old = d.slots in
      record { next = ap (λ (c : Chained X). c.next_serial) p.left ∙ d.next; slots = omega arith; sound = sound }

  pub draining_falls : (now later : Chained X) (v : X) → Popped now v later → length later.rows < length now.rows
  draining_falls now later v p =
      let rows : length now.rows ≡ length later.rows + 1 = ap length p.rows ∙ length-append p.rest (row p.name v ∷ []) ∙ ap (λ (c : Chained X). length c.rows + 1) (sym p.left) in omega arith

  pub draining_end : (from now later : Chained X) → Draining from now → IsPopped now None later → later ≡ cleared from
  draining_end from now later d p =
      let none : length now.rows ≡ 0 = ap length p.0 in
      let old = d.slots in
      let spare : now.spare ≡ length from.rows + from.spare = omega arith in
      p.1 ∙ (λ i. chained (p.0 i) (d.next i) (spare i))

  -- the values that are left, the last one first
  abbrev pub back : Chained X → List X
  back c = reverse (values c.rows)

  pub back_step : (now later : Chained X) (v : X) → Popped now v later → back now ≡ v ∷ back later
  back_step now later v p =
      ap (λ rows. reverse (values rows)) p.rows ∙ ap reverse (map-append (λ (r : Row Name X). r.value) p.rest (row p.name v ∷ [])) ∙ reverse-append (values p.rest) (v ∷ [])
      ∙ ap (λ (c : Chained X). v ∷ back c) (sym p.left)

  pub back_none : (now later : Chained X) → IsPopped now None later → length (back now) ≡ 0
  back_none now later p = ap (λ rows. length (reverse (values rows))) p.0

  pub back_count : (c : Chained X) → length (back c) ≡ length c.rows
  back_count c = length-reverse (values c.rows) ∙ length-map c.rows (λ (r : Row Name X). r.value)

  -- with the values the other way round before, they come in their order
  module _ (from turned : Chained X) (is : turned ≡ with_rows from (over from.rows (reverse (values from.rows)))) where
    pub turned_back : back turned ≡ values from.rows
    turned_back =
        ap (λ (c : Chained X). reverse (values c.rows)) is ∙ ap reverse (values-over from.rows (reverse (values from.rows)) (back_count from)) ∙ reverse-reverse (values from.rows)

    pub turned_count : length turned.rows ≡ length from.rows
    turned_count = ap (λ (c : Chained X). length c.rows) is ∙ length-over from.rows (reverse (values from.rows))

    pub turned_cleared : cleared turned ≡ cleared from
    turned_cleared =
        let count = turned_count in
        let spare : turned.spare ≡ from.spare = ap (λ (c : Chained X). c.spare) is in
        let next : turned.next_serial ≡ from.next_serial = ap (λ (c : Chained X). c.next_serial) is in
        λ i. chained [] (next i) (count i + spare i)

  pub emptied_slots : {A : Type 0} (r : Result A NoMemory) (from later : Chained X) → IfOk r (λ _. later ≡ cleared from) → IfErr r (λ _. later ≡ from) → slots_in later ≡ slots_in from
  emptied_slots (Ok x) from later e same = cleared_slots from later e
  emptied_slots (Err x) from later e same = ap slots_in same
