-- What two lists are after elements of one were spliced into the other.
use Rattle.std.proofs.Common.{◌≡◌, ℕ, ◌+◌, ◌∷◌, length, Option, Some, None, Result, Ok, Err, refl, sym, ap, ◌∙◌, subst}
use Rattle.std.specs.Prelude.{IfOk, IfErr}
use Rattle.std.proofs.lemmas.List.{length-map}
use Rattle.ac_base.specs.declared.limit.Limit.{Limit}
use Rattle.ac_base.specs.declared.name.Name.{Name}
use Rattle.ac_base.specs.declared.fault.Fault.{Fault}
use Rattle.ac_base.specs.declared.cursor.Cursor.TheVariants.{At}
use Rattle.ac_base.specs.declared.fault.NoMemory.{NoMemory}
use Rattle.ac_base.specs.Guards.{GuardCounts}
use Rattle.ac_base.specs.declared.cursor.Cursor.{Cursor}
use Rattle.ac_chain.specs.Rows.{Chained, IsSound, value_of, removed}
use Rattle.ac_pool.specs.NamedRows.{index_of}
use Rattle.ac_pool.proofs.Cuts.{live_has}
use Rattle.ac_base.specs.Rows.{Row}
use Rattle.ac_model.specs.Rows.{value_at, put}
use Rattle.ac_model.specs.Rows as model
use Rattle.ac_model.specs.Objects.{Object, plain, length_of, contents, with_rows}
use Rattle.ac_model.specs.Letters.{mark_at, name_of, tampers_cursors, room, room_for_one}
use Rattle.ac_model.specs.Calls.{ChangingBoth, Marks, both, IsAfter}
use Rattle.ac_model.specs.Lists as lists
use Rattle.ac_model.specs.Lists.{one_value}
use Rattle.ac_model.proofs.Reasons.{after_two, after_three, after_four, none_first}
use Rattle.ac_model.specs.Containers.{Grows, slots_of}
use Rattle.ac_model.specs.Objects.{plains}
use Rattle.ac_chain.specs.Put.{IsPut, IsFirst, HasGrown}
use Rattle.ac_model.specs.Forms.{cursor_of}
use Rattle.ac_base.specs.Rows.{values}
use Rattle.ac_model.specs.Cursors.{may_cursor, needs_cursor, mark, place_in, name_in}
use Rattle.ac_model.specs.Containers.{Container, container}
use Rattle.ac_chain.specs.Sequence.{object_of}
use Rattle.ac_chain.proofs.Marks.{marked_live, value_live}
use Rattle.ac_chain.proofs.SequenceStanding.{stands}
use Rattle.ac_chain.proofs.SequenceLooks.{live_needed, mark_needed}
use Rattle.ac_chain.proofs.SequenceGrows.{grown_slots}
use Rattle.ac_chain.proofs.SequenceMoves.{room_fits, both_lengths, placed_after}
use Rattle.ac_model.proofs.Changes.{no_capacity}
use Rattle.ac_chain.proofs.SequenceRefills.{source_is}
use Rattle.ac_chain.proofs.SequenceDeletes.{cut_after, cursor_place}
use Rattle.ac_chain.proofs.Moved.{Fits, removed_cut, count_one}

module _ {X : Type 0} where
  pub one_slots : (g : GuardCounts) (l : Limit) (k now : Chained X) (o : Container X) → container (object_of g l None k) k.spare ≡ o → (r : Result Name NoMemory) (d : Result Cursor Fault) (number : ℕ) → d ≡ cursor_of number r
      → IfOk r (λ _. HasGrown k 1 now) → IfErr r (λ _. now ≡ k) → Grows d o (container (object_of g l None now) now.spare)
  one_slots g l k now o view r d number is ok err = subst (λ q. Grows q o (container (object_of g l None now) now.spare)) (sym is) (by r ok err)
    where
      by : (r : Result Name NoMemory) → IfOk r (λ _. HasGrown k 1 now) → IfErr r (λ _. now ≡ k) → Grows (cursor_of number r) o (container (object_of g l None now) now.spare)
      by (Ok x) ok err = grown_slots g l None None k now o view ok.most
      by (Err e) ok err = ap (λ (c : Chained X). slots_of (container (object_of g l None c) c.spare)) err ∙ ap slots_of view

module _ {X : Type 0} (g h : GuardCounts) (l m : Limit) (k from : Chained X) (o p : Object Name X) (view : object_of g l None k ≡ o) (source : object_of h m None from ≡ p) where
  -- Splice of all elements
  pub record SpliceFits (b : Cursor) : Type 0 where
    pub place : may_cursor o b ≡ None
    pub fits : Fits l k (length k.rows + length from.rows) (length from.rows)

  pub splice_fits : (b : Cursor) → None ≡ (lists.splice_call (plain o) (mark o b) (plain p)).reason → SpliceFits b
  splice_fits b e =
      let n = length_of (plain p) in let all = length_of (plain o) + n in
      let t = tampers_cursors (plain o) in let u = tampers_cursors (plain p) in let r = room (plain o) all n in
      record {
        place = none_first (may_cursor o b) r (after_two t u (may_cursor o b ∷ r) (sym e));
        fits = room_fits g l None k o view all n (length k.rows + length from.rows) (length from.rows) (both_lengths g h l m None None k from o p view source) (source_is h m None from p source).1 (after_three t u (may_cursor o b) r (sym e));
      }

  pub spliced : (now : Chained X) (b : Cursor) (place : Option Name) → IsSound k → None ≡ (lists.splice_call (plain o) (mark o b) (plain p)).reason → place ≡ place_in b → IsPut k.rows k.next_serial place (values from.rows) now
      → IsAfter o (object_of g l None now) (lists.splice_call (plain o) (mark o b) (plain p)).after.target
  spliced now b place s e is put =
      placed_after g l None None k now o view s b place (contents (plain p)) (length_of (plain p)) (no_capacity l (length now.rows)) (length-map (plain p).rows (λ (r : Row ℕ X). r.value)) is (splice_fits b e).place (subst (λ vs. IsPut k.rows k.next_serial place vs now) (sym (source_is h m None from p source).0) put)

  -- Splice of one element
  pub record OneFits (b q : Cursor) : Type 0 where
    pub place : may_cursor o b ≡ None
    pub position : needs_cursor p q ≡ None
    pub fits : Fits l k (length k.rows + 1) 1

  pub one_fits : (b q : Cursor) → None ≡ (lists.splice_one_call (plain o) (mark o b) (plain p) (mark p q)).reason → OneFits b q
  one_fits b q e =
      let t = tampers_cursors (plain o) in let u = tampers_cursors (plain p) in let v = may_cursor o b in let w = needs_cursor p q in let r = room_for_one (plain o) in
      record {
        place = none_first v (w ∷ r) (after_two t u (v ∷ w ∷ r) (sym e));
        position = none_first w r (after_three t u v (w ∷ r) (sym e));
        fits = room_fits g l None k o view (length_of (plain o) + 1) 1 (length k.rows + 1) 1 (ap (λ n. n + 1) (source_is g l None k o view).1) refl (after_four t u v w r (sym e));
      }

  one_placed : (now then : Chained X) (b q : Cursor) (place : Option Name) (name a : Name) → IsSound k → IsSound from → None ≡ (lists.splice_one_call (plain o) (mark o b) (plain p) (mark p q)).reason
      → place ≡ place_in b → name ≡ name_in q → IsPut k.rows k.next_serial place (one_value (value_of from name)) now → IsFirst k.next_serial now a → then ≡ removed from name → IsSound then
      → ChangingBoth (Marks (object_of g l None now)) (lists.splice_one_call (plain o) (mark o b) (plain p) (mark p q)) (both o p) (both (object_of g l None now) (object_of h m None then)) (Ok (At g.number a))
  one_placed now then b q place name a s sound e at is put first gone sound1 =
      let f = one_fits b q e in
      let live = live_needed h m None from p source q name is f.position in
      let value : value_at (plain p).rows (name_of (mark p q)) ≡ value_of from name =
      ap (λ x. value_at (plain p).rows (name_of x)) (mark_needed h m None from p source q f.position)
      ∙ ap (λ (y : Object Name X). value_at (plain y).rows (name_in q).serial) (sym source)
      ∙ ap (λ (n : Name). value_at (plains from.rows) n.serial) (sym is) ∙ value_live from name sound live in
      let count : length (one_value (value_of from name)) ≡ 1 = count_one from name live in
      let spot = (cursor_place h m None from p source sound q (Some name) (ap Some is ∙ sym (placed q f.position)) f.position).1 in (
        sym e,
        record {
          target = placed_after g l None None k now o view s b place (one_value (value_at (plain p).rows (name_of (mark p q)))) 1 (no_capacity l (length now.rows)) (ap (λ x. length (one_value x)) value ∙ count) at f.place
              (subst (λ x. IsPut k.rows k.next_serial place (one_value x) now) (sym value) put);
          source = subst (λ i. IsAfter p (object_of h m None then) (with_rows (plain p) (model.cut (plain p).rows i 1))) spot (cut_after h m None from then p source (index_of name from.rows) 1 (removed_cut from then name sound live gone sound1));
        },
        marked_live g.number now.rows a (live_has a now.rows first.live) ∙ ap (mark_at g.number) first.serial
            ∙ ap (λ (y : Object Name X). mark_at (plain y).number (plain y).next) view,
      )
    where
      placed : (q : Cursor) → needs_cursor p q ≡ None → place_in q ≡ Some (name_in q)
      placed q none = ap place_in (stands h m None from q (ap (λ (y : Object Name X). needs_cursor y q) source ∙ none)).at

  pub one_spliced : (now then : Chained X) (b q : Cursor) (place : Option Name) (name : Name) (r : Result Name NoMemory) (d : Result Cursor Fault) (number : ℕ) → IsSound k → IsSound from → None ≡ (lists.splice_one_call (plain o) (mark o b) (plain p) (mark p q)).reason
      → place ≡ place_in b → name ≡ name_in q → number ≡ g.number → d ≡ cursor_of number r → IfOk r (λ _. IsPut k.rows k.next_serial place (one_value (value_of from name)) now) → IfOk r (λ a. IsFirst k.next_serial now a)
      → IfOk r (λ _. then ≡ removed from name) → IfErr r (λ _. now ≡ k) → IfErr r (λ _. then ≡ from) → IsSound then
      → ChangingBoth (Marks (object_of g l None now)) (lists.splice_one_call (plain o) (mark o b) (plain p) (mark p q)) (both o p) (both (object_of g l None now) (object_of h m None then)) d
  one_spliced now then b q place name r d number s sound e at is own er put first gone same same_source sound1 =
      subst (λ x. ChangingBoth (Marks (object_of g l None now)) (lists.splice_one_call (plain o) (mark o b) (plain p) (mark p q)) (both o p) (both (object_of g l None now) (object_of h m None then)) x) (sym (er ∙ ap (λ n. cursor_of n r) own)) (by r put first gone same same_source)
    where
      by : (r : Result Name NoMemory) → IfOk r (λ _. IsPut k.rows k.next_serial place (one_value (value_of from name)) now) → IfOk r (λ a. IsFirst k.next_serial now a) → IfOk r (λ _. then ≡ removed from name)
          → IfErr r (λ _. now ≡ k) → IfErr r (λ _. then ≡ from)
          → ChangingBoth (Marks (object_of g l None now)) (lists.splice_one_call (plain o) (mark o b) (plain p) (mark p q)) (both o p) (both (object_of g l None now) (object_of h m None then)) (cursor_of g.number r)
      by (Ok a) put first gone same same_source = one_placed now then b q place name a s sound e at is put first gone sound1
      by (Err x) put first gone same same_source = (refl, sym e, λ i. both ((ap (object_of g l None) same ∙ view) i) ((ap (object_of h m None) same_source ∙ source) i))
