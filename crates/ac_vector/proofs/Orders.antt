-- Other values under the names of a vector, and what it is after that.
use Rattle.std.proofs.Common.{◌≡◌, ◌+◌, List, [], ◌∷◌, length, reverse, Bool, Result, Ok, Err, Some, None, refl, sym, ap, ◌∙◌, subst, inl, inr}
use Rattle.std.specs.Prelude.{OnOk, OnErr, slice_set}
use Rattle.std.proofs.lemmas.List.{length-map, length-set}
use Rattle.ac_base.specs.declared.limit.Limit.{Limit}
use Rattle.ac_base.specs.declared.fault.NoMemory.{NoMemory}
use Rattle.ac_base.specs.declared.name.Name.{Name}
use Rattle.ac_base.specs.Guards.{GuardCounts}
use Rattle.ac_base.specs.Rows.{Row, row, values}
use Rattle.ac_chain.specs.Rows.{Chained, IsSound, slots_in, value_of, with_rows, values_exchanged, values_swapped}
use Rattle.ac_pool.specs.NamedRows.{index_of, HasName}
use Rattle.ac_chain.specs.Sequence.{object_of, IsSequence}
use Rattle.ac_chain.proofs.SequenceRows.{rows_after, sequence_same}
use Rattle.ac_model.specs.Calls.{Changing, Done, IsAfter, Same}
use Rattle.ac_model.specs.Forms.{as_fault}
use Rattle.ac_model.specs.Objects as objects
use Rattle.ac_model.specs.Objects.{Object, plain, plains}
use Rattle.ac_model.specs.Rows.{over, sorted}
use Rattle.ac_model.specs.Vectors as vectors
use Rattle.ac_model.proofs.Plains.{values-plains}
use Rattle.ac_vector.proofs.Capacities.{kept}
use Rattle.ac_vector.proofs.Rewrites.{names-over}

module _ {X : Type 0} where
  plains-over : (rows : List (Row Name X)) (ws : List X) → plains (over rows ws) ≡ over (plains rows) ws
  plains-over [] ws = refl
  plains-over (r ∷ rows) [] = refl
  plains-over (r ∷ rows) (w ∷ ws) = ap (λ zs. row r.name.serial w ∷ zs) (plains-over rows ws)

  over_had : (a : Name) (rows : List (Row Name X)) (ws : List X) → HasName a (over rows ws) → HasName a rows
  over_had a [] ws h = h
  over_had a (r ∷ rows) [] h = h
  over_had a (r ∷ rows) (w ∷ ws) h = elim h [ inl e ↦ inl e | inr t ↦ inr (over_had a rows ws t) ]

  pub length-over : (rows : List (Row Name X)) (ws : List X) → length (over rows ws) ≡ length rows
  length-over rows ws = sym (length-map (over rows ws) (λ (r : Row Name X). r.name)) ∙ ap length (names-over rows ws) ∙ length-map rows (λ (r : Row Name X). r.name)

  pub over_slots : (k now : Chained X) (ws : List X) → now ≡ with_rows k (over k.rows ws) → slots_in now ≡ slots_in k
  over_slots k now ws e = ap slots_in e ∙ ap (λ n. n + k.spare) (length-over k.rows ws)

  pub over_sequence : (l : Limit) (k now : Chained X) (ws : List X) → IsSequence l k → now ≡ with_rows k (over k.rows ws) → IsSound now → IsSequence l now
  over_sequence l k now ws s e sound = sequence_same l k now s (ap (λ (d : Chained X). length d.rows) e ∙ length-over k.rows ws) (ap (λ (d : Chained X). d.spare) e) sound

  module _ (g : GuardCounts) (l : Limit) (k now : Chained X) (o : Object Name X) (view : object_of g l (Some (slots_in k)) k ≡ o) where
    over_after : (ws : List X) → now ≡ with_rows k (over k.rows ws) → IsAfter (object_of g l (Some (slots_in k)) k) (object_of g l (Some (slots_in now)) now) (objects.with_rows (plain (object_of g l (Some (slots_in k)) k)) (over (plains k.rows) ws))
    over_after ws e =
        let are = ap (λ (d : Chained X). d.rows) e in
        kept g l k now (object_of g l (Some (slots_in k)) k) _ (over_slots k now ws e)
        (rows_after g l (Some (slots_in k)) k now (over (plains k.rows) ws) (ap (λ (d : Chained X). d.next_serial) e) (ap plains are ∙ plains-over k.rows ws) (λ a t. over_had a k.rows ws (subst (λ zs. HasName a zs) are t)))

    pub reversed_after : now ≡ with_rows k (over k.rows (reverse (values k.rows))) → IsAfter o (object_of g l (Some (slots_in now)) now) (vectors.reverse_elements_call (plain o)).after
    reversed_after e =
        subst (λ (p : Object Name X). IsAfter p (object_of g l (Some (slots_in now)) now) (vectors.reverse_elements_call (plain p)).after) view
        (over_after (reverse (values (plains k.rows))) (e ∙ ap (λ vs. with_rows k (over k.rows (reverse vs))) (values-plains k.rows)))

    pub sort_changes : (less : X → X → Bool) (r : Result Done NoMemory) → (vectors.sort_call less (plain o)).reason ≡ None → OnOk r (now ≡ with_rows k (over k.rows (values (sorted less (plains k.rows))))) → OnErr r (now ≡ k)
        → Changing Same (vectors.sort_call less (plain o)) o (object_of g l (Some (slots_in now)) now) (as_fault r)
    sort_changes less (Ok x) none ok err =
        (none, subst (λ (p : Object Name X). IsAfter p (object_of g l (Some (slots_in now)) now) (vectors.sort_call less (plain p)).after) view (over_after (values (sorted less (plains k.rows))) ok), refl)
    sort_changes less (Err e) none ok err = (refl, none, ap (λ (d : Chained X). object_of g l (Some (slots_in d)) d) err ∙ view)

  pub sort_sequence : (less : X → X → Bool) (l : Limit) (k now : Chained X) (r : Result Done NoMemory) → IsSequence l k → OnOk r (now ≡ with_rows k (over k.rows (values (sorted less (plains k.rows))))) → OnErr r (now ≡ k) → IsSound now → IsSequence l now
  sort_sequence less l k now (Ok x) s ok err sound = over_sequence l k now (values (sorted less (plains k.rows))) s ok sound
  sort_sequence less l k now (Err e) s ok err sound = subst (λ (d : Chained X). IsSequence l d) (sym err) s

  pub sort_spare : (less : X → X → Bool) (k now : Chained X) (r : Result Done NoMemory) → OnOk r (now ≡ with_rows k (over k.rows (values (sorted less (plains k.rows))))) → OnErr r (now ≡ k) → now.spare ≡ k.spare
  sort_spare less k now (Ok x) ok err = ap (λ (d : Chained X). d.spare) ok
  sort_spare less k now (Err e) ok err = ap (λ (d : Chained X). d.spare) err

  -- two values that change places
  pub swapped_slots : (k now : Chained X) (a b : Name) → now ≡ values_swapped k a b → slots_in now ≡ slots_in k
  swapped_slots k now a b e = ap slots_in e ∙ by (value_of k a) (value_of k b)
    where
      by : (x y : _) → slots_in (values_exchanged k a b x y) ≡ slots_in k
      by None y = refl
      by (Some x) None = refl
      by (Some x) (Some y) =
          let first = with_rows k (slice_set k.rows (index_of a k.rows) (row a y)) in
          ap (λ n. n + k.spare) (length-set first.rows (index_of b first.rows) (row b x) ∙ length-set k.rows (index_of a k.rows) (row a y))
