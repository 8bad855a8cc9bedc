-- What a search in a sequence answers, from what was found among the chain's rows.
use Rattle.std.proofs.Common.{◌≡◌, ℕ, ◌+◌, Bool, ◌∷◌, length, reverse, take, drop, Option, None, is_some, Ok, refl, sym, ap, ◌∙◌, subst, arith, []}
use Rattle.std.specs.Prelude.{find, if◌then◌else◌}
use Rattle.std.specs.Option.{ForSome}
use Rattle.std.proofs.lemmas.List.{take_all}
use Rattle.ac_base.specs.declared.limit.Limit.{Limit}
use Rattle.ac_base.specs.declared.name.Name.{Name}
use Rattle.ac_base.specs.declared.cursor.Cursor.{Cursor}
use Rattle.ac_base.specs.declared.cursor.Cursor.TheVariants.{NoElement, At}
use Rattle.ac_base.specs.Guards.{GuardCounts}
use Rattle.ac_base.specs.FirstReason.{first_reason}
use Rattle.ac_chain.specs.Rows.{Chained, place_of, IsLive, IsSound}
use Rattle.ac_pool.specs.NamedRows.{index_of, name_at, name_before}
use Rattle.ac_pool.proofs.Cuts.{has_live}
use Rattle.ac_chain.proofs.Moves.{once_from}
use Rattle.ac_base.specs.Rows.{Row, names}
use Rattle.ac_model.specs.Objects.{Object, plain}
use Rattle.ac_model.specs.Letters.{mark_of, mark_for, place_at, is_no_mark}
use Rattle.ac_model.specs.Calls.{Looking, Marks}
use Rattle.ac_model.specs.Sequences as sequences
use Rattle.ac_model.specs.Objects.{plains}
use Rattle.ac_model.specs.Cursors.{mark, may_cursor, cursor_at}
use Rattle.ac_chain.specs.Sequence.{object_of}
use Rattle.ac_chain.specs.Search.{found_in, count_to, start_of, end_of}
use Rattle.ac_chain.proofs.Marks.{may_by_name, place_live}
use Rattle.ac_chain.proofs.SequenceStanding.{stands}
use Rattle.ac_chain.proofs.Grows.{past_end, reverse_has}
use Rattle.ac_model.proofs.Plains.{plains-reverse}
use Rattle.ac_chain.proofs.Finds.{found_marked, any_found, drop_had, take_had, first_place, first_live, last_live, count_last}
use Rattle.ac_model.proofs.Plains.{plains-drop, plains-take}

module _ {X : Type 0} where
  -- where a search begins
  pub record Begins (g : GuardCounts) (l : Limit) (capacity : Option ℕ) (k : Chained X) (b : Cursor) : Type 0 where
    pub live : ForSome (start_of k.rows b) (IsLive k)
    pub count : place_of (start_of k.rows b) k.rows ≡ (if is_no_mark (mark (object_of g l capacity k) b) then 0 else place_at (plains k.rows) (mark (object_of g l capacity k) b))

  begins : (g : GuardCounts) (l : Limit) (capacity : Option ℕ) (k : Chained X) → IsSound k → (b : Cursor) → may_cursor (object_of g l capacity k) b ≡ None → Begins g l capacity k b
  begins g l capacity k s NoElement h = record { live = first_live k (name_at k.rows 0) 0 refl; count = first_place k.rows }
  begins g l capacity k s (At object a) h =
      let t = stands g l capacity k (At object a) (sym (may_by_name (object_of g l capacity k) object a) ∙ h) in
      record {
        live = λ n q. subst (λ m. IsLive k m) (let same : a ≡ n = cc in same) t.live;
        count = sym (place_live k a s t.live) ∙ ap (λ m. if is_no_mark m then 0 else place_at (plains k.rows) m) (sym t.marked);
      }

  -- and one back
  pub record Ends (g : GuardCounts) (l : Limit) (capacity : Option ℕ) (k : Chained X) (b : Cursor) : Type 0 where
    pub live : ForSome (end_of k.rows b) (IsLive k)
    pub taken : plains (take (count_to (end_of k.rows b) k.rows) k.rows) ≡ take (place_at (plains k.rows) (mark (object_of g l capacity k) b) + 1) (plains k.rows)

  ends : (g : GuardCounts) (l : Limit) (capacity : Option ℕ) (k : Chained X) → IsSound k → (b : Cursor) → may_cursor (object_of g l capacity k) b ≡ None → Ends g l capacity k b
  ends g l capacity k s NoElement h =
      let all = count_last k.rows (once_from k.rows s.once) in
      let past = past_end k.rows (λ a t. (s.issued a (has_live a k.rows t)).0) in
      record {
        live = last_live k (name_before k.rows (length k.rows)) (length k.rows) refl;
        taken = ap plains (take_all (count_to (name_before k.rows (length k.rows)) k.rows) k.rows (omega arith)) ∙ sym (ap (λ n. take (n + 1) (plains k.rows)) past ∙ take_all (length (plains k.rows) + 1) (plains k.rows) (omega arith));
      }
  ends g l capacity k s (At object a) h =
      let t = stands g l capacity k (At object a) (sym (may_by_name (object_of g l capacity k) object a) ∙ h) in
      record {
        live = λ n q. subst (λ m. IsLive k m) (let same : a ≡ n = cc in same) t.live;
        taken = plains-take (index_of a k.rows + 1) k.rows ∙ ap (λ i. take (i + 1) (plains k.rows)) (sym (place_live k a s t.live) ∙ ap (place_at (plains k.rows)) (sym t.marked));
      }

module _ {X : Type 0} (g : GuardCounts) (l : Limit) (capacity : Option ℕ) (k : Chained X) (o : Object Name X) (view : object_of g l capacity k ≡ o) where
  pub start_live : IsSound k → (b : Cursor) (start : Option Name) → may_cursor o b ≡ None → start ≡ start_of k.rows b → ForSome start (IsLive k)
  start_live s b start h e = subst (λ p. ForSome p (IsLive k)) (sym e) (begins g l capacity k s b (ap (λ (p : Object Name X). may_cursor p b) view ∙ h)).live

  pub end_live : IsSound k → (b : Cursor) (end : Option Name) → may_cursor o b ≡ None → end ≡ end_of k.rows b → ForSome end (IsLive k)
  end_live s b end h e = subst (λ p. ForSome p (IsLive k)) (sym e) (ends g l capacity k s b (ap (λ (p : Object Name X). may_cursor p b) view ∙ h)).live

  pub find_looks : IsSound k → (same : X → X → Bool) (e : X) (b : Cursor) (start name : Option Name) (r : Cursor) → may_cursor o b ≡ None → start ≡ start_of k.rows b
      → name ≡ found_in same e (drop (place_of start k.rows) k.rows) → r ≡ cursor_at o.number name → Looking (Marks o) (sequences.find_call same (plain o) e (mark o b)) (Ok r)
  find_looks s same e b start name r h is n er =
      subst (λ (p : Object Name X). may_cursor p b ≡ None → r ≡ cursor_at p.number name → Looking (Marks p) (sequences.find_call same (plain p) e (mark p b)) (Ok r)) view at h er
    where
      at : may_cursor (object_of g l capacity k) b ≡ None → r ≡ cursor_at g.number name → Looking (Marks (object_of g l capacity k)) (sequences.find_call same (plain (object_of g l capacity k)) e (mark (object_of g l capacity k) b)) (Ok r)
      at q er =
          let t = begins g l capacity k s b q in
          let n_b : name ≡ found_in same e (drop (place_of (start_of k.rows b) k.rows) k.rows) = n ∙ ap (λ p. found_in same e (drop (place_of p k.rows) k.rows)) is in
          let i = place_of (start_of k.rows b) k.rows in (
            ap (λ m. first_reason (m ∷ [])) q,
            ap (mark_of g.number (names k.rows)) (er ∙ ap (cursor_at g.number) n_b)
                ∙ found_marked same e g.number k.rows (drop i k.rows) (drop_had i k.rows)
                ∙ ap (λ zs. mark_for g.number (find (λ (r : Row ℕ X). same r.value e) zs)) (plains-drop i k.rows ∙ ap (λ j. drop j (plains k.rows)) t.count),
          )

  pub reverse_find_looks : IsSound k → (same : X → X → Bool) (e : X) (b : Cursor) (end name : Option Name) (r : Cursor) → may_cursor o b ≡ None → end ≡ end_of k.rows b
      → name ≡ found_in same e (reverse (take (count_to end k.rows) k.rows)) → r ≡ cursor_at o.number name → Looking (Marks o) (sequences.reverse_find_call same (plain o) e (mark o b)) (Ok r)
  reverse_find_looks s same e b end name r h is n er =
      subst (λ (p : Object Name X). may_cursor p b ≡ None → r ≡ cursor_at p.number name → Looking (Marks p) (sequences.reverse_find_call same (plain p) e (mark p b)) (Ok r)) view at h er
    where
      at : may_cursor (object_of g l capacity k) b ≡ None → r ≡ cursor_at g.number name → Looking (Marks (object_of g l capacity k)) (sequences.reverse_find_call same (plain (object_of g l capacity k)) e (mark (object_of g l capacity k) b)) (Ok r)
      at q er =
          let t = ends g l capacity k s b q in
          let i = count_to (end_of k.rows b) k.rows in
          let n_b : name ≡ found_in same e (reverse (take i k.rows)) = n ∙ ap (λ p. found_in same e (reverse (take (count_to p k.rows) k.rows))) is in (
            ap (λ m. first_reason (m ∷ [])) q,
            ap (mark_of g.number (names k.rows)) (er ∙ ap (cursor_at g.number) n_b)
                ∙ found_marked same e g.number k.rows (reverse (take i k.rows)) (λ a t. take_had i k.rows a (reverse_has a (take i k.rows) t))
                ∙ ap (λ zs. mark_for g.number (find (λ (r : Row ℕ X). same r.value e) zs)) (plains-reverse (take i k.rows) ∙ ap reverse t.taken),
          )

  pub contains_is : (same : X → X → Bool) (e : X) (first name : Option Name) (r : Bool) → first ≡ name_at k.rows 0 → name ≡ found_in same e (drop (place_of first k.rows) k.rows) → r ≡ is_some name
      → r ≡ sequences.contains_call same (plain o) e
  contains_is same e first name r is n er =
      er ∙ ap is_some (n ∙ ap (λ i. found_in same e (drop i k.rows)) (ap (λ p. place_of p k.rows) is ∙ first_place k.rows)) ∙ any_found same e k.rows ∙ ap (λ (p : Object Name X). sequences.contains_call same (plain p) e) view
