-- What the calls that only look answer, from what the chain answers.
use Rattle.std.proofs.Common.{◌≡◌, ℕ, zero, suc, ◌+◌, ◌-◌, Bool, true, false, List, ◌∷◌, length, Option, Some, None, Ok, refl, sym, ap, ◌∙◌, subst, Bor, IsTrue, []}
use Rattle.std.specs.Prelude.{◌==◌, slice_get, ◌↔◌, if◌then◌else◌}
use Rattle.std.specs.Option.{option_map}
use Rattle.ac_base.specs.declared.limit.Limit.{Limit}
use Rattle.ac_base.specs.declared.name.Name.{Name}
use Rattle.ac_base.specs.declared.reason.Reason.TheVariants.{Empty}
use Rattle.ac_base.specs.declared.cursor.Cursor.{Cursor}
use Rattle.ac_base.specs.declared.cursor.Cursor.TheVariants.{At}
use Rattle.ac_base.specs.Guards.{GuardCounts}
use Rattle.ac_base.specs.FirstReason.{first_reason}
use Rattle.ac_chain.specs.Rows as chain
use Rattle.ac_chain.specs.Rows.{Chained, IsLive, IsSound, next_name, prev_name}
use Rattle.ac_pool.specs.NamedRows.{index_of, name_at, name_before}
use Rattle.ac_pool.proofs.Cuts.{live_has, has_live}
use Rattle.ac_chain.proofs.Chains.{index_at}
use Rattle.ac_chain.proofs.Moves.{once_from}
use Rattle.ac_base.specs.Rows.{Row, names, values}
use Rattle.ac_model.specs.Rows.{value_at}
use Rattle.ac_model.specs.Objects.{Object, plain, length_of}
use Rattle.ac_model.specs.Letters.{no_mark, mark_at, mark_of, is_among, judged_in, mark_in, place_at, is_no_mark, name_of}
use Rattle.ac_model.specs.Calls.{Looking, Marks, Lends}
use Rattle.ac_model.specs.Sequences as sequences
use Rattle.ac_model.specs.Sequences.{mark_before}
use Rattle.ac_model.specs.Objects.{plains}
use Rattle.ac_model.specs.Cursors.{mark, needs_cursor, may_cursor, cursor_at, name_in}
use Rattle.ac_base.specs.declared.reason.Reason.{Reason}
use Rattle.ac_chain.specs.Sequence.{object_of}
use Rattle.ac_chain.proofs.Marks.{among_has, has_among, judged_by_name, may_by_name, marked_at, place_live, value_live}
use Rattle.ac_chain.proofs.SequenceStanding.{stands}
use Rattle.ac_chain.proofs.Looks.{bool_is, last_place, values_at, some_rows, no_rows, no_rows_before}

module _ {X : Type 0} (g : GuardCounts) (l : Limit) (capacity : Option ℕ) (k : Chained X) (o : Object Name X) (view : object_of g l capacity k ≡ o) where
  -- a cursor is judged by its number, and by whether the chain has its name
  pub judged : (number object : ℕ) (a : Name) (b : Bool) (r : Option Reason) → number ≡ g.number → (IsTrue b ↔ IsLive k a) → r ≡ judged_in number object b → r ≡ needs_cursor o (At object a)
  judged number object a b r e live is =
      let same : b ≡ is_among (names k.rows) a =
      bool_is b (is_among (names k.rows) a) (λ t. has_among a k.rows (live_has a k.rows (live.0 t))) (λ t. live.1 (has_live a k.rows (among_has a k.rows t))) in
      is ∙ (λ i. judged_in (e i) object (same i)) ∙ sym (judged_by_name (object_of g l capacity k) object a) ∙ ap (λ (p : Object Name X). needs_cursor p (At object a)) view

  pub live_needed : (c : Cursor) (a : Name) → a ≡ name_in c → needs_cursor o c ≡ None → IsLive k a
  live_needed c a e h = subst (λ n. IsLive k n) (sym e) (stands g l capacity k c (ap (λ (p : Object Name X). needs_cursor p c) view ∙ h)).live

  pub marks_at : (i : ℕ) (name : Option Name) (r : Cursor) → name ≡ name_at k.rows i → r ≡ cursor_at o.number name → Marks o r (mark_in (plain o) i)
  marks_at i name r n e =
      subst (λ (p : Object Name X). r ≡ cursor_at p.number name → Marks p r (mark_in (plain p) i)) view
      (λ q. ap (mark_of g.number (names k.rows)) (q ∙ ap (cursor_at g.number) n) ∙ marked_at g.number k.rows i) e

  pub marks_last : (name : Option Name) (r : Cursor) → name ≡ name_before k.rows (length k.rows) → r ≡ cursor_at o.number name → Marks o r (sequences.last_call (plain o))
  marks_last name r n e =
      subst (λ (p : Object Name X). Marks o r (mark_in (plain o) (length (plain p).rows - 1))) view (marks_at (length (plains k.rows) - 1) name r (n ∙ last_place k.rows) e)

  -- a cursor that isn't refused, in the words of the definitions
  pub mark_needed : (c : Cursor) → needs_cursor o c ≡ None → mark o c ≡ mark_at o.number (name_in c).serial
  mark_needed c h = subst (λ (p : Object Name X). needs_cursor p c ≡ None → mark p c ≡ mark_at p.number (name_in c).serial) view (λ q. (stands g l capacity k c q).marked) h

  pub may_needed : (c : Cursor) → needs_cursor o c ≡ None → may_cursor o c ≡ None
  may_needed c h =
      let at = (stands g l capacity k c (ap (λ (p : Object Name X). needs_cursor p c) view ∙ h)).at in
      ap (may_cursor o) at ∙ may_by_name o g.number (name_in c) ∙ ap (needs_cursor o) (sym at) ∙ h

  pub next_looks : IsSound k → (b : Cursor) (a : Name) (name : Option Name) (r : Cursor) → needs_cursor o b ≡ None → a ≡ name_in b → name ≡ next_name k a → r ≡ cursor_at o.number name
      → Looking (Marks o) (sequences.next_call (plain o) (mark o b)) (Ok r)
  next_looks s b a name r h is n e =
      let live = live_needed b a is h in
      let there : Marks o r (mark_in (plain o) (index_of a k.rows + 1)) = marks_at (index_of a k.rows + 1) name r n e in
      let place : place_at (plain o).rows (mark_at o.number (name_in b).serial) ≡ index_of a k.rows =
      subst (λ (p : Object Name X). place_at (plain p).rows (mark_at o.number (name_in b).serial) ≡ index_of a k.rows) view
      (ap (λ (m : Name). place_at (plains k.rows) (mark_at o.number m.serial)) (sym is) ∙ place_live k a s live) in (
        ap (λ m. first_reason (m ∷ [])) (may_needed b h),
        subst (λ m. Marks o r (if is_no_mark m then no_mark else mark_in (plain o) (place_at (plain o).rows m + 1))) (sym (mark_needed b h))
            (subst (λ i. Marks o r (mark_in (plain o) (i + 1))) (sym place) there),
      )

  marks_before : (i : ℕ) (name : Option Name) (r : Cursor) → name ≡ name_before k.rows i → r ≡ cursor_at o.number name → Marks o r (mark_before (plain o) i)
  marks_before zero name r n e = ap (mark o) (e ∙ ap (cursor_at o.number) n)
  marks_before (suc i) name r n e = marks_at i name r n e

  pub previous_looks : IsSound k → (b : Cursor) (a : Name) (name : Option Name) (r : Cursor) → needs_cursor o b ≡ None → a ≡ name_in b → name ≡ prev_name k a → r ≡ cursor_at o.number name
      → Looking (Marks o) (sequences.previous_call (plain o) (mark o b)) (Ok r)
  previous_looks s b a name r h is n e =
      let live = live_needed b a is h in
      let there : Marks o r (mark_before (plain o) (index_of a k.rows)) = marks_before (index_of a k.rows) name r n e in
      let place : place_at (plain o).rows (mark_at o.number (name_in b).serial) ≡ index_of a k.rows =
      subst (λ (p : Object Name X). place_at (plain p).rows (mark_at o.number (name_in b).serial) ≡ index_of a k.rows) view
      (ap (λ (m : Name). place_at (plains k.rows) (mark_at o.number m.serial)) (sym is) ∙ place_live k a s live) in (
        ap (λ m. first_reason (m ∷ [])) (may_needed b h),
        subst (λ m. Marks o r (if is_no_mark m then no_mark else mark_before (plain o) (place_at (plain o).rows m))) (sym (mark_needed b h))
            (subst (λ i. Marks o r (mark_before (plain o) i)) (sym place) there),
      )

  pub element_looks : IsSound k → (c : Cursor) (a : Name) (lent : Bor X) → needs_cursor o c ≡ None → a ≡ name_in c → Some lent.now ≡ chain.value_of k a
      → Looking Lends (sequences.element_call (plain o) (mark o c)) (Ok lent)
  element_looks s c a lent h is v =
      let live = live_needed c a is h in (
        ap (λ m. first_reason (m ∷ [])) h,
        ap (λ m. value_at (plain o).rows (name_of m)) (mark_needed c h)
            ∙ ap (λ (p : Object Name X). value_at (plain p).rows (name_in c).serial) (sym view)
            ∙ ap (λ (m : Name). value_at (plains k.rows) m.serial) (sym is) ∙ value_live k a s live ∙ sym v,
      )

  pub live_name : (i : ℕ) (a : Name) → IsSound k → Some a ≡ name_at k.rows i → IsLive k a
  live_name i a s e = has_live a k.rows (index_at k.rows (once_from k.rows s.once) i a (sym e)).0

  pub value_there : (i : ℕ) (a : Name) (v : X) → IsSound k → Some a ≡ name_at k.rows i → Some v ≡ chain.value_of k a → slice_get (values (plain o).rows) i ≡ Some v
  value_there i a v s e is =
      let at = (index_at k.rows (once_from k.rows s.once) i a (sym e)).1 in
      subst (λ (p : Object Name X). slice_get (values (plain p).rows) i ≡ Some v) view
      (values_at k.rows i ∙ ap (λ j. option_map (λ (r : Row Name X). r.value) (slice_get k.rows j)) (sym at) ∙ sym is)

  pub first_element_looks : (a : Name) (lent : Bor X) → IsSound k → Some a ≡ name_at k.rows 0 → Some lent.now ≡ chain.value_of k a → Looking Lends (sequences.first_element_call (plain o)) (Ok lent)
  first_element_looks a lent s e v =
      let some = subst (λ (p : Object Name X). (length_of (plain p) == 0) ≡ false) view (some_rows k.rows 0 a e) in
      (rw some refl, value_there 0 a lent.now s e v)

  pub last_element_looks : (a : Name) (lent : Bor X) → IsSound k → Some a ≡ name_before k.rows (length k.rows) → Some lent.now ≡ chain.value_of k a → Looking Lends (sequences.last_element_call (plain o)) (Ok lent)
  last_element_looks a lent s e v =
      let at = e ∙ last_place k.rows in
      let some = subst (λ (p : Object Name X). (length_of (plain p) == 0) ≡ false) view (some_rows k.rows (length (plains k.rows) - 1) a at) in
      (rw some refl, subst (λ (p : Object Name X). slice_get (values (plain o).rows) (length_of (plain p) - 1) ≡ Some lent.now) view (value_there (length (plains k.rows) - 1) a lent.now s at v))

  is_empty : k.rows ≡ [] → (length_of (plain o) == 0) ≡ true
  is_empty e = subst (λ (p : Object Name X). (length_of (plain p) == 0) ≡ true) view (ap (λ (rows : List (Row Name X)). length (plains rows) == 0) e)

  pub first_element_empty : None ≡ name_at k.rows 0 → (sequences.first_element_call (plain o)).reason ≡ Some Empty
  first_element_empty e = let none = is_empty (no_rows k.rows e) in rw none refl

  pub last_element_empty : None ≡ name_before k.rows (length k.rows) → (sequences.last_element_call (plain o)).reason ≡ Some Empty
  last_element_empty e = let none = is_empty (no_rows_before k.rows (e ∙ last_place k.rows)) in rw none refl

  pub live_last : (a : Name) → IsSound k → Some a ≡ name_before k.rows (length k.rows) → IsLive k a
  live_last a s e = live_name (length (plains k.rows) - 1) a s (e ∙ last_place k.rows)
