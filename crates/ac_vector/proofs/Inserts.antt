-- What a vector is after values were put into it, copies of a source's elements among them.
use Rattle.std.proofs.Common.{◌≡◌, ℕ, zero, suc, ◌+◌, ◌≤◌, List, [], ◌∷◌, length, false, Option, Some, None, Result, Ok, Err, refl, sym, ap, ◌∙◌, subst, inl, inr, arith}
use Rattle.std.specs.Prelude.{IfOk, OnErr}
use Rattle.std.specs.Option.{ForSome, option_map}
use Rattle.std.proofs.lemmas.List.{length-map}
use Rattle.std.proofs.lemmas.Option.{none-some, slice_get_cases}
use Rattle.ac_base.specs.declared.cursor.Cursor.{Cursor}
use Rattle.ac_base.specs.declared.fault.Fault.{Fault}
use Rattle.ac_base.specs.declared.fault.Fault.TheVariants as fault
use Rattle.ac_base.specs.declared.guard.Class.TheVariants as class
use Rattle.ac_base.specs.declared.limit.Limit.{Limit}
use Rattle.ac_base.specs.declared.fault.NoMemory.{NoMemory}
use Rattle.ac_base.specs.declared.name.Name.{Name}
use Rattle.ac_base.specs.declared.reason.Reason.{Reason}
use Rattle.ac_base.specs.FirstReason.{first_reason, earlier}
use Rattle.ac_base.specs.Guards.{GuardCounts}
use Rattle.ac_base.specs.Limits.{is_past}
use Rattle.ac_base.specs.declared.limit.TheConstants.{GREATEST_LENGTH}
use Rattle.ac_base.specs.Rows.{Row, names}
use Rattle.ac_base.specs.Tampering.{forbids}
use Rattle.ac_base.proofs.Earlier.{with_none_later}
use Rattle.ac_chain.specs.Put.{IsPut, HasFirst}
use Rattle.ac_chain.specs.Rows.{Chained, IsSound}
use Rattle.ac_pool.specs.NamedRows.{name_at}
use Rattle.ac_chain.specs.Sequence.{object_of}
use Rattle.ac_chain.proofs.Chains.{index_at}
use Rattle.ac_pool.proofs.Cuts.{has_live}
use Rattle.ac_chain.proofs.Marks.{has_among, place_live}
use Rattle.ac_chain.proofs.Moves.{once_from}
use Rattle.ac_chain.proofs.Puts.{put_length}
use Rattle.ac_chain.proofs.SequenceGrows.{first_marked, named_live, put_after}
use Rattle.ac_model.specs.Calls.{Changing, Done, IsAfter, Marks, Same, call, takes_some}
use Rattle.ac_model.specs.Cursors.{IsNamed, cursor_at, cursor_of_first, mark, may_cursor, spot}
use Rattle.ac_model.specs.Letters.{mark_of, no_mark, place_at, room, room_in, tampers_cursors}
use Rattle.ac_model.specs.Objects.{Object, capacity_after, contents, length_of, plain, plain_row, plains}
use Rattle.ac_model.specs.Putting.{Takes, done}
use Rattle.ac_model.specs.Sequences.{first_new, with_new}
use Rattle.ac_model.specs.Vectors.{insert_vector_pos_call, room_for_source, with_copies_of}
use Rattle.ac_model.proofs.Changes.{accepted, done_changes}
use Rattle.ac_model.proofs.Plains.{length-plains}
use Rattle.ac_model.proofs.Reasons.{after_two, none_first, none_others, room_none}
use Rattle.ac_vector.specs.Parts.{put_values_call, source_call, variable_after}

module _ {X : Type 0} where
  -- the values are put, and the first one's cursor is the answer
  pub values_done : (g : GuardCounts) (l : Limit) (capacity wider : Option ℕ) (k now : Chained X) (o : Object Name X) → object_of g l capacity k ≡ o → (place : Option Name) (vs : List X) (first : Option Name) (c : Cursor)
      → capacity_after l capacity (length now.rows) ≡ wider → IsSound k → ForSome place (IsNamed o) → IsPut k.rows k.next_serial place vs now → HasFirst k.next_serial (length vs) now first → c ≡ cursor_at g.number first
      → Changing (Marks (object_of g l wider now)) (put_values_call o place vs) o (object_of g l wider now) (Ok c)
  values_done g l capacity wider k now o view place vs first c risen s h p has is =
      subst (λ (q : Object Name X). ForSome place (IsNamed q) → Changing (Marks (object_of g l wider now)) (put_values_call q place vs) q (object_of g l wider now) (Ok c)) view
      (λ h. (refl, put_after g l capacity wider k now (length vs) place vs risen refl s (named_live g l capacity k (object_of g l capacity k) refl place h) p, ap (mark_of g.number (names now.rows)) is ∙ first_marked g l capacity k now (length vs) first has)) h

  -- the reasons that were looked for are the definition's
  pub source_refused : (g : GuardCounts) (l : Limit) (capacity : Option ℕ) (k : Chained X) (o : Object Name X) → object_of g l capacity k ≡ o → (more len next : ℕ) (place result t r : Option Reason)
      → len ≡ length k.rows → next ≡ k.next_serial → t ≡ forbids class.Cursors g.cursor_guards g.element_guards → r ≡ first_reason (room_in l next (len + more) more)
      → result ≡ first_reason (t ∷ place ∷ r ∷ []) → result ≡ first_reason (tampers_cursors (plain o) ∷ place ∷ room (plain o) (length_of (plain o) + more) more)
  source_refused g l capacity k o view more len next place result t r el en et er e =
      e ∙ (λ i. earlier (et i) (earlier place ((with_none_later r ∙ er ∙ (λ j. first_reason (room_in l (en j) ((el ∙ sym (length-plains k.rows)) j + more) more))) i)))
      ∙ ap (λ (p : Object Name X). first_reason (tampers_cursors (plain p) ∷ place ∷ room (plain p) (length_of (plain p) + more) more)) view

  -- a vector that isn't refused takes so many more
  pub takes_source : (o : Object Name X) (place : Option Reason) (more n : ℕ) → more ≡ n → None ≡ first_reason (tampers_cursors (plain o) ∷ place ∷ room (plain o) (length_of (plain o) + more) more) → Takes o n
  takes_source o place more n same h =
      let has = room_none (plain o) (length_of (plain o) + more) more (after_two (tampers_cursors (plain o)) place (room (plain o) (length_of (plain o) + more) more) (sym h)) in
      subst (λ m. Takes o m) same
      (subst (λ m. (m + more ≤ GREATEST_LENGTH) → (is_past o.limit (m + more) ≡ false) → Takes o more) (sym (length-map o.rows plain_row)) (λ few within. record { few = few; within = within; unspent = has.within_names }) has.within_greatest has.within_limit)

  -- copies of a source's elements were put before a place
  pub source_put : (o new : Object Name X) (from : Object ℕ X) (found : Option Reason) (place : Option Name) (vs : List X) (r : Result Cursor Fault) → vs ≡ contents from → (source_call o found place from).reason ≡ None
      → Changing (Marks new) (put_values_call o place vs) o new r → Changing (Marks new) (source_call o found place from) o new r
  source_put o new from found place vs r are none h =
      let count : length (contents from) ≡ length_of from = length-map from.rows (λ (q : Row ℕ X). q.value) in
      accepted (Marks new) takes_some (source_call o found place from).reason (with_copies_of (plain o) (spot o place) from) (first_new (plain o) no_mark (length_of from)) o new r none
      (subst (λ n. Changing (Marks new) (call takes_some None (with_new (plain o) (spot o place) (contents from) n) (first_new (plain o) no_mark n)) o new r) count
      (subst (λ ws. Changing (Marks new) (put_values_call o place ws) o new r) are h))

  -- and before the definitions' place, if the call isn't refused
  source_at : {Y A : Type 0} (Answers : Y → A → Type 0) (o new : Object Name X) (from : Object ℕ X) (found : Option Reason) (place : Option Name) (at : ℕ) (answer : A) (r : Result Y Fault) → (found ≡ None → spot o place ≡ at)
      → Changing Answers (call takes_some (source_call o found place from).reason (with_copies_of (plain o) (spot o place) from) answer) o new r
      → Changing Answers (call takes_some (source_call o found place from).reason (with_copies_of (plain o) at from) answer) o new r
  source_at Answers o new from found place at answer (Ok x) spot_at h =
      let none = none_first found (room_for_source (plain o) from) (none_others (tampers_cursors (plain o)) (found ∷ room_for_source (plain o) from) h.0) in
      (h.0, subst (λ i. IsAfter o new (with_copies_of (plain o) i from)) (spot_at none) h.1, h.2)
  source_at Answers o new from found place at answer (Err (fault.Raised q)) spot_at h = h
  source_at Answers o new from found place at answer (Err fault.NoMemory) spot_at h = h

  pub source_done : (o new : Object Name X) (from : Object ℕ X) (found : Option Reason) (place : Option Name) (at : ℕ) (r : Result Cursor Fault) (d : Result Done Fault) → (found ≡ None → spot o place ≡ at)
      → Changing (Marks new) (source_call o found place from) o new r → d ≡ done r → Changing Same (call takes_some (source_call o found place from).reason (with_copies_of (plain o) at from) tt) o new d
  source_done o new from found place at r d spot_at h is =
      subst (λ q. Changing Same (call takes_some (source_call o found place from).reason (with_copies_of (plain o) at from) tt) o new q) (sym is)
      (done_changes (Marks new) takes_some (source_call o found place from).reason (with_copies_of (plain o) at from) (first_new (plain o) no_mark (length_of from)) o new r
      (source_at (Marks new) o new from found place at (first_new (plain o) no_mark (length_of from)) r spot_at h))

  -- the same with a variable that is set to the first one's cursor
  module _ (o new : Object Name X) (from : Object ℕ X) (place : Option Name) (b old : Cursor) (count : ℕ) (many : count ≡ length_of from) (spot_at : may_cursor o b ≡ None → spot o place ≡ place_at (plain o).rows (mark o b)) (nothing : length_of from ≡ 0 → new ≡ o) where
    marked : (n : ℕ) (first : Cursor) → (n ≡ 0 → new ≡ o) → Marks new first (first_new (plain o) no_mark n) → Marks new (cursor_of_first n first b) (first_new (plain o) (mark o b) n)
    marked zero first same h = ap (λ (q : Object Name X). mark q b) (same refl)
    marked (suc n) first same h = h

    sets : (r : Result Cursor Fault) → Changing (Marks new) (source_call o (may_cursor o b) place from) o new r
        → Changing (λ _ m. Marks new (variable_after r count b old) m) (insert_vector_pos_call (plain o) (mark o b) from) o new (done r) × OnErr (done r) (variable_after r count b old ≡ old)
    sets (Ok first) h =
        let at = source_at (Marks new) o new from (may_cursor o b) place (place_at (plain o).rows (mark o b)) (first_new (plain o) no_mark (length_of from)) (Ok first) spot_at h in
        ((at.0, at.1, subst (λ n. Marks new (cursor_of_first n first b) (first_new (plain o) (mark o b) (length_of from))) (sym many) (marked (length_of from) first nothing h.2)), tt)
    sets (Err (fault.Raised q)) h = (h, refl)
    sets (Err fault.NoMemory) h = (h, refl)

    pub source_sets : (found : Option Reason) (r : Result Cursor Fault) (d : Result Done Fault) (variable : Cursor) → found ≡ may_cursor o b → d ≡ done r → variable ≡ variable_after r count b old → Changing (Marks new) (source_call o found place from) o new r
        → Changing (λ _ m. Marks new variable m) (insert_vector_pos_call (plain o) (mark o b) from) o new d × OnErr d (variable ≡ old)
    source_sets found r d variable judged is var h =
        subst (λ x. Changing (λ _ m. Marks new x m) (insert_vector_pos_call (plain o) (mark o b) from) o new d × OnErr d (x ≡ old)) (sym var)
        (subst (λ x. Changing (λ _ m. Marks new (variable_after r count b old) m) (insert_vector_pos_call (plain o) (mark o b) from) o new x × OnErr x (variable_after r count b old ≡ old)) (sym is)
        (sets r (subst (λ f. Changing (Marks new) (source_call o f place from) o new r) judged h)))

  pub put_counts : {A : Type 0} (r : Result A NoMemory) (k now : Chained X) (place : Option Name) (vs : List X) → IfOk r (λ _. IsPut k.rows k.next_serial place vs now) → IfOk r (λ _. length now.rows ≡ length k.rows + length vs)
  put_counts (Ok x) k now place vs p = put_length k.rows k.next_serial place vs now p
  put_counts (Err e) k now place vs p = tt

  -- the name at a place, and the end behind the last one, are the definitions' place
  pub index_spot : (g : GuardCounts) (l : Limit) (capacity : Option ℕ) (k : Chained X) (o : Object Name X) → object_of g l capacity k ≡ o → IsSound k → (place : Option Name) (i : ℕ) → place ≡ name_at o.rows i → i ≤ length_of (plain o) → (ForSome place (IsNamed o)) × (spot o place ≡ i)
  index_spot g l capacity k o view s place i e le =
      subst (λ (p : Object Name X). place ≡ name_at p.rows i → i ≤ length_of (plain p) → (ForSome place (IsNamed p)) × (spot p place ≡ i)) view at e le
    where
      there : (name : Option Name) → name ≡ name_at k.rows i → i ≤ length (plains k.rows) → (ForSome name (IsNamed (object_of g l capacity k))) × (spot (object_of g l capacity k) name ≡ i)
      there None e le = (
        (λ a q. absurd (none-some a q)),
        elim (slice_get_cases k.rows i).1 [
          | inl at ↦ absurd (none-some at.0.name (e ∙ ap (option_map (λ (r : Row Name X). r.name)) at.2))
          | inr past ↦ let count = length-plains k.rows in omega (arith, past.0)
        ],
      )
      there (Some a) e le =
          let h = index_at k.rows (once_from k.rows s.once) i a (sym e) in (
            (λ b q. subst (λ m. IsNamed (object_of g l capacity k) m) (let same : a ≡ b = cc in same) (has_among a k.rows h.0)),
            place_live k a s (has_live a k.rows h.0) ∙ h.1,
          )

      at : place ≡ name_at k.rows i → i ≤ length (plains k.rows) → (ForSome place (IsNamed (object_of g l capacity k))) × (spot (object_of g l capacity k) place ≡ i)
      at e le = there place e le
