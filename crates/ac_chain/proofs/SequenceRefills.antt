-- Rows that give way to copies, and what a sequence is after that.
use Rattle.std.proofs.Common.{◌≡◌, ℕ, ◌+◌, ◌≤◌, List, ◌∷◌, length, Option, None, Result, Ok, Err, false, true≢false, lt-ltb, refl, sym, ap, ◌∙◌, subst, inl, inr, arith}
use Rattle.std.specs.Prelude.{IfOk, IfErr}
use Rattle.std.proofs.lemmas.Bool.{cases_lt}
use Rattle.std.proofs.lemmas.List.{length-map}
use Rattle.ac_base.specs.declared.name.Name.{Name}
use Rattle.ac_base.specs.declared.fault.NoMemory.{NoMemory}
use Rattle.ac_base.specs.declared.limit.Limit.{Limit}
use Rattle.ac_base.specs.declared.limit.Limit.TheVariants.{Unbounded, Bounded}
use Rattle.ac_chain.specs.Rows.{Chained, IsSound}
use Rattle.ac_base.specs.Guards.{GuardCounts}
use Rattle.ac_base.specs.FirstReason.{first_reason}
use Rattle.ac_base.specs.Rows.{Row, values}
use Rattle.ac_model.specs.Rows.{fresh}
use Rattle.ac_base.specs.Limits.{is_past}
use Rattle.ac_base.specs.declared.limit.TheConstants.{GREATEST_LENGTH}
use Rattle.ac_model.specs.Objects.{Object, plain, contents, length_of, grown, capacity_after}
use Rattle.ac_model.specs.Letters.{tampers_cursors, room}
use Rattle.ac_model.specs.Calls.{Changing, IsAfter, Same, Done}
use Rattle.ac_model.specs.Common.{assign_call}
use Rattle.ac_model.proofs.Reasons.{none_others, room_none}
use Rattle.ac_chain.specs.Sequence.{object_of, IsSequence, Widens}
use Rattle.ac_chain.proofs.Grows.{more_serials}
use Rattle.ac_chain.proofs.SequenceGrows.{grown_after}
use Rattle.ac_chain.specs.Refill.{IsRefilled}
use Rattle.ac_model.specs.Forms.{as_fault}
use Rattle.ac_model.proofs.Plains.{length-plains}
use Rattle.ac_model.proofs.Plains.{values-plains}
use Rattle.ac_chain.proofs.Refills.{refilled_length}

module _ {X : Type 0} where
  pub refill_sequence : (l : Limit) (k now : Chained X) (source : List (Row Name X)) (r : Result Done NoMemory) → IsSequence l k → length source ≤ GREATEST_LENGTH → is_past l (length source) ≡ false
      → IfOk r (λ _. IsRefilled k (values source) now) → IfErr r (λ _. now ≡ k) → (length source ≤ length k.rows + k.spare → length now.rows + now.spare ≡ length k.rows + k.spare) → IsSound now → IsSequence l now
  refill_sequence l k now source (Err e) s few within ok err slots sound = subst (λ c. IsSequence l c) (sym err) s
  refill_sequence Unbounded k now source (Ok x) s few within ok err slots sound = let count = refilled_length k now source ok in record { sound = sound; within_greatest = omega arith; is_limit = tt; has_slots = tt }
  refill_sequence (Bounded most) k now source (Ok x) s few within ok err slots sound =
      let count = refilled_length k now source ok in
      let sum = s.has_slots in
      let le : length source ≤ most = elim (cases_lt most (length source)) [ inl lt ↦ absurd (let t = lt-ltb most (length source) lt in true≢false (sym t ∙ within)) | inr le ↦ le ] in
      record { sound = sound; within_greatest = omega arith; is_limit = s.is_limit; has_slots = slots (omega arith) ∙ sum }

  -- what the rows of the source are to the definitions
  pub source_is : (g : GuardCounts) (l : Limit) (capacity : Option ℕ) (k : Chained X) (o : Object Name X) → object_of g l capacity k ≡ o → (contents (plain o) ≡ values k.rows) × (length_of (plain o) ≡ length k.rows)
  source_is g l capacity k o view = subst (λ (p : Object Name X). (contents (plain p) ≡ values k.rows) × (length_of (plain p) ≡ length k.rows)) view (sym (values-plains k.rows), length-plains k.rows)

  pub refill_after : (g : GuardCounts) (l : Limit) (capacity wider : Option ℕ) (k now : Chained X) (o : Object Name X) (vs : List X) (n : ℕ) → object_of g l capacity k ≡ o → capacity_after l capacity (length now.rows) ≡ wider → length vs ≡ n → IsRefilled k vs now → IsAfter o (object_of g l wider now) (grown (plain o) (fresh (plain o).next vs) n)
  refill_after g l capacity wider k now o vs n view risen count f =
      subst (λ (p : Object Name X). IsAfter p (object_of g l wider now) (grown (plain p) (fresh (plain p).next vs) n)) view
      (grown_after g l capacity wider k now (fresh k.next_serial vs) n risen f.rows (f.next ∙ ap (λ m. k.next_serial + m) count) (λ a t lt. absurd (let high = more_serials a k.next_serial vs now.rows f.rows t in omega arith)))

  pub refill_changes : (g : GuardCounts) (l : Limit) (capacity wider : Option ℕ) (k now : Chained X) (o : Object Name X) → object_of g l capacity k ≡ o → (h : GuardCounts) (m : Limit) (other : Option ℕ) (j : Chained X) (from : Object Name X) → object_of h m other j ≡ from
      → (r : Result Done NoMemory) → (assign_call (plain o) (plain from)).reason ≡ None → Widens r l capacity (length now.rows) wider → IfOk r (λ _. IsRefilled k (values j.rows) now) → IfErr r (λ _. now ≡ k)
      → Changing Same (assign_call (plain o) (plain from)) o (object_of g l wider now) (as_fault r)
  refill_changes g l capacity wider k now o view h m other j from seen (Ok x) none risen ok err =
      let s = source_is h m other j from seen in
      let count : length (contents (plain from)) ≡ length_of (plain from) = ap length s.0 ∙ length-map j.rows (λ (r : Row Name X). r.value) ∙ sym s.1 in
      (none, refill_after g l capacity wider k now o (contents (plain from)) (length_of (plain from)) view risen count (subst (λ vs. IsRefilled k vs now) (sym s.0) ok), refl)
  refill_changes g l capacity wider k now o view h m other j from seen (Err e) none same ok err = (refl, none, (λ i. object_of g l (sym same i) (err i)) ∙ view)

  -- the reasons that were looked for are the definition's
  pub refill_reason : (h : GuardCounts) (m : Limit) (other : Option ℕ) (j : Chained X) (o from : Object Name X) → object_of h m other j ≡ from → (len : ℕ) → len ≡ length j.rows
      → first_reason (tampers_cursors (plain o) ∷ room (plain o) len len) ≡ (assign_call (plain o) (plain from)).reason
  refill_reason h m other j o from seen len e = ap (λ n. first_reason (tampers_cursors (plain o) ∷ room (plain o) n n)) (e ∙ sym (source_is h m other j from seen).1)

  pub refill_within : (g : GuardCounts) (l : Limit) (capacity : Option ℕ) (k : Chained X) (o : Object Name X) → object_of g l capacity k ≡ o → (len n : ℕ) → len ≡ n → first_reason (tampers_cursors (plain o) ∷ room (plain o) len len) ≡ None → is_past l n ≡ false
  refill_within g l capacity k o view len n e none =
      subst (λ m. is_past l m ≡ false) e
      (subst (λ (p : Object Name X). is_past p.limit len ≡ false) (sym view) (room_none (plain o) len len (none_others (tampers_cursors (plain o)) (room (plain o) len len) none)).within_limit)
