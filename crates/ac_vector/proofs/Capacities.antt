-- The Capacity of a vector, which is the number of its slots.
use Rattle.std.proofs.Common.{◌≡◌, ℕ, ◌+◌, ◌-◌, ◌≤◌, length, false, Some, Result, Ok, Err, refl, ◌<◌, sym, ap, ◌∙◌, subst, inl, inr, arith, le-leb}
use Rattle.std.specs.Prelude.{IfOk, IfErr, max}
use Rattle.std.proofs.lemmas.Bool.{cases_lt, cond-true, cond-false, lt-leb}
use Rattle.std.proofs.lemmas.Bool.Decides.{nat_tests}
use Rattle.ac_base.specs.declared.limit.Limit.{Limit}
use Rattle.ac_base.specs.declared.limit.Limit.TheVariants.{Unbounded, Bounded}
use Rattle.ac_base.specs.declared.fault.NoMemory.{NoMemory}
use Rattle.ac_base.specs.declared.name.Name.{Name}
use Rattle.ac_base.specs.Guards.{GuardCounts}
use Rattle.ac_base.specs.Growth.{pow8}
use Rattle.ac_base.specs.Limits.{is_past}
use Rattle.ac_base.proofs.Powers.{pow8-enough}
use Rattle.ac_chain.specs.Rows.{Chained, chained, reserved, slots_in}
use Rattle.ac_chain.specs.Sequence.{object_of, HasCapacity, IsSequence, Widens}
use Rattle.ac_chain.proofs.Puts.{reserved_kept, reserved_slots}
use Rattle.ac_model.specs.Objects.{Object, CapacityFits, capacity_after}
use Rattle.ac_model.specs.Calls.{IsAfter}

module _ {X : Type 0} where
  pub fits : (l : Limit) (k : Chained X) → IsSequence l k → CapacityFits l (length k.rows) (slots_in k)
  fits Unbounded k s = omega arith
  fits (Bounded most) k s = s.has_slots

  -- as many slots are the same Capacity
  pub kept : (g : GuardCounts) (l : Limit) (k now : Chained X) (o : Object Name X) (after : Object _ X) → slots_in now ≡ slots_in k → IsAfter o (object_of g l (Some (slots_in k)) now) after → IsAfter o (object_of g l (Some (slots_in now)) now) after
  kept g l k now o after same is = subst (λ n. IsAfter o (object_of g l (Some n) now) after) (sym same) is

  pub has_capacity : (k : Chained X) → HasCapacity (Some (slots_in k)) k
  has_capacity k = omega arith

  -- what is reserved for more than there are slots for
  reserved_more : (k : Chained X) (need : ℕ) → slots_in k < need → slots_in (reserved k (need - length k.rows)) ≡ pow8 need
  reserved_more k need lt =
      let n = need - length k.rows in
      let all : length k.rows + n ≡ need = omega arith in
      let grown : reserved k n ≡ chained k.rows k.next_serial (pow8 (length k.rows + n) - length k.rows) = cond-false _ _ _ (lt-leb n k.spare (omega arith)) in
      let enough = pow8-enough (length k.rows + n) in
      let sum : length k.rows + (pow8 (length k.rows + n) - length k.rows) ≡ pow8 (length k.rows + n) = omega arith in
      ap slots_in grown ∙ sum ∙ ap pow8 all

  reserved_same : (k : Chained X) (need : ℕ) → need ≤ slots_in k → slots_in (reserved k (need - length k.rows)) ≡ slots_in k
  reserved_same k need le = ap slots_in (reserved_kept k (need - length k.rows) (omega arith))

  -- the Capacity after a need is the number of slots after so many were reserved
  pub widens : (l : Limit) (k : Chained X) (need : ℕ) → IsSequence l k → is_past l need ≡ false → capacity_after l (Some (slots_in k)) need ≡ Some (slots_in (reserved k (need - length k.rows)))
  widens Unbounded k need s within = elim (cases_lt (slots_in k) need) [
    | inl lt ↦ ap Some (cond-false _ _ _ (lt-leb need (slots_in k) lt) ∙ sym (reserved_more k need lt))
    | inr le ↦ ap Some (cond-true _ _ _ (le-leb need (slots_in k) le) ∙ sym (reserved_same k need le))
  ]
  widens (Bounded most) k need s within =
      let sum = s.has_slots in
      let le : need ≤ most = grind (arith, nat_tests) in
      ap Some (sym (reserved_same k need (omega arith)))

  -- and after so many rows more
  pub widens_by : (l : Limit) (k now : Chained X) (n : ℕ) → IsSequence l k → is_past l (length k.rows + n) ≡ false → length now.rows ≡ length k.rows + n → slots_in now ≡ slots_in (reserved k n) → capacity_after l (Some (slots_in k)) (length now.rows) ≡ Some (slots_in now)
  widens_by l k now n s within count slots =
      let more : length now.rows - length k.rows ≡ n = omega (arith, count) in
      widens l k (length now.rows) s (ap (is_past l) count ∙ within) ∙ ap (λ m. Some (slots_in (reserved k m))) more ∙ ap Some (sym slots)

  pub widens_result : {A : Type 0} (r : Result A NoMemory) (l : Limit) (k now : Chained X) (need : ℕ) → IsSequence l k → is_past l need ≡ false → IfOk r (λ _. length now.rows ≡ need)
      → IfOk r (λ _. slots_in now ≡ slots_in (reserved k (need - length k.rows))) → IfErr r (λ _. now ≡ k) → Widens r l (Some (slots_in k)) (length now.rows) (Some (slots_in now))
  widens_result (Ok x) l k now need s within count slots same = ap (capacity_after l (Some (slots_in k))) count ∙ widens l k need s within ∙ ap Some (sym slots)
  widens_result (Err e) l k now need s within count slots same = ap (λ (d : Chained X). Some (slots_in d)) (sym same)

  -- where the spare slots were enough there are as many as before
  pub kept_slots : {A : Type 0} (r : Result A NoMemory) (k now : Chained X) (n : ℕ) → IfOk r (λ _. slots_in now ≡ slots_in (reserved k n)) → IfErr r (λ _. now ≡ k) → n ≤ k.spare → slots_in now ≡ slots_in k
  kept_slots (Ok x) k now n slots same room = slots ∙ ap slots_in (reserved_kept k n room)
  kept_slots (Err e) k now n slots same room = ap slots_in same

  -- the slots are no more than there were, or than the least 8 * 2 ^ k with room for all rows
  pub grown_most : (k now : Chained X) (n : ℕ) → slots_in now ≡ slots_in (reserved k n) → length now.rows ≡ length k.rows + n → slots_in now ≤ max (slots_in k) (pow8 (length now.rows))
  grown_most k now n slots count =
      subst (λ m. slots_in now ≤ max (slots_in k) (pow8 m)) (sym count) (subst (λ m. m ≤ max (slots_in k) (pow8 (length k.rows + n))) (sym slots) (reserved_slots k (reserved k n) n refl))
