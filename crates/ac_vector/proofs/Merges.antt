-- The slots and the Capacity of a vector into which another's elements were merged.
use Rattle.std.proofs.Common.{◌≡◌, ◌+◌, Bool, length, false, Some, Result, Ok, Err, sym, ap, ◌∙◌}
use Rattle.std.specs.Prelude.{IfOk, IfErr}
use Rattle.ac_base.specs.declared.fault.NoMemory.{NoMemory}
use Rattle.ac_base.specs.declared.limit.Limit.{Limit}
use Rattle.ac_base.specs.Limits.{is_past}
use Rattle.ac_base.specs.Rows.{values}
use Rattle.ac_chain.specs.Merging.{IsMerged}
use Rattle.ac_chain.specs.Put.{HasGrown}
use Rattle.ac_chain.specs.Rows.{Chained, reserved, slots_in}
use Rattle.ac_chain.specs.Sequence.{IsSequence, Widens}
use Rattle.ac_chain.proofs.Merges.{merged_length}
use Rattle.ac_chain.proofs.Puts.{reserved_kept}
use Rattle.ac_vector.proofs.Capacities.{grown_most, widens_by}

module _ {X A : Type 0} (r : Result A NoMemory) (less : X → X → Bool) (k now from : Chained X) where
  pub merge_grown : IfOk r (λ _. IsMerged less k (values from.rows) now) → IfOk r (λ _. slots_in now ≡ slots_in (reserved k (length from.rows))) → IfOk r (λ _. HasGrown k (length from.rows) now)
  merge_grown merged slots = by r merged slots
    where
      by : (q : Result A NoMemory) → IfOk q (λ _. IsMerged less k (values from.rows) now) → IfOk q (λ _. slots_in now ≡ slots_in (reserved k (length from.rows))) → IfOk q (λ _. HasGrown k (length from.rows) now)
      by (Err e) merged slots = tt
      by (Ok x) merged slots = record {
        kept = λ room. slots ∙ ap slots_in (reserved_kept k (length from.rows) room);
        most = grown_most k now (length from.rows) slots (merged_length less k now from merged);
      }

  pub merge_widens : (l : Limit) → IsSequence l k → is_past l (length k.rows + length from.rows) ≡ false → IfOk r (λ _. IsMerged less k (values from.rows) now) → IfOk r (λ _. slots_in now ≡ slots_in (reserved k (length from.rows)))
      → IfErr r (λ _. now ≡ k) → Widens r l (Some (slots_in k)) (length now.rows) (Some (slots_in now))
  merge_widens l s within merged slots same = by r merged slots same
    where
      by : (q : Result A NoMemory) → IfOk q (λ _. IsMerged less k (values from.rows) now) → IfOk q (λ _. slots_in now ≡ slots_in (reserved k (length from.rows))) → IfErr q (λ _. now ≡ k) → Widens q l (Some (slots_in k)) (length now.rows) (Some (slots_in now))
      by (Err e) merged slots same = ap (λ (d : Chained X). Some (slots_in d)) (sym same)
      by (Ok x) merged slots same = widens_by l k now (length from.rows) s within (merged_length less k now from merged) slots
