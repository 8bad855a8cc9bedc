-- An array's rows that give way to other values.
use Rattle.std.proofs.Common.{◌≡◌, ℕ, ◌+◌, ◌-◌, ◌≤◌, List, length, reverse, None, Result, Ok, Err, sym, ap, ◌∙◌, subst, arith}
use Rattle.std.specs.Prelude.{IfOk, IfErr, max}
use Rattle.std.proofs.lemmas.List.{length-reverse, reverse-reverse}
use Rattle.ac_base.specs.declared.fault.NoMemory.{NoMemory}
use Rattle.ac_base.specs.declared.name.Name.{Name}
use Rattle.ac_base.specs.Growth.{pow8}
use Rattle.ac_base.specs.Rows.{Row, values}
use Rattle.ac_chain.specs.Put.{IsPut}
use Rattle.ac_chain.specs.Refill.{IsRefilled}
use Rattle.ac_chain.specs.Rows.{Chained, cleared, reserved, slots_in}
use Rattle.ac_chain.proofs.Puts.{put_length}
use Rattle.ac_chain.proofs.Refills.{refilled, refill_fits, refilled_length}
use Rattle.ac_vector.proofs.Capacities.{kept_slots}

module _ {X : Type 0} where
  -- the array with the values, and its slots
  pub record Filled (c : Chained X) (source : List (Row Name X)) (now : Chained X) : Type 0 where
    pub put : IsRefilled c (values source) now
    pub slots : slots_in now ≡ slots_in (reserved c (length source - length c.rows))
    pub grown : slots_in now ≤ max (slots_in c) (pow8 (length now.rows))

  pub filled : (c d e now : Chained X) (n : ℕ) (made : List X) (source : List (Row Name X)) → d ≡ reserved c n → n ≡ length source - length c.rows → e ≡ cleared d → made ≡ values source
      → IsPut e.rows e.next_serial None made now → now.spare + length made ≡ e.spare → Filled c source now
  filled c d e now n made source is need clear copies p spare =
      let long = length-reverse made in
      let f = refilled c d e now n (reverse made) source is need clear (ap reverse copies) (subst (λ vs. IsPut e.rows e.next_serial None vs now) (sym (reverse-reverse made)) p) (omega arith) in
      let rows : length e.rows ≡ 0 = ap (λ (x : Chained X). length x.rows) clear in
      let room : e.spare ≡ length d.rows + d.spare = ap (λ (x : Chained X). x.spare) clear in
      let count = put_length e.rows e.next_serial None made now p in
      let same : length now.rows + now.spare ≡ length d.rows + d.spare = omega arith in
      record { put = f.refilled; slots = same ∙ ap slots_in is ∙ ap (λ m. slots_in (reserved c m)) need; grown = f.grown }

  -- the copies have room
  pub filling : (c d e : Chained X) (n : ℕ) (made : List X) (source : List (Row Name X)) → d ≡ reserved c n → n ≡ length source - length c.rows → e ≡ cleared d → made ≡ values source → length made ≤ e.spare
  filling c d e n made source is need clear copies = let le = refill_fits c d e n (reverse made) source is need clear (ap reverse copies) in let long = length-reverse made in omega arith

  pub refill_counts : {A : Type 0} (r : Result A NoMemory) (k now : Chained X) (source : List (Row Name X)) → IfOk r (λ _. IsRefilled k (values source) now) → IfOk r (λ _. length now.rows ≡ length source)
  refill_counts (Ok x) k now source f = refilled_length k now source f
  refill_counts (Err e) k now source f = tt

  pub refill_kept : {A : Type 0} (r : Result A NoMemory) (k now : Chained X) (count : ℕ) → IfOk r (λ _. slots_in now ≡ slots_in (reserved k (count - length k.rows))) → IfErr r (λ _. now ≡ k) → count ≤ length k.rows + k.spare → length now.rows + now.spare ≡ length k.rows + k.spare
  refill_kept r k now count slots same room = kept_slots r k now (count - length k.rows) slots same (omega arith)
