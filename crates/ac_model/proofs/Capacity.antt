-- A need of nothing changes nothing, and is never refused.
use Rattle.std.proofs.Common.{◌≡◌, ◌+◌, ◌≤◌, ℕ, false, length, refl, ap, arith, Option, Some, None, IfSome, add-zero, if◌then◌else◌}
use Rattle.std.specs.Prelude.{nat_le, nat_lt}
use Rattle.std.proofs.lemmas.Bool.Decides.{nat_tests}
use Rattle.ac_base.specs.declared.limit.Limit.{Limit}
use Rattle.ac_base.specs.declared.limit.Limit.TheVariants.{Unbounded, Bounded}
use Rattle.ac_base.specs.Growth.{pow8}
use Rattle.ac_base.specs.FirstReason.{first_reason}
use Rattle.ac_base.specs.Limits.{numbers_end, is_past}
use Rattle.ac_base.specs.declared.limit.TheConstants.{GREATEST_LENGTH}
use Rattle.ac_model.specs.Objects.{Object, IsValid, CapacityFits, grown, capacity_after}
use Rattle.ac_model.specs.Letters.{room}

kept_step : (c length room : ℕ) → length ≤ c → (if nat_le length c then c else room) ≡ c
kept_step c length room h = grind (arith, nat_tests)

nothing_reserved : (limit : Limit) (capacity : Option ℕ) (length : ℕ) → IfSome capacity (λ c. CapacityFits limit length c) → capacity_after limit capacity length ≡ capacity
nothing_reserved (Bounded most) capacity length h = refl
nothing_reserved Unbounded None length h = refl
nothing_reserved Unbounded (Some c) length h = ap Some (kept_step c length (pow8 length) h)

pub nothing_grown : {V : Type 0} (o : Object ℕ V) → IsValid o → grown o o.rows 0 ≡ o
nothing_grown o v =
    let e : capacity_after o.limit o.capacity (length o.rows) ≡ o.capacity = nothing_reserved o.limit o.capacity (length o.rows) v.capacity_fits in rw (e, add-zero)

pub nothing_refused : {V : Type 0} (o : Object ℕ V) → IsValid o → first_reason (room o (length o.rows) 0) ≡ None
nothing_refused o v =
    let long : nat_lt GREATEST_LENGTH (length o.rows) ≡ false = let h = v.within_greatest in grind (arith, nat_tests) in
    let spent : nat_lt numbers_end (o.next + 0) ≡ false = let h = v.next_in_range in grind (arith, nat_tests) in
    let full : is_past o.limit (length o.rows) ≡ false = v.within_limit in
    rw (long, full, spent)
