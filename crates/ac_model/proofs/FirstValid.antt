-- An empty object is valid.
use Rattle.std.proofs.Common.{◌≡◌, ℕ, Bool, true, false, refl, arith}
use Rattle.std.proofs.lemmas.Bool.Decides.{nat_tests}
use Rattle.ac_base.specs.declared.limit.Limit.{Limit}
use Rattle.ac_base.specs.declared.limit.Limit.TheVariants.{Unbounded, Bounded}
use Rattle.ac_base.specs.Limits.{is_past}
use Rattle.ac_model.specs.Objects.{IsValid, CapacityFits, empty_object, first_capacity}
use Rattle.std.proofs.Common.{IfSome}

not_past : (limit : Limit) → is_past limit 0 ≡ false
not_past Unbounded = refl
not_past (Bounded most) = grind (arith, nat_tests)

first_fits : (has_capacity : Bool) (limit : Limit) → IfSome (first_capacity has_capacity limit) (λ capacity. CapacityFits limit 0 capacity)
first_fits false limit = tt
first_fits true Unbounded = omega arith
first_fits true (Bounded most) = refl

pub empty_is_valid : {V : Type 0} (has_capacity : Bool) (number : ℕ) (limit : Limit) → IsValid {V = V} (empty_object has_capacity number limit)
empty_is_valid has_capacity number limit = record {
  names_differ = λ name. omega arith;
  names_below_next = λ name h. refl;
  names_from_one = refl;
  next_from_one = omega arith;
  next_in_range = omega arith;
  within_limit = not_past limit;
  within_greatest = omega arith;
  capacity_fits = first_fits has_capacity limit;
}
