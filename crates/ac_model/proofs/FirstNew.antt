-- The first new element is told by the object's number and its next name alone.
use Rattle.std.specs.Prelude.{◌≡◌, refl, ℕ, zero, suc}
use Rattle.ac_base.specs.Guards.{GuardCounts}
use Rattle.ac_model.specs.Objects.{Object}
use Rattle.ac_model.specs.Letters.{Mark}
use Rattle.ac_model.specs.Common.{under_guards}
use Rattle.ac_model.specs.Sequences.{first_new}

pub first_new_apart : {T : Type 0} (o : Object ℕ T) (guards : GuardCounts) (before : Mark) (count : ℕ) →
    first_new (under_guards o guards) before count ≡ first_new o before count
first_new_apart o guards before zero = refl
first_new_apart o guards before (suc count) = refl
