-- How many elements an object may hold, and how far its names go.
use Rattle.std.specs.Prelude.{◌≡◌, ◌-◌, ◌^◌, ◌≤◌, ⊤, ℕ, Bool, false, nat_lt, Option, Some, None, refl}
use Rattle.std.specs.Coded.{Coded, code_by, coded_ℕ, coded_option}
use Rattle.ac_base.specs.declared.limit.Limit.{Limit}
use Rattle.ac_base.specs.declared.limit.Limit.TheVariants.{Unbounded, Bounded}
use Rattle.ac_base.specs.declared.limit.TheConstants.{GREATEST_LENGTH}

-- the number that no name and no object has: those below it may be given
abbrev pub numbers_end : ℕ
numbers_end = 2 ^ 64 - 1

-- a limit that an object may have
abbrev pub IsLimit : Limit → Type 0
IsLimit Unbounded = ⊤
IsLimit (Bounded most) = most ≤ GREATEST_LENGTH

-- a length is past the limit
abbrev pub is_past : Limit → ℕ → Bool
is_past Unbounded length = false
is_past (Bounded most) length = nat_lt most length

abbrev option_of_limit : Limit → Option ℕ
option_of_limit Unbounded = None
option_of_limit (Bounded most) = Some most

abbrev limit_of_option : Option ℕ → Limit
limit_of_option None = Unbounded
limit_of_option (Some most) = Bounded most

pub limit_back : (limit : Limit) → limit_of_option (option_of_limit limit) ≡ limit
limit_back Unbounded = refl
limit_back (Bounded most) = refl

abbrev pub limit_code : Coded Limit
limit_code = code_by (Option ℕ) (coded_option coded_ℕ) option_of_limit limit_of_option limit_back
