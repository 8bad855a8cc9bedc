-- A length that is far past the greatest one is refused for it, whatever it is.
use Rattle.std.proofs.Common.{◌≡◌, ◌+◌, ◌-◌, ◌^◌, ◌<◌, ℕ, Bool, true, false, [], ◌∷◌, Some, refl, sym, ap, ◌∙◌, inl, inr, arith}
use Rattle.std.specs.Prelude.{min, nat_lt}
use Rattle.std.proofs.lemmas.Bool.{cases_lt, lt-ltb}
use Rattle.ac_base.specs.FirstReason.{first_reason}
use Rattle.ac_base.specs.Limits.{is_past, numbers_end}
use Rattle.ac_base.specs.declared.limit.Limit.{Limit}
use Rattle.ac_base.specs.declared.limit.TheConstants.{GREATEST_LENGTH}
use Rattle.ac_base.specs.declared.reason.Reason.TheVariants.{LengthRange, CapacityFull, NamesSpent}
use Rattle.ac_model.specs.Letters.{reason_if, room_in}

length_first : (full spent : Bool) → first_reason (Some LengthRange ∷ reason_if full CapacityFull ∷ reason_if spent NamesSpent ∷ []) ≡ Some LengthRange
length_first true true = refl
length_first true false = refl
length_first false true = refl
length_first false false = refl

too_long : (limit : Limit) (next length more : ℕ) → GREATEST_LENGTH < length → first_reason (room_in limit next length more) ≡ Some LengthRange
too_long limit next length more lt =
    ap (λ b. first_reason (reason_if b LengthRange ∷ reason_if (is_past limit length) CapacityFull ∷ reason_if (nat_lt numbers_end (next + more)) NamesSpent ∷ [])) (lt-ltb GREATEST_LENGTH length lt)
    ∙ length_first (is_past limit length) (nat_lt numbers_end (next + more))

pub refused_behind : (limit : Limit) (next kept more sum : ℕ) → sum ≡ min (kept + more) (2 ^ 64 - 1) → first_reason (room_in limit next sum more) ≡ first_reason (room_in limit next (kept + more) more)
refused_behind limit next kept more sum is = elim (cases_lt GREATEST_LENGTH (kept + more)) [
  | inl lt ↦ too_long limit next sum more (omega (arith, is, lt)) ∙ sym (too_long limit next (kept + more) more lt)
  | inr le ↦ let same : sum ≡ kept + more = omega (arith, is, le) in ap (λ n. first_reason (room_in limit next n more)) same
]
