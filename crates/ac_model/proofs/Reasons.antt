-- What a call's arguments are like where there is no reason to refuse it.
use Rattle.std.proofs.Common.{◌≡◌, ◌+◌, ◌≤◌, ℕ, ℤ, pos, negsuc, Bool, true, false, List, [], ◌∷◌, refl, arith, Option, Some, None}
use Rattle.std.specs.Prelude.{nat_lt}
use Rattle.std.proofs.lemmas.Bool.Decides.{nat_tests}
use Rattle.ac_base.specs.declared.reason.Reason.{Reason}
use Rattle.ac_base.specs.declared.reason.Reason.TheVariants.{LengthRange, CapacityFull, NamesSpent}
use Rattle.ac_base.specs.FirstReason.{first_reason, earlier}
use Rattle.ac_base.specs.Limits.{is_past, numbers_end}
use Rattle.ac_base.specs.declared.limit.TheConstants.{GREATEST_LENGTH}
use Rattle.ac_model.specs.Objects.{Object}
use Rattle.ac_model.specs.Rows.{is_named}
use Rattle.ac_model.specs.Letters.{Mark, no_mark, mark_at, stale_mark, reason_if, room, judged_in, needs, name_of, in_range, count_of}
use Rattle.ac_model.specs.Forms.{allowed}
use Rattle.std.specs.Prelude.{Result, Ok, Err, OnErr}

pub earlier_none : (a b : Option Reason) → earlier a b ≡ None → (a ≡ None) × (b ≡ None)
earlier_none None b h = (refl, h)
earlier_none (Some r) None h = cc
earlier_none (Some r) (Some q) h = grind arith

pub none_first : (a : Option Reason) (others : List (Option Reason)) → first_reason (a ∷ others) ≡ None → a ≡ None
none_first a others h = (earlier_none a (first_reason others) h).0

pub none_others : (a : Option Reason) (others : List (Option Reason)) → first_reason (a ∷ others) ≡ None → first_reason others ≡ None
none_others a others h = (earlier_none a (first_reason others) h).1

-- the reasons after the first two, and after the first three
pub after_two : (a b : Option Reason) (others : List (Option Reason)) → first_reason (a ∷ b ∷ others) ≡ None → first_reason others ≡ None
after_two a b others h = none_others b others (none_others a (b ∷ others) h)

pub after_three : (a b c : Option Reason) (others : List (Option Reason)) → first_reason (a ∷ b ∷ c ∷ others) ≡ None → first_reason others ≡ None
after_three a b c others h = after_two b c others (none_others a (b ∷ c ∷ others) h)

pub after_four : (a b c d : Option Reason) (others : List (Option Reason)) → first_reason (a ∷ b ∷ c ∷ d ∷ others) ≡ None → first_reason others ≡ None
after_four a b c d others h = after_three b c d others (none_others a (b ∷ c ∷ d ∷ others) h)

pub not_if : (test : Bool) (reason : Reason) → reason_if test reason ≡ None → test ≡ false
not_if true reason h = cc
not_if false reason h = refl

pub record HasRoom {V : Type 0} (o : Object ℕ V) (length more : ℕ) : Type 0 where
  pub within_greatest : length ≤ GREATEST_LENGTH
  pub within_limit : is_past o.limit length ≡ false
  pub within_names : o.next + more ≤ numbers_end

pub room_none : {V : Type 0} (o : Object ℕ V) (length more : ℕ) → first_reason (room o length more) ≡ None → HasRoom o length more
room_none o length more h =
    let long = reason_if (nat_lt GREATEST_LENGTH length) LengthRange in
    let full = reason_if (is_past o.limit length) CapacityFull in
    let spent = reason_if (nat_lt numbers_end (o.next + more)) NamesSpent in
    let others = none_others long (full ∷ spent ∷ []) h in
    let short : nat_lt GREATEST_LENGTH length ≡ false = not_if _ LengthRange (none_first long (full ∷ spent ∷ []) h) in
    let left : nat_lt numbers_end (o.next + more) ≡ false = not_if _ NamesSpent (none_first spent [] (none_others full (spent ∷ []) others)) in
    record {
      within_greatest = grind (arith, nat_tests);
      within_limit = not_if _ CapacityFull (none_first full (spent ∷ []) others);
      within_names = grind (arith, nat_tests);
    }

judged_none : (number object : ℕ) (there : Bool) → judged_in number object there ≡ None → there ≡ true
judged_none number object there h = grind arith

-- a cursor that must designate an element does so, where it brings no reason
pub needs_none : {V : Type 0} (o : Object ℕ V) (c : Mark) → needs o c ≡ None → is_named o.rows (name_of c) ≡ true
needs_none o no_mark h = cc
needs_none o (mark_at object name) h = judged_none o.number object (is_named o.rows name) h
needs_none o (stale_mark object) h = let e : false ≡ true = judged_none o.number object false h in cc

pub in_range_none : (count : ℤ) → in_range count ≡ None → count_of count ≤ GREATEST_LENGTH
in_range_none (pos n) h = grind (arith, nat_tests)
in_range_none (negsuc n) h = cc

-- a call that was allowed has no reason
pub allowed_none : (refusal : Option Reason) → Ok tt ≡ allowed refusal → refusal ≡ None
allowed_none None h = refl
allowed_none (Some reason) h = cc

pub passed : (refusal reason : Option Reason) → Ok tt ≡ allowed refusal → refusal ≡ reason → None ≡ reason
passed None reason h is = is
passed (Some found) reason h is = cc

-- what holds anyway holds where a call fails
pub on_err : {X E : Type 0} {P : Type 0} (result : Result X E) → P → OnErr result P
on_err (Ok x) holds = tt
on_err (Err e) holds = holds
