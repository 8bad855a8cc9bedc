-- The first reason may be looked for from the front: `earlier` may be taken in either order.
use Rattle.std.proofs.Common.{◌≡◌, ℕ, ◌+◌, ◌<◌, ◌≤◌, Bool, true, false, List, Option, Some, None, refl, arith, if◌then◌else◌, length, drop, get_or}
use Rattle.std.specs.Prelude.{nat_lt}
use Rattle.std.proofs.lemmas.Bool.Decides.{nat_tests}
use Rattle.std.proofs.lemmas.List.{drop_more, drop_all}
use Rattle.ac_base.specs.declared.reason.Reason.{Reason}
use Rattle.ac_base.specs.FirstReason.{first_reason, earlier, step_of}

chosen : (r q p : Reason) (b d : Bool) → nat_lt (step_of q) (step_of r) ≡ b → nat_lt (step_of p) (step_of q) ≡ d →
    earlier (if b then Some q else Some r) (Some p) ≡ earlier (Some r) (if d then Some p else Some q)
chosen r q p true true e f = let lower : nat_lt (step_of p) (step_of r) ≡ true = grind (arith, nat_tests) in rw (f, lower) refl
chosen r q p true false e f = rw (e, f) refl
chosen r q p false true e f = refl
chosen r q p false false e f = let higher : nat_lt (step_of p) (step_of r) ≡ false = grind (arith, nat_tests) in rw (e, higher) refl

with_none : (r q : Reason) (b : Bool) → earlier (if b then Some q else Some r) None ≡ (if b then Some q else Some r)
with_none r q true = refl
with_none r q false = refl

pub earlier_assoc : (a b c : Option Reason) → earlier (earlier a b) c ≡ earlier a (earlier b c)
earlier_assoc None b c = refl
earlier_assoc (Some r) None c = refl
earlier_assoc (Some r) (Some q) None = with_none r q (nat_lt (step_of q) (step_of r))
earlier_assoc (Some r) (Some q) (Some p) = chosen r q p (nat_lt (step_of q) (step_of r)) (nat_lt (step_of p) (step_of q)) refl refl

pub with_none_later : (a : Option Reason) → earlier a None ≡ a
with_none_later None = refl
with_none_later (Some r) = refl

-- one step of a walk from the front
pub one_further : (found : List (Option Reason)) (i : ℕ) (first next : Option Reason) → i < length found → next ≡ earlier first (get_or found i None) →
    earlier next (first_reason (drop (i + 1) found)) ≡ earlier first (first_reason (drop i found))
one_further found i first next in_range is =
    rw (drop_more found i None in_range, is) (earlier_assoc first (get_or found i None) (first_reason (drop (i + 1) found)))

-- its end
pub at_end : (found : List (Option Reason)) (i : ℕ) (first : Option Reason) → length found ≤ i → earlier first (first_reason (drop i found)) ≡ first
at_end found i first out = rw (drop_all i found out) (with_none_later first)
