-- The first reason is of no later step than any other that was found.
use Rattle.std.proofs.Common.{◌≡◌, ◌≤◌, Bool, true, false, List, [], ◌∷◌, Option, Some, None, refl, subst, arith, if◌then◌else◌}
use Rattle.std.specs.Prelude.{nat_lt}
use Rattle.std.proofs.lemmas.Bool.Decides.{nat_tests}
use Rattle.ac_base.specs.declared.reason.Reason.{Reason}
use Rattle.ac_base.specs.FirstReason.{first_reason, earlier, step_of, AllNone, NoneEarlier}

earlier_none : (a b : Option Reason) → earlier a b ≡ None → (a ≡ None) × (b ≡ None)
earlier_none None b h = (refl, h)
earlier_none (Some r) None h = cc
earlier_none (Some r) (Some q) h = grind arith

pub none_found : (found : List (Option Reason)) → first_reason found ≡ None → AllNone found
none_found [] h = tt
none_found (found ∷ others) h = let both = earlier_none found (first_reason others) h in (both.0, none_found others both.1)

weaker : (r q : Reason) (found : List (Option Reason)) → step_of r ≤ step_of q → NoneEarlier q found → NoneEarlier r found
weaker r q [] le h = tt
weaker r q (None ∷ found) le h = (tt, weaker r q found le h.1)
weaker r q (Some other ∷ found) le h = (omega (arith, h.0), weaker r q found le h.1)

of_none : (r : Reason) (found : List (Option Reason)) → AllNone found → NoneEarlier r found
of_none r [] h = tt
of_none r (None ∷ found) h = (tt, of_none r found h.1)
of_none r (Some other ∷ found) h = let e : Some other ≡ None = h.0 in cc

same_step : (r : Reason) → step_of r ≤ step_of r
same_step r = omega arith

chosen : (r q : Reason) (others : List (Option Reason)) (reason : Reason) (b : Bool) → nat_lt (step_of q) (step_of r) ≡ b → NoneEarlier q others →
    (if b then Some q else Some r) ≡ Some reason → NoneEarlier reason (Some r ∷ others)
chosen r q others reason true e later h =
    let is : q ≡ reason = cc in
    let le : step_of q ≤ step_of r = grind (arith, nat_tests) in
    subst (λ x. NoneEarlier x (Some r ∷ others)) is (le, later)
chosen r q others reason false e later h =
    let is : r ≡ reason = cc in
    let le : step_of r ≤ step_of q = grind (arith, nat_tests) in
    subst (λ x. NoneEarlier x (Some r ∷ others)) is (same_step r, weaker r q others le later)

first_step : (a : Option Reason) (others : List (Option Reason)) (later : Option Reason) (reason : Reason) → first_reason others ≡ later →
    ((q : Reason) → later ≡ Some q → NoneEarlier q others) → earlier a later ≡ Some reason → NoneEarlier reason (a ∷ others)
first_step None others later reason e later_is h = (tt, later_is reason h)
first_step (Some r) others None reason e later_is h =
    let is : r ≡ reason = cc in subst (λ x. NoneEarlier x (Some r ∷ others)) is (same_step r, of_none r others (none_found others e))
first_step (Some r) others (Some q) reason e later_is h = chosen r q others reason (nat_lt (step_of q) (step_of r)) refl (later_is q refl) h

pub none_earlier : (found : List (Option Reason)) (reason : Reason) → first_reason found ≡ Some reason → NoneEarlier reason found
none_earlier [] reason h = cc
none_earlier (a ∷ others) reason h = first_step a others (first_reason others) reason refl (none_earlier others) h
