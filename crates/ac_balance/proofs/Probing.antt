-- What is known of the tests of a probe where it is known how a value stands to it.
use Rattle.std.proofs.Common.{◌≡◌, Bool, true, false, refl, sym, ◌∙◌}
use Rattle.std.specs.declared.cmp.Ordering.{Ordering}
use Rattle.std.specs.declared.cmp.Ordering.TheVariants.{Less, Equal, Greater}
use Rattle.ac_balance.specs.Probes.{standing}

pub behind : (low high : Bool) (way : Ordering) → way ≡ standing low high → way ≡ Greater → high ≡ true
behind low true way is e = refl
behind true false way is e = let bad : Less ≡ Greater = sym is ∙ e in cc
behind false false way is e = let bad : Equal ≡ Greater = sym is ∙ e in cc

pub before : (low high : Bool) (way : Ordering) → way ≡ standing low high → way ≡ Less → low ≡ true
before low true way is e = let bad : Greater ≡ Less = sym is ∙ e in cc
before true false way is e = refl
before false false way is e = let bad : Equal ≡ Less = sym is ∙ e in cc

pub level : (low high : Bool) (way : Ordering) → way ≡ standing low high → way ≡ Equal → (low ≡ false) × (high ≡ false)
level low true way is e = let bad : Greater ≡ Equal = sym is ∙ e in cc
level true false way is e = let bad : Less ≡ Equal = sym is ∙ e in cc
level false false way is e = (refl, refl)
