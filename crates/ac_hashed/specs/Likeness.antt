-- Rows that are equivalent where their keys are.
use Rattle.std.specs.Prelude.{◌≡◌, Bool}
use Rattle.std.specs.Cmp.{IsEquivalence}
use Rattle.std.proofs.Common.{sym, subst}

pub like_keys : {K V : Type 0} {alike : K → K → Bool} → IsEquivalence alike → (key : V → K) (like : V → V → Bool) → ((v w : V) → like v w ≡ alike (key v) (key w)) → IsEquivalence like
like_keys {K} {V} {alike} equal key like law = subst (λ (test : V → V → Bool). IsEquivalence test) (λ i v w. sym (law v w) i) (record {
  refl = λ v. equal.refl (key v);
  symm = λ v w. equal.symm (key v) (key w);
  congr = λ v w x. equal.congr (key v) (key w) (key x);
})
