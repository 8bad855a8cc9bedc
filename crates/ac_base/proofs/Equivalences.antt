-- What is alike in an equivalence, turned round and one after another.
use Rattle.std.proofs.Common.{◌≡◌, Bool, true, sym, ◌∙◌}
use Rattle.std.specs.Cmp.{IsEquivalence}

module _ {V : Type 0} {alike : V → V → Bool} (equal : IsEquivalence alike) where
  pub turned : (v w : V) → alike v w ≡ true → alike w v ≡ true
  turned v w h = sym (equal.symm v w) ∙ h

  pub chained : (v w x : V) → alike v w ≡ true → alike w x ≡ true → alike v x ≡ true
  chained v w x h k = equal.congr v w x h ∙ k
