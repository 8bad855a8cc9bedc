-- A search by an element's key finds what is equivalent to the element, and what stands beside it.
use Rattle.std.proofs.Common.{◌≡◌, sym, ◌∙◌, Bool}
use Rattle.ac_model.specs.Keyed.{Order, on_key}
use Rattle.ac_model.specs.KeyedSets.{has_key}

module _ {K V : Type 0} (key : V → K) (keys : Order K) (order : Order V) (by_key : order ≡ on_key key keys) (e : V) (k : K) (is : k ≡ key e) where
  pub like_key : (matches : K → V → Bool) → ((j : K) → matches j ≡ has_key key keys j) → ◌≡◌ {A = V → Bool} (matches k) (λ v. order.alike v e)
  like_key matches by_matches = by_matches k ∙ (λ i v. keys.alike (key v) (is i)) ∙ sym (λ i v. (by_key i).alike v e)

  pub above_key : (above : K → V → Bool) → above ≡ (λ j v. keys.less j (key v)) → ◌≡◌ {A = V → Bool} (above k) (λ v. order.less e v)
  above_key above by_above = (λ i. by_above i k) ∙ (λ i v. keys.less (is i) (key v)) ∙ sym (λ i v. (by_key i).less e v)

  pub below_key : (below : K → V → Bool) → below ≡ (λ j v. keys.less (key v) j) → ◌≡◌ {A = V → Bool} (below k) (λ v. order.less v e)
  below_key below by_below = (λ i. by_below i k) ∙ (λ i v. keys.less (key v) (is i)) ∙ sym (λ i v. (by_key i).less v e)
