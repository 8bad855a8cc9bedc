-- What a search looks for, as the tests of what stands before it and behind it.
use Rattle.std.specs.Prelude.{◌≡◌, Bool, true, false}
use Rattle.std.specs.declared.cmp.Ordering.{Ordering}
use Rattle.std.specs.declared.cmp.Ordering.TheVariants.{Less, Equal, Greater}
use Rattle.std.proofs.Common.{refl, sym, ◌∙◌}
use Rattle.ac_base.specs.Order.{IsWeakOrder}
use Rattle.ac_base.specs.WeakOrders.{asymmetric, not_less_transitive}

-- how a value stands to what is looked for, by whether it is before it and whether it is behind it
abbrev pub standing : Bool → Bool → Ordering
standing low true = Greater
standing true false = Less
standing false false = Equal

module _ {X : Type 0} where
  -- low is what stands before what is looked for, and high what stands behind it: what is less than one that is low is low,
  -- what is above one that is high is high, and beside one that is neither all are
  pub record IsProbe (less : X → X → Bool) (low high : X → Bool) : Type 0 where
    pub down : (x y : X) → less x y ≡ true → low y ≡ true → low x ≡ true
    pub up : (x y : X) → less x y ≡ true → high x ≡ true → high y ≡ true
    pub below : (x y : X) → less x y ≡ true → high y ≡ false → low x ≡ true
    pub above : (x y : X) → less x y ≡ true → low x ≡ false → high y ≡ true
    pub apart : (x : X) → high x ≡ true → low x ≡ false

  -- the tests of a key by a weak order, where the values are ordered by that of theirs
  pub probed : {Y : Type 0} (less : X → X → Bool) (order : Y → Y → Bool) (key : X → Y) → ((x y : X) → less x y ≡ order (key x) (key y)) → IsWeakOrder order → (k : Y) → IsProbe less (λ x. order (key x) k) (λ x. order k (key x))
  probed less order key same weak k = record {
    down = λ x y e h. weak.transitive (key x) (key y) k (sym (same x y) ∙ e) h;
    up = λ x y e h. weak.transitive k (key x) (key y) h (sym (same x y) ∙ e);
    below = λ x y e h. holds (order (key x) k) (λ no. let bad : true ≡ false = sym e ∙ same x y ∙ not_less_transitive weak (key y) k (key x) h no in cc);
    above = λ x y e h. holds (order k (key y)) (λ no. let bad : true ≡ false = sym e ∙ same x y ∙ not_less_transitive weak (key y) k (key x) no h in cc);
    apart = λ x h. asymmetric weak k (key x) h;
  }
    where
      holds : (b : Bool) → (b ≡ false → ⊥) → b ≡ true
      holds true n = refl
      holds false n = absurd (n refl)
