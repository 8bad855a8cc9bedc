-- What follows in every weak order.
use Rattle.std.specs.Prelude.{◌≡◌, Bool, true, false, not, refl}
use Rattle.std.proofs.Common.{sym, ◌∙◌, true≢false}
use Rattle.std.proofs.lemmas.Bool.{and_parts, not-true}
use Rattle.ac_base.specs.Order.{IsTied, IsWeakOrder, are_level}

false_where_not_true : (answer : Bool) → (answer ≡ true → ⊥) → answer ≡ false
false_where_not_true true never = absurd (never refl)
false_where_not_true false never = refl

never_both : (answer : Bool) → answer ≡ true → answer ≡ false → ⊥
never_both answer holds fails = true≢false (sym holds ∙ fails)

module _ {A : Type 0} {less : A → A → Bool} (order : IsWeakOrder less) where
  pub asymmetric : (x y : A) → less x y ≡ true → less y x ≡ false
  asymmetric x y below =
      false_where_not_true _ (λ above. never_both _ (order.transitive x y x below above) (order.irreflexive x))

  -- where y isn't less than x, nor z than y, z isn't less than x
  pub not_less_transitive : (x y z : A) → less y x ≡ false → less z y ≡ false → less z x ≡ false
  not_less_transitive x y z first second = false_where_not_true _ (λ below.
      let x_tied_y : less x y ≡ false = false_where_not_true _ (λ above. never_both _ (order.transitive z x y below above) second) in
      let y_tied_z : less y z ≡ false = false_where_not_true _ (λ above. never_both _ (order.transitive y z x above below) first) in
      never_both _ below (order.ties_transitive x y z (x_tied_y, first) (y_tied_z, second)).1)

  -- values that are level are tied
  tied_where_level : (x y : A) → are_level less x y ≡ true → IsTied less x y
  tied_where_level x y level =
      let both = and_parts (not (less x y)) (not (less y x)) level in
      (not-true (less x y) both.0, not-true (less y x) both.1)

  -- where x is level with y, and y with z, x isn't less than z
  pub level_transitive : (x y z : A) → are_level less x y ≡ true → are_level less y z ≡ true → less x z ≡ false
  level_transitive x y z first second = (order.ties_transitive x y z (tied_where_level x y first) (tied_where_level y z second)).0
