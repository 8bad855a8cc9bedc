-- Rows in the order of their keys.
use Rattle.std.specs.Prelude.{◌≡◌, ◌&&◌, Bool, true, not}
use Rattle.std.proofs.Common.{subst, sym}
use Rattle.ac_base.specs.Order.{IsWeakOrder, are_level}

pub weak_by_key : {V K : Type 0} (key : V → K) (less : K → K → Bool) → IsWeakOrder less → IsWeakOrder (λ v w. less (key v) (key w))
weak_by_key key less order = record {
  irreflexive = λ v. order.irreflexive (key v);
  transitive = λ u v w. order.transitive (key u) (key v) (key w);
  ties_transitive = λ u v w. order.ties_transitive (key u) (key v) (key w);
}

-- rows that are less where their keys are
pub weak_rows : {V K : Type 0} (key : V → K) (less : K → K → Bool) → IsWeakOrder less → (rows : V → V → Bool) → ((v w : V) → rows v w ≡ less (key v) (key w)) → IsWeakOrder rows
weak_rows {V} key less order rows law = subst (λ (test : V → V → Bool). IsWeakOrder test) (λ i v w. sym (law v w) i) (weak_by_key key less order)

pub level_itself : {K : Type 0} (less : K → K → Bool) → IsWeakOrder less → (k : K) → are_level less k k ≡ true
level_itself less order k = λ i. not (order.irreflexive k i) && not (order.irreflexive k i)
