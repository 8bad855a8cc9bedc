-- The orders by a comparison are weak orders, and each value's ties are what the comparison calls equal.
use Rattle.std.specs.Prelude.{◌≡◌, ◌↔◌, ◌<ℤ◌, ℤ, ℕ, List, true, false, IsTrue, refl}
use Rattle.std.proofs.Common.{sym, ap, ◌∙◌, subst}
use Rattle.std.specs.declared.cmp.Ordering.{Ordering}
use Rattle.std.specs.declared.cmp.Ordering.TheVariants.{Less, Equal, Greater}
use Rattle.std.specs.Ordering.{int_cmp, is_lt, is_eq, MatchOrdering, int_eq, eq_by_cmp, ordering_reverse, on}
use Rattle.std.specs.Cmp.{IsTotalOrder, IsEquivalence}
use Rattle.std.specs.Cmp.Lexicographic.{bytes_decides, texts_ties}
use Rattle.std.proofs.lemmas.Cmp.{int_ranked, tied_itself, tied_back, int_cmp_total, nat_list_cmp_total, on_total, nat_list_eq_equiv, int_eq_equiv}
use Rattle.ac_base.specs.Order.{IsTied, IsWeakOrder, integer_less, text_less, text_alike}
use Rattle.ac_base.specs.Key.{key_of_text}

is_less : (answer : Ordering) → is_lt answer ≡ true → answer ≡ Less
is_less Less holds = refl
is_less Equal holds = cc
is_less Greater holds = cc

called_equal : (answer : Ordering) → IsTrue (is_eq answer) → answer ≡ Equal
called_equal Less holds = cc
called_equal Equal holds = refl
called_equal Greater holds = cc

is_equal : (answer : Ordering) → is_lt answer ≡ false → is_lt (ordering_reverse answer) ≡ false → answer ≡ Equal
is_equal Less first second = cc
is_equal Equal first second = refl
is_equal Greater first second = cc

module _ {A : Type 0} {cmp : A → A → Ordering} (order : IsTotalOrder cmp) where
  equal_where_tied : (x y : A) → IsTied (λ a b. is_lt (cmp a b)) x y → cmp x y ≡ Equal
  equal_where_tied x y tied = is_equal (cmp x y) tied.0 (ap is_lt (sym (order.antisymm y x)) ∙ tied.1)

  tied_where_equal : (x y : A) → cmp x y ≡ Equal → IsTied (λ a b. is_lt (cmp a b)) x y
  tied_where_equal x y equal = (ap is_lt equal, ap is_lt (tied_back order x y equal))

  pub weak_order : IsWeakOrder (λ a b. is_lt (cmp a b))
  weak_order = record {
    irreflexive = λ x. ap is_lt (tied_itself order x);
    transitive = λ x y z first second. ap is_lt (order.trans x y z (is_less _ first) (is_less _ second));
    ties_transitive = λ x y z first second. tied_where_equal x z (order.congr x y z (equal_where_tied x y first) ∙ equal_where_tied y z second);
  }

  -- two values are called equal exactly where neither is less
  pub equal_exactly_where_tied : (x y : A) → IsTrue (eq_by_cmp cmp x y) ↔ IsTied (λ a b. is_lt (cmp a b)) x y
  equal_exactly_where_tied x y =
      (λ holds. tied_where_equal x y (called_equal (cmp x y) holds), λ tied. ap is_eq (equal_where_tied x y tied))

pub integer_order : IsWeakOrder integer_less
integer_order = weak_order int_cmp_total

pub text_order : IsWeakOrder text_less
text_order = weak_order nat_list_cmp_total

pub key_order : IsWeakOrder (on key_of_text text_less)
key_order = weak_order (on_total key_of_text nat_list_cmp_total)

pub text_equivalence : IsEquivalence text_alike
text_equivalence = nat_list_eq_equiv

pub integers_equal : (x y : ℤ) → IsTrue (int_eq x y) → x ≡ y
integers_equal x y alike =
    subst (λ answer. MatchOrdering answer (x <ℤ y) (x ≡ y) (y <ℤ x)) (called_equal (int_cmp x y) alike) (int_ranked x y (int_cmp x y) refl)

pub texts_equal : (x y : List ℕ) → IsTrue (text_alike x y) → x ≡ y
texts_equal x y alike = (bytes_decides x y).0 alike

pub integers_same : (x y : ℤ) → IsTrue (int_eq x y) ↔ (x ≡ y)
integers_same x y = (integers_equal x y, λ e. subst (λ z. IsTrue (int_eq x z)) e (int_eq_equiv.refl x))

pub texts_same : (x y : List ℕ) → IsTrue (text_alike x y) ↔ (x ≡ y)
texts_same x y = bytes_decides x y

pub integers_alike_where_tied : (x y : ℤ) → IsTrue (int_eq x y) ↔ IsTied integer_less x y
integers_alike_where_tied = equal_exactly_where_tied int_cmp_total

pub texts_alike_where_tied : (x y : List ℕ) → IsTrue (text_alike x y) ↔ IsTied text_less x y
texts_alike_where_tied x y =
    subst (λ alike. IsTrue alike ↔ IsTied text_less x y) (sym (texts_ties x y)) (equal_exactly_where_tied nat_list_cmp_total x y)

pub keyed_texts_alike_where_tied : (x y : List ℕ) → IsTrue (on key_of_text text_alike x y) ↔ IsTied (on key_of_text text_less) x y
keyed_texts_alike_where_tied x y = texts_alike_where_tied (key_of_text x) (key_of_text y)
