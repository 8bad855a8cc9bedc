-- Names as keys of a map, and the contents of a pool by what stands under each name.
use Rattle.std.proofs.Common.{◌≡◌, ◌≢◌, ◌⊎◌, true, false, Some, None, refl, ap, ◌∙◌, inl, inr}
use Rattle.std.proofs.lemmas.Bool.{cases_eq, false_from_ne_true, cond-true, cond-false}
use Rattle.std.specs.declared.cmp.Ordering.{Ordering}
use Rattle.std.specs.declared.cmp.Ordering.TheVariants.{Less, Equal, Greater}
use Rattle.std.specs.Ordering.{nat_cmp, ordering_then, eq_by_cmp, is_eq}
use Rattle.std.specs.Cmp.{IsTotalOrder, nat_cmp_total, on_total, then_total, tied_itself}
use Rattle.std.specs.FinMap as map
use Rattle.ac_base.specs.declared.name.Name.{Name}
use Rattle.ac_pool.specs.Names.{name_cmp}

pub same_name : (a b : Name) → a.slot ≡ b.slot → a.serial ≡ b.serial → a ≡ b
same_name a b p q = λ i. record { slot = p i; serial = q i }

pub cases_name : (a b : Name) → (a ≡ b) ⊎ (a ≢ b)
cases_name a b = elim (cases_eq a.slot b.slot) [
  | inl p ↦ elim (cases_eq a.serial b.serial) [ inl q ↦ inl (same_name a b p q) | inr n ↦ inr (λ e. n (ap (λ (c : Name). c.serial) e)) ]
  | inr n ↦ inr (λ e. n (ap (λ (c : Name). c.slot) e))
]

pub name_cmp_total : IsTotalOrder name_cmp
name_cmp_total = then_total (on_total (λ (a : Name). a.slot) nat_cmp_total) (on_total (λ (a : Name). a.serial) nat_cmp_total)

both_Equal : (r s : Ordering) → ordering_then r s ≡ Equal → (r ≡ Equal) × (s ≡ Equal)
both_Equal Less s e = cc
both_Equal Equal s e = (refl, e)
both_Equal Greater s e = cc

pub name_cmp-IsAntisymmetric : map.IsAntisymmetric name_cmp
name_cmp-IsAntisymmetric a b e =
    let both = both_Equal (nat_cmp a.slot b.slot) (nat_cmp a.serial b.serial) e in
    same_name a b (map.nat_cmp-IsAntisymmetric a.slot b.slot both.0) (map.nat_cmp-IsAntisymmetric a.serial b.serial both.1)

equal_is : (r : Ordering) → is_eq r ≡ true → r ≡ Equal
equal_is Less e = cc
equal_is Equal e = refl
equal_is Greater e = cc

pub ties_itself : (a : Name) → eq_by_cmp name_cmp a a ≡ true
ties_itself a = ap is_eq (tied_itself name_cmp_total a)

pub ties_no_other : (a b : Name) → a ≢ b → eq_by_cmp name_cmp a b ≡ false
ties_no_other a b n = false_from_ne_true _ (λ e. n (name_cmp-IsAntisymmetric a b (equal_is (name_cmp a b) e)))

module _ {X : Type 0} (m : map.FinMap name_cmp X) where
  pub get-insert_same : (k : Name) (v : X) → map.get (map.insert m k v) k ≡ Some v
  get-insert_same k v = map.get-insert name_cmp_total m k v k ∙ cond-true _ _ _ (ties_itself k)

  pub get-insert_other : (k q : Name) (v : X) → q ≢ k → map.get (map.insert m k v) q ≡ map.get m q
  get-insert_other k q v n = map.get-insert name_cmp_total m k v q ∙ cond-false _ _ _ (ties_no_other q k n)

  pub get-remove_same : (k : Name) → map.get (map.remove m k) k ≡ None
  get-remove_same k = map.get-remove name_cmp_total m k k ∙ cond-true _ _ _ (ties_itself k)

  pub get-remove_other : (k q : Name) → q ≢ k → map.get (map.remove m k) q ≡ map.get m q
  get-remove_other k q n = map.get-remove name_cmp_total m k q ∙ cond-false _ _ _ (ties_no_other q k n)

  pub same_names : (n : map.FinMap name_cmp X) → ((q : Name) → map.get m q ≡ map.get n q) → m ≡ n
  same_names n h = map.same_map name_cmp_total name_cmp-IsAntisymmetric m n h
