-- When a map's rows are equal.
use Rattle.std.specs.Prelude.{◌≡◌, ◌↔◌, ◌&&◌, Bool, true, false, IsTrue, refl}
use Rattle.std.proofs.Common.{true≢false, sym, ap}
use Rattle.ac_model.specs.Rows.{Entry, entry}

both_true : (a b : Bool) → IsTrue (a && b) → IsTrue a × IsTrue b
both_true true b h = (refl, h)
both_true false b h = absurd (true≢false (sym h))

pub entries_same : {K V : Type 0} (same_key : K → K → Bool) (same : V → V → Bool) → ((x y : K) → IsTrue (same_key x y) ↔ (x ≡ y)) → ((x y : V) → IsTrue (same x y) ↔ (x ≡ y))
    → (e f : Entry K V) → IsTrue (same_key e.key f.key && same e.element f.element) ↔ (e ≡ f)
entries_same {K} {V} same_key same keys elements e f = (
  λ h. let both = both_true (same_key e.key f.key) (same e.element f.element) h in
      λ i. entry ((keys e.key f.key).0 both.0 i) ((elements e.element f.element).0 both.1 i),
  λ h. λ i. (keys e.key f.key).1 (ap (λ (x : Entry K V). x.key) h) i && (elements e.element f.element).1 (ap (λ (x : Entry K V). x.element) h) i,
)
