-- What the tests of keys decide: that no two are equivalent, and that ordered rows ascend.
use Rattle.std.proofs.Common.{◌≡◌, ◌+◌, ◌≤◌, arith, ℕ, Bool, true, false, cond, not, ◌&&◌, ◌||◌, List, [], ◌∷◌, length, refl, sym, ap, subst, ◌∙◌, if◌then◌else◌}
use Rattle.std.specs.Prelude.{filter}
use Rattle.std.specs.Bool.{Decides}
use Rattle.std.specs.Cmp.{IsEquivalence}
use Rattle.std.specs.List.{list_any}
use Rattle.std.proofs.lemmas.Bool.{true≢false, false≢true, and_parts, and_from, not-true}
use Rattle.ac_base.proofs.Equivalences.{turned, chained}
use Rattle.ac_base.specs.Order.{IsWeakOrder, are_level}
use Rattle.ac_model.proofs.Counts.{count_step, count_values, none_zero}
use Rattle.ac_model.proofs.KeyedLaws.{in_each}
use Rattle.ac_model.specs.Keyed.{Order, IsValidKeyed, is_strictly_ascending, is_in_order}
use Rattle.ac_model.specs.Objects.{Object, IsValid, contents}
use Rattle.ac_snapshot.specs.RowValidity.{all_differ, are_keyed_by}
use Rattle.ac_snapshot.specs.TestLaws.{DecidesKeys, AscendingDiffer}

-- what passes no test

or_parts : (a b : Bool) → (a || b) ≡ false → (a ≡ false) × (b ≡ false)
or_parts true b h = absurd (true≢false h)
or_parts false b h = (refl, h)

or_none : (a b : Bool) → a ≡ false → b ≡ false → (a || b) ≡ false
or_none true b h k = absurd (true≢false h)
or_none false b h k = k

not_passed : (a b : Bool) → (b ≡ true → a ≡ true) → a ≡ false → b ≡ false
not_passed a false stronger none = refl
not_passed a true stronger none = sym (stronger refl) ∙ none

pub none_stronger : {V : Type 0} (p q : V → Bool) → ((v : V) → q v ≡ true → p v ≡ true) → (vs : List V) → list_any p vs ≡ false → list_any q vs ≡ false
none_stronger p q stronger [] h = refl
none_stronger p q stronger (v ∷ vs) h =
    let parts = or_parts (p v) (list_any p vs) h in
    or_none (q v) (list_any q vs) (not_passed (p v) (q v) (stronger v) parts.0) (none_stronger p q stronger vs parts.1)

zero_step : {V : Type 0} (b : Bool) (v : V) (passed : List V) (more : Bool) → (length passed ≡ 0 → more ≡ false) → length (cond b (v ∷ passed) passed) ≡ 0 → (b || more) ≡ false
zero_step true v passed more later h = absurd (omega (arith, h))
zero_step false v passed more later h = later h

zero_none : {V : Type 0} (p : V → Bool) (vs : List V) → length (filter p vs) ≡ 0 → list_any p vs ≡ false
zero_none p [] h = refl
zero_none p (v ∷ vs) h = zero_step (p v) v (filter p vs) (list_any p vs) (zero_none p vs) h

one_alone : (b : Bool) (n m : ℕ) → b ≡ true → m ≡ (if b then 1 else 0) + n → m ≤ 1 → n ≡ 0
one_alone true n m is e most = omega (arith, e, most)
one_alone false n m is e most = absurd (false≢true is)

module _ {V : Type 0} (alike : V → V → Bool) (equal : IsEquivalence alike) where
  apart_step : (v u : V) (vs : List V) → list_any (alike v) vs ≡ false → length (filter (λ w. alike w u) vs) ≤ 1 → (b : Bool) → alike v u ≡ b →
      (if b then 1 else 0) + length (filter (λ w. alike w u) vs) ≤ 1
  apart_step v u vs none most true is =
      let none_alike = none_stronger (alike v) (λ w. alike w u) (λ w h. chained equal v u w is (turned equal w u h)) vs none in
      omega (arith, none_zero (λ w. alike w u) vs none_alike)
  apart_step v u vs none most false is = omega (arith, most)

  -- where no two are alike, no value is alike to two of them
  pub differ_apart : (vs : List V) → all_differ alike vs ≡ true → (u : V) → length (filter (λ w. alike w u) vs) ≤ 1
  differ_apart [] h u = omega arith
  differ_apart (v ∷ vs) h u =
      let parts = and_parts (not (list_any (alike v) vs)) (all_differ alike vs) h in
      omega (
        arith,
        count_step (alike v u) v (filter (λ w. alike w u) vs),
        apart_step v u vs (not-true (list_any (alike v) vs) parts.0) (differ_apart vs parts.1 u) (alike v u) refl,
      )

  -- and the other way round
  pub apart_differ : (vs : List V) → ((u : V) → length (filter (λ w. alike w u) vs) ≤ 1) → all_differ alike vs ≡ true
  apart_differ [] most = refl
  apart_differ (v ∷ vs) most =
      let own = one_alone (alike v v) (length (filter (λ w. alike w v) vs)) (length (filter (λ w. alike w v) (v ∷ vs))) (equal.refl v)
      (count_step (alike v v) v (filter (λ w. alike w v) vs)) (most v) in
      let none = none_stronger (λ w. alike w v) (alike v) (λ w h. turned equal v w h) vs (zero_none (λ w. alike w v) vs own) in
      and_from (not (list_any (alike v) vs)) (all_differ alike vs) (ap not none)
      (apart_differ vs (λ u. omega (arith, count_step (alike v u) v (filter (λ w. alike w u) vs), most u)))

module _ {V : Type 0} (less : V → V → Bool) (weak : IsWeakOrder less) where
  skipped : (v w : V) (vs : List V) → less v w ≡ true → is_strictly_ascending less (w ∷ vs) ≡ true → is_strictly_ascending less (v ∷ vs) ≡ true
  skipped v w [] first h = refl
  skipped v w (x ∷ vs) first h =
      let parts = and_parts (less w x) (is_strictly_ascending less (x ∷ vs)) h in
      and_from (less v x) (is_strictly_ascending less (x ∷ vs)) (weak.transitive v w x first parts.0) parts.1

  not_level : (a b : Bool) → a ≡ true → (not a && not b) ≡ false
  not_level true b h = refl
  not_level false b h = absurd (false≢true h)

  none_level : (v : V) (vs : List V) → is_strictly_ascending less (v ∷ vs) ≡ true → list_any (are_level less v) vs ≡ false
  none_level v [] h = refl
  none_level v (w ∷ vs) h =
      let parts = and_parts (less v w) (is_strictly_ascending less (w ∷ vs)) h in
      or_none (are_level less v w) (list_any (are_level less v) vs) (not_level (less v w) (less w v) parts.0)
      (none_level v vs (skipped v w vs parts.0 parts.1))

  later_ascends : (v : V) (vs : List V) → is_strictly_ascending less (v ∷ vs) ≡ true → is_strictly_ascending less vs ≡ true
  later_ascends v [] h = refl
  later_ascends v (w ∷ vs) h = (and_parts (less v w) (is_strictly_ascending less (w ∷ vs)) h).1

  pub ascending_apart : (vs : List V) → is_strictly_ascending less vs ≡ true → all_differ (are_level less) vs ≡ true
  ascending_apart [] h = refl
  ascending_apart (v ∷ vs) h =
      and_from (not (list_any (are_level less v) vs)) (all_differ (are_level less) vs) (ap not (none_level v vs h))
      (ascending_apart vs (later_ascends v vs h))

pub ascending_differ : {V : Type 0} → AscendingDiffer V
ascending_differ less weak vs h = ascending_apart less weak vs h

pub keyed_decided : {V : Type 0} (order : Order V) → IsEquivalence order.alike → (o : Object ℕ V) → IsValid o → Decides (are_keyed_by order (contents o)) (IsValidKeyed order o)
keyed_decided order equal o valid =
    let differ = all_differ order.alike (contents o) in
    let stand = is_in_order order (contents o) in (
      λ h.
          let parts = and_parts differ stand h in
          record {
            as_object = valid;
            keys_differ = λ v. subst (λ n. n ≤ 1) (count_values (λ w. order.alike w v) o.rows) (differ_apart order.alike equal (contents o) parts.0 v);
            in_order = parts.1;
          },
      λ keyed.
          and_from differ stand
          (apart_differ order.alike equal (contents o) (λ v. subst (λ n. n ≤ 1) (sym (count_values (λ w. order.alike w v) o.rows)) (keyed.keys_differ v)))
          keyed.in_order,
    )

pub keys_decided : {V : Type 0} → DecidesKeys V
keys_decided {V} =
    in_each (λ (order : Order V). (o : Object ℕ V) → IsValid o → Decides (are_keyed_by order (contents o)) (IsValidKeyed order o))
    (λ order closed. keyed_decided order closed.equal)
