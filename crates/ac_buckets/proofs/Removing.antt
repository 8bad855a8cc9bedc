-- A list from which one element was taken, with the last one in its place.
use Rattle.std.proofs.Common.{◌≡◌, ◌≢◌, ℕ, ◌+◌, ◌-◌, ◌<◌, List, length, map, get_or, set, take, sym, ap, ◌∙◌, subst, inl, inr, arith}
use Rattle.std.specs.List.{swap_remove}
use Rattle.std.proofs.lemmas.Bool.{cases_eq}
use Rattle.std.proofs.lemmas.List.{length-set, length-map, length-take-le, get_or-take, get_or-set_same, get_or-set_other, get_or-map, get_or_default, map-set, take-map}
use Rattle.ac_base.specs.declared.name.Name.{Name}
use Rattle.ac_buckets.specs.Pairs.{IsOnce}

module _ {X Y : Type 0} where
  pub map-swap_remove : (f : X → Y) (xs : List X) (i : ℕ) (d : X) (e : Y) → i < length xs → map f (swap_remove xs i d) ≡ swap_remove (map f xs) i e
  map-swap_remove f xs i d e less =
      let n = length xs - 1 in
      let m : length (map f xs) - 1 ≡ n = ap (λ k. k - 1) (length-map xs f) in
      sym (take-map f n (set xs i (get_or xs n d))) ∙ ap (take n) (map-set f xs i (get_or xs n d) ∙ ap (set (map f xs) i) (sym (get_or-map f xs n d e (omega arith))))
      ∙ sym (ap (λ k. take k (set (map f xs) i (get_or (map f xs) k e))) m)

module _ {X : Type 0} where
  pub length-swap_remove : (xs : List X) (i : ℕ) (d : X) → length (swap_remove xs i d) ≡ length xs - 1
  length-swap_remove xs i d = length-take-le (length xs - 1) (set xs i (get_or xs (length xs - 1) d)) (omega (arith, length-set xs i (get_or xs (length xs - 1) d)))

  moved_at : (xs : List X) (i : ℕ) (d e : X) → i + 1 < length xs → get_or (swap_remove xs i d) i e ≡ get_or xs (length xs - 1) e
  moved_at xs i d e less =
      get_or-take (length xs - 1) (set xs i (get_or xs (length xs - 1) d)) i e (omega arith) ∙ get_or-set_same xs i (get_or xs (length xs - 1) d) e (omega arith) ∙ get_or_default xs (length xs - 1) d e (omega arith)

  stayed_at : (xs : List X) (i : ℕ) (d e : X) (k : ℕ) → k ≢ i → k + 1 < length xs → get_or (swap_remove xs i d) k e ≡ get_or xs k e
  stayed_at xs i d e k off less = get_or-take (length xs - 1) (set xs i (get_or xs (length xs - 1) d)) k e (omega arith) ∙ get_or-set_other xs i k (get_or xs (length xs - 1) d) e off

pub IsOnce-swap_remove : (xs : List Name) (i : ℕ) (d : Name) → i < length xs → IsOnce xs → IsOnce (swap_remove xs i d)
IsOnce-swap_remove xs i d less once j k e low high same =
    let n = length-swap_remove xs i d in
    elim (cases_eq j i) [
      | inl at ↦ elim (cases_eq k i) [
        | inl also ↦ at ∙ sym also
        | inr off ↦
            let p : get_or xs (length xs - 1) e ≡ get_or xs k e = sym (moved_at xs i d e (omega arith)) ∙ subst (λ m. get_or (swap_remove xs i d) m e ≡ get_or (swap_remove xs i d) k e) at same ∙ stayed_at xs i d e k off (omega arith) in
            absurd (omega (arith, once (length xs - 1) k e (omega arith) (omega arith) p))
      ]
      | inr apart ↦ elim (cases_eq k i) [
        | inl also ↦
            let p : get_or xs j e ≡ get_or xs (length xs - 1) e = sym (stayed_at xs i d e j apart (omega arith)) ∙ subst (λ m. get_or (swap_remove xs i d) j e ≡ get_or (swap_remove xs i d) m e) also same ∙ moved_at xs i d e (omega arith) in
            absurd (omega (arith, once j (length xs - 1) e (omega arith) (omega arith) p))
        | inr off ↦ once j k e (omega arith) (omega arith) (sym (stayed_at xs i d e j apart (omega arith)) ∙ same ∙ stayed_at xs i d e k off (omega arith))
      ]
    ]
