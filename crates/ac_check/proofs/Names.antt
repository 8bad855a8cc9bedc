-- Names in scope: what the place of a name tells, and what one more name and fewer names leave of their order.
use Rattle.std.proofs.Common.{◌≡◌, ℕ, ◌+◌, ◌<◌, true, cond, not, is_some, List, [], ◌∷◌, ◌++◌, find, length, get_or, take, filter, nat_lt, option_map, None, Some, Vec, refl, sym, ap, subst, ◌∙◌, arith}
use Rattle.std.proofs.lemmas.List.{length-map, map-append}
use Rattle.std.proofs.lemmas.List.Folds.{find_at}
use Rattle.std.proofs.lemmas.Option.{slice_get-map, slice_get-get_or, slice_get_past}
use Rattle.std.specs.List.{insert, position_or_len, slice_get, take-map}
use Rattle.std.specs.Str.{bytes_eq}
use Rattle.ac_check.specs.declared.meaning.Meaning.{Meaning as Kept}
use Rattle.ac_rules.specs.Scopes.{Entry, entry, a_task, meaning_in}
use Rattle.ac_rules.specs.Faults.{is_in_scope}
use Rattle.ac_rules.specs.Resolved.{place_of}
use Rattle.ac_check.specs.Meanings.{meaning_view, entries_view}
use Rattle.ac_check.specs.NameOrders.{IsNameOrder, IsPlace, IsGap, bytes_of}
use Rattle.ac_check.proofs.NameOrders.{long_as, missing, declared, kept_first}

-- the place of a name among the names is its place in scope
pub place_among : {A : Type 0} (name : List ℕ) (named : List (Vec ℕ A × Kept)) → position_or_len (λ n. bytes_eq n name) (bytes_of named) ≡ place_of (entries_view named) name
place_among name [] = refl
place_among name (n ∷ named) = ap (λ p. cond (not (bytes_eq n.0.items name)) (1 + p) 0) (place_among name named)

module _ {A : Type 0} (name : List ℕ) (named : List (Vec ℕ A × Kept)) where
  found_at : (place : ℕ) → position_or_len (λ n. bytes_eq n name) (bytes_of named) ≡ place → find (λ (e : Entry). bytes_eq e.name name) (entries_view named) ≡ slice_get (entries_view named) place
  found_at place at =
      find_at (λ (e : Entry). bytes_eq e.name name) (entries_view named) ∙ ap (slice_get (entries_view named)) (sym (place_among name named) ∙ at)

  -- what stands at the place of a name is what it stands for
  pub meaning_among : (place : ℕ) (x : Vec ℕ A × Kept) → IsPlace (bytes_of named) name place → Some (meaning_view (get_or named place x).1) ≡ meaning_in (entries_view named) name
  meaning_among place x at =
      let within : place < length named = rw (← long_as named) at.within in
      sym (ap (option_map (λ (e : Entry). e.meaning))
      (found_at place at.is_first
      ∙ slice_get-map (λ (n : Vec ℕ A × Kept). entry n.0.items (meaning_view n.1)) named place
      ∙ ap (option_map (λ (n : Vec ℕ A × Kept). entry n.0.items (meaning_view n.1))) (slice_get-get_or named place x within)))

  -- a name with a place is in scope
  pub known : (place : ℕ) → IsPlace (bytes_of named) name place → is_in_scope (entries_view named) name ≡ true
  known place at =
      let long = length-map named (λ (n : Vec ℕ A × Kept). entry n.0.items (meaning_view n.1)) in
      let within : place < length (entries_view named) = omega (arith, at.within, long_as named, long) in
      ap (λ o. is_some (option_map (λ (e : Entry). e.meaning) o)) (found_at place at.is_first ∙ slice_get-get_or (entries_view named) place (entry [] a_task) within)

  -- a name with a gap isn't, and its place is behind all others
  pub no_place : (l : List (Vec ℕ A × Kept)) (places s : List ℕ) {at : ℕ} → l ≡ named → s ≡ places → IsNameOrder (bytes_of named) places → IsGap (bytes_of l) s name at
      → position_or_len (λ n. bytes_eq n name) (bytes_of named) ≡ length named
  no_place l places s {at} e f order gap =
      missing (bytes_of named) places order name at (subst (λ s. IsGap (bytes_of named) s name at) f (subst (λ l. IsGap (bytes_of l) s name at) e gap))
      ∙ long_as named

  pub no_meaning : position_or_len (λ n. bytes_eq n name) (bytes_of named) ≡ length named → None ≡ meaning_in (entries_view named) name
  no_meaning at =
      let long = length-map named (λ (n : Vec ℕ A × Kept). entry n.0.items (meaning_view n.1)) in
      sym (ap (option_map (λ (e : Entry). e.meaning)) (found_at (length named) at ∙ slice_get_past (entries_view named) (length named) (omega (arith, long))))

-- with one name more in its gap
pub declared_more : {A : Type 0} (named : List (Vec ℕ A × Kept)) (places : List ℕ) (x : Vec ℕ A × Kept) (at : ℕ) → IsNameOrder (bytes_of named) places → IsGap (bytes_of named) places x.0.items at
    → IsNameOrder (bytes_of (named ++ x ∷ [])) (insert places at (length named))
declared_more {A} named places x at order gap =
    subst (λ l. IsNameOrder l (insert places at (length named))) (sym (map-append (λ (n : Vec ℕ A × Kept). n.0.items) named (x ∷ [])))
    (subst (λ n. IsNameOrder (bytes_of named ++ x.0.items ∷ []) (insert places at n)) (long_as named) (declared (bytes_of named) places order x.0.items at gap))

-- with the first so many alone
pub kept_alone : {A : Type 0} (named : List (Vec ℕ A × Kept)) (places : List ℕ) (len : ℕ) → IsNameOrder (bytes_of named) places → IsNameOrder (bytes_of (take len named)) (filter (λ p. nat_lt p len) places)
kept_alone {A} named places len order =
    subst (λ l. IsNameOrder l (filter (λ p. nat_lt p len) places)) (take-map (λ (n : Vec ℕ A × Kept). n.0.items) len named) (kept_first (bytes_of named) places order len)
