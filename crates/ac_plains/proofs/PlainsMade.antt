-- The plain values of names, made one after another by their places.
use Rattle.std.proofs.Common.{◌≡◌, ◌≤◌, ◌<◌, ◌+◌, ℕ, zero, suc, List, [], ◌∷◌, ◌++◌, length, drop, get_or, map, Option, Some, None, refl, sym, ap, subst, ◌∙◌, arith, append_assoc}
use Rattle.std.specs.Prelude.{slice_get, option_to_list}
use Rattle.std.specs.List.{filter_map, zip, cons_option}
use Rattle.std.proofs.lemmas.List.{append-nil, length-map}
use Rattle.std.proofs.lemmas.Option.{none-some, same_Some, slice_get-map, slice_get_read}
use Rattle.std.specs.Option.{option_map}
use Rattle.ac_syntax.specs.declared.decl.Decl.{Decl}
use Rattle.ac_rules.specs.Faults.{decl_name}
use Rattle.ac_calls.specs.declared.plains.Plain.{Plain}
use Rattle.ac_meaning.specs.Environment.{Bound, bound_in}
use Rattle.ac_meaning.specs.Plains.{plain_in}

-- those of the names from a place on
abbrev pub plains_from : ℕ → List (List ℕ) → List Bound → List Plain
plains_from i names bounds = filter_map (λ (named : List ℕ × Bound). plain_in named.0 named.1) (drop i (zip names bounds))

in_front : (p : Option Plain) (ps : List Plain) → cons_option p ps ≡ option_to_list p ++ ps
in_front None ps = refl
in_front (Some p) ps = refl

pub next_from : (names : List (List ℕ)) (bounds : List Bound) (i : ℕ) (name : List ℕ) → slice_get names i ≡ Some name →
    plains_from i names bounds ≡ cons_option (plain_in name (bound_in (slice_get bounds i))) (plains_from (suc i) names bounds)
next_from [] bounds i name e = absurd (none-some name e)
next_from (n ∷ names) [] zero name e = refl
next_from (n ∷ names) [] (suc i) name e = refl
next_from (n ∷ names) (b ∷ bounds) zero name e = ap (λ m. cons_option (plain_in m b) (plains_from 0 names bounds)) (same_Some n name e)
next_from (n ∷ names) (b ∷ bounds) (suc i) name e = next_from names bounds i name e

-- with the value of the name at this place
pub one_made : (names : List (List ℕ)) (bounds : List Bound) (i : ℕ) (name : List ℕ) (p : Option Plain) (now next all : List Plain) →
    slice_get names i ≡ Some name → p ≡ plain_in name (bound_in (slice_get bounds i)) → next ≡ now ++ option_to_list p →
    now ++ plains_from i names bounds ≡ all → next ++ plains_from (i + 1) names bounds ≡ all
one_made names bounds i name p now next all at is e made =
    let one_more : i + 1 ≡ suc i = omega arith in
    let rest = plains_from (suc i) names bounds in
    ap (λ n. next ++ plains_from n names bounds) one_more
    ∙ (ap (λ ps. ps ++ rest) e
    ∙ (append_assoc now (option_to_list p) rest
    ∙ (ap (λ q. now ++ (option_to_list q ++ rest)) is
    ∙ (ap (λ ps. now ++ ps) (sym (next_from names bounds i name at ∙ in_front (plain_in name (bound_in (slice_get bounds i))) rest)) ∙ made))))

pub past_end : (names : List (List ℕ)) (bounds : List Bound) (i : ℕ) → length names ≤ i → plains_from i names bounds ≡ []
past_end [] bounds zero h = refl
past_end [] bounds (suc i) h = refl
past_end (n ∷ names) bounds zero h = absurd (omega (arith, h))
past_end (n ∷ names) [] (suc i) h = refl
past_end (n ∷ names) (b ∷ bounds) (suc i) h = past_end names bounds i (omega (arith, h))

pub all_made : (names : List (List ℕ)) (bounds : List Bound) (i : ℕ) (now all : List Plain) → length names ≤ i →
    now ++ plains_from i names bounds ≡ all → now ≡ all
all_made names bounds i now all h made = sym (append-nil now) ∙ (ap (λ ps. now ++ ps) (sym (past_end names bounds i h)) ∙ made)

-- The declarations, as a loop over a copy of the list has them

module _ (items decls : List Decl) (same : items ≡ decls) (bounds : List Bound) where
  -- with the value of the name that is declared at this place
  pub next_made : (i : ℕ) (d : Decl) (now next all : List Plain) → d ≡ get_or items i d → i < length items →
      next ≡ now ++ option_to_list (plain_in (decl_name d) (bound_in (slice_get bounds i))) →
      now ++ plains_from i (map decl_name decls) bounds ≡ all → next ++ plains_from (i + 1) (map decl_name decls) bounds ≡ all
  next_made i d now next all is within e made =
      one_made (map decl_name decls) bounds i (decl_name d) (plain_in (decl_name d) (bound_in (slice_get bounds i))) now next all
      (slice_get-map decl_name decls i ∙ ap (option_map decl_name) (ap (λ xs. slice_get xs i) (sym same) ∙ slice_get_read items (length items) i d refl within is)) refl e made

  pub end_made : (i : ℕ) (now all : List Plain) → length items ≤ i → now ++ plains_from i (map decl_name decls) bounds ≡ all → now ≡ all
  end_made i now all past made =
      all_made (map decl_name decls) bounds i now all (omega (arith, past, ap length same, length-map decls decl_name)) made
