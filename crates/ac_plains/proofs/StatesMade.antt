-- The text of a state, made entry by entry, by the places of the names.
use Rattle.std.proofs.Common.{◌≡◌, ◌≤◌, ◌<◌, ◌+◌, ℕ, suc, List, [], ◌∷◌, ◌++◌, length, get_or, map, Option, Some, None, refl, sym, ap, ◌∙◌, arith, append_assoc, append-nil}
use Rattle.std.specs.Prelude.{slice_get, option_to_list}
use Rattle.std.specs.List.{cons_option}
use Rattle.std.proofs.lemmas.List.{length-map}
use Rattle.std.proofs.lemmas.Option.{slice_get-map, slice_get_read}
use Rattle.std.specs.Option.{option_map}
use Rattle.ac_syntax.specs.declared.decl.Decl.{Decl}
use Rattle.ac_rules.specs.Faults.{decl_name}
use Rattle.ac_calls.specs.declared.plains.Plain.{Plain}
use Rattle.ac_meaning.specs.Environment.{Bound, bound_in}
use Rattle.ac_meaning.specs.Plains.{plain_in}
use Rattle.ac_snapshot.specs.StateTexts.{entry_text, state_text}
use Rattle.ac_plains.proofs.PlainsMade.{plains_from, next_from, past_end}

one_text : (p : Option Plain) (ps : List Plain) → state_text (cons_option p ps) ≡ state_text (option_to_list p) ++ state_text ps
one_text None ps = refl
one_text (Some p) ps = ap (λ t. t ++ state_text ps) (sym (append-nil (entry_text p)))

module _ (items decls : List Decl) (same : items ≡ decls) (bounds : List Bound) where
  named : (i : ℕ) (d : Decl) → d ≡ get_or items i d → i < length items → slice_get (map decl_name decls) i ≡ Some (decl_name d)
  named i d is within =
      slice_get-map decl_name decls i ∙ ap (option_map decl_name) (ap (λ xs. slice_get xs i) (sym same) ∙ slice_get_read items (length items) i d refl within is)

  -- with the line of the name that is declared at this place
  pub next_written : (i : ℕ) (d : Decl) (now next all : List ℕ) → d ≡ get_or items i d → i < length items →
      next ≡ now ++ state_text (option_to_list (plain_in (decl_name d) (bound_in (slice_get bounds i)))) →
      now ++ state_text (plains_from i (map decl_name decls) bounds) ≡ all → next ++ state_text (plains_from (i + 1) (map decl_name decls) bounds) ≡ all
  next_written i d now next all is within e made =
      let names = map decl_name decls in
      let p = plain_in (decl_name d) (bound_in (slice_get bounds i)) in
      let one_more : i + 1 ≡ suc i = omega arith in
      ap (λ n. next ++ state_text (plains_from n names bounds)) one_more
      ∙ (ap (λ t. t ++ state_text (plains_from (suc i) names bounds)) e
      ∙ (append_assoc now (state_text (option_to_list p)) (state_text (plains_from (suc i) names bounds))
      ∙ (ap (λ t. now ++ t) (sym (ap state_text (next_from names bounds i (decl_name d) (named i d is within)) ∙ one_text p (plains_from (suc i) names bounds)))
      ∙ made)))

  pub end_written : (i : ℕ) (now all : List ℕ) → length items ≤ i → now ++ state_text (plains_from i (map decl_name decls) bounds) ≡ all → now ≡ all
  end_written i now all past made =
      sym (append-nil now)
      ∙ (ap (λ ps. now ++ state_text ps) (sym (past_end (map decl_name decls) bounds i (omega (arith, past, ap length same, length-map decls decl_name)))) ∙ made)
