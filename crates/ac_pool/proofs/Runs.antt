-- Runs: the values of their cells, and what is left behind the first slot.
use Rattle.std.proofs.Common.{◌≡◌, ℕ, zero, suc, ◌+◌, ◌<◌, ◌≤◌, true, List, [], ◌∷◌, length, get_or, drop, Option, Some, None, is_some, refl, sym, ap, ◌∙◌, inl, inr, arith, length-drop}
use Rattle.std.proofs.lemmas.Bool.{cases_lt}
use Rattle.std.proofs.lemmas.List.{get_or-drop, get_or_past}
use Rattle.ac_pool.specs.Runs.{kept_in, values_in, run_of, EndsBy, LiesFrom, IsRunOf}

module _ {X : Type 0} where
  pub get_kept : (cells : List (Option (ℕ × X))) (k : ℕ) → kept_in (get_or cells k None) ≡ get_or (values_in cells) k None
  get_kept [] k = refl
  get_kept (c ∷ cells) zero = refl
  get_kept (c ∷ cells) (suc k) = get_kept cells k

  pub first_of : (cells : List (Option (ℕ × X))) (i : ℕ) → kept_in (get_or cells i None) ≡ get_or (values_in (drop i cells)) 0 None
  first_of [] zero = refl
  first_of [] (suc i) = refl
  first_of (c ∷ cells) zero = refl
  first_of (c ∷ cells) (suc i) = first_of cells i

  drop_next : (cells : List (Option (ℕ × X))) (i : ℕ) → values_in (drop (suc i) cells) ≡ drop 1 (values_in (drop i cells))
  drop_next [] zero = refl
  drop_next [] (suc i) = refl
  drop_next (c ∷ cells) zero = refl
  drop_next (c ∷ cells) (suc i) = drop_next cells i

  drop_past : (cells : List (Option (ℕ × X))) (i : ℕ) → length cells ≤ i → drop i cells ≡ []
  drop_past [] zero le = refl
  drop_past [] (suc i) le = refl
  drop_past (c ∷ cells) zero le = absurd (omega arith)
  drop_past (c ∷ cells) (suc i) le = drop_past cells i (omega arith)

  -- the run from the next index, or from the same one past the end
  pub run_next : (chunk : Option (List (Option (ℕ × X)))) (i next : ℕ) → EndsBy chunk → (i < 512 → next ≡ i + 1) → (512 ≤ i → next ≡ i) → run_of chunk next ≡ drop 1 (run_of chunk i)
  run_next None i next few on stays = refl
  run_next (Some cells) i next few on stays = elim (cases_lt i 512) [
    | inl less ↦ let more : next ≡ suc i = omega (arith, on less) in ap (λ n. values_in (drop n cells)) more ∙ drop_next cells i
    | inr past ↦ let none : drop i cells ≡ [] = drop_past cells i (omega (arith, few, past)) in
        ap (λ n. values_in (drop n cells)) (stays past) ∙ ap values_in none ∙ sym (ap (λ l. drop 1 (values_in l)) none)
  ]

  pub run_in : (cells : List (Option (ℕ × X))) (i : ℕ) → length cells ≤ 512 → i < 512 → IsRunOf cells i (drop i cells)
  run_in cells i few less = record {
    each = λ k _. sym (get_or-drop i cells k None);
    within = omega (arith, length-drop i cells, few, less);
  }

  -- past the last slot there is no run
  pub lies_past : (cells : List (Option (ℕ × X))) (slot : ℕ) → length cells ≤ slot → LiesFrom (λ i. get_or cells i None) slot []
  lies_past cells slot le = record {
    first = get_or_past cells slot None le;
    each = λ k less. absurd (omega arith);
    whole = λ k _. get_or_past cells (slot + k) None (omega arith);
    within = omega arith;
  }

  there : (run : List (Option X)) → is_some (get_or run 0 None) ≡ true → 0 < length run
  there [] found = cc
  there (o ∷ run) found = omega arith

  -- where the slot beside the first keeps a value, the rest is a run from there
  pub lies_beside : (at : ℕ → Option X) (slot : ℕ) (run : List (Option X)) → LiesFrom at slot run → is_some (get_or (drop 1 run) 0 None) ≡ true → LiesFrom at (slot + 1) (drop 1 run)
  lies_beside at slot [] h found = cc
  lies_beside at slot (o ∷ run) h found = record {
    first = h.each 1 (omega (arith, there run found));
    each = λ k less. let further : slot + 1 + k ≡ slot + suc k = omega arith in ap at further ∙ h.each (suc k) (omega arith);
    whole = λ k less. let further : slot + 1 + k ≡ slot + suc k = omega arith in
        ap at further ∙ h.whole (suc k) (omega (arith, h.within, there run found));
    within = omega (arith, h.within, there run found);
  }
