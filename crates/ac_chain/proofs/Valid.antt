-- What holds of every list, in the words of the definitions.
use Rattle.std.proofs.Common.{◌≡◌, ◌≢◌, ℕ, ◌+◌, ◌≤◌, List, ◌∷◌, refl, sym, ◌∙◌, subst, inl, inr, arith, eq-eqb, ne_eqb, le_of_eq, []}
use Rattle.std.specs.Prelude.{◌==◌, if◌then◌else◌}
use Rattle.std.proofs.lemmas.Bool.{cases_eq, cond-true, cond-false}
use Rattle.ac_base.specs.declared.name.Name.{Name}
use Rattle.ac_pool.specs.NamedRows.{HasName, IsOnce}
use Rattle.ac_model.specs.Objects.{times}
use Rattle.ac_model.specs.Objects.{plains}
use Rattle.ac_base.specs.Rows.{Row}

module _ {X : Type 0} where
  pub times_none : (s : ℕ) (rows : List (Row Name X)) → ((a : Name) → HasName a rows → a.serial ≢ s) → times s (plains rows) ≡ 0
  times_none s [] h = refl
  times_none s (r ∷ rows) h =
      let here : (if r.name.serial == s then 1 else 0) ≡ 0 = cond-false (r.name.serial == s) 1 0 (ne_eqb r.name.serial s (h r.name (inl refl))) in
      let others : times s (plains rows) ≡ 0 = times_none s rows (λ a t. h a (inr t)) in
      here_and here others
    where
      here_and : {m n : ℕ} → m ≡ 0 → n ≡ 0 → m + n ≡ 0
      here_and e f = omega arith

  pub times_once : (s : ℕ) (rows : List (Row Name X)) → IsOnce rows → ((a b : Name) → HasName a rows → HasName b rows → a.serial ≡ b.serial → a ≡ b) → times s (plains rows) ≤ 1
  times_once s [] once same = omega arith
  times_once s (r ∷ rows) once same = elim (cases_eq r.name.serial s) [
    | inl e ↦ at_most 1 0 (cond-true (r.name.serial == s) 1 0 (eq-eqb r.name.serial s e)) (le_of_eq (times_none s rows (λ a t q. once.0 (subst (λ n. HasName n rows) (same a r.name (inr t) (inl refl) (q ∙ sym e)) t)))) (omega arith)
    | inr n ↦ at_most 0 1 (cond-false (r.name.serial == s) 1 0 (ne_eqb r.name.serial s n)) (times_once s rows once.1 (λ a b t q. same a b (inr t) (inr q))) (omega arith)
  ]
    where
      at_most : {m n : ℕ} (j k : ℕ) → m ≡ j → n ≤ k → j + k ≤ 1 → m + n ≤ 1
      at_most j k e f h = omega arith
