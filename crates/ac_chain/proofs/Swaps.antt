-- What a list is after a value was written, and after two of its values changed places.
use Rattle.std.proofs.Common.{◌≡◌, ◌≢◌, ℕ, zero, suc, ◌<◌, List, ◌∷◌, length, None, refl, sym, ap, ◌∙◌, subst, inl, inr, arith, eq-eqb, ne_eqb, []}
use Rattle.std.specs.Prelude.{◌==◌, if◌then◌else◌, slice_get, slice_set}
use Rattle.std.specs.Option.{option_map}
use Rattle.std.proofs.lemmas.Option.{none-some}
use Rattle.std.proofs.lemmas.Bool.{cases_eq, cond-true, cond-false}
use Rattle.ac_base.specs.declared.name.Name.{Name}
use Rattle.ac_pool.specs.NamedRows.{index_of, HasName, IsOnce}
use Rattle.ac_pool.proofs.Cuts.{index_here, index_past}
use Rattle.ac_base.specs.Rows.{Row, row}
use Rattle.ac_model.specs.Rows.{with_value}
use Rattle.ac_model.specs.Objects.{plains}
use Rattle.ac_chain.proofs.Marks.{Alone}

module _ {X : Type 0} where
  -- the rows with another value under the name
  abbrev pub set : List (Row Name X) → Name → X → List (Row Name X)
  set rows a w = slice_set rows (index_of a rows) (row a w)

  set_here : (a : Name) (w : X) (r : Row Name X) (rows : List (Row Name X)) → r.name ≡ a → set (r ∷ rows) a w ≡ row a w ∷ rows
  set_here a w r rows e = ap (λ i. slice_set (r ∷ rows) i (row a w)) (index_here a r rows (sym e))

  set_past : (a : Name) (w : X) (r : Row Name X) (rows : List (Row Name X)) → r.name.serial ≢ a.serial → set (r ∷ rows) a w ≡ r ∷ set rows a w
  set_past a w r rows n = ap (λ i. slice_set (r ∷ rows) i (row a w)) (index_past a r rows (λ e. n (ap (λ (k : Name). k.serial) (sym e))))

  pub set_has : (a : Name) (w : X) (rows : List (Row Name X)) → Alone a rows → (b : Name) → HasName b (set rows a w) → HasName b rows
  unfolding Alone
  set_has a w [] h b t = t
  set_has a w (r ∷ rows) h b t = elim (cases_eq r.name.serial a.serial) [
    | inl e ↦ let same : r.name ≡ a = h r.name (inl refl) e in elim (subst (λ zs. HasName b zs) (set_here a w r rows same) t) [ inl q ↦ inl (q ∙ sym same) | inr q ↦ inr q ]
    | inr n ↦ elim (subst (λ zs. HasName b zs) (set_past a w r rows n) t) [ inl q ↦ inl q | inr q ↦ inr (set_has a w rows (λ d s. h d (inr s)) b q) ]
  ]

  pub set_once : (a : Name) (w : X) (rows : List (Row Name X)) → Alone a rows → IsOnce rows → IsOnce (set rows a w)
  unfolding Alone
  set_once a w [] h once = once
  set_once a w (r ∷ rows) h once = elim (cases_eq r.name.serial a.serial) [
    | inl e ↦ let same : r.name ≡ a = h r.name (inl refl) e in subst (λ zs. IsOnce zs) (sym (set_here a w r rows same)) (subst (λ n. HasName n rows → ⊥) same once.0, once.1)
    | inr n ↦ subst (λ zs. IsOnce zs) (sym (set_past a w r rows n)) ((λ t. once.0 (set_has a w rows (λ d s. h d (inr s)) r.name t)), set_once a w rows (λ d s. h d (inr s)) once.1)
  ]

  pub set_alone : (a b : Name) (w : X) (rows : List (Row Name X)) → Alone a rows → Alone b rows → Alone b (set rows a w)
  unfolding Alone
  set_alone a b w rows h k = λ d t. k d (set_has a w rows h d t)

  others : (s : ℕ) (w : X) (rows : List (Row Name X)) → ((b : Name) → HasName b rows → b.serial ≢ s) → with_value (plains rows) s w ≡ plains rows
  others s w [] h = refl
  others s w (r ∷ rows) h =
      let here : (if r.name.serial == s then row s w else row r.name.serial r.value) ≡ row r.name.serial r.value = cond-false _ _ _ (ne_eqb r.name.serial s (h r.name (inl refl))) in
      λ i. here i ∷ others s w rows (λ b t. h b (inr t)) i

  pub set_value : (a : Name) (w : X) (rows : List (Row Name X)) → Alone a rows → IsOnce rows → plains (set rows a w) ≡ with_value (plains rows) a.serial w
  unfolding Alone
  set_value a w [] h once = refl
  set_value a w (r ∷ rows) h once = elim (cases_eq r.name.serial a.serial) [
    | inl e ↦
        let same : r.name ≡ a = h r.name (inl refl) e in
        let here : (if r.name.serial == a.serial then row a.serial w else row r.name.serial r.value) ≡ row a.serial w = cond-true _ _ _ (eq-eqb r.name.serial a.serial e) in
        let rest = others a.serial w rows (λ b t q. once.0 (subst (λ n. HasName n rows) (h b (inr t) q ∙ sym same) t)) in
        ap plains (set_here a w r rows same) ∙ (λ i. sym here i ∷ sym rest i)
    | inr n ↦
        let here : (if r.name.serial == a.serial then row a.serial w else row r.name.serial r.value) ≡ row r.name.serial r.value = cond-false _ _ _ (ne_eqb r.name.serial a.serial n) in
        let rest = set_value a w rows (λ d s. h d (inr s)) once.1 in
        ap plains (set_past a w r rows n) ∙ (λ i. sym here i ∷ rest i)
  ]

  pub value_there : (rows : List (Row Name X)) (i : ℕ) → i < length rows → option_map (λ (r : Row Name X). r.value) (slice_get rows i) ≢ None
  value_there [] i h = absurd (omega arith)
  value_there (r ∷ rows) zero h = λ e. none-some r.value (sym e)
  value_there (r ∷ rows) (suc i) h = value_there rows i (omega arith)
