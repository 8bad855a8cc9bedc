-- What a search in a list answers, from what was found among the chain's rows.
use Rattle.std.proofs.Common.{◌≡◌, ℕ, zero, suc, ◌+◌, Bool, true, false, ◌||◌, List, ◌∷◌, length, take, drop, Option, Some, None, is_some, refl, sym, ap, ◌∙◌, subst, arith, cond, inl, inr, take-append-drop, []}
use Rattle.std.specs.Prelude.{find}
use Rattle.std.specs.List.{list_any}
use Rattle.std.specs.Option.{option_map, ForSome}
use Rattle.std.proofs.lemmas.Option.{none-some}
use Rattle.ac_base.specs.declared.name.Name.{Name}
use Rattle.ac_chain.specs.Rows.{Chained, place_of, IsLive}
use Rattle.ac_pool.specs.NamedRows.{index_of, name_at, name_before, HasName, IsOnce}
use Rattle.ac_pool.proofs.Cuts.{index_here, name_at_has, has_live, HasName-left, HasName-right}
use Rattle.ac_chain.proofs.Chains.{index_at}
use Rattle.ac_base.specs.Rows.{Row, row, names, values}
use Rattle.ac_model.specs.Letters.{mark_of, mark_for}
use Rattle.ac_model.specs.Objects.{plains}
use Rattle.ac_model.specs.Cursors.{cursor_at}
use Rattle.ac_chain.specs.Search.{found_in, count_to}
use Rattle.ac_chain.proofs.Marks.{marked_live}

module _ {X : Type 0} where
  -- the cursor at what is found is the definitions' mark
  pub found_marked : (same : X → X → Bool) (e : X) (number : ℕ) (rows some : List (Row Name X)) → ((a : Name) → HasName a some → HasName a rows)
      → mark_of number (names rows) (cursor_at number (found_in same e some)) ≡ mark_for number (find (λ (r : Row ℕ X). same r.value e) (plains some))
  found_marked same e number rows [] had = refl
  found_marked same e number rows (r ∷ some) had =
      elim (same r.value e) as (λ b. mark_of number (names rows) (cursor_at number (option_map (λ (q : Row Name X). q.name) (cond b (Some r) (find (λ (q : Row Name X). same q.value e) some))))
      ≡ mark_for number (cond b (Some (row r.name.serial r.value)) (find (λ (q : Row ℕ X). same q.value e) (plains some)))) [
        | true ↦ marked_live number rows r.name (had r.name (inl refl))
        | false ↦ found_marked same e number rows some (λ a t. had a (inr t))
      ]

  pub any_found : (same : X → X → Bool) (e : X) (rows : List (Row Name X)) → is_some (found_in same e rows) ≡ list_any (λ v. same v e) (values (plains rows))
  any_found same e [] = refl
  any_found same e (r ∷ rows) =
      elim (same r.value e) as (λ b. is_some (option_map (λ (q : Row Name X). q.name) (cond b (Some r) (find (λ (q : Row Name X). same q.value e) rows))) ≡ (b || list_any (λ v. same v e) (values (plains rows)))) [
        | true ↦ refl
        | false ↦ any_found same e rows
      ]

  pub drop_had : (n : ℕ) (rows : List (Row Name X)) (a : Name) → HasName a (drop n rows) → HasName a rows
  drop_had n rows a h = subst (λ zs. HasName a zs) (take-append-drop n rows) (HasName-right a (take n rows) (drop n rows) h)

  pub take_had : (n : ℕ) (rows : List (Row Name X)) (a : Name) → HasName a (take n rows) → HasName a rows
  take_had n rows a h = subst (λ zs. HasName a zs) (take-append-drop n rows) (HasName-left a (take n rows) (drop n rows) h)

  pub first_place : (rows : List (Row Name X)) → place_of (name_at rows 0) rows ≡ 0
  first_place [] = refl
  first_place (r ∷ rows) = index_here r.name r rows refl

  pub first_live : (k : Chained X) (place : Option Name) (i : ℕ) → place ≡ name_at k.rows i → ForSome place (IsLive k)
  first_live k place i e = λ a q. has_live a k.rows (name_at_has k.rows i a (sym e ∙ q))

  pub last_live : (k : Chained X) (place : Option Name) (i : ℕ) → place ≡ name_before k.rows i → ForSome place (IsLive k)
  last_live k place zero e = λ a q. absurd (none-some a (sym e ∙ q))
  last_live k place (suc i) e = first_live k place i e

  pub count_last : (rows : List (Row Name X)) → IsOnce rows → count_to (name_before rows (length rows)) rows ≡ length rows
  count_last [] once = refl
  count_last (r ∷ rows) once = at (name_at (r ∷ rows) (length rows)) refl
    where
      at : (o : Option Name) → name_at (r ∷ rows) (length rows) ≡ o → count_to (name_at (r ∷ rows) (length rows)) (r ∷ rows) ≡ suc (length rows)
      at None e = absurd (no_last r rows e)
        where
          no_last : (r : Row Name X) (rows : List (Row Name X)) → name_at (r ∷ rows) (length rows) ≡ None → ⊥
          no_last r [] e = none-some r.name (sym e)
          no_last r (q ∷ rows) e = no_last q rows e
      at (Some a) e =
          let i = (index_at (r ∷ rows) once (length rows) a e).1 in
          ap (λ p. count_to p (r ∷ rows)) e ∙ (let n : index_of a (r ∷ rows) + 1 ≡ suc (length rows) = omega arith in n)
