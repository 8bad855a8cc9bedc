-- The first row of some groups that passes a test, group by group.
use Rattle.std.proofs.Common.{refl, sym, ap, ◌∙◌, ◌≡◌, ◌<◌, ◌+◌, ℕ, Bool, true, false, cond, List, [], ◌∷◌, length, map, find, drop, get_or, option_map, Some, None}
use Rattle.std.specs.Option.{option_or}
use Rattle.std.specs.Borrow.{Bor}
use Rattle.std.proofs.lemmas.List.{drop_more}
use Rattle.std.proofs.lemmas.List.Folds.{find-append}
use Rattle.ac_rules.specs.Table.{Row}
use Rattle.ac_check.specs.Rows.{row_view, joined, first_row, first_grouped}
use Rattle.ac_check.specs.declared.table.Row.{Row as Kept}

module _ (passes : Row → Bool) where
  find_map : (rows : List Kept) → find passes (map row_view rows) ≡ first_row passes rows
  find_map [] = refl
  find_map (row ∷ rows) = by (passes (row_view row)) (find_map rows)
    where
      by : (b : Bool) → find passes (map row_view rows) ≡ first_row passes rows
          → cond b (Some (row_view row)) (find passes (map row_view rows)) ≡ option_map row_view (cond b (Some row) (find (λ kept. passes (row_view kept)) rows))
      by true h = refl
      by false h = h

  first_joined : (rows : Bor (List Kept)) (groups : List (Bor (List Kept)))
      → first_grouped passes (rows ∷ groups) ≡ option_or (first_row passes rows.now) (first_grouped passes groups)
  first_joined rows groups =
      find-append passes (map row_view rows.now) (joined groups) ∙ ap (λ o. option_or o (find passes (joined groups))) (find_map rows.now)

  module _ (groups : List (Bor (List Kept))) (i : ℕ) (other : Bor (List Kept)) (within : i < length groups) where
    next_group : first_grouped passes (drop i groups)
        ≡ option_or (first_row passes (get_or groups i other).now) (first_grouped passes (drop (i + 1) groups))
    next_group = ap (first_grouped passes) (drop_more groups i other within) ∙ first_joined (get_or groups i other) (drop (i + 1) groups)

    -- it stands in the next group
    pub first_here : (row : Row) → Some row ≡ first_row passes (get_or groups i other).now → first_grouped passes (drop i groups) ≡ Some row
    first_here row h = next_group ∙ ap (λ o. option_or o (first_grouped passes (drop (i + 1) groups))) (sym h)

    -- or behind it
    pub first_later : None ≡ first_row passes (get_or groups i other).now → first_grouped passes (drop (i + 1) groups) ≡ first_grouped passes (drop i groups)
    first_later h = sym (next_group ∙ ap (λ o. option_or o (first_grouped passes (drop (i + 1) groups))) (sym h))
