-- A call's row is found in the table, and no other one fits.
use Rattle.std.proofs.Common.{◌≡◌, ◌<◌, ◌||◌, ℕ, Bool, true, false, cond, List, [], ◌∷◌, ◌++◌, length, find, is_some, option_map, Option, Some, None, refl, sym, ap, ◌∙◌, arith, true≢false}
use Rattle.std.specs.List.{list_all, list_any, slice_index_or}
use Rattle.std.specs.Prelude.{Contains, ◌⊎◌, IsTrue}
use Rattle.std.proofs.Common.{inl, inr, zero, suc}
use Rattle.std.proofs.lemmas.List.Elements.{All-contains, Contains-append_right}
use Rattle.std.proofs.lemmas.List.Sums.{AllPass-from_list_all}
use Rattle.ac_syntax.specs.declared.arg.Arg.{Arg}
use Rattle.ac_syntax.specs.declared.kind.Kind.{Kind}
use Rattle.ac_syntax.specs.declared.kind.Kind.TheVariants as kind
use Rattle.ac_syntax.specs.declared.type_def.TypeDef.{TypeDef}
use Rattle.ac_syntax.specs.Kinds.{has_capacity}
use Rattle.ac_rules.specs.Table.{Row, rows_by, rows_if, rows_of, common_rows, counted_rows, sequence_rows, capacity_rows, vector_rows, list_rows, keyed_walk_rows, map_rows, set_rows, keyed_rows, ordered_keyed_rows, ordered_rows, ordered_map_rows, ordered_set_rows, tree_rows, tree_change_rows, holder_rows, queue_rows, priority_queue_rows}
use Rattle.ac_rules.specs.Scopes.{Scope, Typed}
use Rattle.ac_rules.specs.Rules.{is_row, is_call}
use Rattle.ac_rules.specs.Operations.{IsRowFor, row_for, operation_of, HasOneRow, FindsRow, CallKept}
use Rattle.ac_rules.proofs.Apart.{neither, and_parts, row_apart, rows_apart, row_parts, rows_both}

-- in each kind's rows those with one word ask for other arguments
table_by : (k : Kind) (keyed : Bool) → rows_apart (rows_by k keyed ++ rows_if (has_capacity k) capacity_rows) ≡ true
unfolding common_rows counted_rows sequence_rows capacity_rows vector_rows list_rows keyed_walk_rows map_rows set_rows keyed_rows ordered_keyed_rows ordered_rows ordered_map_rows ordered_set_rows tree_rows tree_change_rows holder_rows queue_rows priority_queue_rows
table_by kind.Vector keyed = refl
table_by kind.List keyed = refl
table_by kind.HashedMap keyed = refl
table_by kind.OrderedMap keyed = refl
table_by kind.HashedSet true = refl
table_by kind.HashedSet false = refl
table_by kind.OrderedSet true = refl
table_by kind.OrderedSet false = refl
table_by kind.Tree keyed = refl
table_by kind.Holder keyed = refl
table_by kind.Queue keyed = refl
table_by kind.PriorityQueue keyed = refl

table_apart : (def : TypeDef) → rows_apart (rows_of def) ≡ true
unfolding rows_of
table_apart def = table_by def.kind def.keyed

contains_cases : (x : Row) (rows : List Row) (row : Row) → Contains (x ∷ rows) row → (x ≡ row) ⊎ Contains rows row
contains_cases x rows row there = by there.0 there.1 there.2
  where
    by : (k : ℕ) → k < length (x ∷ rows) → slice_index_or (x ∷ rows) k row ≡ row → (x ≡ row) ⊎ Contains rows row
    by zero within is = inl is
    by (suc k) within is = inr (k, omega arith, is)

module _ (fits : Row → Bool) (never : (row other : Row) → row_apart row other ≡ true → fits row ≡ true → fits other ≡ true → ⊥) where
  -- of rows that are apart, one that fits is the first that fits
  find_fitting : (rows : List Row) → rows_apart rows ≡ true → (row : Row) → Contains rows row → fits row ≡ true → find fits rows ≡ Some row
  find_fitting [] apart row there h = absurd (omega (arith, there.1))
  find_fitting (x ∷ rows) apart row there h =
      let parts = and_parts (list_all (row_apart x) rows) (rows_apart rows) apart in
      by parts.0 (fits x) refl (contains_cases x rows row there) (find_fitting rows parts.1 row)
    where
      by : list_all (row_apart x) rows ≡ true → (t : Bool) → fits x ≡ t → (x ≡ row) ⊎ Contains rows row
          → (Contains rows row → fits row ≡ true → find fits rows ≡ Some row) → cond t (Some x) (find fits rows) ≡ Some row
      by all true e (inl is) further = ap Some is
      by all true e (inr later) further = absurd (never x row (All-contains (λ other. row_apart x other ≡ true) rows row (AllPass-from_list_all (row_apart x) rows all) later) e h)
      by all false e (inl is) further = neither (sym e ∙ ap fits is ∙ h)
      by all false e (inr later) further = further later h

-- what is found stands in the list and fits
found_fits : (fits : Row → Bool) (rows : List Row) (row : Row) → find fits rows ≡ Some row → Contains rows row × (fits row ≡ true)
found_fits fits [] row h = none h
  where
    none : {X : Type 0} → None ≡ Some row → X
    none e = absurd (true≢false (sym (ap is_some e)))
found_fits fits (x ∷ rows) row h = by (fits x) refl h (found_fits fits rows row)
  where
    by : (t : Bool) → fits x ≡ t → cond t (Some x) (find fits rows) ≡ Some row → (find fits rows ≡ Some row → Contains rows row × (fits row ≡ true))
        → Contains (x ∷ rows) row × (fits row ≡ true)
    by true e is further = let same : x ≡ row = cc in ((0, omega arith, same), ap fits (sym same) ∙ e)
    by false e is further = let later = further is in (Contains-append_right (x ∷ []) rows row later.0, later.1)

-- a test that some row passes finds one
found_any : (fits : Row → Bool) (rows : List Row) → is_some (find fits rows) ≡ list_any fits rows
found_any fits [] = refl
found_any fits (x ∷ rows) = by (fits x) (found_any fits rows)
  where
    by : (t : Bool) → is_some (find fits rows) ≡ list_any fits rows → is_some (cond t (Some x) (find fits rows)) ≡ (t || list_any fits rows)
    by true h = refl
    by false h = h

is_some-map : {A B : Type 0} (f : A → B) (o : Option A) → is_some (option_map f o) ≡ is_some o
is_some-map f None = refl
is_some-map f (Some a) = refl

module _ (scope : Scope) (typed : Typed) (target : Option (List ℕ)) (word : List ℕ) (args : List Arg) where
  row_found : (row : Row) → IsRowFor scope typed target word args row → row_for scope typed target word args ≡ Some row
  row_found row is =
      find_fitting (is_row scope typed target word args) (λ x other. rows_both scope typed target word args x other) (rows_of typed.def) (table_apart typed.def) row is.there is.fits

  pub finds_row : FindsRow scope typed target word args
  finds_row row =
      (row_found row, λ h. let is = found_fits (is_row scope typed target word args) (rows_of typed.def) row h in record { there = is.0; fits = is.1 })

  pub one_row : HasOneRow scope typed target word args
  one_row row other is are = let same : Some row ≡ Some other = sym (row_found row is) ∙ row_found other are in cc

pub means_one : (scope : Scope) (typed : Option Typed) (target : Option (List ℕ)) (word : List ℕ) (args : List Arg)
    → is_some (operation_of scope typed target word args) ≡ is_call scope typed target word args
means_one scope None target word args = refl
means_one scope (Some typed) target word args =
    is_some-map (λ (row : Row). row.operation) (row_for scope typed target word args)
    ∙ found_any (is_row scope typed target word args) (rows_of typed.def)

-- a call that keeps the rules, by what was found
pub call_kept : (scope : Scope) (typed : Option Typed) (target : Option (List ℕ)) (word : List ℕ) (args : List Arg)
    → IsTrue (is_call scope typed target word args) → CallKept scope typed target word args
call_kept scope None target word args h = neither h
call_kept scope (Some typed) target word args h = by (row_for scope typed target word args) refl (found_any (is_row scope typed target word args) (rows_of typed.def) ∙ h)
  where
    by : (o : Option Row) → row_for scope typed target word args ≡ o → is_some o ≡ true → CallKept scope (Some typed) target word args
    by None e is = neither is
    by (Some row) e is =
        let is_it = found_fits (is_row scope typed target word args) (rows_of typed.def) row e in
        let parts = row_parts scope typed target word args row is_it.1 in
        record { object = typed; is = refl; row = row; found = e; fits = parts.1; taken = parts.2 }
