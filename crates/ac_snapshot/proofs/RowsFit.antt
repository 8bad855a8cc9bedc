-- Valid rows are read as they are listed.
use Rattle.std.proofs.Common.{◌≡◌, ◌==◌, ◌||◌, ◌&&◌, ◌+◌, ℕ, Bool, true, false, List, [], ◌∷◌, ◌++◌, length, map, refl, sym, ap, subst, ◌∙◌, arith, nat_lt, nat_le, eqb-true, Option, Some, None, if◌then◌else◌}
use Rattle.std.specs.List.{list_all}
use Rattle.std.proofs.lemmas.Bool.{and_parts, cond-true, cond-false, leb-true}
use Rattle.ac_base.specs.declared.limit.TheConstants.{GREATEST_LENGTH}
use Rattle.ac_base.specs.declared.value.Value.{Value}
use Rattle.ac_model.specs.Outline.{follows}
use Rattle.ac_syntax.specs.declared.kind.ElemKind.{ElemKind}
use Rattle.ac_syntax.specs.declared.kind.Kind.{Kind}
use Rattle.ac_syntax.specs.declared.kind.Kind.TheVariants as kinds
use Rattle.ac_syntax.specs.declared.type_def.TypeDef.{TypeDef}
use Rattle.ac_syntax.specs.Kinds.{is_map}
use Rattle.ac_rules.specs.Scopes.{element_of}
use Rattle.ac_calls.specs.Holdings.{kind_by, a_tree}
use Rattle.ac_calls.specs.declared.plains.PlainRow.{PlainRow}
use Rattle.ac_snapshot.specs.RowValues.{row_kind, row_value, row_values}
use Rattle.ac_snapshot.specs.RowValidity.{is_tree, is_given, is_value_of, is_row_of, are_rows_of, are_within, are_lined_up}
use Rattle.ac_snapshot.specs.StateTexts.{rows_text}
use Rattle.ac_snapshot.specs.RowReaders.{listed}
use Rattle.ac_snapshot.specs.Writings.{ReadsRows}
use Rattle.ac_snapshot.proofs.RowLaws.{level_of, front_text, StepFits, RowFits, RowsFit, FirstFit, TreeRows, listed_found, listed_only, rows_front}

three_parts : (a b c : Bool) → (a && b && c) ≡ true → (a ≡ true) × (b ≡ true) × (c ≡ true)
three_parts true true c e = (refl, refl, e)
three_parts true false c e = absurd (cc e)
three_parts false b c e = absurd (cc e)

-- a row by itself

depth_fits : (tree : Bool) (depth : ℕ) → (tree || depth == 0) ≡ true → depth ≡ (if tree then (if tree then depth else 2) else 0)
depth_fits true depth h = refl
depth_fits false depth h = eqb-true depth 0 h

row_fits : (def : TypeDef) (r : PlainRow) → is_row_of def r ≡ true → RowFits def r
row_fits def r h =
    let parts = and_parts (is_tree def.kind || r.depth == 0) (is_given (is_map def.kind) (is_value_of def.first) r.key && is_value_of (element_of def) r.value) h in
    let values = and_parts (is_given (is_map def.kind) (is_value_of def.first) r.key) (is_value_of (element_of def) r.value) parts.1 in
    (depth_fits (is_tree def.kind) r.depth parts.0, values.0, values.1)

no_map : (kind : Kind) → is_tree kind ≡ true → is_map kind ≡ false
no_map kinds.Vector h = refl
no_map kinds.List h = refl
no_map kinds.HashedMap h = absurd (cc h)
no_map kinds.OrderedMap h = absurd (cc h)
no_map kinds.HashedSet h = refl
no_map kinds.OrderedSet h = refl
no_map kinds.Tree h = refl
no_map kinds.Holder h = refl
no_map kinds.Queue h = refl
no_map kinds.PriorityQueue h = refl

no_key : (map : Bool) (test : Value → Bool) (key : Option Value) → map ≡ false → is_given map test key ≡ true → key ≡ None
no_key among test None off given = refl
no_key among test (Some key) off given = absurd (cc (off, (and_parts among (test key) given).0))

-- all rows

pub depths_seen : (e : ElemKind) (rows : List PlainRow) → map (λ n. n.depth) (map (row_value (a_tree e)) rows) ≡ map (λ r. r.depth) rows
depths_seen e [] = refl
depths_seen e (r ∷ rows) = ap (λ ds. r.depth ∷ ds) (depths_seen e rows)

outline : (kind : Kind) (first : ElemKind) (second : Option ElemKind) (keyed : Bool) (rows : List PlainRow) → is_tree kind ≡ true
    → are_rows_of (kind_by kind first second keyed) (row_values (kind_by kind first second keyed) rows) ≡ true → follows 1 (map (λ r. r.depth) rows) ≡ true
outline kinds.Tree first second keyed rows is h = ap (follows 1) (sym (depths_seen first rows)) ∙ h
outline kinds.Vector first second keyed rows is h = absurd (cc is)
outline kinds.List first second keyed rows is h = absurd (cc is)
outline kinds.HashedMap first second keyed rows is h = absurd (cc is)
outline kinds.OrderedMap first second keyed rows is h = absurd (cc is)
outline kinds.HashedSet first second keyed rows is h = absurd (cc is)
outline kinds.OrderedSet first second keyed rows is h = absurd (cc is)
outline kinds.Holder first second keyed rows is h = absurd (cc is)
outline kinds.Queue first second keyed rows is h = absurd (cc is)
outline kinds.PriorityQueue first second keyed rows is h = absurd (cc is)

tree_rows : (def : TypeDef) (before : ℕ) (rows : List PlainRow) → is_tree def.kind ≡ true → list_all (is_row_of def) rows ≡ true
    → follows before (map (λ r. r.depth) rows) ≡ true → TreeRows rows
tree_rows def before [] tree all f = tt
tree_rows def before (r ∷ rows) tree all f =
    let own = and_parts (is_row_of def r) (list_all (is_row_of def) rows) all in
    let fits = row_fits def r own.0 in
    let parts = three_parts (nat_le 2 r.depth) (nat_le r.depth (before + 1)) (follows r.depth (map (λ r. r.depth) rows)) f in
    (no_key (is_map def.kind) (is_value_of def.first) r.key (no_map def.kind tree) fits.1, leb-true 2 r.depth parts.0, tree_rows def r.depth rows tree own.1 parts.2)

rows_fit_tree : (def : TypeDef) (before : ℕ) (rows : List PlainRow) → is_tree def.kind ≡ true → list_all (is_row_of def) rows ≡ true
    → follows before (map (λ r. r.depth) rows) ≡ true → RowsFit def before rows
rows_fit_tree def before [] tree all f = tt
rows_fit_tree def before (r ∷ rows) tree all f =
    let own = and_parts (is_row_of def r) (list_all (is_row_of def) rows) all in
    let parts = three_parts (nat_le 2 r.depth) (nat_le r.depth (before + 1)) (follows r.depth (map (λ r. r.depth) rows)) f in
    let level : r.depth ≡ level_of def.kind r = sym (cond-true (is_tree def.kind) r.depth 2 tree) in (
      subst (λ n. StepFits (is_tree def.kind) before (Some n)) level (leb-true 2 r.depth parts.0, leb-true r.depth (before + 1) parts.1, λ _. tree),
      row_fits def r own.0,
      subst (λ n. RowsFit def n rows) level (rows_fit_tree def r.depth rows tree own.1 parts.2),
    )

rows_fit_flat : (def : TypeDef) (level : ℕ) (rows : List PlainRow) → is_tree def.kind ≡ false → level ≡ 2 → list_all (is_row_of def) rows ≡ true → RowsFit def level rows
rows_fit_flat def level [] flat two all = tt
rows_fit_flat def level (r ∷ rows) flat two all =
    let own = and_parts (is_row_of def r) (list_all (is_row_of def) rows) all in
    let next : 2 ≡ level_of def.kind r = sym (cond-false (is_tree def.kind) r.depth 2 flat) in (
      subst (λ n. StepFits (is_tree def.kind) level (Some n)) next (omega arith, omega (arith, two), λ less. let no : nat_lt level 2 ≡ false = ap (λ n. nat_lt n 2) two in absurd (cc (less, no))),
      row_fits def r own.0,
      rows_fit_flat def (level_of def.kind r) rows flat (sym next) own.1,
    )

first_fit : (def : TypeDef) (rows : List PlainRow) → list_all (is_row_of def) rows ≡ true → (is_tree def.kind ≡ true → follows 1 (map (λ r. r.depth) rows) ≡ true) → FirstFit def rows
first_fit def [] all f = tt
first_fit def (r ∷ rows) all f = by_kind (is_tree def.kind) refl
  where
    by_kind : (tree : Bool) → is_tree def.kind ≡ tree → FirstFit def (r ∷ rows)
    by_kind true is =
        let fits : RowsFit def 1 (r ∷ rows) = rows_fit_tree def 1 (r ∷ rows) is all (f is) in
        (omega (arith, fits.0.0, fits.0.1), fits.1, fits.2)
    by_kind false is =
        let own = and_parts (is_row_of def r) (list_all (is_row_of def) rows) all in
        let level : level_of def.kind r ≡ 2 = cond-false (is_tree def.kind) r.depth 2 is in
        (level, row_fits def r own.0, rows_fit_flat def (level_of def.kind r) rows is level own.1)

pub rows_read : ReadsRows
rows_read def limit rows valid =
    let one = and_parts (list_all (is_row_of def) rows)
    (nat_le (length rows) GREATEST_LENGTH && (are_within def limit rows && (are_rows_of (row_kind def) (row_values (row_kind def) rows) && are_lined_up def rows))) valid in
    let two = and_parts (nat_le (length rows) GREATEST_LENGTH) (are_within def limit rows && (are_rows_of (row_kind def) (row_values (row_kind def) rows) && are_lined_up def rows)) one.1 in
    let three = and_parts (are_within def limit rows) (are_rows_of (row_kind def) (row_values (row_kind def) rows) && are_lined_up def rows) two.1 in
    let four = and_parts (are_rows_of (row_kind def) (row_values (row_kind def) rows)) (are_lined_up def rows) three.1 in
    let nests : (is_tree def.kind ≡ true → follows 1 (map (λ r. r.depth) rows) ≡ true) = λ tree. outline def.kind def.first def.second def.keyed rows tree four.0 in
    let front : ((rest : List ℕ) → front_text (level_of def.kind) rows rest ≡ rows_text def.kind rows ++ rest) =
    λ rest. rows_front def.kind rows rest (λ tree. tree_rows def 1 rows tree one.0 (nests tree)) in (
      λ t rest e. listed_found def t rows rest e ∙ front rest,
      λ rest none. ap (listed def) (sym (front rest)) ∙ listed_only def rows rest (first_fit def rows one.0 nests) (leb-true (length rows) GREATEST_LENGTH two.0) none,
    )
