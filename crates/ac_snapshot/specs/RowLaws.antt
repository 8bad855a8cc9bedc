-- What rows stand for, there and back, and that their text is the one that Print writes.
use Rattle.std.specs.Prelude.{◌≡◌, Bool, true, ◌&&◌}
use Rattle.ac_syntax.specs.declared.kind.ElemKind.TheVariants.{Str}
use Rattle.ac_syntax.specs.declared.kind.Kind.{Kind}
use Rattle.ac_syntax.specs.declared.type_def.TypeDef.{TypeDef}
use Rattle.ac_rules.specs.Rules.{is_type}
use Rattle.ac_calls.specs.Elements.{tools_of, keyed_texts}
use Rattle.ac_calls.specs.Holdings.{RowKind, RowOf, a_sequence, a_map, a_set, a_keyed_set, a_tree, Held, has_root, listing_of}
use Rattle.ac_calls.specs.PlainRows.{row_form, plain_rows}
use Rattle.ac_calls.specs.declared.plains.PlainRow.{PlainRow}
use Rattle.ac_snapshot.specs.Representable.{is_row_representable}
use Rattle.ac_snapshot.specs.RowValues.{row_kind, row_value}
use Rattle.ac_snapshot.specs.RowValidity.{is_value_of, is_tree, is_row_of}
use Rattle.ac_snapshot.specs.StateTexts.{rows_text}

-- what stands in an object is told by its form
abbrev pub FormsStand : Type 0
FormsStand = (kind : RowKind) (v : RowOf kind) → row_value kind (row_form kind v) ≡ v

-- a row that may stand in an object of the type has the form of what it stands for
abbrev pub RowsHaveForm : Type 0
RowsHaveForm = (def : TypeDef) (r : PlainRow) → is_type def ≡ true → is_row_of def r ≡ true → row_form (row_kind def) (row_value (row_kind def) r) ≡ r

-- the values are such as the types of a kind's elements have
abbrev pub are_values : (kind : RowKind) → RowOf kind → Bool
are_values (a_sequence _ e) v = is_value_of e ((tools_of e).to_value v)
are_values (a_map _ k e) v = is_value_of k ((tools_of k).to_value v.key) && is_value_of e ((tools_of e).to_value v.element)
are_values (a_set _ e) v = is_value_of e ((tools_of e).to_value v)
are_values (a_keyed_set _) v = is_value_of Str (keyed_texts.to_value v)
are_values (a_tree e) v = is_value_of e ((tools_of e).to_value v.element)

-- a form is a row that may stand in an object of the type just where its values are of the type's elements
abbrev pub FormsAreRows : Type 0
FormsAreRows =
    (def : TypeDef) (v : RowOf (row_kind def)) → is_type def ≡ true → is_row_of def (row_form (row_kind def) v) ≡ are_values (row_kind def) v

-- which they are just where memory can hold them
abbrev pub FormsAreValues : Type 0
FormsAreValues = (kind : RowKind) (v : RowOf kind) → is_row_representable (row_form kind v) ≡ are_values kind v

-- the rows of an object in a state's text are what Print answers of it
abbrev pub ListsAsPrinted : Type 0
ListsAsPrinted = (kind : Kind) (h : Held) → is_tree kind ≡ has_root h → rows_text kind (plain_rows h) ≡ listing_of h
