-- What plain rows stand for in an object: `row_form` of ac_calls, the other way round.
use Rattle.std.specs.Prelude.{List, map, Option, Some, None}
use Rattle.ac_base.specs.declared.value.Value.{Value}
use Rattle.ac_model.specs.Rows.{entry, node}
use Rattle.ac_syntax.specs.declared.type_def.TypeDef.{TypeDef}
use Rattle.ac_calls.specs.Elements.{Tools, tools_of, keyed_texts}
use Rattle.ac_calls.specs.Holdings.{RowKind, RowOf, a_sequence, a_map, a_set, a_keyed_set, a_tree, kind_by}
use Rattle.ac_calls.specs.declared.plains.PlainRow.{PlainRow}

-- the rows' kind in objects of the type. Holders and queues have elements as lists do
abbrev pub row_kind : TypeDef → RowKind
row_kind def = kind_by def.kind def.first def.second def.keyed

abbrev pub element_in : {T : Type 0} → Tools T → PlainRow → T
element_in tools r = tools.from_value r.value

-- a row without a key counts as one with the blank one
abbrev pub key_from : {K : Type 0} → Tools K → Option Value → K
key_from tools None = tools.blank
key_from tools (Some key) = tools.from_value key

abbrev pub row_value : (kind : RowKind) → PlainRow → RowOf kind
row_value (a_sequence _ e) r = element_in (tools_of e) r
row_value (a_map _ k e) r = entry (key_from (tools_of k) r.key) (element_in (tools_of e) r)
row_value (a_set _ e) r = element_in (tools_of e) r
row_value (a_keyed_set _) r = element_in keyed_texts r
row_value (a_tree e) r = node r.depth (element_in (tools_of e) r)

abbrev pub row_values : (kind : RowKind) → List PlainRow → List (RowOf kind)
row_values kind rows = map (row_value kind) rows
