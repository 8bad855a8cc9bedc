-- The rows of an object as plain ones: each with its depth in a tree, its key in a map, and its value.
use Rattle.std.specs.Prelude.{ℕ, ℤ, List, map, option_to_list, Some, None}
use Rattle.ac_base.specs.declared.value.Value.{Value}
use Rattle.ac_base.specs.declared.value.Value.TheVariants as value
use Rattle.ac_model.specs.Objects.{contents}
use Rattle.ac_model.specs.Rows.{Entry, Node}
use Rattle.ac_calls.specs.Elements.{Tools, tools_of, keyed_texts}
use Rattle.ac_calls.specs.Holdings.{RowKind, RowOf, a_sequence, a_map, a_set, a_keyed_set, a_tree, Held, of_rows, of_holder, of_queue}
use Rattle.ac_calls.specs.declared.plains.PlainRow.{PlainRow}

abbrev pub value_row : Value → PlainRow
value_row v = record { depth = 0; key = None; value = v }

abbrev pub keyed_row : (key element : Value) → PlainRow
keyed_row key element = record { depth = 0; key = Some key; value = element }

-- the depth is that of the outline: 2 is that of the topmost nodes
abbrev pub node_row : (depth : ℕ) → (element : Value) → PlainRow
node_row depth element = record { depth = depth; key = None; value = element }

-- of elements with these tools

abbrev pub element_form : {T : Type 0} → Tools T → T → PlainRow
element_form tools e = value_row (tools.to_value e)

abbrev pub entry_form : {K T : Type 0} → Tools K → Tools T → Entry K T → PlainRow
entry_form keys tools entry = keyed_row (keys.to_value entry.key) (tools.to_value entry.element)

abbrev pub node_form : {T : Type 0} → Tools T → Node T → PlainRow
node_form tools n = node_row n.depth (tools.to_value n.element)

abbrev pub item_form : ℤ → PlainRow
item_form item = value_row (value.Int item)

-- of what stands in the rows of a kind
abbrev pub row_form : (kind : RowKind) → RowOf kind → PlainRow
row_form (a_sequence _ e) = element_form (tools_of e)
row_form (a_map _ k e) = entry_form (tools_of k) (tools_of e)
row_form (a_set _ e) = element_form (tools_of e)
row_form (a_keyed_set _) = element_form keyed_texts
row_form (a_tree e) = node_form (tools_of e)

-- a holder has none or one, and a queue its items, the front one first
abbrev pub plain_rows : Held → List PlainRow
plain_rows (of_rows kind o) = map (row_form kind) (contents o)
plain_rows (of_holder e h) = map (element_form (tools_of e)) (option_to_list h.element)
plain_rows (of_queue number q) = map item_form q.queue.items
