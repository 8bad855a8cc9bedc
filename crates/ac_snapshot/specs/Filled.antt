-- What an entry of a state makes of the object that it stands for: new rows named from 1 on, the Capacity and the greatest use.
use Rattle.std.specs.Prelude.{◌+◌, ℕ, ℤ, pos, List, length, map, Option, Some, None, option_map, slice_get, unwrap_or}
use Rattle.ac_base.specs.declared.value.Value.{Value}
use Rattle.ac_base.specs.declared.value.Value.TheVariants as value
use Rattle.ac_model.specs.Letters.{Mark}
use Rattle.ac_model.specs.Rows.{fresh}
use Rattle.ac_syntax.specs.declared.operation.CapacityCall.TheVariants as capacity_call
use Rattle.ac_syntax.specs.declared.operation.HolderCall.TheVariants as holder_call
use Rattle.ac_syntax.specs.declared.operation.MapCall.TheVariants as map_call
use Rattle.ac_syntax.specs.declared.operation.Operation.{Operation}
use Rattle.ac_syntax.specs.declared.operation.Operation.TheVariants as operation
use Rattle.ac_syntax.specs.declared.operation.QueueCall.TheVariants as queue_call
use Rattle.ac_syntax.specs.declared.operation.SequenceCall.TheVariants as sequence_call
use Rattle.ac_syntax.specs.declared.operation.SetCall.TheVariants as set_call
use Rattle.ac_syntax.specs.declared.operation.TreeChangeCall.TheVariants as tree_change_call
use Rattle.ac_calls.specs.Elements.{integer_in, tools_of}
use Rattle.ac_calls.specs.Holdings.{RowKind, RowOf, a_sequence, a_map, a_set, a_keyed_set, a_tree, Held, of_rows, of_holder, of_queue}
use Rattle.ac_calls.specs.Replies.{Argument, Arguments, value_argument, cursor_argument, no_argument}
use Rattle.ac_calls.specs.declared.plains.PlainRow.{PlainRow}
use Rattle.ac_snapshot.specs.RowValues.{element_in, row_values}

-- a number that an entry has, and else the object's own
abbrev pub given_or : Option ℕ → Option ℕ → Option ℕ
given_or None own = own
given_or (Some given) own = Some given

-- an item of a queue
abbrev pub item_in : PlainRow → ℤ
item_in r = integer_in r.value

abbrev pub filled : Held → (capacity peak : Option ℕ) → List PlainRow → Held
filled (of_rows kind o) capacity peak rows =
    of_rows kind (record o { rows = fresh 1 (row_values kind rows); next = 1 + length rows; capacity = given_or capacity o.capacity })
filled (of_holder e h) capacity peak rows = of_holder e (record h { element = option_map (element_in (tools_of e)) (slice_get rows 0) })
filled (of_queue number q) capacity peak rows =
    of_queue number (record q { queue = record q.queue { items = map item_in rows; peak = unwrap_or peak q.queue.peak } })

-- The calls that fill an object: the Capacity is reserved, and then each row is put behind those before it

-- which call puts a row
abbrev pub row_operation : RowKind → Operation
row_operation (a_sequence _ _) = operation.Sequence sequence_call.Append
row_operation (a_map _ _ _) = operation.Map map_call.Insert
row_operation (a_set _ _) = operation.Set set_call.Insert
row_operation (a_keyed_set _) = operation.Set set_call.Insert
row_operation (a_tree _) = operation.TreeChange tree_change_call.InsertChildPos

abbrev pub fill_operation : Held → Operation
fill_operation (of_rows kind o) = row_operation kind
fill_operation (of_holder e h) = operation.Holder holder_call.ReplaceElement
fill_operation (of_queue number q) = operation.Queue queue_call.Enqueue

abbrev pub three_arguments : (first second third : Argument) → Arguments
three_arguments first second third = record { first = first; second = second; third = third; fourth = no_argument; fifth = pos 1 }

-- of a row outside trees: its key, if it has one, and its value
abbrev pub arguments_by : Option Value → Value → Arguments
arguments_by None v = three_arguments (value_argument v) no_argument no_argument
arguments_by (Some key) v = three_arguments (value_argument key) (value_argument v) no_argument

abbrev pub row_arguments : PlainRow → Arguments
row_arguments r = arguments_by r.key r.value

-- of a tree's row: the parent, behind its last child
abbrev pub child_arguments : (parent : Mark) → Value → Arguments
child_arguments parent v = three_arguments (cursor_argument parent) no_argument (value_argument v)

abbrev pub count_arguments : ℕ → Arguments
count_arguments count = three_arguments (value_argument (value.Int (pos count))) no_argument no_argument
