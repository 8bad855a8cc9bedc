-- An object that was just declared, and what is to stand in it.
use Rattle.std.specs.Prelude.{◌≡◌, ℕ, true, false, List, [], Option, Some, None}
use Rattle.ac_syntax.specs.declared.kind.Kind.{Kind}
use Rattle.ac_syntax.specs.declared.kind.Kind.TheVariants as kinds
use Rattle.ac_syntax.specs.declared.operation.HolderCall.TheVariants as holder_call
use Rattle.ac_syntax.specs.declared.operation.MapCall.TheVariants as map_call
use Rattle.ac_syntax.specs.declared.operation.Operation.{Operation}
use Rattle.ac_syntax.specs.declared.operation.Operation.TheVariants as operation
use Rattle.ac_syntax.specs.declared.operation.QueueCall.TheVariants as queue_call
use Rattle.ac_syntax.specs.declared.operation.SequenceCall.TheVariants as sequence_call
use Rattle.ac_syntax.specs.declared.operation.SetCall.TheVariants as set_call
use Rattle.ac_syntax.specs.declared.operation.TreeChangeCall.TheVariants as tree_change_call
use Rattle.ac_syntax.specs.declared.type_def.TypeDef.{TypeDef}
use Rattle.ac_calls.specs.Holdings.{Held, new_held, reply_of}
use Rattle.ac_calls.specs.Replies.{Arguments}
use Rattle.ac_calls.specs.declared.plains.PlainRow.{PlainRow}
use Rattle.ac_meaning.specs.Environment.{State, binds_object, bound_at, object_at, with_bound}
use Rattle.ac_objects.specs.Peaks.{peaked}
use Rattle.ac_snapshot.specs.Filled.{filled}
use Rattle.ac_snapshot.specs.Validity.{is_valid_object}

-- which call puts a row into an object of a kind
abbrev pub kind_operation : Kind → Operation
kind_operation kinds.Vector = operation.Sequence sequence_call.Append
kind_operation kinds.List = operation.Sequence sequence_call.Append
kind_operation kinds.HashedMap = operation.Map map_call.Insert
kind_operation kinds.OrderedMap = operation.Map map_call.Insert
kind_operation kinds.HashedSet = operation.Set set_call.Insert
kind_operation kinds.OrderedSet = operation.Set set_call.Insert
kind_operation kinds.Tree = operation.TreeChange tree_change_call.InsertChildPos
kind_operation kinds.Holder = operation.Holder holder_call.ReplaceElement
kind_operation kinds.Queue = operation.Queue queue_call.Enqueue
kind_operation kinds.PriorityQueue = operation.Queue queue_call.Enqueue

-- the object at the place was declared so, and this is what a state has of it
pub record IsAsDeclared (def : TypeDef) (capacity peak : Option ℕ) (rows : List PlainRow) (e : State) (place : ℕ) : Type 0 where
  pub number : ℕ
  pub limit : Option ℕ
  pub valid : is_valid_object def limit capacity peak rows ≡ true
  pub there : object_at e place ≡ Some (new_held def number limit)

-- the object at the place is to get the Capacity
pub record IsToReserve (capacity : Option ℕ) (e : State) (place : ℕ) : Type 0 where
  pub def : TypeDef
  pub peak : Option ℕ
  pub rows : List PlainRow
  pub declared : IsAsDeclared def capacity peak rows e place

-- it has its Capacity, and is to get the rows
pub record IsToFill (kind : Kind) (rows : List PlainRow) (e : State) (place : ℕ) : Type 0 where
  pub def : TypeDef
  pub kind_is : def.kind ≡ kind
  pub number : ℕ
  pub limit : Option ℕ
  pub capacity : Option ℕ
  pub peak : Option ℕ
  pub valid : is_valid_object def limit capacity peak rows ≡ true
  pub there : object_at e place ≡ Some (filled (new_held def number limit) capacity (Some 0) [])

-- with so many of them

abbrev pub reserved : {capacity : Option ℕ} {e : State} {place : ℕ} → IsToReserve capacity e place → State
reserved {capacity} {e} {place} r = with_bound e place (binds_object (filled (new_held r.def r.declared.number r.declared.limit) capacity (Some 0) []))

abbrev pub with_rows : {kind : Kind} {rows : List PlainRow} {e : State} {place : ℕ} → IsToFill kind rows e place → (count : ℕ) → List PlainRow → State
with_rows {kind} {rows} {e} {place} f count now =
    with_bound e place (binds_object (filled (new_held f.def f.number f.limit) f.capacity (Some count) now))

-- a call on the object at the place isn't refused and doesn't wait
abbrev pub GoesThrough : Operation → Arguments → State → (place : ℕ) → Type 0
GoesThrough operation args e place =
    (h : Held) × (object_at e place ≡ Some h) × ((reply_of h None operation args).stalls ≡ false) × ((reply_of h None operation args).reason ≡ None)

abbrev pub with_peak : Option ℕ → State → (place : ℕ) → State
with_peak None e place = e
with_peak (Some peak) e place = with_bound e place (peaked peak (bound_at e place))
