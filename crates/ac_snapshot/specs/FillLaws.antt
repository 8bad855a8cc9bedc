-- What the calls do that fill an object from an entry, of every kind but trees: none waits or is refused, and each leaves the object with one row more.
use Rattle.std.specs.Prelude.{◌≡◌, ◌+◌, ◌&&◌, ℕ, true, false, not, min, List, [], ◌∷◌, ◌++◌, length, Option, Some, None, is_some}
use Rattle.ac_base.specs.declared.limit.TheConstants.{GREATEST_LENGTH}
use Rattle.ac_syntax.specs.declared.operation.CapacityCall.TheVariants as capacity_call
use Rattle.ac_syntax.specs.declared.operation.Operation.TheVariants as operation
use Rattle.ac_syntax.specs.declared.type_def.TypeDef.{TypeDef}
use Rattle.ac_syntax.specs.Kinds.{is_queue, has_capacity}
use Rattle.ac_rules.specs.Rules.{is_type}
use Rattle.ac_calls.specs.Holdings.{Held, new_held, reply_of}
use Rattle.ac_calls.specs.Replies.{Reply}
use Rattle.ac_calls.specs.declared.plains.PlainRow.{PlainRow}
use Rattle.ac_snapshot.specs.Filled.{filled, fill_operation, row_arguments, count_arguments}
use Rattle.ac_snapshot.specs.RowValidity.{is_tree}
use Rattle.ac_snapshot.specs.Validity.{is_step, is_valid_object}

-- a call that doesn't wait, isn't refused, and leaves its object so
abbrev pub Leaves : Reply Held → Held → Type 0
Leaves reply after = (reply.stalls ≡ false) × (reply.reason ≡ None) × (reply.after ≡ after)

-- an object whose entry has no Capacity begins as it was declared
abbrev pub FillBegins : Type 0
FillBegins = (def : TypeDef) (number : ℕ) (limit : Option ℕ) → filled (new_held def number limit) None (Some 0) [] ≡ new_held def number limit

-- one whose entry has a Capacity gets it first. The greatest is that of the greatest length, and no more than that can be reserved
abbrev pub FillReserves : Type 0
FillReserves =
    (def : TypeDef) (number c : ℕ) (limit : Option ℕ) → is_type def ≡ true → is_some limit ≡ def.bounded →
    (not def.bounded && has_capacity def.kind) ≡ true → is_step c ≡ true →
    let h = new_held def number limit in
    Leaves (reply_of h None (operation.Capacity capacity_call.ReserveCapacity) (count_arguments (min c GREATEST_LENGTH)))
    (filled h (Some c) (Some 0) [])

-- each row goes behind those before it. A queue's greatest use is then its length
abbrev pub FillPuts : Type 0
FillPuts =
    (def : TypeDef) (number : ℕ) (limit capacity peak : Option ℕ) (rows before : List PlainRow) (r : PlainRow) (later : List PlainRow) →
    is_valid_object def limit capacity peak rows ≡ true → rows ≡ before ++ r ∷ later → is_tree def.kind ≡ false →
    let h = new_held def number limit in
    Leaves (reply_of (filled h capacity (Some (length before)) before) None (fill_operation h) (row_arguments r))
    (filled h capacity (Some (length before + 1)) (before ++ r ∷ []))

-- of a kind other than queues an object has no greatest use, so that whatever is given as one changes nothing
abbrev pub FillEnds : Type 0
FillEnds =
    (def : TypeDef) (number n : ℕ) (limit capacity peak : Option ℕ) (rows : List PlainRow) → is_queue def.kind ≡ false →
    filled (new_held def number limit) capacity (Some n) rows ≡ filled (new_held def number limit) capacity peak rows
