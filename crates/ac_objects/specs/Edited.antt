-- What an editor makes of an object in memory, and what each editor tells of it.
use Rattle.std.specs.Prelude.{◌≡◌, ⊤, ℕ, Result, Err}
use Rattle.ac_base.specs.declared.cursor.Cursor.{Cursor}
use Rattle.ac_base.specs.declared.fault.Fault.{Fault}
use Rattle.ac_base.specs.declared.fault.Fault.TheVariants.{Raised}
use Rattle.ac_base.specs.declared.reason.Reason.TheVariants.{NoElement}
use Rattle.ac_base.specs.declared.value.Value.{Value}
use Rattle.ac_model.specs.Calls.{Done}
use Rattle.ac_model.specs.Containers.{Container}
use Rattle.ac_model.specs.Holders.{Holder}
use Rattle.ac_model.specs.Objects as model
use Rattle.ac_model.specs.Objects.{plain}
use Rattle.ac_queue.specs.Shared.{shared}
use Rattle.ac_queue.specs.declared.any_queue.AnyQueue.{AnyQueue}
use Rattle.ac_syntax.specs.declared.operation.Operation.{Operation}
use Rattle.ac_calls.specs.Arguments.{AllAgree, mark_in}
use Rattle.ac_calls.specs.Elements.{ElementOf, Tools, tools_of}
use Rattle.ac_calls.specs.HolderReplies.{holder_reply, holder_write}
use Rattle.ac_calls.specs.Holdings.{RowKind, RowOf, own_calls, rows_reply, seen_in}
use Rattle.ac_calls.specs.QueueReplies.{queue_reply}
use Rattle.ac_calls.specs.Replied.{AreValid, Replied}
use Rattle.ac_calls.specs.Replies.{itself, without, arguments_seen}
use Rattle.ac_calls.specs.Replies as replies
use Rattle.ac_calls.specs.RowWrites.{WritesIn}
use Rattle.ac_calls.specs.SequenceReplies.{OwnCalls}
use Rattle.ac_calls.specs.declared.argument.Arguments.{Arguments}
use Rattle.ac_calls.specs.declared.reply.Reply.{Reply}
use Rattle.ac_holder_calls.specs.HolderCalls.{ChangesHolder, HolderReplied}
use Rattle.ac_queue_calls.specs.QueueCalls.{QueueReplied}
use Rattle.ac_objects.specs.Visited.{Visited, some_rows, some_holder, some_queue}
use Rattle.ac_objects.specs.World.{InMemory, in_rows, in_holder, in_queue, memory_of}
use Rattle.ac_objects.specs.declared.object.Object.{Object}

-- what an operation on rows comes to
abbrev pub Operated : Type 0 → Type 0
Operated V = model.Object ℕ V → replies.Source (model.Object ℕ V) → replies.Arguments → Operation → replies.Reply (model.Object ℕ V)

-- rows before and after, with their kind, what it means in its own way and what an operation comes to, or a holder, or a queue
pub data Edited : Type 1 where
  edited_rows : {V : Type 0} → RowKind → (model.Object ℕ V → OwnCalls V) → Operated V → (old new : Container V) → Edited
  edited_holder : {T : Type 0} → Tools T → (old new : Holder T) → Edited
  edited_queue : (old new : AnyQueue) → Edited

-- the object is of its kind still, what is told holds of its rows, its holder or its queue, and where they didn't change it didn't
abbrev pub EditsIn : (Edited → Type 0) → (old new : Object) → InMemory → Type 0
EditsIn tells old new (in_rows kind l) =
    (m : Container (RowOf kind)) × (memory_of new ≡ in_rows kind m) × (m ≡ l → new ≡ old) × AreValid l m
    × tells (edited_rows kind (own_calls kind) (rows_reply kind) l m)
EditsIn tells old new (in_holder e h) =
    (g : Holder (ElementOf e)) × (memory_of new ≡ in_holder e g) × (g ≡ h → new ≡ old) × tells (edited_holder (tools_of e) h g)
EditsIn tells old new (in_queue number q) =
    (p r : AnyQueue) × (q ≡ shared p) × (memory_of new ≡ in_queue number (shared r)) × (r ≡ p → new ≡ old) × tells (edited_queue p r)

abbrev pub Edits : (Edited → Type 0) → (old new : Object) → Type 0
Edits tells old new = EditsIn tells old new (memory_of old)

-- the cursors among the arguments have the slots that the object would find
abbrev pub AllAgreeThere : Arguments → Visited → Type 0
AllAgreeThere args (some_rows kind own l) = AllAgree l.object args
AllAgreeThere args (some_holder tools h) = ⊤
AllAgreeThere args some_queue = ⊤

-- a call without a source, or with the object itself as the source
abbrev pub TellsCall : Operation → replies.Arguments → Result Reply Fault → Edited → Type 0
TellsCall operation args result (edited_rows kind own comes_to old new) =
    let o = plain old.object in Replied (comes_to o itself (arguments_seen (seen_in kind o) args) operation) old new result
TellsCall operation args result (edited_holder tools old new) =
    HolderReplied tools (holder_reply tools old without args operation) old new result
TellsCall operation args result (edited_queue old new) = QueueReplied (queue_reply (shared old) args operation) old new result

-- a write of the element at the cursor. No name stands for an item of a queue
abbrev pub TellsWrite : Cursor → Value → Result Done Fault → Edited → Type 0
TellsWrite at value result (edited_rows kind own comes_to old new) = WritesIn (λ o. (own o).write (mark_in kind old.object at) value) old new result
TellsWrite at value result (edited_holder tools old new) = ChangesHolder (holder_write tools old value) old new result
TellsWrite at value result (edited_queue old new) = (result ≡ Err (Raised NoElement)) × (new ≡ old)
