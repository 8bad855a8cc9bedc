-- What editors tell is what becomes of the object.
use Rattle.std.proofs.Common.{◌≡◌, ◌⊎◌, ℕ, refl, sym, ap, subst, ◌∙◌, Result, None}
use Rattle.ac_base.specs.declared.cursor.Cursor.{Cursor}
use Rattle.ac_base.specs.declared.fault.Fault.{Fault}
use Rattle.ac_base.specs.declared.value.Value.{Value}
use Rattle.ac_model.specs.Calls.{Done}
use Rattle.ac_model.specs.Containers.{Container}
use Rattle.ac_model.specs.Cursors.{plain_mark}
use Rattle.ac_model.specs.Holders.{Holder}
use Rattle.ac_queue.specs.Shared.{shared}
use Rattle.ac_queue.specs.declared.any_queue.AnyQueue.{AnyQueue}
use Rattle.ac_syntax.specs.declared.kind.ElemKind.{ElemKind}
use Rattle.ac_syntax.specs.declared.operation.Operation.{Operation}
use Rattle.ac_calls.specs.Elements.{ElementOf, tools_of}
use Rattle.ac_calls.specs.Holdings.{RowKind, RowOf, own_calls, rows_reply, reply_of, write}
use Rattle.ac_calls.specs.Replies as replies
use Rattle.ac_calls.specs.Arguments.{mark_in}
use Rattle.ac_calls.specs.declared.argument.Arguments.{Arguments}
use Rattle.ac_calls.specs.declared.reply.Reply.{Reply}
use Rattle.ac_calls.specs.Replied.{AreValid}
use Rattle.ac_objects.specs.Called.{AllAgreeIn, Called, Lasts, WritesTo}
use Rattle.ac_objects.specs.Edited.{Edited, edited_rows, edited_holder, edited_queue, EditsIn, Edits, AllAgreeThere, TellsCall, TellsWrite}
use Rattle.ac_objects.specs.Visited.{visited}
use Rattle.ac_objects.specs.World.{InMemory, in_rows, in_holder, in_queue, memory_of, held_in, held_of, ObjectAgrees}
use Rattle.ac_objects.specs.declared.object.Object.{Object}
use Rattle.ac_objects.proofs.CalledRows as rows
use Rattle.ac_objects.proofs.CalledHolders as holders
use Rattle.ac_objects.proofs.CalledQueues as queues

-- of each sort

module _ (tells : Edited → Type 0) (w v : Object) where
  pub edits_rows : (kind : RowKind) (old new : Container (RowOf kind)) → memory_of w ≡ in_rows kind old → memory_of v ≡ in_rows kind new →
      (new ≡ old → v ≡ w) → AreValid old new → tells (edited_rows kind (own_calls kind) (rows_reply kind) old new) → Edits tells w v
  edits_rows kind old new is now same valid told = subst (EditsIn tells w v) (sym is) (new, now, same, valid, told)

  pub edits_holder : (e : ElemKind) (old new : Holder (ElementOf e)) → memory_of w ≡ in_holder e old → memory_of v ≡ in_holder e new →
      (new ≡ old → v ≡ w) → tells (edited_holder (tools_of e) old new) → Edits tells w v
  edits_holder e old new is now same told = subst (EditsIn tells w v) (sym is) (new, now, same, told)

  pub edits_queue : (number : ℕ) (old new : AnyQueue) → memory_of w ≡ in_queue number (shared old) → memory_of v ≡ in_queue number (shared new) →
      (new ≡ old → v ≡ w) → tells (edited_queue old new) → Edits tells w v
  edits_queue number old new is now same told = subst (EditsIn tells w v) (sym is) (old, new, refl, now, same, told)

-- A call

pub all_agree_there : (m : InMemory) (args : Arguments) → AllAgreeIn m args → AllAgreeThere args (visited m)
all_agree_there (in_rows kind l) args agree = agree
all_agree_there (in_holder e h) args agree = tt
all_agree_there (in_queue number q) args agree = tt

module _ (w v : Object) (operation : Operation) (args : replies.Arguments) (result : Result Reply Fault) where
  called_in : (m : InMemory) → memory_of w ≡ m → EditsIn (TellsCall operation args result) w v m → Called (reply_of (held_of w) None operation args) w v result
  called_in (in_rows kind l) is (m, now, same, valid, told) = rows.own_called kind l m w v operation args result is now same valid told
  called_in (in_holder e h) is (g, now, same, told) = holders.own_called e h g w v operation args result is now same told
  called_in (in_queue number q) is (p, r, shares, now, same, told) =
      queues.own_called number p r w v operation args result (is ∙ ap (in_queue number) shares) now same told

  pub edit_called : Edits (TellsCall operation args result) w v → Called (reply_of (held_of w) None operation args) w v result
  edit_called edits = called_in (memory_of w) refl edits

  lasts_in : (m : InMemory) → memory_of w ≡ m → EditsIn (TellsCall operation args result) w v m → Lasts w v
  lasts_in (in_rows kind l) is (m, now, same, valid, told) = rows.own_lasts kind l m w v operation args result is now valid told
  lasts_in (in_holder e h) is (g, now, same, told) = holders.own_lasts e h g w v operation args result is now told
  lasts_in (in_queue number q) is (p, r, shares, now, same, told) = queues.lasts number q (shared r) w v is now

  pub edit_lasts : Edits (TellsCall operation args result) w v → Lasts w v
  edit_lasts edits = lasts_in (memory_of w) refl edits

-- A write

module _ (w v : Object) (at : Cursor) (value : Value) (result : Result Done Fault) where
  wrote_in : (m : InMemory) → memory_of w ≡ m → ObjectAgrees w at → EditsIn (TellsWrite at value result) w v m →
      WritesTo (write (held_of w) (plain_mark at) value) w v result
  wrote_in (in_rows kind l) is agrees (m, now, same, valid, told) = rows.wrote_to kind l m w v at value result is now same agrees told
  wrote_in (in_holder e h) is agrees (g, now, same, told) = holders.wrote_to e h g w v at value result is now same told
  wrote_in (in_queue number q) is agrees (p, r, shares, now, same, told) =
      queues.wrote_to number p r w v at value result (is ∙ ap (in_queue number) shares) same told

  pub edit_wrote : ObjectAgrees w at → Edits (TellsWrite at value result) w v → WritesTo (write (held_of w) (plain_mark at) value) w v result
  edit_wrote agrees edits = wrote_in (memory_of w) refl agrees edits

  wrote_lasts_in : (m : InMemory) → memory_of w ≡ m → EditsIn (TellsWrite at value result) w v m → Lasts w v
  wrote_lasts_in (in_rows kind l) is (m, now, same, valid, told) =
      rows.wrote_lasts kind l m w v (mark_in kind l.object at) value result is now valid told
  wrote_lasts_in (in_holder e h) is (g, now, same, told) = holders.wrote_lasts e h g w v value result is now told
  wrote_lasts_in (in_queue number q) is (p, r, shares, now, same, told) = queues.lasts number q (shared r) w v is now

  pub edit_wrote_lasts : Edits (TellsWrite at value result) w v → Lasts w v
  edit_wrote_lasts edits = wrote_lasts_in (memory_of w) refl edits
