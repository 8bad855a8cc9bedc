-- What replies read by the letters: calls on trees, holders and queues.
use Rattle.std.proofs.Common.{◌≡◌, ◌==◌, ℕ, Bool, true, false, refl, ap, Option, Some, None, if◌then◌else◌}
use Rattle.ac_model.specs.Holders as holder
use Rattle.ac_model.specs.Holders.{Holder}
use Rattle.ac_model.specs.Letters.{Mark}
use Rattle.ac_model.specs.Objects.{Object}
use Rattle.ac_model.specs.Queues.{TaskQueue}
use Rattle.ac_model.specs.Rows.{Node}
use Rattle.ac_model.specs.Trees as tree
use Rattle.ac_syntax.specs.declared.kind.ElemKind.{ElemKind}
use Rattle.ac_syntax.specs.declared.kind.ElemKind.TheVariants.{Integer, Str}
use Rattle.ac_syntax.specs.declared.operation.Operation.{Operation}
use Rattle.ac_syntax.specs.declared.operation.Operation.TheVariants as operation
use Rattle.ac_syntax.specs.declared.operation.HolderCall.{HolderCall}
use Rattle.ac_syntax.specs.declared.operation.HolderCall.TheVariants as holder_call
use Rattle.ac_syntax.specs.declared.operation.QueueCall.{QueueCall}
use Rattle.ac_syntax.specs.declared.operation.QueueCall.TheVariants as queue_call
use Rattle.ac_syntax.specs.declared.operation.TreeCall.{TreeCall}
use Rattle.ac_syntax.specs.declared.operation.TreeCall.TheVariants as tree_call
use Rattle.ac_syntax.specs.declared.operation.TreeChangeCall.{TreeChangeCall}
use Rattle.ac_syntax.specs.declared.operation.TreeChangeCall.TheVariants as tree_change_call
use Rattle.ac_calls.specs.Answers.{answers_truth}
use Rattle.ac_calls.specs.Elements.{ElementOf, tools_of}
use Rattle.ac_calls.specs.HolderReplies.{holder_source, holder_alone_reply, holder_reply}
use Rattle.ac_calls.specs.QueueReplies.{queue_alone_reply, queue_reply}
use Rattle.ac_calls.specs.Replies.{Arguments, itself, another, by_source, changes_ok, changes_both, tells}
use Rattle.ac_calls.specs.TreeReplies.{tree_own, tree_look_reply, tree_change_reply, tree_reply}
use Rattle.ac_meaning.specs.ReadsByLetter.{arguments_read, source_read}
use Rattle.ac_meaning.proofs.ReadParts.{Reads, reads_same, source_reads}
use Rattle.ac_meaning.proofs.SequenceReads.{common_reads}
use Rattle.ac_meaning.proofs.TableLetters.{tree_letters, tree_change_letters, holder_letters, queue_letters, letters_of}

-- Trees

abbrev TreeRows : ElemKind → Type 0
TreeRows e = Object ℕ (Node (ElementOf e))

look_reads : (e : ElemKind) (see : TreeRows e → Mark → Mark) (o : TreeRows e) (given : Option (TreeRows e)) (args : Arguments) (c : TreeCall) →
    Reads e e (tree_letters c) see o given args (λ source a. tree_look_reply (tools_of e) o a c)
look_reads e see o given args tree_call.NodeCount = refl
look_reads Integer see o given args c = refl
look_reads Str see o given args c = refl

change_reads : (e : ElemKind) (see : TreeRows e → Mark → Mark) (o : TreeRows e) (given : Option (TreeRows e)) (args : Arguments) (c : TreeChangeCall) →
    Reads e e (tree_change_letters c) see o given args (λ source a. tree_change_reply (tools_of e) o source a c)
change_reads e see o given args tree_change_call.CopySubtree = source_reads see o given _ _ _ _ _ (λ s. refl)
change_reads e see o given args tree_change_call.SpliceSubtreeFrom = source_reads see o given _ _ _ _ _ (λ s. refl)
change_reads e see o given args tree_change_call.SpliceChildrenFrom = source_reads see o given _ _ _ _ _ (λ s. refl)
change_reads Integer see o given args c = refl
change_reads Str see o given args c = refl

pub tree_reads : (e : ElemKind) (see : TreeRows e → Mark → Mark) (o : TreeRows e) (given : Option (TreeRows e)) (args : Arguments) (op : Operation) →
    Reads e e (letters_of op) see o given args (λ source a. tree_reply (tools_of e) o source a op)
tree_reads e see o given args (operation.Common c) =
    common_reads e e see o given args (tree_own (tools_of e) o) (λ at v. ap (tree.replace_element_call o at) (reads_same e v)) c
tree_reads e see o given args (operation.Tree c) = look_reads e see o given args c
tree_reads e see o given args (operation.TreeChange c) = change_reads e see o given args c
tree_reads e see o given args op = refl

-- Holders, whose source sees the arguments as they are

by_holder : {T R : Type 0} (is_own : Bool) (s : Holder T) (a b : Arguments) (own : R) (two : Holder T → R) →
    by_source (if is_own then itself else another s a) own (λ s _. two s) ≡ by_source (if is_own then itself else another s b) own (λ s _. two s)
by_holder true s a b own two = refl
by_holder false s a b own two = refl

holder_source_reads : {T R : Type 0} (h : Holder T) (given : Option (Holder T)) (a b : Arguments) (own : R) (two : Holder T → R) →
    by_source (holder_source h given a) own (λ s _. two s) ≡ by_source (holder_source h given b) own (λ s _. two s)
holder_source_reads h None a b own two = refl
holder_source_reads h (Some s) a b own two = by_holder (h.number == s.number) s a b own two

module _ (e : ElemKind) (h : Holder (ElementOf e)) (given : Option (Holder (ElementOf e))) (args : Arguments) where
  holder_alone_reads : (c : HolderCall) →
      let read = arguments_read e e (holder_letters c) args in
      holder_alone_reply (tools_of e) h (holder_source h given args) args c
      ≡ holder_alone_reply (tools_of e) h (holder_source h (source_read (holder_letters c) given) read) read c
  holder_alone_reads holder_call.ReplaceElement =
      ap (λ x. changes_ok (holder.replace_element_call (tools_of e).size h x)) (reads_same e args.first.value)
  holder_alone_reads holder_call.Assign = holder_source_reads h given _ _ _ (λ s. changes_ok (holder.assign_call (tools_of e).size h s))
  holder_alone_reads holder_call.MoveFrom = holder_source_reads h given _ _ _ (λ s. changes_both (holder.move_from_call (tools_of e).size h s))
  holder_alone_reads holder_call.Swap = holder_source_reads h given _ _ _ (λ s. changes_both (holder.swap_call (tools_of e).size h s))
  holder_alone_reads holder_call.Equal =
      ap (λ s. tells h (answers_truth (holder.equal_call (tools_of e).same h s))) (holder_source_reads h given _ _ h (λ s. s))
  holder_alone_reads c = refl

  pub holder_reads : (op : Operation) →
      let read = arguments_read e e (letters_of op) args in
      holder_reply (tools_of e) h (holder_source h given args) args op
      ≡ holder_reply (tools_of e) h (holder_source h (source_read (letters_of op) given) read) read op
  holder_reads (operation.Holder c) = holder_alone_reads c
  holder_reads op = refl

-- Queues

module _ (q : TaskQueue) (args : Arguments) where
  queue_alone_reads : (c : QueueCall) → queue_alone_reply q args c ≡ queue_alone_reply q (arguments_read Integer Integer (queue_letters c) args) c
  queue_alone_reads queue_call.Enqueue = refl
  queue_alone_reads c = refl

  pub queue_reads : (op : Operation) → queue_reply q args op ≡ queue_reply q (arguments_read Integer Integer (letters_of op) args) op
  queue_reads (operation.Queue c) = queue_alone_reads c
  queue_reads op = refl
