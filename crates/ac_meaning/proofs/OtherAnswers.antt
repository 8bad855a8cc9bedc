-- What calls on trees, holders and queues answer is what the table says.
use Rattle.std.proofs.Common.{◌≡◌, ℕ, ℤ, true, refl, Option, Some, None}
use Rattle.ac_model.specs.Holders as holder
use Rattle.ac_model.specs.Holders.{Holder}
use Rattle.ac_model.specs.Letters.{Mark, name_of}
use Rattle.ac_model.specs.Objects.{Object}
use Rattle.ac_model.specs.Queues.{Discipline, by_arrival, by_priority, dequeue_call, high_only_call, TaskQueue}
use Rattle.ac_model.specs.Rows.{Node, value_at}
use Rattle.ac_model.specs.Trees as tree
use Rattle.ac_syntax.specs.declared.kind.ElemKind.{ElemKind}
use Rattle.ac_syntax.specs.declared.operation.Operation.{Operation}
use Rattle.ac_syntax.specs.declared.operation.Operation.TheVariants as operation
use Rattle.ac_syntax.specs.declared.operation.HolderCall.{HolderCall}
use Rattle.ac_syntax.specs.declared.operation.HolderCall.TheVariants as holder_call
use Rattle.ac_syntax.specs.declared.operation.QueueCall.{QueueCall}
use Rattle.ac_syntax.specs.declared.operation.QueueCall.TheVariants as queue_call
use Rattle.ac_syntax.specs.declared.operation.TreeCall.{TreeCall}
use Rattle.ac_syntax.specs.declared.operation.TreeCall.TheVariants as tree_call
use Rattle.ac_syntax.specs.declared.operation.TreeChangeCall.{TreeChangeCall}
use Rattle.ac_syntax.specs.declared.operation.TreeChangeCall.TheVariants as tree_change_call
use Rattle.ac_rules.specs.declared.rows.Answer.TheVariants as told
use Rattle.ac_rules.proofs.Apart.{neither}
use Rattle.ac_calls.specs.Elements.{Tools}
use Rattle.ac_calls.specs.HolderReplies.{holder_alone_reply, holder_reply}
use Rattle.ac_calls.specs.QueueReplies.{item_answer, high_reply, queue_alone_reply, queue_reply}
use Rattle.ac_calls.specs.Replies.{Arguments, Source}
use Rattle.ac_calls.specs.TreeReplies.{tree_own, tree_look_reply, tree_change_reply, tree_reply}
use Rattle.ac_meaning.specs.Suits.{is_own_of_tree, is_own_of_holder, is_own_of_line, is_own_of_queue}
use Rattle.ac_meaning.specs.ValueTypes.{IsAnswer, RepliesAs}
use Rattle.ac_meaning.proofs.AnswerParts.{by_source_as, Gives, Makes, gives, element_looked, some_mapped, some_viewed, some_held}
use Rattle.ac_meaning.proofs.SequenceAnswers.{common_as}
use Rattle.ac_meaning.proofs.TableAnswers.{tree_told, holder_told, queue_told, told_of}

-- Trees

module _ {T : Type 0} (key element : ElemKind) (tools : Tools T) (makes : Makes element tools) (o : Object ℕ (Node T))
    (source : Source (Object ℕ (Node T))) (args : Arguments) where
  tree_element : (c : Mark) → Gives element ((tree_own tools o).element c)
  tree_element c =
      gives element tools makes (tree.element_call o c)
      (λ none. some_mapped (λ (n : Node T). n.element) (value_at o.rows (name_of c)) (some_viewed o c none))

  look_as : (c : TreeCall) → RepliesAs key element (tree_told c) (tree_look_reply tools o args c)
  look_as tree_call.NodeCount = record { answer = λ none. refl }
  look_as tree_call.Root = record { answer = λ none. tt }
  look_as tree_call.IsRoot = record { answer = λ none. tt }
  look_as tree_call.IsLeaf = record { answer = λ none. tt }
  look_as tree_call.Depth = record { answer = λ none. refl }
  look_as tree_call.SubtreeNodeCount = record { answer = λ none. refl }
  look_as tree_call.ChildCount = record { answer = λ none. refl }
  look_as tree_call.Parent = record { answer = λ none. tt }
  look_as tree_call.NextSibling = record { answer = λ none. tt }
  look_as tree_call.PreviousSibling = record { answer = λ none. tt }
  look_as tree_call.FirstChild = record { answer = λ none. tt }
  look_as tree_call.LastChild = record { answer = λ none. tt }
  look_as tree_call.Find = record { answer = λ none. tt }
  look_as tree_call.Contains = record { answer = λ none. tt }
  look_as tree_call.FindInSubtree = record { answer = λ none. tt }
  look_as tree_call.AncestorFind = record { answer = λ none. tt }

  change_as : (c : TreeChangeCall) → RepliesAs key element told.Done (tree_change_reply tools o source args c)
  change_as tree_change_call.InsertChild = record { answer = λ none. tt }
  change_as tree_change_call.InsertChildPos = record { answer = λ none. tt }
  change_as tree_change_call.AppendChild = record { answer = λ none. tt }
  change_as tree_change_call.PrependChild = record { answer = λ none. tt }
  change_as tree_change_call.DeleteLeaf = record { answer = λ none. tt }
  change_as tree_change_call.DeleteSubtree = record { answer = λ none. tt }
  change_as tree_change_call.DeleteChildren = record { answer = λ none. tt }
  change_as tree_change_call.Swap = record { answer = λ none. tt }
  change_as tree_change_call.CopySubtree =
      by_source_as key element told.Done source _ _ (record { answer = λ none. tt }) (λ s seen. record { answer = λ none. tt })
  change_as tree_change_call.SpliceSubtreeFrom =
      by_source_as key element told.Done source _ _ (record { answer = λ none. tt }) (λ s seen. record { answer = λ none. tt })
  change_as tree_change_call.SpliceSubtree = record { answer = λ none. tt }
  change_as tree_change_call.SpliceChildrenFrom =
      by_source_as key element told.Done source _ _ (record { answer = λ none. tt }) (λ s seen. record { answer = λ none. tt })
  change_as tree_change_call.SpliceChildren = record { answer = λ none. tt }

  pub tree_as : (op : Operation) → is_own_of_tree op ≡ true → RepliesAs key element (told_of op) (tree_reply tools o source args op)
  tree_as (operation.Common c) own = common_as key element o source args (tree_own tools o) tree_element c
  tree_as (operation.Tree c) own = look_as c
  tree_as (operation.TreeChange c) own = change_as c
  tree_as _ own = neither own

-- Holders

module _ {T : Type 0} (key element : ElemKind) (tools : Tools T) (makes : Makes element tools) (h : Holder T) (source : Source (Holder T))
    (args : Arguments) where
  holder_alone_as : (c : HolderCall) → RepliesAs key element (holder_told c) (holder_alone_reply tools h source args c)
  holder_alone_as holder_call.IsEmpty = record { answer = λ none. tt }
  holder_alone_as holder_call.Element = element_looked key element h tools makes (holder.element_call h) (some_held h.element)
  holder_alone_as holder_call.ReplaceElement = record { answer = λ none. tt }
  holder_alone_as holder_call.Clear = record { answer = λ none. tt }
  holder_alone_as holder_call.Assign =
      by_source_as key element told.Done source _ _ (record { answer = λ none. tt }) (λ s seen. record { answer = λ none. tt })
  holder_alone_as holder_call.MoveFrom =
      by_source_as key element told.Done source _ _ (record { answer = λ none. tt }) (λ s seen. record { answer = λ none. tt })
  holder_alone_as holder_call.Swap =
      by_source_as key element told.Done source _ _ (record { answer = λ none. tt }) (λ s seen. record { answer = λ none. tt })
  holder_alone_as holder_call.Equal = record { answer = λ none. tt }
  holder_alone_as holder_call.Print = record { answer = λ none. tt }

  pub holder_as : (op : Operation) → is_own_of_holder op ≡ true → RepliesAs key element (told_of op) (holder_reply tools h source args op)
  holder_as (operation.Holder c) own = holder_alone_as c
  holder_as _ own = neither own

-- Queues

item_as : (key element : ElemKind) (item : Option ℤ) → IsAnswer key element told.Integer (item_answer item)
item_as key element None = refl
item_as key element (Some n) = refl

high_as : (key element : ElemKind) (d : Discipline) (q : TaskQueue) (at_least : ℤ) → is_own_of_line d queue_call.DequeueOnlyHighPriority ≡ true →
    RepliesAs key element told.Integer (high_reply d q at_least)
high_as key element by_arrival q at_least own = neither own
high_as key element by_priority q at_least own = record { answer = λ none. item_as key element (high_only_call q.queue at_least).answer }

module _ (key element : ElemKind) (q : TaskQueue) (args : Arguments) where
  queue_alone_as : (c : QueueCall) → is_own_of_line q.discipline c ≡ true → RepliesAs key element (queue_told c) (queue_alone_reply q args c)
  queue_alone_as queue_call.Enqueue own = record { answer = λ none. tt }
  queue_alone_as queue_call.Dequeue own = record { answer = λ none. item_as key element (dequeue_call q.queue).answer }
  queue_alone_as queue_call.CurrentUse own = record { answer = λ none. refl }
  queue_alone_as queue_call.PeakUse own = record { answer = λ none. refl }
  queue_alone_as queue_call.Print own = record { answer = λ none. tt }
  queue_alone_as queue_call.DequeueOnlyHighPriority own = high_as key element q.discipline q args.first.count own

  pub queue_as : (op : Operation) → is_own_of_queue q.discipline op ≡ true → RepliesAs key element (told_of op) (queue_reply q args op)
  queue_as (operation.Queue c) own = queue_alone_as c own
  queue_as _ own = neither own
