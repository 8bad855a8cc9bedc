-- What an operation of another kind's objects comes to on a tree.
use Rattle.std.proofs.Common.{◌≡◌, ℕ, refl}
use Rattle.ac_model.specs.Objects.{Object}
use Rattle.ac_model.specs.Rows.{Node}
use Rattle.ac_syntax.specs.declared.operation.Operation.{Operation}
use Rattle.ac_syntax.specs.declared.operation.Operation.TheVariants as operation
use Rattle.ac_syntax.specs.declared.operation.CommonCall.{CommonCall}
use Rattle.ac_syntax.specs.declared.operation.TreeCall.{TreeCall}
use Rattle.ac_syntax.specs.declared.operation.TreeChangeCall.{TreeChangeCall}
use Rattle.ac_calls.specs.Elements.{Tools}
use Rattle.ac_calls.specs.Answers.{answers_ok}
use Rattle.ac_calls.specs.Replies as replies
use Rattle.ac_calls.specs.Replies.{Source, tells}
use Rattle.ac_calls.specs.TreeReplies.{tree_reply}

module _ {T : Type 0} (tools : Tools T) (o : Object ℕ (Node T)) (source : Source (Object ℕ (Node T))) (args : replies.Arguments) where
  pub no_tree_call : (op : Operation) → ((c : CommonCall) → op ≡ operation.Common c → ⊥) → ((c : TreeCall) → op ≡ operation.Tree c → ⊥)
      → ((c : TreeChangeCall) → op ≡ operation.TreeChange c → ⊥) → tree_reply tools o source args op ≡ tells o answers_ok
  no_tree_call (operation.Common c) common look change = absurd (common c refl)
  no_tree_call (operation.Sequence c) common look change = refl
  no_tree_call (operation.Capacity c) common look change = refl
  no_tree_call (operation.Vector c) common look change = refl
  no_tree_call (operation.List c) common look change = refl
  no_tree_call (operation.Walk c) common look change = refl
  no_tree_call (operation.Map c) common look change = refl
  no_tree_call (operation.Set c) common look change = refl
  no_tree_call (operation.SetPair c) common look change = refl
  no_tree_call (operation.Keyed c) common look change = refl
  no_tree_call (operation.Ordered c) common look change = refl
  no_tree_call (operation.OrderedMap c) common look change = refl
  no_tree_call (operation.OrderedSet c) common look change = refl
  no_tree_call (operation.Tree c) common look change = absurd (look c refl)
  no_tree_call (operation.TreeChange c) common look change = absurd (change c refl)
  no_tree_call (operation.Holder c) common look change = refl
  no_tree_call (operation.Queue c) common look change = refl
