-- An operation that a list or a vector hasn't.
use Rattle.std.proofs.Common.{◌≡◌, ℕ, refl}
use Rattle.ac_model.specs.Objects.{Object}
use Rattle.ac_syntax.specs.declared.operation.Operation.{Operation}
use Rattle.ac_syntax.specs.declared.operation.Operation.TheVariants as operation
use Rattle.ac_syntax.specs.declared.operation.CommonCall.{CommonCall}
use Rattle.ac_syntax.specs.declared.operation.SequenceCall.{SequenceCall}
use Rattle.ac_syntax.specs.declared.operation.CapacityCall.{CapacityCall}
use Rattle.ac_syntax.specs.declared.operation.VectorCall.{VectorCall}
use Rattle.ac_syntax.specs.declared.operation.ListCall.{ListCall}
use Rattle.ac_calls.specs.Elements.{Tools}
use Rattle.ac_calls.specs.Answers.{answers_ok}
use Rattle.ac_calls.specs.Replies as replies
use Rattle.ac_calls.specs.Replies.{Source, tells}
use Rattle.ac_calls.specs.Holdings.{of_list, of_vector, reply_by}

module _ {T : Type 0} (tools : Tools T) (o : Object ℕ T) (source : Source (Object ℕ T)) (args : replies.Arguments) where
  pub none_of_list : (op : Operation) → ((c : CommonCall) → op ≡ operation.Common c → ⊥) → ((c : SequenceCall) → op ≡ operation.Sequence c → ⊥)
      → ((c : ListCall) → op ≡ operation.List c → ⊥) → reply_by tools o source args of_list op ≡ tells o answers_ok
  none_of_list (operation.Common c) common sequence list = absurd (common c refl)
  none_of_list (operation.Sequence c) common sequence list = absurd (sequence c refl)
  none_of_list (operation.List c) common sequence list = absurd (list c refl)
  none_of_list _ common sequence list = refl

  pub none_of_vector : (op : Operation) → ((c : CommonCall) → op ≡ operation.Common c → ⊥) → ((c : SequenceCall) → op ≡ operation.Sequence c → ⊥)
      → ((c : CapacityCall) → op ≡ operation.Capacity c → ⊥) → ((c : VectorCall) → op ≡ operation.Vector c → ⊥)
      → reply_by tools o source args of_vector op ≡ tells o answers_ok
  none_of_vector (operation.Common c) common sequence capacity vector = absurd (common c refl)
  none_of_vector (operation.Sequence c) common sequence capacity vector = absurd (sequence c refl)
  none_of_vector (operation.Capacity c) common sequence capacity vector = absurd (capacity c refl)
  none_of_vector (operation.Vector c) common sequence capacity vector = absurd (vector c refl)
  none_of_vector _ common sequence capacity vector = refl
