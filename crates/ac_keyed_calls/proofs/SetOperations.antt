-- What an operation comes to on a set.
use Rattle.std.proofs.Common.{◌≡◌, ℕ, refl}
use Rattle.ac_model.specs.Keyed.{Order}
use Rattle.ac_model.specs.Objects.{Object}
use Rattle.ac_syntax.specs.declared.operation.CapacityCall.{CapacityCall}
use Rattle.ac_syntax.specs.declared.operation.CommonCall.{CommonCall}
use Rattle.ac_syntax.specs.declared.operation.Operation.{Operation}
use Rattle.ac_syntax.specs.declared.operation.Operation.TheVariants as operation
use Rattle.ac_syntax.specs.declared.operation.OrderedCall.{OrderedCall}
use Rattle.ac_syntax.specs.declared.operation.OrderedSetCall.{OrderedSetCall}
use Rattle.ac_syntax.specs.declared.operation.SetCall.{SetCall}
use Rattle.ac_syntax.specs.declared.operation.SetPairCall.{SetPairCall}
use Rattle.ac_syntax.specs.declared.operation.WalkCall.{WalkCall}
use Rattle.ac_calls.specs.Answers.{answers_ok}
use Rattle.ac_calls.specs.Elements.{Tools}
use Rattle.ac_calls.specs.KeyedReplies.{KeyedKind, of_hashed, of_ordered}
use Rattle.ac_calls.specs.Replies.{Arguments, Source, itself, tells}
use Rattle.ac_calls.specs.SetReplies.{set_reply_by}

module _ {T : Type 0} (tools : Tools T) (order : Order T) where
  -- an operation that a hashed set hasn't
  pub none_of_hashed : (op : Operation) (o : Object ℕ T) (source : Source (Object ℕ T)) (args : Arguments)
      → ((c : CommonCall) → op ≡ operation.Common c → ⊥) → ((c : WalkCall) → op ≡ operation.Walk c → ⊥) → ((c : SetCall) → op ≡ operation.Set c → ⊥)
      → ((c : SetPairCall) → op ≡ operation.SetPair c → ⊥) → ((c : CapacityCall) → op ≡ operation.Capacity c → ⊥)
      → set_reply_by tools o source args order of_hashed op ≡ tells o answers_ok
  none_of_hashed (operation.Common c) o source args common walk set pair capacity = absurd (common c refl)
  none_of_hashed (operation.Walk c) o source args common walk set pair capacity = absurd (walk c refl)
  none_of_hashed (operation.Set c) o source args common walk set pair capacity = absurd (set c refl)
  none_of_hashed (operation.SetPair c) o source args common walk set pair capacity = absurd (pair c refl)
  none_of_hashed (operation.Capacity c) o source args common walk set pair capacity = absurd (capacity c refl)
  none_of_hashed _ o source args common walk set pair capacity = refl

  -- one that an ordered set hasn't
  pub none_of_ordered : (op : Operation) (o : Object ℕ T) (source : Source (Object ℕ T)) (args : Arguments)
      → ((c : CommonCall) → op ≡ operation.Common c → ⊥) → ((c : WalkCall) → op ≡ operation.Walk c → ⊥) → ((c : SetCall) → op ≡ operation.Set c → ⊥)
      → ((c : SetPairCall) → op ≡ operation.SetPair c → ⊥) → ((c : OrderedCall) → op ≡ operation.Ordered c → ⊥)
      → ((c : OrderedSetCall) → op ≡ operation.OrderedSet c → ⊥) → set_reply_by tools o source args order of_ordered op ≡ tells o answers_ok
  none_of_ordered (operation.Common c) o source args common walk set pair ordered ordered_set = absurd (common c refl)
  none_of_ordered (operation.Walk c) o source args common walk set pair ordered ordered_set = absurd (walk c refl)
  none_of_ordered (operation.Set c) o source args common walk set pair ordered ordered_set = absurd (set c refl)
  none_of_ordered (operation.SetPair c) o source args common walk set pair ordered ordered_set = absurd (pair c refl)
  none_of_ordered (operation.Ordered c) o source args common walk set pair ordered ordered_set = absurd (ordered c refl)
  none_of_ordered (operation.OrderedSet c) o source args common walk set pair ordered ordered_set = absurd (ordered_set c refl)
  none_of_ordered _ o source args common walk set pair ordered ordered_set = refl

  -- but those of all kinds of rows and of two sets, none has a source
  pub no_source : (which : KeyedKind) (op : Operation) (o : Object ℕ T) (source : Source (Object ℕ T)) (args : Arguments)
      → ((c : CommonCall) → op ≡ operation.Common c → ⊥) → ((c : SetPairCall) → op ≡ operation.SetPair c → ⊥)
      → set_reply_by tools o itself args order which op ≡ set_reply_by tools o source args order which op
  no_source which (operation.Common c) o source args common pair = absurd (common c refl)
  no_source which (operation.SetPair c) o source args common pair = absurd (pair c refl)
  no_source of_hashed _ o source args common pair = refl
  no_source of_ordered _ o source args common pair = refl
