-- Blocks that view an object, by cases of the head and of the key.
use Rattle.std.proofs.Common.{◌≡◌, refl, sym, ap, subst, ◌∙◌, Option, Some, None, Result, Ok, Err, IfOk, IsErrAnd}
use Rattle.std.specs.Prelude.{⊤}
use Rattle.ac_base.specs.declared.fault.Fault.{Fault}
use Rattle.ac_base.specs.declared.fault.Fault.TheVariants.{Raised}
use Rattle.ac_base.specs.declared.reason.Reason.{Reason}
use Rattle.ac_model.specs.Forms.{allowed}
use Rattle.ac_calls.specs.Holdings.{Held}
use Rattle.ac_meaning.specs.Environment.{State, object_at}
use Rattle.ac_objects.specs.declared.blocks.OpenUpdate.{OpenUpdate}
use Rattle.ac_objects.specs.declared.blocks.ViewHead.{ViewHead}
use Rattle.ac_objects.specs.declared.blocks.ViewKey.{ViewKey}
use Rattle.ac_objects.specs.declared.blocks.ViewKey.TheVariants as keys
use Rattle.ac_objects.specs.Blocks.{holding, guards_of_view_key}
use Rattle.ac_objects.specs.KeyUpdates.{UpdateEnds}
use Rattle.ac_objects.specs.ViewHeads.{viewed_object, head_refusal, guards_of_head, with_viewed, fault_reason, BlockEnds}

-- What is told of a head is told of the same head as a variant

module _ (old new : State) (result : Result ViewKey Fault) (h : Held) where
  abbrev Opened : ViewHead → Type 0
  Opened head =
      object_at old (viewed_object head) ≡ Some h →
      IfOk result (λ key. (head_refusal head old h ≡ None) × (guards_of_view_key key ≡ guards_of_head head h)
      × (new ≡ with_viewed head old h (holding (guards_of_head head h) old)))

  pub opened_as : (head other : ViewHead) → head ≡ other → Opened other → Opened head
  opened_as head other is opened = subst Opened (sym is) opened

  abbrev Refused : Reason → ViewHead → Type 0
  Refused reason head = object_at old (viewed_object head) ≡ Some h → result ≡ Err (Raised reason) → head_refusal head old h ≡ Some reason

  pub refused_as : (head other : ViewHead) (reason : Reason) → head ≡ other → Refused reason other → Refused reason head
  refused_as head other reason is refused = subst (Refused reason) (sym is) refused

-- A fault that is handed on

pub no_key : {T E : Type 0} (P : T → Type 0) (Q : E → Type 0) (r : Result T E) → IsErrAnd r Q → IfOk r P
no_key P Q (Ok x) exit = absurd exit
no_key P Q (Err e) exit = tt

pub fault_is : {T : Type 0} (result : Result T Fault) (fault : Fault) (reason : Reason) → IsErrAnd result (λ y. y ≡ fault) → result ≡ Err (Raised reason) →
    fault ≡ Raised reason
fault_is (Ok x) fault reason exit is = absurd exit
fault_is (Err y) fault reason exit is = let same : y ≡ Raised reason = cc in sym exit ∙ same

-- The end of an update

told_again : (reason : Option Reason) → fault_reason (allowed reason) ≡ reason
told_again None = refl
told_again (Some reason) = refl

pub update_ended : (key : ViewKey) (update : OpenUpdate) (old new : State) (reason : Option Reason) (result : Result ⊤ Fault) → key ≡ keys.Update update →
    result ≡ allowed reason → UpdateEnds update old new reason → BlockEnds key old new result
update_ended key update old new reason result is told ends =
    subst (λ k. BlockEnds k old new result) (sym is) (subst (UpdateEnds update old new) (sym (ap fault_reason told ∙ told_again reason)) ends)
