-- A call that fails leaves its container, slots and all.
use Rattle.std.proofs.Common.{◌≡◌, ℕ, sym, ap, subst, ◌∙◌, arith}
use Rattle.std.specs.Prelude.{Result, Ok, Err}
use Rattle.ac_base.specs.declared.fault.Fault.{Fault}
use Rattle.ac_base.specs.declared.fault.Fault.TheVariants as fault
use Rattle.ac_model.specs.Objects.{Object, length_of}
use Rattle.ac_model.specs.Calls.{Call, Changing, Done, Same}
use Rattle.ac_model.specs.Containers.{Container, slots_of}
use Rattle.ac_model.specs.Forms.{Does}
use Rattle.ac_calls.specs.Replies as replies
use Rattle.ac_calls.specs.declared.reply.Reply.{Reply}
use Rattle.ac_calls.specs.RowWrites.{WritesIn}
use Rattle.ac_calls.specs.Replied.{Replied, told}

module _ {V : Type 0} where
  kept : (old new : Container V) → new.object ≡ old.object → slots_of new ≡ slots_of old → new ≡ old
  kept old new same slots =
      let spare : new.spare ≡ old.spare =
      let lengths : length_of new.object ≡ length_of old.object = ap (λ o. length_of o) same in omega arith in
      λ i. record { object = same i; spare = spare i }

  -- a call that failed, as the reply that it gives. What it was given is what the meaning has
  pub failed : {T X A : Type 0} (Answers : X → A → Type 0) (call : T → Call (Object ℕ V) A) (given meant : T) (r : replies.Reply (Object ℕ V))
      (old new : Container V) (f : Fault) (reply : Reply) (result : Result Done Fault) → given ≡ meant → r.reason ≡ (call meant).reason
      → result ≡ Err f → Changing Answers (call given) old.object new.object (Err f) → slots_of new ≡ slots_of old
      → Replied r old new (told reply result)
  failed Answers call given meant r old new (fault.Raised reason) reply result is reasons exit h slots =
      subst (λ x. Replied r old new (told reply x)) (sym exit) (reasons ∙ ap (λ t. (call t).reason) (sym is) ∙ h.0, kept old new h.1 slots)
  failed Answers call given meant r old new fault.NoMemory reply result is reasons exit h slots =
      subst (λ x. Replied r old new (told reply x)) (sym exit) (kept old new h.2 slots)

  -- a call that writes, whose slots stay
  pub writes_in : (call : Object ℕ V → Call (Object ℕ V) Done) (old new : Container V) (result : Result Done Fault) → slots_of new ≡ slots_of old
      → Does Same call old new result → WritesIn call old new result
  writes_in call old new (Ok done) slots h = (h.0, h.1)
  writes_in call old new (Err (fault.Raised reason)) slots h = (h.0, kept old new h.1 slots)
  writes_in call old new (Err fault.NoMemory) slots h = kept old new h.2 slots
