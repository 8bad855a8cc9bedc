-- A call that puts a key and an element, which it was handed as values of the script.
use Rattle.std.proofs.Common.{◌≡◌, ℕ, Bool, refl, sym, ap, subst, Some, None, Ok}
use Rattle.ac_base.specs.declared.cursor.Cursor.{Cursor}
use Rattle.ac_model.specs.Calls.{Call, Changing, Done, Same}
use Rattle.ac_model.specs.Containers.{Container}
use Rattle.ac_model.specs.Keyed.{Inserted}
use Rattle.ac_model.specs.Objects.{Object}
use Rattle.ac_calls.specs.Answers.{answers_ok, answers_truth}
use Rattle.ac_calls.specs.KeyedReplies.{changes_inserting}
use Rattle.ac_calls.specs.Replies.{changes_ok, placed}
use Rattle.ac_calls.specs.declared.reply.Reply.{Reply}
use Rattle.ac_calls.specs.declared.reply.Said.TheVariants as said
use Rattle.ac_calls.specs.Replied.{IsMade, Says, SetsVariable}
use Rattle.ac_calls.specs.RowCalls.{PlacesOwn}

module _ {V : Type 0} where
  -- a call that answers nothing, and was made
  done : (c : Call (Object ℕ V) Done) (old new : Container V) (made : Reply) {x : Done} → Changing Same c old.object new.object (Ok x)
      → made.said ≡ said.Done → made.variable ≡ None → IsMade (changes_ok c) old new made
  done c old new made h says variable = record {
    goes = refl;
    reason = h.0;
    after = h.1;
    source = refl;
    says = subst (λ s. Says new.object s answers_ok) (sym says) refl;
    variable = subst (λ v. SetsVariable new.object v None) (sym variable) refl;
  }

  -- an insertion that was made, with the variable at the second place behind the map's
  inserted : (c : Call (Object ℕ V) Inserted) (old new : Container V) (q : Cursor) (is_inserted : Bool)
      → Changing (PlacesOwn new.object q) c old.object new.object (Ok is_inserted)
      → IsMade (changes_inserting 2 c) old new (record { said = said.Truth is_inserted; variable = Some (record { place = 2; cursor = q }) })
  inserted c old new q is_inserted h = record {
    goes = refl;
    reason = h.0;
    after = h.1;
    source = refl;
    says = ap answers_truth (sym h.2.0);
    variable = (ap (placed 2) h.2.1.0, h.2.1.1);
  }

module _ {K T V : Type 0} {key given : K} {element other : T} (keys : key ≡ given) (elements : element ≡ other) where
  same_call : {A : Type 0} (call : K → T → Call (Object ℕ V) A) → call key element ≡ call given other
  same_call call = λ i. call (keys i) (elements i)

  pub put_done : (call : K → T → Call (Object ℕ V) Done) (old new : Container V) (made : Reply) {x : Done}
      → Changing Same (call key element) old.object new.object (Ok x) → made.said ≡ said.Done → made.variable ≡ None
      → IsMade (changes_ok (call given other)) old new made
  put_done call old new made h says variable =
      subst (λ c. IsMade (changes_ok c) old new made) (same_call call) (done (call key element) old new made h says variable)

  pub put_inserted : (call : K → T → Call (Object ℕ V) Inserted) (old new : Container V) (q : Cursor) (is_inserted : Bool)
      → Changing (PlacesOwn new.object q) (call key element) old.object new.object (Ok is_inserted)
      → IsMade (changes_inserting 2 (call given other)) old new
      (record { said = said.Truth is_inserted; variable = Some (record { place = 2; cursor = q }) })
  put_inserted call old new q is_inserted h =
      subst (λ c. IsMade (changes_inserting 2 c) old new (record { said = said.Truth is_inserted; variable = Some (record { place = 2; cursor = q }) }))
      (same_call call) (inserted (call key element) old new q is_inserted h)
