-- A cursor that a look at a tree answered, as the reply tells it.
use Rattle.std.proofs.Common.{◌≡◌, None, refl, sym, ap, subst}
use Rattle.ac_base.specs.declared.cursor.Cursor.{Cursor}
use Rattle.ac_model.specs.Calls.{Look}
use Rattle.ac_model.specs.Containers.{Container}
use Rattle.ac_model.specs.Letters.{Mark}
use Rattle.ac_model.specs.Objects.{plain}
use Rattle.ac_calls.specs.Answers.{answers_place}
use Rattle.ac_calls.specs.Replies.{looks}
use Rattle.ac_calls.specs.declared.reply.Reply.{Reply}
use Rattle.ac_calls.specs.declared.reply.Said.TheVariants.{Place}
use Rattle.ac_calls.specs.Replied.{IsAnswer, IsMade, Says, SetsVariable}
use Rattle.ac_calls.proofs.Made.{unchanged}

module _ {V : Type 0} where
  pub place_looked : (o : Container V) (l : Look Mark) (made : Reply) (c : Cursor) → l.reason ≡ None → IsAnswer o.object c l.answer →
      made.said ≡ Place c → made.variable ≡ None → IsMade (looks (plain o.object) answers_place l) o o made
  place_looked o l made c reason is said variable = record {
    goes = refl;
    reason = reason;
    after = unchanged o.object;
    source = refl;
    says = subst (λ s. Says o.object s (answers_place l.answer)) (sym said) (ap answers_place is.0, is.1);
    variable = subst (λ v. SetsVariable o.object v None) (sym variable) refl;
  }
