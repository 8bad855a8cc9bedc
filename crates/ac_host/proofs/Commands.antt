-- Commands, and the lines that blocks begin with.
use Rattle.std.proofs.Common.{◌≡◌, ◌≢◌, ℕ, Bool, List, [], ◌∷◌, refl, sym, subst, ◌∙◌, Option, Some, None, Result, Ok, Err, OnOk, IfOk, ap}
use Rattle.std.proofs.lemmas.Result.{on_ok_weaker}
use Rattle.ac_base.specs.Reason.{exception_of}
use Rattle.ac_base.specs.declared.fault.Fault.{Fault}
use Rattle.ac_base.specs.declared.fault.Fault.TheVariants as fault
use Rattle.ac_base.specs.declared.reason.Reason.{Reason}
use Rattle.ac_rules.specs.Resolved.{ResolvedSimple}
use Rattle.ac_calls.specs.Answers.{Answer, line, lines_text}
use Rattle.ac_calls.specs.Holdings.{Guards}
use Rattle.ac_meaning.specs.Environment.{State, under, at_rest}
use Rattle.ac_meaning.specs.Commands.{Performed, performed, number_in}
use Rattle.ac_meaning.specs.Execution.{End, answer_end, commanded}
use Rattle.ac_meaning.proofs.CountsStay.{counts_are_the_guards, commands_keep_counts}
use Rattle.ac_model.specs.Calls.{Done}
use Rattle.ac_calls.specs.declared.reply.Said.{Said}
use Rattle.ac_calls.specs.declared.reply.Said.TheVariants.{Done as SaidDone, Value, Truth, Place, Listing, Stalled}
use Rattle.ac_objects.specs.Shown.{Shows}
use Rattle.ac_objects.specs.Performs.{Performs, answered}
use Rattle.ac_objects.specs.World.{World, state_of}
use Rattle.ac_host.specs.declared.end.HostEnd.{HostEnd}
use Rattle.ac_host.specs.Ready.{IsUnder}
use Rattle.ac_host.specs.Writing.{Writes, Ran}

-- what was performed, unless memory ended
came_to : (p : Performed) (object : ℕ) (old now : World) (said : Said) (done : Result Done Fault) → (done ≢ Err fault.NoMemory) →
    Performs p object old now (answered said done) → state_of now ≡ p.after
came_to p object old now said (Ok made) some performs = performs.0
came_to p object old now said (Err (fault.Raised reason)) some performs = performs.1
came_to p object old now said (Err fault.NoMemory) some performs = absurd (some refl)

-- no answer that is shown raises anything
abbrev pub normal : End
normal = None

pub shown_end : (e : State) (object : ℕ) (said : Said) (answer : Answer) → Shows e object said answer → normal ≡ answer_end answer
shown_end e object SaidDone answer s = sym (ap answer_end s)
shown_end e object (Value v) answer s = sym (ap answer_end s)
shown_end e object (Truth is_true) answer s = sym (ap answer_end s)
shown_end e object (Place c) answer s = sym (ap answer_end s)
shown_end e object Listing answer s = sym (ap answer_end s.2)
shown_end e object Stalled answer s = sym (ap answer_end s)

-- what was made is shown, and what was refused raised something

module _ (p : Performed) (object : ℕ) (old now : World) (said : Said) (done : Result Done Fault) (performs : Performs p object old now (answered said done)) where
  pub made_shown : (made : Done) → done ≡ Ok made → (state_of now ≡ p.after) × Shows p.after object said p.answer
  made_shown made is = subst (λ (d : Result Done Fault). Performs p object old now (answered said d)) is performs

  pub made_end : (made : Done) → done ≡ Ok made → normal ≡ answer_end p.answer
  made_end made is = shown_end p.after object said p.answer (made_shown made is).1

  pub refused_end : (f : Fault) (reason : Reason) (result : Result End HostEnd) → done ≡ Err f → f ≡ fault.Raised reason →
      IfOk result (λ end. end ≡ Some (exception_of reason)) → IfOk result (λ end. end ≡ answer_end p.answer)
  refused_end f reason result is raised ended =
      let here : Performs p object old now (answered said (Err (fault.Raised reason))) =
      subst (λ (d : Result Done Fault). Performs p object old now (answered said d)) (is ∙ ap Err raised) performs in
      subst (λ (answer : Answer). IfOk result (λ end. end ≡ answer_end answer)) (sym here.0) ended

rested : (guards : Guards) (e : State) (simple : ResolvedSimple) → under guards (at_rest (performed (under guards e) simple).after) ≡ (performed (under guards e) simple).after
rested guards e simple = (commands_keep_counts guards (under guards e) simple (counts_are_the_guards.anew guards guards e)).rested

module _ {K : Type 0} (held : K → Option (List ℕ)) (faults : K → ℕ) (room : K → Option ℕ) (counts : K → Bool) where
  pub command_ran : (simple : ResolvedSimple) (object : ℕ) (old now : World) (sink_old sink_now : K) (said : Said) (done : Result Done Fault) (result : Result End HostEnd) →
      Performs (performed (state_of old) simple) object old now (answered said done) →
      ((p : Performed) (before : World) → Performs p object before now (answered said done) →
      Writes held faults room counts sink_old sink_now (lines_text (line (number_in simple) p.answer ∷ [])) result) →
      ((p : Performed) (before : World) → Performs p object before now (answered said done) → IfOk result (λ end. end ≡ answer_end p.answer)) →
      OnOk result (done ≢ Err fault.NoMemory) → (guards : Guards) (e : State) → IsUnder old guards e →
      Ran held faults room counts sink_old sink_now now guards (commanded guards e simple) result
  command_ran simple object old now sink_old sink_now said done result performs writes ended some guards e u =
      let p = performed (under guards e) simple in
      let here : Performs p object old now (answered said done) = subst (λ (s : State). Performs (performed s simple) object old now (answered said done)) u.is performs in
      record {
        writes = writes p old here;
        after = on_ok_weaker result (λ is. came_to p object old now said done is here ∙ sym (rested guards e simple)) some;
        ended = ended p old here;
      }
