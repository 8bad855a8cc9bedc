-- What an input holds, by what its parts hold.
use Rattle.std.proofs.Common.{◌≡◌, ◌+◌, ◌⊎◌, ℕ, Bool, true, false, List, [], length, take, drop, Result, Ok, Err, refl, sym, subst, inl, inr}
use Rattle.std.specs.Prelude.{IfOk, IfErr}
use Rattle.ac_calls.specs.declared.plains.Plain.{Plain}
use Rattle.ac_snapshot.specs.StateReading.{IsReading}
use Rattle.ac_snapshot.specs.declared.fault.StateFault.{StateFault}
use Rattle.ac_snapshot.specs.declared.fault.StateFault.TheVariants.{Refused}
use Rattle.ac_snapshot.specs.declared.fault.StateFault.TheVariants as state
use Rattle.ac_snapshot.specs.Validity.{is_valid}
use Rattle.ac_syntax.specs.declared.script.Script.{Script}
use Rattle.ac_top.specs.Beginnings.{IsSplit, whole, parts, script_line}
use Rattle.ac_top.specs.Inputs.{IsStartOn, IsStartOf, IsFaultOn, IsFaultOf, is_in_script, is_without_state, state_fault}
use Rattle.ac_top.specs.LineCuts.{IsFirstLine}
use Rattle.ac_top.specs.declared.start.InputFault.{InputFault}
use Rattle.ac_top.specs.declared.start.InputFault.TheVariants.{NoMemory}
use Rattle.ac_top.specs.declared.start.Start.{Start}

started : (input text : List ℕ) (s state : List Plain) (resumes : Bool) (script : Script) → IsSplit input resumes s text → IsStartOn s text script state → IsStartOf resumes input script state
started input text s state resumes script split on = record {
  text = text;
  split = subst (λ x. IsSplit input resumes x text) (sym on.state_is) split;
  start = record {
    state_is = refl;
    valid = subst (λ x. is_valid x ≡ true) (sym on.state_is) on.valid;
    short = on.short;
    spelled = on.spelled;
    checked = on.checked;
  };
}

module _ (input text : List ℕ) (s : List Plain) (resumes : Bool) (split : IsSplit input resumes s text) where
  pub start_read : (r : Result Start InputFault) → IfOk r (λ start. IsStartOn s text start.script start.state) →
      IfOk r (λ start. IsStartOf resumes input start.script start.state)
  start_read (Ok start) on = started input text s start.state resumes start.script split on
  start_read (Err fault) on = tt

  pub start_refused : (r : Result Start InputFault) → IfErr r (λ fault. (fault ≡ NoMemory) ⊎ IsFaultOn text fault) →
      IfErr r (λ fault. (fault ≡ NoMemory) ⊎ IsFaultOf resumes input fault)
  start_refused (Ok start) why = tt
  start_refused (Err fault) (inl none) = inl none
  start_refused (Err fault) (inr why) = inr (is_in_script s text fault split why)

-- behind a state
module _ (input behind : List ℕ) (at : ℕ) (s : List Plain) (first : IsFirstLine script_line input at) (reads : IsReading (take at input) (Ok s))
    (is : behind ≡ drop (at + length script_line + 1) input) where
  split : IsSplit input true s behind
  split = subst (λ text. IsSplit input true s text) (sym is) (parts at s first reads)

  pub resumed_read : (r : Result Start InputFault) → IfOk r (λ start. IsStartOn s behind start.script start.state) →
      IfOk r (λ start. IsStartOf true input start.script start.state)
  resumed_read = start_read input behind s true split

  pub resumed_refused : (r : Result Start InputFault) → IfErr r (λ fault. (fault ≡ NoMemory) ⊎ IsFaultOn behind fault) →
      IfErr r (λ fault. (fault ≡ NoMemory) ⊎ IsFaultOf true input fault)
  resumed_refused = start_refused input behind s true split

-- without a state before it
pub whole_split : (input : List ℕ) (resumes : Bool) (s : List Plain) → resumes ≡ false → s ≡ [] → IsSplit input resumes s input
whole_split input resumes s alone none = subst (λ x. IsSplit input resumes x input) (sym none) (subst (λ b. IsSplit input b [] input) (sym alone) whole)

-- with a state that isn't one
module _ (input : List ℕ) (at : ℕ) (r : Result (List Plain) StateFault) (first : IsFirstLine script_line input at)
    (reads : (line : ℕ) → r ≡ Err (Refused line) → IsReading (take at input) (Err (Refused line))) where
  refused_by : (f : StateFault) → r ≡ Err f → (state_fault f ≡ NoMemory) ⊎ IsFaultOf true input (state_fault f)
  refused_by (Refused line) is = inr (is_without_state at line refl first (reads line is))
  refused_by state.NoMemory is = inl refl

  pub state_refused : (f : StateFault) (fault : InputFault) → r ≡ Err f → fault ≡ state_fault f → (fault ≡ NoMemory) ⊎ IsFaultOf true input fault
  state_refused f fault result is = subst (λ x. (x ≡ NoMemory) ⊎ IsFaultOf true input x) (sym is) (refused_by f result)
