-- What an input holds: a script that can run with the state that stands before it, or a fault.
use Rattle.std.specs.Prelude.{◌≡◌, ◌⊎◌, ◌<◌, ◌≤◌, ℕ, Bool, true, List, length, take, Err}
use Rattle.ac_syntax.specs.Refusals.{IsFirstRefusal, Spells}
use Rattle.ac_syntax.specs.declared.script.Script.{Script}
use Rattle.ac_rules.specs.Faults.{IsChecked}
use Rattle.ac_calls.specs.declared.plains.Plain.{Plain}
use Rattle.ac_meaning.specs.Meanings.{Meaning, refused_at, too_long}
use Rattle.ac_meaning.specs.declared.limits.TheConstants.{INPUT_LIMIT}
use Rattle.ac_snapshot.specs.StateReading.{IsReading}
use Rattle.ac_snapshot.specs.Validity.{is_valid}
use Rattle.ac_snapshot.specs.declared.fault.StateFault.{StateFault}
use Rattle.ac_snapshot.specs.declared.fault.StateFault.TheVariants.{Refused as RefusedState}
use Rattle.ac_snapshot.specs.declared.fault.StateFault.TheVariants as state
use Rattle.ac_top.specs.Answers.{IsFaulty}
use Rattle.ac_top.specs.Beginnings.{IsSplit, no_script, script_line, state_refused}
use Rattle.ac_top.specs.LineCuts.{HasNoLine, IsFirstLine}
use Rattle.ac_top.specs.declared.start.InputFault.{InputFault}
use Rattle.ac_top.specs.declared.start.InputFault.TheVariants.{TooLong, NoScript, State, Script as FaultyScript, NoMemory}

-- a text spells this script, on this state
pub record IsStartOn (s : List Plain) (text : List ℕ) (script : Script) (state : List Plain) : Type 0 where
  pub state_is : state ≡ s
  pub valid : is_valid s ≡ true
  pub short : length text ≤ INPUT_LIMIT
  pub spelled : Spells script text
  pub checked : IsChecked script

pub record IsStartOf (resumes : Bool) (input : List ℕ) (script : Script) (state : List Plain) : Type 0 where
  pub text : List ℕ
  pub split : IsSplit input resumes state text
  pub start : IsStartOn state text script state

-- what is wrong with a script's text
abbrev pub IsFaultOn : List ℕ → InputFault → Type 0
IsFaultOn text TooLong = INPUT_LIMIT < length text
IsFaultOn text NoScript = ⊥
IsFaultOn text (State line) = ⊥
IsFaultOn text (FaultyScript line kind) = (length text ≤ INPUT_LIMIT) × (IsFirstRefusal text line kind ⊎ IsFaulty text line kind)
IsFaultOn text NoMemory = ⊥

-- what is wrong with an input whose state has a fault
abbrev pub state_fault : StateFault → InputFault
state_fault (RefusedState line) = State line
state_fault state.NoMemory = NoMemory

-- and with an input
pub data IsFaultOf (resumes : Bool) (input : List ℕ) : InputFault → Type 0 where
  is_without_script : resumes ≡ true → HasNoLine script_line input → IsFaultOf resumes input NoScript
  is_without_state : (at line : ℕ) → resumes ≡ true → IsFirstLine script_line input at → IsReading (take at input) (Err (RefusedState line))
      → IsFaultOf resumes input (State line)
  is_in_script : (s : List Plain) (text : List ℕ) (fault : InputFault) → IsSplit input resumes s text → IsFaultOn text fault → IsFaultOf resumes input fault

-- what the input means then
abbrev pub fault_meaning : InputFault → Meaning
fault_meaning TooLong = too_long
fault_meaning NoScript = no_script
fault_meaning (State line) = state_refused line
fault_meaning (FaultyScript line kind) = refused_at line kind
fault_meaning NoMemory = too_long
