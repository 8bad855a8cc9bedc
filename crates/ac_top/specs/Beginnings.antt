-- What a run begins on: the state that stands before the script in the input, or none.
use Rattle.std.specs.Prelude.{◌≡◌, ◌+◌, ℕ, Bool, true, false, codes, decimal, List, [], ◌++◌, take, drop, length, All, Ok, Err}
use Rattle.ac_syntax.specs.declared.script.Script.{Script}
use Rattle.ac_syntax.specs.Refusals.{Spells}
use Rattle.ac_rules.specs.Faults.{IsChecked}
use Rattle.ac_calls.specs.declared.plains.Plain.{Plain}
use Rattle.ac_host.specs.Start.{start_of}
use Rattle.ac_meaning.specs.Meanings.{Meaning, refusal}
use Rattle.ac_plains.specs.Resumed.{IsMatched, IsMismatch}
use Rattle.ac_snapshot.specs.StateReading.{IsReading}
use Rattle.ac_top.specs.LineCuts.{IsFirstLine}

-- the line between a state and the script that is resumed on it, without its LF
abbrev pub script_line : List ℕ
script_line = codes "--script"

-- the state and the text of the script in an input: a resumed one has the state before the first line `--script`
pub data IsSplit (input : List ℕ) : (resumes : Bool) → List Plain → List ℕ → Type 0 where
  whole : IsSplit input false [] input
  parts : (at : ℕ) (s : List Plain) → IsFirstLine script_line input at → IsReading (take at input) (Ok s) → IsSplit input true s (drop (at + length script_line + 1) input)

-- whether a script begins on a state, or the entry on a line is the first that matches none of its outermost names
pub data Beginning : Type 0 where
  begins : Beginning
  stops_at : (line : ℕ) → Beginning

abbrev pub BeginsAs : List Plain → Script → Beginning → Type 0
BeginsAs s script begins = All (IsMatched script (start_of script)) s
BeginsAs s script (stops_at line) = IsMismatch script (start_of script) s line

-- the script that a text spells, if it can run
abbrev pub BeginsOf : List Plain → (text : List ℕ) → Beginning → Type 0
BeginsOf s text beginning = (script : Script) → Spells script text → IsChecked script → BeginsAs s script beginning

abbrev pub no_script : Meaning
no_script = refusal (codes "input: no script")

abbrev pub state_line : ℕ → List ℕ → Meaning
state_line line why = refusal (codes "state line " ++ (decimal line ++ (codes ": " ++ why)))

-- an entry that isn't one of a state
abbrev pub state_refused : ℕ → Meaning
state_refused line = state_line line (codes "refused")

-- and one that matches none of a script's outermost names
abbrev pub mismatched : ℕ → Meaning
mismatched line = state_line line (codes "mismatch")
