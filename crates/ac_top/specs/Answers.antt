-- How an input is answered: by a meaning of it, for what the words ask for.
use Rattle.std.specs.Prelude.{◌≤◌, ℕ, Bool, List, length, Option, IfSome}
use Rattle.ac_syntax.specs.declared.refusal.RefusalKind.{RefusalKind}
use Rattle.ac_syntax.specs.declared.script.Script.{Script}
use Rattle.ac_syntax.specs.Refusals.{Spells}
use Rattle.ac_rules.specs.Faults.{IsFirstFault}
use Rattle.ac_meaning.specs.Meanings.{Meaning}
use Rattle.ac_meaning.specs.Execution.{Orders}
use Rattle.ac_top.specs.declared.mode.Mode.{Mode}
use Rattle.ac_top.specs.declared.mode.Task.{Task}
use Rattle.ac_top.specs.declared.status.Status.{Status}
use Rattle.ac_calls.specs.declared.plains.Plain.{Plain}
use Rattle.ac_top.specs.Asks.{Asking, Becomes}
use Rattle.ac_top.specs.Beginnings.{Beginning, BeginsAs}
use Rattle.ac_top.specs.Modes.{Means, begun, meant_by, read_by, word_of}
use Rattle.ac_top.specs.Status.{Writes}

-- what is said of a mode and its input, where the words ask for one and the source tells the other
abbrev pub IfAsked : Option Mode → Option (List ℕ) → (Mode → List ℕ → Type 0) → Type 0
IfAsked asked left Said = IfSome asked (λ mode. IfSome (read_by mode left) (λ input. Said mode input))

-- there is room for the text of every meaning
abbrev pub HasRoom : Mode → List ℕ → (room : ℕ) → Type 0
HasRoom mode input room = (m : Meaning) → Means mode input m → length m.text ≤ room

-- what was written is of a meaning that is one of these
pub record Tells (IsOne : Meaning → Type 0) (held held' : Option (List ℕ)) (room : Option ℕ) (status : Status) : Type 0 where
  pub meaning : Meaning
  pub means : IsOne meaning
  pub writes : Writes meaning held held' room status

-- one of the input's
abbrev pub Answers : (mode : Mode) (input : List ℕ) (held held' : Option (List ℕ)) (room : Option ℕ) (status : Status) → Type 0
Answers mode input held held' room status = Tells (Means mode input) held held' room status

-- a text spells a script that has its first faulty item on this line
pub record IsFaulty (text : List ℕ) (line : ℕ) (kind : RefusalKind) : Type 0 where
  pub script : Script
  pub spelled : Spells script text
  pub first : IsFirstFault script line kind

-- what was written is of what a script means on a state where this is done with it, by some orders of its blocks of tasks
pub record Says (task : Task) (s : List Plain) (script : Script) (held held' : Option (List ℕ)) (room : Option ℕ) (status : Status) : Type 0 where
  pub orders : Orders
  pub asking : Asking
  pub becomes : Becomes (word_of task) script asking
  pub beginning : Beginning
  pub begins : BeginsAs s script beginning
  pub writes : Writes (meant_by orders task asking beginning s script) held held' room status

-- what was written is of a script's run on a state, where it begins on it
pub record RunsAs (audit : Bool) (asking : Asking) (save : Bool) (s : List Plain) (script : Script) (held held' : Option (List ℕ)) (room : Option ℕ) (status : Status) : Type 0 where
  pub orders : Orders
  pub beginning : Beginning
  pub begins : BeginsAs s script beginning
  pub writes : Writes (begun orders audit asking save beginning s script) held held' room status
