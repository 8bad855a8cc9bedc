-- What an input means, by what is done with it.
use Rattle.std.specs.Prelude.{◌≡◌, ◌<◌, ◌≤◌, ℕ, Bool, true, false, codes, decimal, List, [], ◌∷◌, ◌++◌, length, map, take, Option, Some, None, Err, if◌then◌else◌}
use Rattle.ac_top.specs.declared.mode.Mode.{Mode}
use Rattle.ac_top.specs.declared.mode.Mode.TheVariants.{Read, Generate}
use Rattle.ac_top.specs.declared.mode.Options.{Options}
use Rattle.ac_top.specs.declared.mode.Task.{Task}
use Rattle.ac_top.specs.declared.mode.Task.TheVariants.{Run, Check}
use Rattle.ac_top.specs.declared.mode.TheConstants.{RESUMED_LIMIT}
use Rattle.ac_syntax.specs.declared.decl.Decl.{Decl}
use Rattle.ac_syntax.specs.declared.script.Script.{Script}
use Rattle.ac_rules.specs.Faults.{decl_name}
use Rattle.ac_calls.specs.Answers.{lines_text}
use Rattle.ac_calls.specs.declared.plains.Plain.{Plain}
use Rattle.ac_host.specs.Start.{start_of}
use Rattle.ac_meaning.specs.declared.limits.TheConstants.{INPUT_LIMIT}
use Rattle.ac_meaning.specs.Environment.{State, at_rest, nodes}
use Rattle.ac_meaning.specs.Execution.{Orders, run_from}
use Rattle.ac_meaning.specs.Meanings.{Meaning, IsMeaningBy, ran, canonical, too_long, written}
use Rattle.ac_meaning.specs.Plains.{plains_of}
use Rattle.ac_plains.specs.Resumed.{resumed}
use Rattle.ac_snapshot.specs.StateReading.{IsReading}
use Rattle.ac_snapshot.specs.StateTexts.{state_text}
use Rattle.ac_snapshot.specs.declared.fault.StateFault.TheVariants.{Refused as RefusedState}
use Rattle.ac_top.specs.Asks.{Asking, unasked, refuses, asks, BecomesOf, ask_lines, question_refused}
use Rattle.ac_top.specs.Beginnings.{Beginning, begins, stops_at, BeginsOf, IsSplit, mismatched, no_script, script_line, state_refused}
use Rattle.ac_top.specs.Generator.{generated}
use Rattle.ac_top.specs.LineCuts.{HasNoLine, IsFirstLine}
use Rattle.ac_top.specs.Summary.{summary_text}

abbrev pub nodes_line : ℕ → List ℕ
nodes_line count = codes "nodes " ++ (decimal count ++ 10 ∷ [])

abbrev pub nodes_lines : (audit : Bool) → State → List ℕ
nodes_lines audit e = if audit then nodes_line (nodes e) else []

-- the state of the outermost variables and objects
abbrev pub state_lines : (save : Bool) → List Decl → State → List ℕ
state_lines save decls e = if save then codes "--state" ++ 10 ∷ state_text (plains_of (map decl_name decls) e) else []

-- what follows a run's lines: how many elements the objects of the outermost scope have, the answer to a question to it, and its state
abbrev pub lines_behind : (audit : Bool) → Asking → (save : Bool) → List Decl → State → List ℕ
lines_behind audit asking save decls e = nodes_lines audit e ++ (ask_lines asking decls e ++ state_lines save decls e)

-- the outermost environment of a script, with what the entries of a state have of it
abbrev pub started : List Plain → Script → State
started s script = resumed script (start_of script) s

-- what is written of a run from an environment to its end
abbrev pub ran_from : Orders → (audit : Bool) → Asking → (save : Bool) → Script → State → Meaning
ran_from orders audit asking save script e =
    let r = run_from orders script e in
    written (lines_text r.lines ++ lines_behind audit asking save script.decls (at_rest r.after))

abbrev pub ran_to_end : Orders → (audit : Bool) → Asking → (save : Bool) → List Plain → Script → Meaning
ran_to_end orders audit asking save s script = ran_from orders audit asking save script (started s script)

-- a script that begins on a state, or doesn't
abbrev pub begun : Orders → (audit : Bool) → Asking → (save : Bool) → Beginning → List Plain → Script → Meaning
begun orders audit asking save begins s script = ran_to_end orders audit asking save s script
begun orders audit asking save (stops_at line) s script = mismatched line

-- what a script that is run means: its lines and what follows them. Where a question is refused, nothing is run
abbrev pub output : Orders → Options → Asking → Beginning → List Plain → Script → Meaning
output orders options unasked beginning s script = begun orders options.audit unasked options.save beginning s script
output orders options (refuses kind) beginning s script = question_refused kind
output orders options (asks q) beginning s script = begun orders options.audit (asks q) options.save beginning s script

-- what a script that can run means, by what is done with it, where its blocks of tasks go by these orders
abbrev pub meant_by : Orders → Task → Asking → Beginning → List Plain → Script → Meaning
meant_by orders (Run options) asking beginning s script = output orders options asking beginning s script
meant_by orders Check asking beginning s script = canonical script

-- the question's text. Without a run nothing is asked
abbrev pub word_of : Task → Option (List ℕ)
word_of (Run options) = options.ask
word_of Check = None

-- whether a state stands before the script. Without a run none does
abbrev pub resumes : Task → Bool
resumes (Run options) = options.resume
resumes Check = false

-- how many bytes an input may have
abbrev pub limit_of : Task → ℕ
limit_of task = if resumes task then RESUMED_LIMIT else INPUT_LIMIT

-- the summary of what the generator's script writes, whatever that is
pub record IsSummary (size : ℕ) (m : Meaning) : Type 0 where
  pub told : Meaning
  pub means : IsMeaningBy ran (generated size) told
  pub is : m ≡ written (summary_text told.text)

-- a meaning of a script's text on a state, by some orders of the blocks of tasks
pub record IsMeaningOn (task : Task) (s : List Plain) (text : List ℕ) (m : Meaning) : Type 0 where
  pub orders : Orders
  pub asking : Asking
  pub becomes : BecomesOf (word_of task) text asking
  pub beginning : Beginning
  pub begins : BeginsOf s text beginning
  pub means : IsMeaningBy (meant_by orders task asking beginning s) text m

-- of an input: in this order, it is too long, has no script, its state is refused, or its script means that
pub data IsMeaningOf (task : Task) (input : List ℕ) (m : Meaning) : Type 0 where
  is_too_long : limit_of task < length input → m ≡ too_long → IsMeaningOf task input m
  has_no_script : resumes task ≡ true → length input ≤ limit_of task → HasNoLine script_line input → m ≡ no_script → IsMeaningOf task input m
  has_no_state : (at line : ℕ) → resumes task ≡ true → length input ≤ limit_of task → IsFirstLine script_line input at
      → IsReading (take at input) (Err (RefusedState line)) → m ≡ state_refused line → IsMeaningOf task input m
  is_on : (s : List Plain) (text : List ℕ) → length input ≤ limit_of task → IsSplit input (resumes task) s text → IsMeaningOn task s text m → IsMeaningOf task input m

-- where nothing is read it is one of any input
abbrev pub Means : Mode → List ℕ → Meaning → Type 0
Means (Read task) input m = IsMeaningOf task input m
Means (Generate size) input m = IsSummary size m

abbrev pub is_reading : Mode → Bool
is_reading (Read task) = true
is_reading (Generate size) = false

-- the words ask for something to be read
abbrev pub asks_to_read : Option Mode → Bool
asks_to_read None = false
asks_to_read (Some mode) = is_reading mode

-- what is read, where the source tells it: nothing, where the words ask for nothing to be read
abbrev pub read_by : Mode → Option (List ℕ) → Option (List ℕ)
read_by (Read task) left = left
read_by (Generate size) left = Some []

-- how many bytes an input may have for which the words ask
abbrev pub limit_in : Mode → ℕ
limit_in (Read task) = limit_of task
limit_in (Generate size) = 0

abbrev pub limit_asked : Option Mode → ℕ
limit_asked None = 0
limit_asked (Some mode) = limit_in mode
