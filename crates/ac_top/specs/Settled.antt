-- Inputs that have one meaning, whatever the orders of tasks are.
use Rattle.std.specs.Prelude.{◌≡◌, ⊤, ℕ, false, [], List}
use Rattle.ac_syntax.specs.declared.script.Script.{Script}
use Rattle.ac_syntax.specs.Refusals.{Spells}
use Rattle.ac_rules.specs.HasTasks.{has_tasks}
use Rattle.ac_rules.specs.Resolved.{resolve}
use Rattle.ac_rules.specs.Scopes.{with_decls}
use Rattle.ac_calls.specs.declared.plains.Plain.{Plain}
use Rattle.ac_top.specs.Beginnings.{IsSplit}
use Rattle.ac_top.specs.declared.mode.Mode.{Mode}
use Rattle.ac_top.specs.declared.mode.Mode.TheVariants.{Read, Generate}
use Rattle.ac_top.specs.declared.mode.Task.TheVariants.{Run, Check}

-- no script that it spells has a block of tasks
abbrev pub HasNoTasks : List ℕ → Type 0
HasNoTasks input = (script : Script) → Spells script input → has_tasks (resolve (with_decls [] script.decls) script.stmts) ≡ false

-- nothing is run of it, or no block of tasks is
abbrev pub IsSettled : Mode → List ℕ → Type 0
IsSettled (Read (Run options)) input = (s : List Plain) (text : List ℕ) → IsSplit input options.resume s text → HasNoTasks text
IsSettled (Read Check) input = ⊤
IsSettled (Generate size) input = ⊤
