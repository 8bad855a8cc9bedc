-- What a legal history of a block of tasks writes: a line for each of its entries, and no other.
use Rattle.std.specs.Prelude.{◌≡◌, ◌+◌, ⊤, ℕ, List, [], ◌∷◌, slice_get, Some}
use Rattle.ac_base.specs.declared.value.Value.{Value}
use Rattle.ac_model.specs.Letters.{Mark}
use Rattle.ac_history.specs.declared.code.TaskStep.{TaskStep}
use Rattle.ac_history.specs.declared.entry.Entry.{Entry}
use Rattle.ac_history.specs.Blocks.{opening}
use Rattle.ac_history.specs.Histories.{IsLegal}
use Rattle.ac_rules.specs.declared.resolved.ResolvedDecl.{ResolvedDecl}
use Rattle.ac_rules.specs.Resolved.{ResolvedSimple, ResolvedCode}
use Rattle.ac_calls.specs.Answers.{Line, task_line}
use Rattle.ac_calls.specs.Holdings.{Guards}
use Rattle.ac_meaning.specs.Environment.{State, after_decls}
use Rattle.ac_meaning.specs.Execution.{commanded, key_end, run_by}
use Rattle.ac_meaning.specs.TaskBlocks.{Task, tasks_of, block_of, line_of, reply_answer, history_lines}

-- it has the number of the entry's step, its task's name and its reply
pub record IsLineOf (tasks : List Task) (entry : Entry) (l : Line) : Type 0 where
  pub task : Task
  pub of_task : slice_get tasks entry.task ≡ Some task
  pub step : TaskStep
  pub of_step : slice_get task.code.steps entry.place ≡ Some step
  pub is : l ≡ task_line (line_of step) task.name (reply_answer entry.reply)

-- each entry has one, in their order
abbrev pub AreLinesOf : List Task → List Entry → List Line → Type 0
AreLinesOf tasks [] [] = ⊤
AreLinesOf tasks [] (_ ∷ _) = ⊥
AreLinesOf tasks (_ ∷ _) [] = ⊥
AreLinesOf tasks (entry ∷ history) (l ∷ lines) = IsLineOf tasks entry l × AreLinesOf tasks history lines

abbrev pub EntriesHaveLines : Type 0
EntriesHaveLines =
    (e : State) (tasks : ResolvedCode) (history : List Entry) → IsLegal (opening (block_of e tasks)) history →
    AreLinesOf (tasks_of e tasks) history (history_lines (tasks_of e tasks) history)

-- a block of tasks that runs is counted once, and nothing else is counted
pub record BlocksAreCounted : Type 0 where
  pub runs : (order : List ℕ) (tasks : ResolvedCode) (e : State) → (run_by order tasks e).after.blocks ≡ e.blocks + 1
  pub commands : (guards : Guards) (e : State) (simple : ResolvedSimple) → (commanded guards e simple).after.blocks ≡ e.blocks
  pub decls : (decls : List ResolvedDecl) (e : State) → (after_decls decls e).after.blocks ≡ e.blocks
  pub updates : (number object : ℕ) (at : Mark) (copy : Value) (guards : Guards) (e : State) → (key_end number object at copy guards e).after.blocks ≡ e.blocks
