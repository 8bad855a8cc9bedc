-- Blocks of tasks that keep the rules and that break them, worked out by hand.
use Rattle.std.specs.Prelude.{◌≡◌, ℕ, ◌&&◌, codes, Bool, true, false, not, List, [], ◌∷◌, Some, None, IsTrue}
use Rattle.std.specs.List.{list_all, list_any}
use Rattle.ac_syntax.specs.Code.{Code, call_at, tasks_at, task_at, stop, one, block, no_handler}
use Rattle.ac_syntax.specs.declared.arg.Arg.TheVariants.{Var}
use Rattle.ac_syntax.specs.declared.decl.Decl.{Decl}
use Rattle.ac_syntax.specs.declared.decl.Decl.TheVariants.{TypeDecl, Object, IntVar, TextVar}
use Rattle.ac_syntax.specs.declared.kind.Kind.TheVariants as kind
use Rattle.ac_syntax.specs.declared.kind.ElemKind.TheVariants.{Integer}
use Rattle.ac_syntax.specs.declared.refusal.RefusalKind.TheVariants.{UnknownName, WrongType, Twice}
use Rattle.ac_syntax.specs.declared.script.Script.{Script}
use Rattle.ac_syntax.specs.declared.stmt.Stmt.{Stmt}
use Rattle.ac_syntax.specs.declared.stmt.Stmt.TheVariants.{Set, Sum, Loop, Stable, Declare, Tasks, Handled}
use Rattle.ac_rules.specs.Examples.{call, done, number, text, A, B, C, D, N, O, V, X, Y, def, list_of}
use Rattle.ac_rules.specs.Rules.{is_stmt, suits_stmt}
use Rattle.ac_rules.specs.Scopes.{Scope, entry, an_object, a_value, a_task, standings}
use Rattle.ac_rules.specs.Walks.{outcome, goes_on, refused}

-- a queue A, a priority queue B, a list D and an integer N, and in the task V behind the task O its local X
abbrev in_task : Scope
in_task =
    entry A (an_object (codes "q") (def true kind.Queue Integer None false)) ∷ entry B (an_object (codes "p") (def false kind.PriorityQueue Integer None false))
    ∷ entry D (an_object (codes "l") (list_of Integer)) ∷ entry N (a_value Integer true) ∷ entry O a_task ∷ entry V a_task ∷ entry X (a_value Integer true) ∷ []

abbrev stands : Stmt → Bool
stands stmt = is_stmt in_task stmt && suits_stmt in_task stmt

-- the first may stand in the task, and none of the others
abbrev TellsTasks : (kept broken : List Stmt) → Type 0
TellsTasks kept broken = IsTrue (list_all stands kept && not (list_any stands broken))

-- a command calls a queue, with literals and locals
abbrev pub CallsQueues : Type 0
CallsQueues = TellsTasks
    (done A (codes "enqueue") (number 1 ∷ []) ∷ done B (codes "enqueue") (Var X ∷ []) ∷ done A (codes "dequeue") [] ∷ call (Some X) A (codes "dequeue") []
    ∷ call (Some X) B (codes "dequeue_only_high_priority") (Var X ∷ []) ∷ done A (codes "current_use") [] ∷ call (Some X) A (codes "peak_use") [] ∷ [])
    (done A (codes "enqueue") (Var N ∷ []) ∷ call (Some N) A (codes "dequeue") [] ∷ done A (codes "print") [] ∷ done D (codes "append") (number 1 ∷ [])
    ∷ done A (codes "enqueue") (Var V ∷ []) ∷ done A (codes "enqueue") (Var O ∷ []) ∷ done O (codes "dequeue") [] ∷ done A (codes "enqueue") (text Y ∷ []) ∷ [])

-- or assigns to a local
abbrev pub SetsLocals : Type 0
SetsLocals = TellsTasks
    (Set 1 X (number 5) ∷ Set 1 X (Var X) ∷ Sum 1 X X false 1 ∷ [])
    (Set 1 N (number 5) ∷ Set 1 X (Var N) ∷ Set 1 X (text Y) ∷ Set 1 X (Var V) ∷ Sum 1 X N false 1 ∷ Sum 1 N X true 1 ∷ [])

-- and no block stands in a task
abbrev pub HasNoBlocks : Type 0
HasNoBlocks = TellsTasks [] (Loop 1 C false false D stop ∷ Stable 1 D stop ∷ Declare 1 [] stop ∷ Tasks 1 stop ∷ Handled 1 stop no_handler ∷ [])

-- a script with a queue A, an integer N and a block of tasks

abbrev sharing : Code → Script
sharing tasks = record {
  pragma = None;
  decls = TypeDecl 1 (codes "q") (def false kind.Queue Integer None false) ∷ Object 2 A (codes "q") None ∷ IntVar 3 N ∷ [];
  stmts = block (tasks_at 4) tasks (one (call_at 20 None A (codes "peak_use") []) stop);
}

-- a task on this line, with these locals and one command that enqueues a local
abbrev enqueuing : ℕ → List ℕ → List Decl → List ℕ → Code → Code
enqueuing line name locals item rest = block (task_at line name locals) (one (call_at 10 None A (codes "enqueue") (Var item ∷ [])) stop) rest

-- two tasks may each have a local X
abbrev pub TakesTasks : Type 0
TakesTasks = outcome 0 (standings (sharing (enqueuing 5 V (IntVar 6 X ∷ []) X (enqueuing 7 O (IntVar 8 X ∷ []) X stop)))) ≡ goes_on 0

-- a task's name is in scope up to the end of its block, and its locals up to its own end

abbrev pub RefusesTaskTwice : Type 0
RefusesTaskTwice = outcome 0 (standings (sharing (enqueuing 5 V (IntVar 6 X ∷ []) X (enqueuing 7 V (IntVar 8 X ∷ []) X stop)))) ≡ refused (Some 7) Twice

abbrev pub RefusesLocalAsItsTask : Type 0
RefusesLocalAsItsTask = outcome 0 (standings (sharing (enqueuing 5 V (IntVar 6 V ∷ []) X stop))) ≡ refused (Some 6) Twice

abbrev pub RefusesOuterName : Type 0
RefusesOuterName = outcome 0 (standings (sharing (enqueuing 5 V (IntVar 6 N ∷ []) X stop))) ≡ refused (Some 6) Twice

abbrev pub RefusesLocalOfAnother : Type 0
RefusesLocalOfAnother = outcome 0 (standings (sharing (enqueuing 5 V (IntVar 6 X ∷ []) X (enqueuing 7 O [] X stop)))) ≡ refused (Some 10) UnknownName

abbrev pub RefusesOuterVariable : Type 0
RefusesOuterVariable = outcome 0 (standings (sharing (enqueuing 5 V [] N stop))) ≡ refused (Some 10) WrongType

abbrev pub RefusesTextLocal : Type 0
RefusesTextLocal = outcome 0 (standings (sharing (block (task_at 5 V (TextVar 6 X ∷ [])) stop stop))) ≡ refused (Some 6) WrongType

-- behind the block its tasks' names are free again
abbrev pub FreesNames : Type 0
FreesNames = outcome 0 (standings (record {
  pragma = None;
  decls = [];
  stmts = block (tasks_at 1) (block (task_at 2 V (IntVar 3 X ∷ [])) stop stop) (block (tasks_at 4) (block (task_at 5 V (IntVar 6 X ∷ [])) stop stop) stop);
})) ≡ goes_on 0
