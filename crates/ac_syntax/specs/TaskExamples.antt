-- Blocks of tasks, and their limits, worked out by hand.
use Rattle.std.specs.Prelude.{◌≡◌, ℕ, ◌+◌, zero, suc, pos, codes, false, true, List, [], ◌∷◌, ◌++◌, Some, None}
use Rattle.ac_syntax.specs.Code.{Code, call_at, stable_at, tasks_at, task_at, stop, one, block}
use Rattle.ac_base.specs.declared.value.Value.TheVariants as value
use Rattle.ac_syntax.specs.declared.arg.Arg.TheVariants.{Lit}
use Rattle.ac_syntax.specs.declared.decl.Decl.{Decl}
use Rattle.ac_syntax.specs.declared.decl.Decl.TheVariants.{TypeDecl, Object, IntVar}
use Rattle.ac_syntax.specs.declared.kind.Kind.TheVariants as kind
use Rattle.ac_syntax.specs.declared.kind.ElemKind.TheVariants.{Integer}
use Rattle.ac_syntax.specs.declared.refusal.RefusalKind.TheVariants.{Limit}
use Rattle.ac_syntax.specs.declared.script.Script.{Script}
use Rattle.ac_syntax.specs.declared.token.Token.TheVariants as token
use Rattle.ac_syntax.specs.Tokens.{tokens, cut_of}
use Rattle.ac_syntax.specs.Refusals.{Spells, IsFirstRefusal}
use Rattle.ac_syntax.specs.Canonical.{canonical_text, IsWellFormed}
use Rattle.ac_syntax.specs.Limits.{Seen, command_due, seen_of, is_past_limit}
use Rattle.ac_syntax.specs.Examples.{lines, repeated, heads_text, two_lines}

-- two tasks share a queue of one item

abbrev pub one_item : List Decl
one_item =
    TypeDecl 1 (codes "q") (record { bounded = true; kind = kind.Queue; first = Integer; second = None; keyed = false })
    ∷ Object 2 (codes "a") (codes "q") (Some 1) ∷ []

abbrev pub enqueues : ℕ → ℕ → Code → Code
enqueues line item rest = one (call_at line None (codes "a") (codes "enqueue") (Lit (value.Int (pos item)) ∷ [])) rest

abbrev pub sharing : Script
sharing = record {
  pragma = None;
  decls = one_item;
  stmts = block (tasks_at 3)
      (block (task_at 4 (codes "p") []) (enqueues 6 1 (enqueues 7 2 stop))
      (block (task_at 9 (codes "c") (IntVar 10 (codes "x") ∷ []))
      (one (call_at 12 (Some (codes "x")) (codes "a") (codes "dequeue") []) (one (call_at 13 None (codes "a") (codes "dequeue") []) stop)) stop))
      (one (call_at 16 None (codes "a") (codes "peak_use") []) stop);
}

abbrev pub sharing_text : List ℕ
sharing_text = lines (
    codes "type Q is bounded queue (integer);" ∷ codes "A : Q (1);" ∷ codes "tasks" ∷ codes "task P is begin" ∷ [] ∷ codes "A.Enqueue (1);" ∷ codes "A.Enqueue (2); end;" ∷ [] ∷ codes "task C is"
    ∷ codes "X : integer; begin" ∷ [] ∷ codes "X := A.Dequeue;" ∷ codes "A.Dequeue; end; end tasks;" ∷ [] ∷ [] ∷ codes "A.Peak_Use;" ∷ [])

abbrev pub SpellsSharing : Type 0
SpellsSharing = Spells sharing sharing_text

-- `begin` and what ends a task or a block follow on the line reached
abbrev pub WritesSharing : Type 0
WritesSharing = canonical_text sharing ≡ lines (
    codes "type q is bounded queue (integer);" ∷ codes "a : q (1);" ∷ codes "tasks" ∷ codes "task p is begin" ∷ [] ∷ codes "a.enqueue (1);" ∷ codes "a.enqueue (2); end;" ∷ []
    ∷ codes "task c is" ∷ codes "x : integer; begin" ∷ [] ∷ codes "x := a.dequeue;" ∷ codes "a.dequeue; end; end tasks;" ∷ [] ∷ [] ∷ codes "a.peak_use;" ∷ [])

abbrev pub IsSharingWell : Type 0
IsSharingWell = IsWellFormed sharing

-- a block without tasks isn't well formed, and no task stands outside a block of tasks

abbrev pub NeedsTask : Type 0
NeedsTask = IsWellFormed (record { pragma = None; decls = []; stmts = block (tasks_at 1) stop stop }) → ⊥

abbrev pub NeedsBlock : Type 0
NeedsBlock = IsWellFormed (record { pragma = None; decls = []; stmts = block (task_at 1 (codes "t") []) stop stop }) → ⊥

-- and no block stands in a task
abbrev pub NeedsCommands : Type 0
NeedsCommands = IsWellFormed (record { pragma = None; decls = []; stmts = block (tasks_at 1) (block (task_at 1 (codes "t") []) (block (stable_at 1 (codes "a")) stop stop) stop) stop }) → ⊥

-- so many tasks without commands, each on a line of its own, and the end of their block behind the last

abbrev pub tasks_from : ℕ → ℕ → Code
tasks_from line zero = stop
tasks_from line (suc n) = block (task_at line (codes "t") []) stop (tasks_from (line + 1) n)

abbrev pub with_tasks : ℕ → Script
with_tasks n = record { pragma = None; decls = []; stmts = block (tasks_at 1) (tasks_from 2 n) stop }

abbrev pub tasks_text : ℕ → List ℕ
tasks_text n = codes "tasks" ++ (repeated n (10 ∷ codes "task T is begin end;") ++ codes "end tasks;")

abbrev pub Takes8Tasks : Type 0
Takes8Tasks = Spells (with_tasks 8) (tasks_text 8)

abbrev pub RefusesTask9 : Type 0
RefusesTask9 = IsFirstRefusal (tasks_text 9) 10 Limit

-- a block of tasks is a block, and a task in it is none

abbrev pub a_block_text : List ℕ
a_block_text = codes "tasks task T is begin end; end tasks;"

-- a block of tasks with one task, so many of them one behind the other on this line
abbrev pub task_blocks : ℕ → ℕ → Code
task_blocks line zero = stop
task_blocks line (suc n) = block (tasks_at line) (block (task_at line (codes "t") []) stop stop) (task_blocks line n)

-- so many blocks from this line on, each in the one before, with this code in the last
abbrev pub deep_with : ℕ → ℕ → Code → Code
deep_with line zero code = code
deep_with line (suc n) code = block (stable_at line (codes "a")) (deep_with (line + 1) n code) stop

abbrev pub TakesTasksAtDepth16 : Type 0
TakesTasksAtDepth16 = Spells (two_lines (deep_with 3 15 (task_blocks 18 2))) (heads_text 15 ++ (repeated 2 a_block_text ++ repeated 15 (codes "end;")))

abbrev pub RefusesTasksAtDepth17 : Type 0
RefusesTasksAtDepth17 = IsFirstRefusal (heads_text 16 ++ codes "tasks") 19 Limit

-- behind them the depth is what it was before
abbrev pub RefusesDepth17BehindTasks : Type 0
RefusesDepth17BehindTasks = IsFirstRefusal (heads_text 15 ++ (a_block_text ++ 10 ∷ codes "stable A do" ++ 10 ∷ codes "stable")) 20 Limit

-- commands are counted from the task's `begin` on

abbrev pub CountsCommands : Type 0
CountsCommands = seen_of (tokens (cut_of (codes "tasks task T is X : integer; begin A.Print; X := X + 1;")).placed)
    ≡ record { depth = 1; opened = false; minus = false; ended = false; awaited = false; tasks = 1; progress = command_due; commands = 2 }

-- where a command is due behind so many
abbrev pub behind_commands : ℕ → Seen
behind_commands n = record { depth = 1; opened = false; minus = false; ended = false; awaited = false; tasks = 1; progress = command_due; commands = n }

abbrev pub TakesCommand1000 : Type 0
TakesCommand1000 = is_past_limit (behind_commands 999) (token.Word (codes "x")) ≡ false

abbrev pub RefusesCommand1001 : Type 0
RefusesCommand1001 = is_past_limit (behind_commands 1000) (token.Word (codes "x")) ≡ true

abbrev pub TakesEndBehind1000 : Type 0
TakesEndBehind1000 = is_past_limit (behind_commands 1000) (token.Word (codes "end")) ≡ false
