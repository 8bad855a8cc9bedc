-- Texts that are refused at a token with which no script begins, or where they end, worked out by hand.
use Rattle.std.specs.Prelude.{ℕ, codes, false, List, [], ◌∷◌, None}
use Rattle.ac_syntax.specs.Code.{Code, call_at, loop_at, stop, one, block}
use Rattle.ac_syntax.specs.declared.refusal.RefusalKind.TheVariants.{Syntax}
use Rattle.ac_syntax.specs.declared.script.Script.{Script}
use Rattle.ac_syntax.specs.Refusals.{IsFirstRefusal}
use Rattle.ac_syntax.specs.Examples.{lines, two_lines}

-- no script begins with a mark; the number behind it is past the limit too
abbrev pub RefusesMarkFirst : Type 0
RefusesMarkFirst = IsFirstRefusal (codes ") 99999999999999999999;") 1 Syntax

-- a block of tasks has a task
abbrev pub RefusesNoTask : Type 0
RefusesNoTask = IsFirstRefusal (lines ([] ∷ codes "tasks" ∷ codes "end tasks;" ∷ [])) 3 Syntax

-- a task stands in a block of tasks alone
abbrev pub RefusesBareTask : Type 0
RefusesBareTask = IsFirstRefusal (lines ([] ∷ codes "task T" ∷ [])) 2 Syntax

-- a task that has begun, with these lines behind
abbrev pub in_task_text : List (List ℕ) → List ℕ
in_task_text more = lines (codes "tasks" ∷ codes "task T is begin" ∷ more)

-- no block stands in a task
abbrev pub RefusesBlockInTask : Type 0
RefusesBlockInTask = IsFirstRefusal (in_task_text (codes "stable A do end;" ∷ [])) 3 Syntax

-- and no task stands in another
abbrev pub RefusesTaskInTask : Type 0
RefusesTaskInTask = IsFirstRefusal (in_task_text (codes "task U" ∷ [])) 3 Syntax

-- behind a task no command comes
abbrev pub RefusesCommandBehindTask : Type 0
RefusesCommandBehindTask = IsFirstRefusal (in_task_text (codes "A.Print; end;" ∷ codes "A.Print;" ∷ [])) 4 Syntax

-- a block of tasks ends with its own words
abbrev pub RefusesBareEndOfTasks : Type 0
RefusesBareEndOfTasks = IsFirstRefusal (in_task_text (codes "A.Print; end;" ∷ codes "end" ∷ codes ";" ∷ [])) 5 Syntax

-- a task's locals are integers
abbrev pub RefusesTextInTask : Type 0
RefusesTextInTask = IsFirstRefusal (lines (codes "tasks" ∷ codes "task T is" ∷ codes "X : " ∷ codes "string;" ∷ [])) 4 Syntax

-- without the pragma no block begins with `begin`
abbrev pub RefusesBareBegin : Type 0
RefusesBareBegin = IsFirstRefusal (lines ([] ∷ codes "begin" ∷ [])) 2 Syntax

-- a block with handlers, with this on its first line and this on its second
abbrev pub trying_text : List ℕ → List ℕ → List ℕ
trying_text first second = lines (codes "pragma Propagate;" ∷ first ∷ second ∷ [])

-- what is tried ends with `exception`
abbrev pub RefusesEndOfTried : Type 0
RefusesEndOfTried = IsFirstRefusal (trying_text (codes "begin") (codes "end")) 3 Syntax

-- behind which a handler comes
abbrev pub RefusesNoHandler : Type 0
RefusesNoHandler = IsFirstRefusal (trying_text (codes "begin exception") (codes "end")) 3 Syntax

-- and none comes behind that of all others
abbrev pub RefusesBehindOthers : Type 0
RefusesBehindOthers = IsFirstRefusal (trying_text (codes "begin exception when others =>") (codes "when")) 3 Syntax

-- a handler stands in a block with handlers alone
abbrev pub RefusesBareHandler : Type 0
RefusesBareHandler = IsFirstRefusal (lines (codes "pragma Propagate;" ∷ codes "when" ∷ [])) 2 Syntax

-- a block that doesn't end, with these commands

abbrev pub looping : Code → Script
looping body = two_lines (block (loop_at 3 (codes "c") false false (codes "a")) body stop)

abbrev pub printing : Code
printing = one (call_at 4 None (codes "a") (codes "print") []) stop

abbrev pub open_block : List (List ℕ) → List ℕ
open_block body = lines (codes "type L is list (integer);" ∷ codes "A : L;" ∷ codes "for C in A loop" ∷ body)

abbrev pub RefusesOpenHead : Type 0
RefusesOpenHead = IsFirstRefusal (open_block []) 3 Syntax

abbrev pub RefusesOpenBlock : Type 0
RefusesOpenBlock = IsFirstRefusal (open_block (codes "A.Print;" ∷ [] ∷ [])) 4 Syntax

-- a loop ends with its own words
abbrev pub RefusesBareEnd : Type 0
RefusesBareEnd = IsFirstRefusal (open_block (codes "A.Print;" ∷ codes "end" ∷ codes "; A.Print;" ∷ [])) 6 Syntax

-- declarations stand before statements
abbrev pub RefusesLateDeclaration : Type 0
RefusesLateDeclaration = IsFirstRefusal (open_block (codes "A.Print;" ∷ codes "B" ∷ codes ": L;" ∷ [])) 6 Syntax
