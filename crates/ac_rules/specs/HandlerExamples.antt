-- Blocks with handlers that keep the rules and that break them, and what such a block is resolved to, worked out by hand.
use Rattle.std.specs.Prelude.{◌≡◌, ℕ, ◌+◌, pos, codes, true, false, List, [], ◌∷◌, Some, None}
use Rattle.ac_base.specs.declared.reason.Exception.{Exception}
use Rattle.ac_base.specs.declared.reason.Exception.TheVariants.{ProgramError, ConstraintError, CapacityError}
use Rattle.ac_base.specs.declared.value.Value.TheVariants as value
use Rattle.ac_syntax.specs.Code.{Code, call_at, set_at, loop_at, declare_at, tasks_at, task_at, stop, one, block, handled, HandlerCode, no_handler, handler}
use Rattle.ac_syntax.specs.declared.arg.Arg.TheVariants.{Var}
use Rattle.ac_syntax.specs.declared.decl.Decl.TheVariants.{TypeDecl, Object, IntVar}
use Rattle.ac_syntax.specs.declared.kind.ElemKind.TheVariants.{Integer}
use Rattle.ac_syntax.specs.declared.operation.CommonCall.TheVariants as common_call
use Rattle.ac_syntax.specs.declared.operation.Operation.TheVariants as operation
use Rattle.ac_syntax.specs.declared.refusal.RefusalKind.TheVariants.{UnknownName, WrongType, Twice}
use Rattle.ac_syntax.specs.declared.script.Script.{Script}
use Rattle.ac_rules.specs.declared.resolved.ResolvedArg.TheVariants.{Lit, At}
use Rattle.ac_rules.specs.declared.resolved.ResolvedDecl.TheVariants as made
use Rattle.ac_rules.specs.Examples.{A, B, C, N, V, number, list_of}
use Rattle.ac_rules.specs.Resolved.{calls_at, sets_at, loops_at, declares_at, begins_at, tries_at, handles_at, no_statement, a_command, a_block, resolve_script}
use Rattle.ac_rules.specs.Scopes.{standings}
use Rattle.ac_rules.specs.Walks.{Outcome, outcome, goes_on, refused}

-- a script with a list A and an integer N, whose exceptions propagate
abbrev propagating : Code → Script
propagating stmts = record {
  pragma = Some 1;
  decls = TypeDecl 2 (codes "l") (list_of Integer) ∷ Object 3 A (codes "l") None ∷ IntVar 4 N ∷ [];
  stmts = stmts;
}

-- where a walk over its items ends
abbrev walked : Code → Outcome
walked stmts = outcome 0 (standings (propagating stmts))

abbrev clears : ℕ → List ℕ → Code → Code
clears line object rest = one (call_at line None object (codes "clear") []) rest

-- a block on line 10 that tries this, with these handlers
abbrev trying : Code → HandlerCode → Code
trying body handlers = handled 10 body handlers stop

-- a handler of this exception that clears A on the line behind
abbrev takes : ℕ → Exception → HandlerCode → HandlerCode
takes line own more = handler line (Some own) (clears (line + 1) A stop) more

-- the exceptions one after another, and then all others, which name none
abbrev pub TakesHandlers : Type 0
TakesHandlers =
    walked (trying (clears 11 A stop) (takes 12 ProgramError (takes 14 ConstraintError (takes 16 CapacityError (handler 18 None (clears 19 A stop) no_handler)))))
    ≡ goes_on 0

-- an exception is named once in a block: the next handler may not name it again
abbrev pub RefusesTwice : Type 0
RefusesTwice = walked (trying stop (takes 12 CapacityError (takes 14 CapacityError no_handler))) ≡ refused (Some 14) Twice

-- nor one behind another
abbrev pub RefusesTwiceBehindAnother : Type 0
RefusesTwiceBehindAnother =
    walked (trying stop (takes 12 ProgramError (takes 14 ConstraintError (takes 16 ProgramError no_handler)))) ≡ refused (Some 16) Twice

-- which comes behind the statements of the handlers before it
abbrev pub RefusesInOrder : Type 0
RefusesInOrder =
    walked (trying stop (takes 12 ProgramError (handler 14 (Some ConstraintError) (clears 15 B stop) (takes 16 ProgramError no_handler))))
    ≡ refused (Some 15) UnknownName

-- a block inside, in what is tried or in a handler, may name it too, and so may one behind
abbrev pub TakesInnerHandlers : Type 0
TakesInnerHandlers =
    walked
    (handled 10 (trying stop (takes 12 ProgramError no_handler))
    (takes 20 ProgramError (handler 22 (Some ConstraintError) (trying stop (takes 24 ProgramError (takes 26 ConstraintError no_handler))) no_handler))
    (trying stop (takes 30 ProgramError no_handler)))
    ≡ goes_on 0

-- a handler uses the names around its block, and no others
abbrev pub RefusesUnknownName : Type 0
RefusesUnknownName = walked (trying (clears 11 A stop) (handler 12 None (clears 13 A (clears 14 B stop)) no_handler)) ≡ refused (Some 14) UnknownName

-- what a block inside what is tried declares is out of scope in the handlers, and in the next one what a handler's does
abbrev pub RefusesNameOfBody : Type 0
RefusesNameOfBody =
    walked (trying (block (declare_at 11 (Object 12 B (codes "l") None ∷ [])) (clears 13 B stop) stop) (handler 14 None (clears 15 B stop) no_handler))
    ≡ refused (Some 15) UnknownName

abbrev pub RefusesNameOfHandler : Type 0
RefusesNameOfHandler =
    walked
    (trying stop
    (handler 12 (Some ProgramError) (block (loop_at 13 C false false A) (one (call_at 14 None A (codes "element") (Var C ∷ [])) stop) stop)
    (handler 16 None (one (call_at 17 None A (codes "element") (Var C ∷ [])) stop) no_handler)))
    ≡ refused (Some 17) UnknownName

-- both may declare the same name, which is free behind the block
abbrev pub FreesNamesOfHandlers : Type 0
FreesNamesOfHandlers =
    walked
    (handled 10 (block (declare_at 11 (Object 12 B (codes "l") None ∷ [])) (clears 13 B stop) stop)
    (handler 14 None (block (declare_at 15 (Object 16 B (codes "l") None ∷ [])) (clears 17 B stop) stop) no_handler)
    (block (declare_at 18 (Object 19 B (codes "l") None ∷ [])) (clears 20 B stop) stop))
    ≡ goes_on 0

-- a task tries nothing
abbrev pub TriesNothingInTasks : Type 0
TriesNothingInTasks =
    walked (block (tasks_at 10) (block (task_at 11 V []) (handled 12 stop (handler 13 None stop no_handler) stop) stop) stop)
    ≡ refused (Some 12) WrongType

-- a block with handlers is a block of what is tried and of its handlers, each with the places of the names around it
abbrev pub ResolvesHandlers : Type 0
ResolvesHandlers =
    resolve_script (propagating (
    handled 10 (block (declare_at 11 (IntVar 12 B ∷ [])) (one (set_at 13 B (number 5)) stop) (clears 14 A stop))
    (handler 15 (Some ProgramError) (block (loop_at 16 C true false A) (one (set_at 17 N (Var C)) stop) stop)
    (handler 18 None (one (set_at 19 N (number 6)) stop) no_handler))
    (clears 21 A stop)))
    ≡ record {
      propagates = true;
      decls = made.TypeDecl ∷ made.Object 3 (list_of Integer) None ∷ made.Integer ∷ [];
      stmts =
          a_block begins_at
          (a_block tries_at
          (a_block (declares_at 11 (made.Integer ∷ [])) (a_command (sets_at 13 3 (Lit (value.Int (pos 5)))) no_statement)
          (a_command (calls_at 14 None 1 (operation.Common common_call.Clear) []) no_statement))
          (a_block (handles_at (Some ProgramError))
          (a_block (loops_at 16 true false 1) (a_command (sets_at 17 2 (At 3)) no_statement) no_statement)
          (a_block (handles_at None) (a_command (sets_at 19 2 (Lit (value.Int (pos 6)))) no_statement) no_statement)))
          (a_command (calls_at 21 None 1 (operation.Common common_call.Clear) []) no_statement);
    }
