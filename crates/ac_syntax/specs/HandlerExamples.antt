-- Blocks with handlers, the pragma that lets exceptions propagate, and the words that it reserves, worked out by hand.
use Rattle.std.specs.Prelude.{◌≡◌, ℕ, ◌+◌, zero, suc, pos, codes, false, List, [], ◌∷◌, ◌++◌, Some, None}
use Rattle.ac_base.specs.declared.reason.Exception.TheVariants as exception
use Rattle.ac_base.specs.declared.value.Value.TheVariants as value
use Rattle.ac_syntax.specs.Code.{Code, call_at, set_at, declare_at, tasks_at, task_at, stop, one, block, handled, no_handler, handler}
use Rattle.ac_syntax.specs.declared.arg.Arg.TheVariants.{Lit}
use Rattle.ac_syntax.specs.declared.decl.Decl.{Decl}
use Rattle.ac_syntax.specs.declared.decl.Decl.TheVariants.{TypeDecl, Object, IntVar}
use Rattle.ac_syntax.specs.declared.kind.Kind.TheVariants as kind
use Rattle.ac_syntax.specs.declared.kind.ElemKind.TheVariants.{Integer}
use Rattle.ac_syntax.specs.declared.refusal.RefusalKind.TheVariants.{Syntax, Limit}
use Rattle.ac_syntax.specs.declared.script.Script.{Script}
use Rattle.ac_syntax.specs.Refusals.{Spells, IsFirstRefusal}
use Rattle.ac_syntax.specs.Canonical.{canonical_text, IsWellFormed}
use Rattle.ac_syntax.specs.Examples.{lines, repeated}

-- on line 2 a type l of lists of integers, and an object a of it
abbrev pub a_list : List Decl
a_list =
    TypeDecl 2 (codes "l") (record { bounded = false; kind = kind.List; first = Integer; second = None; keyed = false })
    ∷ Object 2 (codes "a") (codes "l") None ∷ []

abbrev pub propagating : List Decl → Code → Script
propagating decls stmts = record { pragma = Some 1; decls = decls; stmts = stmts }

-- a call on the list without arguments, on this line
abbrev pub calls : ℕ → List ℕ → Code → Code
calls line operation rest = one (call_at line None (codes "a") operation []) rest

-- a block in a block, each with handlers

abbrev pub inner_block : Code
inner_block = handled 5 (calls 5 (codes "clear") stop) (handler 5 None stop no_handler) stop

abbrev pub handled_script : Script
handled_script = propagating a_list (
    handled 3
    (one (call_at 4 None (codes "a") (codes "append") (Lit (value.Int (pos 1)) ∷ [])) inner_block)
    (handler 7 (Some exception.ProgramError) (calls 8 (codes "length") stop) (handler 9 None stop no_handler))
    (calls 11 (codes "print") stop))

abbrev pub handled_lines : List (List ℕ)
handled_lines =
    codes "type L is list (integer); A : L;" ∷ codes "begin" ∷ codes "A.Append (1);" ∷ codes "begin A.Clear; exception when others => end;"
    ∷ codes "exception" ∷ codes "when PROGRAM_ERROR =>" ∷ codes "A.Length;" ∷ codes "when others=>" ∷ codes "end;" ∷ codes "A.Print;" ∷ []

abbrev pub SpellsHandled : Type 0
SpellsHandled = Spells handled_script (lines (codes "pragma Propagate;" ∷ handled_lines))

-- `exception` and `end` follow on the line reached
abbrev pub WritesHandled : Type 0
WritesHandled = canonical_text handled_script ≡ lines (
    codes "pragma propagate;" ∷ codes "type l is list (integer); a : l;" ∷ codes "begin" ∷ codes "a.append (1);"
    ∷ codes "begin a.clear; exception when others => end; exception" ∷ [] ∷ codes "when program_error =>" ∷ codes "a.length;"
    ∷ codes "when others => end;" ∷ [] ∷ codes "a.print;" ∷ [])

abbrev pub IsHandledWell : Type 0
IsHandledWell = IsWellFormed handled_script

-- without the pragma no block begins with `begin`
abbrev pub NeedsPragma : Type 0
NeedsPragma = IsFirstRefusal (lines handled_lines) 2 Syntax

abbrev pub NeedsHandler : Type 0
NeedsHandler = IsFirstRefusal (lines (codes "pragma Propagate;" ∷ codes "begin" ∷ codes "exception" ∷ codes "end;" ∷ [])) 4 Syntax

abbrev pub NeedsException : Type 0
NeedsException = IsFirstRefusal (lines (codes "pragma Propagate;" ∷ codes "begin" ∷ codes "end;" ∷ [])) 3 Syntax

-- no handler stands behind that of all others
abbrev pub EndsAtOthers : Type 0
EndsAtOthers = IsFirstRefusal (lines (
    codes "pragma Propagate;" ∷ codes "begin exception" ∷ codes "when others =>" ∷ codes "when Program_Error => end;" ∷ [])) 4 Syntax

-- no block with handlers stands in a task
abbrev pub NeedsStatements : Type 0
NeedsStatements = IsWellFormed (propagating [] (
    block (tasks_at 1) (block (task_at 1 (codes "t") []) (handled 1 stop (handler 1 None stop no_handler) stop) stop) stop)) → ⊥

-- each exception by its name

abbrev pub each_exception : Script
each_exception = propagating [] (
    handled 1 stop
    (handler 2 (Some exception.CapacityError) stop (handler 3 (Some exception.ConstraintError) stop (handler 4 (Some exception.ProgramError) stop no_handler))) stop)

abbrev pub SpellsEachException : Type 0
SpellsEachException = Spells each_exception (lines (
    codes "pragma Propagate; begin exception" ∷ codes "when Capacity_Error =>" ∷ codes "when Constraint_Error =>" ∷ codes "when Program_Error => end;" ∷ []))

-- `=` isn't `=>`
abbrev pub RefusesEquals : Type 0
RefusesEquals = IsFirstRefusal (lines (codes "pragma Propagate;" ∷ codes "begin exception" ∷ codes "when others = end;" ∷ [])) 3 Syntax

-- ---- words

-- a script whose first two words aren't these may have each of them as a name

abbrev pub named : List ℕ → Script
named name = record { pragma = None; decls = IntVar 1 name ∷ []; stmts = one (set_at 2 name (Lit (value.Int (pos 2)))) stop }

abbrev pub naming : List ℕ → List ℕ
naming name = lines ((name ++ codes " : integer;") ∷ (name ++ codes " := 2;") ∷ [])

abbrev pub NamesWhen : Type 0
NamesWhen = Spells (named (codes "when")) (naming (codes "when"))

abbrev pub NamesPragma : Type 0
NamesPragma = Spells (named (codes "pragma")) (naming (codes "pragma"))

abbrev pub NamesPropagate : Type 0
NamesPropagate = Spells (named (codes "propagate")) (naming (codes "propagate"))

-- behind the pragma they are reserved
abbrev pub ReservesWhen : Type 0
ReservesWhen = IsFirstRefusal (codes "pragma Propagate;" ++ 10 ∷ naming (codes "when")) 2 Syntax

abbrev pub ReservesPragma : Type 0
ReservesPragma = IsFirstRefusal (codes "pragma Propagate;" ++ 10 ∷ naming (codes "pragma")) 2 Syntax

-- and such a name isn't written
abbrev pub WritesNoWhen : Type 0
WritesNoWhen = IsWellFormed (propagating (IntVar 2 (codes "when") ∷ []) stop) → ⊥

-- the pragma comes first, and once
abbrev pub NeedsFront : Type 0
NeedsFront = IsFirstRefusal (lines (codes "N : integer;" ∷ codes "pragma Propagate;" ∷ [])) 2 Syntax

abbrev pub NeedsOnePragma : Type 0
NeedsOnePragma = IsFirstRefusal (lines (codes "pragma Propagate;" ∷ codes "pragma Propagate;" ∷ [])) 2 Syntax

-- ---- limits

-- so many blocks with handlers from this line on, each in what the one before tries
abbrev pub tried : ℕ → ℕ → Code
tried line zero = stop
tried line (suc n) = handled line (tried (line + 1) n) (handler 17 None stop no_handler) stop

abbrev pub begins_text : ℕ → List ℕ
begins_text n = codes "pragma Propagate;" ++ repeated n (10 ∷ codes "begin")

abbrev pub TakesBegin16 : Type 0
TakesBegin16 = Spells (propagating [] (tried 2 16)) (begins_text 16 ++ repeated 16 (codes " exception when others => end;"))

abbrev pub RefusesBegin17 : Type 0
RefusesBegin17 = IsFirstRefusal (begins_text 17) 18 Limit

-- a handler's statements stand as deep as what is tried
abbrev pub RefusesDepth17InHandler : Type 0
RefusesDepth17InHandler = IsFirstRefusal (begins_text 16 ++ (codes " exception when others =>" ++ 10 ∷ codes "begin")) 18 Limit

-- the `begin` of a block with declarations begins no block
abbrev pub declared : ℕ → Code
declared zero = stop
declared (suc n) = block (declare_at 1 []) (declared n) stop

abbrev pub TakesDeclare16 : Type 0
TakesDeclare16 = Spells (propagating [] (declared 16)) (codes "pragma Propagate; " ++ (repeated 16 (codes "declare begin ") ++ repeated 16 (codes "end;")))

-- but one behind it does
abbrev pub RefusesBeginBehindDeclare : Type 0
RefusesBeginBehindDeclare = IsFirstRefusal (codes "pragma Propagate; declare begin" ++ repeated 16 (10 ∷ codes "begin")) 17 Limit
