-- Statements with nothing left to look up: each name is its place in the scope where the item stands, and each call its operation.
use Rattle.std.specs.Prelude.{◌≡◌, ℕ, ◌+◌, Bool, false, List, [], ◌∷◌, map, length, unwrap_or, Option, None, option_map}
use Rattle.std.specs.List.{position_or_len}
use Rattle.std.specs.Str.{bytes_eq}
use Rattle.ac_base.specs.declared.reason.Exception.{Exception}
use Rattle.ac_syntax.specs.Canonical.{propagates_in}
use Rattle.ac_syntax.specs.Code.{Simple, call_at, set_at, sum_at, Head, loop_at, view_at, stable_at, declare_at, tasks_at, task_at, Code, stop, one, block, handled, HandlerCode, no_handler, handler}
use Rattle.ac_syntax.specs.declared.arg.Arg.{Arg}
use Rattle.ac_syntax.specs.declared.arg.Arg.TheVariants as arg
use Rattle.ac_syntax.specs.declared.decl.Decl.{Decl}
use Rattle.ac_syntax.specs.declared.decl.Decl.TheVariants as decl
use Rattle.ac_syntax.specs.declared.kind.Kind.TheVariants as kind
use Rattle.ac_syntax.specs.declared.kind.ElemKind.TheVariants as elem
use Rattle.ac_syntax.specs.declared.script.Script.{Script}
use Rattle.ac_syntax.specs.declared.type_def.TypeDef.{TypeDef}
use Rattle.ac_syntax.specs.declared.view_kind.ViewKind.{ViewKind}
use Rattle.ac_syntax.specs.declared.operation.Operation.{Operation}
use Rattle.ac_syntax.specs.declared.operation.Operation.TheVariants as operation
use Rattle.ac_syntax.specs.declared.operation.CommonCall.TheVariants as common
use Rattle.ac_rules.specs.declared.resolved.ResolvedArg.{ResolvedArg}
use Rattle.ac_rules.specs.declared.resolved.ResolvedArg.TheVariants as resolved_arg
use Rattle.ac_rules.specs.declared.resolved.ResolvedDecl.{ResolvedDecl}
use Rattle.ac_rules.specs.declared.resolved.ResolvedDecl.TheVariants as resolved_decl
use Rattle.ac_rules.specs.Operations.{operation_of}
use Rattle.ac_rules.specs.Scopes.{Scope, Entry, Typed, type_of, object_of, with_entry, with_decls, decl_entry, inside, behind_block}

-- a command, with the line of its first token
pub data ResolvedSimple : Type 0 where
  calls_at : (line : ℕ) (target : Option ℕ) (object : ℕ) (operation : Operation) (args : List ResolvedArg) → ResolvedSimple
  sets_at : (line target : ℕ) (from : ResolvedArg) → ResolvedSimple
  sums_at : (line target from : ℕ) (minus : Bool) (number : ℕ) → ResolvedSimple

-- what begins a block, with the line of its first token
pub data ResolvedHead : Type 0 where
  loops_at : (line : ℕ) (elements backward : Bool) (object : ℕ) → ResolvedHead
  views_at : (line : ℕ) (kind : ViewKind) (object : ℕ) (at : Option ℕ) → ResolvedHead
  stables_at : (line object : ℕ) → ResolvedHead
  declares_at : (line : ℕ) (decls : List ResolvedDecl) → ResolvedHead
  -- a block of tasks: its body is these
  gathers_at : (line : ℕ) → ResolvedHead
  -- one of them, with as many locals: its body is its commands
  works_at : (line : ℕ) (name : List ℕ) (locals : ℕ) → ResolvedHead
  -- a block with handlers: its body is a block of what is tried, and behind that its handlers
  begins_at : ResolvedHead
  tries_at : ResolvedHead
  -- a handler, of this exception or of all others: its body is what it does
  handles_at : (catches : Option Exception) → ResolvedHead

-- statements in order: none, or a command and what follows it, or a block with its body and what follows it
pub data ResolvedCode : Type 0 where
  no_statement : ResolvedCode
  a_command : ResolvedSimple → ResolvedCode → ResolvedCode
  a_block : ResolvedHead → ResolvedCode → ResolvedCode → ResolvedCode

-- how many commands and blocks there are
abbrev pub resolved_size : ResolvedCode → ℕ
resolved_size no_statement = 0
resolved_size (a_command _ rest) = 1 + resolved_size rest
resolved_size (a_block _ body rest) = 1 + resolved_size body + resolved_size rest

-- the place of the first entry with this name, or the scope's length where there is none
abbrev pub place_of : Scope → List ℕ → ℕ
place_of scope name = position_or_len (λ (e : Entry). bytes_eq e.name name) scope

abbrev pub resolve_arg : Scope → Arg → ResolvedArg
resolve_arg scope (arg.Lit value) = resolved_arg.Lit value
resolve_arg scope arg.NoElement = resolved_arg.NoElement
resolve_arg scope (arg.Var name) = resolved_arg.At (place_of scope name)

-- what a type that isn't in scope counts as: a type in a script that keeps the rules is
abbrev pub no_type : TypeDef
no_type = record { bounded = false; kind = kind.List; first = elem.Integer; second = None; keyed = false }

-- what a call that isn't in the table counts as: a call that keeps the rules is
abbrev pub no_operation : Operation
no_operation = operation.Common common.IsEmpty

abbrev pub resolve_decl : Scope → Decl → ResolvedDecl
resolve_decl scope (decl.TypeDecl line name def) = resolved_decl.TypeDecl
resolve_decl scope (decl.Object line name of capacity) = resolved_decl.Object line (unwrap_or (type_of scope of) no_type) capacity
resolve_decl scope (decl.CursorVar line name of) = resolved_decl.Cursor
resolve_decl scope (decl.IntVar line name) = resolved_decl.Integer
resolve_decl scope (decl.TextVar line name) = resolved_decl.Text

-- each in the scope behind those before it
abbrev pub resolve_decls : Scope → List Decl → List ResolvedDecl
resolve_decls scope [] = []
resolve_decls scope (d ∷ decls) = resolve_decl scope d ∷ resolve_decls (with_entry scope (decl_entry scope d)) decls

abbrev pub resolve_operation : Scope → Option Typed → (target : Option (List ℕ)) → (word : List ℕ) → List Arg → Operation
resolve_operation scope typed target word args = unwrap_or (operation_of scope typed target word args) no_operation

unfoldable pub resolve_simple : Scope → Simple → ResolvedSimple
resolve_simple scope (call_at line target object word args) =
    calls_at line (option_map (place_of scope) target) (place_of scope object)
    (resolve_operation scope (object_of scope object) target word args) (map (resolve_arg scope) args)
resolve_simple scope (set_at line target from) = sets_at line (place_of scope target) (resolve_arg scope from)
resolve_simple scope (sum_at line target from minus number) = sums_at line (place_of scope target) (place_of scope from) minus number

abbrev pub resolve_head : Scope → Head → ResolvedHead
resolve_head scope (loop_at line name elements backward object) = loops_at line elements backward (place_of scope object)
resolve_head scope (view_at line view object at name) = views_at line view (place_of scope object) (option_map (place_of scope) at)
resolve_head scope (stable_at line object) = stables_at line (place_of scope object)
resolve_head scope (declare_at line decls) = declares_at line (resolve_decls scope decls)
resolve_head scope (tasks_at line) = gathers_at line
resolve_head scope (task_at line name locals) = works_at line name (length locals)

abbrev mutual
  -- a block's body in the scope inside it
  pub resolve : Scope → Code → ResolvedCode
  resolve scope stop = no_statement
  resolve scope (one simple rest) = a_command (resolve_simple scope simple) (resolve scope rest)
  resolve scope (block head body rest) = a_block (resolve_head scope head) (resolve (inside scope head) body) (resolve (behind_block scope head) rest)
  resolve scope (handled line body handlers rest) =
      a_block begins_at (a_block tries_at (resolve scope body) (resolve_handlers scope handlers)) (resolve scope rest)

  -- handlers in the scope around their block
  pub resolve_handlers : Scope → HandlerCode → ResolvedCode
  resolve_handlers scope no_handler = no_statement
  resolve_handlers scope (handler line own body more) = a_block (handles_at own) (resolve scope body) (resolve_handlers scope more)

-- with whether its exceptions propagate
pub record ResolvedScript : Type 0 where
  pub propagates : Bool
  pub decls : List ResolvedDecl
  pub stmts : ResolvedCode

abbrev pub resolve_script : Script → ResolvedScript
resolve_script script =
    record { propagates = propagates_in script; decls = resolve_decls [] script.decls; stmts = resolve (with_decls [] script.decls) script.stmts }

-- what a script is resolved to
pub record IsResolved (script : Script) (decls : List ResolvedDecl) (stmts : ResolvedCode) : Type 0 where
  pub decls_are : decls ≡ resolve_decls [] script.decls
  pub stmts_are : stmts ≡ resolve (with_decls [] script.decls) script.stmts
