-- Statements as contracts see them.
use Rattle.std.specs.Prelude.{ℕ, ◌+◌, Bool, List, Option}
use Rattle.ac_base.specs.declared.reason.Exception.{Exception}
use Rattle.ac_syntax.specs.declared.arg.Arg.{Arg}
use Rattle.ac_syntax.specs.declared.decl.Decl.{Decl}
use Rattle.ac_syntax.specs.declared.view_kind.ViewKind.{ViewKind}

-- a command, with the line of its first token
pub data Simple : Type 0 where
  call_at : (line : ℕ) (target : Option (List ℕ)) (object operation : List ℕ) (args : List Arg) → Simple
  set_at : (line : ℕ) (target : List ℕ) (from : Arg) → Simple
  sum_at : (line : ℕ) (target from : List ℕ) (minus : Bool) (number : ℕ) → Simple

-- what begins a block, with the line of its first token
pub data Head : Type 0 where
  loop_at : (line : ℕ) (name : List ℕ) (elements backward : Bool) (object : List ℕ) → Head
  view_at : (line : ℕ) (kind : ViewKind) (object : List ℕ) (at : Option (List ℕ)) (name : List ℕ) → Head
  stable_at : (line : ℕ) (object : List ℕ) → Head
  declare_at : (line : ℕ) (decls : List Decl) → Head
  -- a block of tasks: its body is these, one after another
  tasks_at : (line : ℕ) → Head
  -- one of them: its body is its commands
  task_at : (line : ℕ) (name : List ℕ) (locals : List Decl) → Head

mutual
  -- statements in order: none, or a command and what follows it, or a block with its body and what follows it
  pub data Code : Type 0 where
    stop : Code
    one : Simple → Code → Code
    block : Head → Code → Code → Code
    -- a block with handlers: the line of its `begin`, what is tried, its handlers, and what follows
    handled : (line : ℕ) → Code → HandlerCode → Code → Code

  -- handlers in order: none, or one with its line and its statements, and those behind it; it takes the named exception, or with None all others
  pub data HandlerCode : Type 0 where
    no_handler : HandlerCode
    handler : (line : ℕ) → Option Exception → Code → HandlerCode → HandlerCode

abbrev mutual
  -- how many commands, blocks and handlers there are
  pub code_size : Code → ℕ
  code_size stop = 0
  code_size (one _ rest) = 1 + code_size rest
  code_size (block _ body rest) = 1 + code_size body + code_size rest
  code_size (handled _ body handlers rest) = 1 + code_size body + handlers_size handlers + code_size rest

  pub handlers_size : HandlerCode → ℕ
  handlers_size no_handler = 0
  handlers_size (handler _ _ body more) = 1 + code_size body + handlers_size more
