-- What execution may rest on of a script that can run: how each statement keeps the rules, block by block, in the scope where it stands.
use Rattle.std.specs.Prelude.{◌≡◌, ℕ, false, List, [], ◌∷◌, All, IsTrue, Option}
use Rattle.ac_base.specs.declared.reason.Exception.{Exception}
use Rattle.ac_syntax.specs.Code.{Simple, Head, Code, stop, one, block, handled, HandlerCode, no_handler, handler}
use Rattle.ac_syntax.specs.declared.decl.Decl.{Decl}
use Rattle.ac_syntax.specs.declared.script.Script.{Script}
use Rattle.ac_rules.specs.Scopes.{Scope, with_entry, with_decls, decl_entry, decls_in, behind_words, inside, behind_block, with_named}
use Rattle.ac_rules.specs.Rules.{is_decl, is_simple, is_head, suits_decl, suits_simple, suits_head}
use Rattle.ac_rules.specs.Faults.{decl_names, head_names, decl_name, head_name, is_in_scope, is_twice, is_named}
use Rattle.ac_rules.specs.UsedNames.{simple_names}

-- each of these names is in scope
abbrev pub AreKnown : Scope → List (List ℕ) → Type 0
AreKnown scope names = All (λ name. IsTrue (is_in_scope scope name)) names

-- what a declaration names is in scope and of the right type, its own name is new there, and it may stand there, in a task or outside
pub record DeclKept (scope : Scope) (decl : Decl) : Type 0 where
  pub known : AreKnown scope (decl_names decl)
  pub typed : IsTrue (is_decl scope decl)
  pub suited : IsTrue (suits_decl scope decl)
  pub new : is_in_scope scope (decl_name decl) ≡ false

-- the same of a command, which declares nothing
pub record CommandKept (scope : Scope) (simple : Simple) : Type 0 where
  pub known : AreKnown scope (simple_names simple)
  pub typed : IsTrue (is_simple scope simple)
  pub suited : IsTrue (suits_simple scope simple)

-- and of the words of a block's head, without its declarations
pub record HeadKept (scope : Scope) (head : Head) : Type 0 where
  pub known : AreKnown scope (head_names head)
  pub typed : IsTrue (is_head scope head)
  pub suited : IsTrue (suits_head scope head)
  pub new : is_twice scope (head_name head) ≡ false

-- one after another
pub record InTurn (First Rest : Type 0) : Type 0 where
  pub first : First
  pub rest : Rest

-- each declaration in the scope behind those before it
abbrev pub DeclsKept : Scope → List Decl → Type 0
DeclsKept scope [] = Unit {0}
DeclsKept scope (decl ∷ decls) = InTurn (DeclKept scope decl) (DeclsKept (with_entry scope (decl_entry scope decl)) decls)

-- a block: the words of its head, its declarations, its body, and what is behind it
pub record BlockKept (Opening Declared Body Rest : Type 0) : Type 0 where
  pub head : Opening
  pub decls : Declared
  pub body : Body
  pub rest : Rest

-- a block with handlers: what it tries, its handlers, and what is behind it
pub record HandledKept (Body Handlers Rest : Type 0) : Type 0 where
  pub body : Body
  pub handlers : Handlers
  pub rest : Rest

-- a handler: its exception is new, and then its statements, and those behind it
pub record HandlerKept (named : List Exception) (own : Option Exception) (Body More : Type 0) : Type 0 where
  pub new : is_named named own ≡ false
  pub body : Body
  pub more : More

abbrev mutual
  -- statements that keep the rules in this scope
  pub KeepsRules : Scope → Code → Type 0
  KeepsRules scope stop = Unit {0}
  KeepsRules scope (one simple rest) = InTurn (CommandKept scope simple) (KeepsRules scope rest)
  KeepsRules scope (block head body rest) =
      BlockKept (HeadKept scope head) (DeclsKept (behind_words scope head) (decls_in head)) (KeepsRules (inside scope head) body) (KeepsRules (behind_block scope head) rest)
  KeepsRules scope (handled line body handlers rest) = HandledKept (KeepsRules scope body) (HandlersKept scope [] handlers) (KeepsRules scope rest)

  -- handlers behind those that name these exceptions
  pub HandlersKept : Scope → (named : List Exception) → HandlerCode → Type 0
  HandlersKept scope named no_handler = Unit {0}
  HandlersKept scope named (handler line own body more) =
      HandlerKept named own (KeepsRules scope body) (HandlersKept scope (with_named named own) more)

pub record ScriptKept (script : Script) : Type 0 where
  pub decls : DeclsKept [] script.decls
  pub code : KeepsRules (with_decls [] script.decls) script.stmts
