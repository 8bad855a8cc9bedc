-- The numbers of objects: each object in scope has one of its own, and so has the next.
use Rattle.std.specs.Prelude.{◌≡◌, ◌==◌, ◌+◌, ◌≤◌, ℕ, Bool, List, [], ◌∷◌, Some, None, if◌then◌else◌}
use Rattle.ac_syntax.specs.Code.{Code}
use Rattle.ac_rules.specs.declared.resolved.ResolvedDecl.{ResolvedDecl}
use Rattle.ac_rules.specs.Scopes.{Scope}
use Rattle.ac_rules.specs.Resolved.{ResolvedCode, ResolvedSimple}
use Rattle.ac_base.specs.declared.guard.GuardKind.{GuardKind}
use Rattle.ac_calls.specs.Holdings.{Held, with_rows_by, number_of, is_a_set, Guards, held_on, guard_on}
use Rattle.ac_meaning.specs.UnderGuards.{held_with, held_without}
use Rattle.ac_model.specs.Common.{hold_call, release_call}
use Rattle.ac_meaning.specs.Environment.{Bound, binds_type, binds_object, binds_cursor, binds_value, binds_element, object_in, State, first_state, objects_by, with_bound, under, at_rest, object_at, with_name, leaving, after_decls}
use Rattle.ac_meaning.specs.Commands.{performed}
use Rattle.ac_meaning.specs.Execution.{End, Orders, exec_behind, resolved_behind}

-- one for an object with this number
abbrev pub has_number : ℕ → Bound → ℕ
has_number number binds_type = 0
has_number number (binds_object h) = if number_of h == number then 1 else 0
has_number number (binds_cursor _) = 0
has_number number (binds_value _) = 0
has_number number (binds_element _ _) = 0

-- how many names hold an object with this number
abbrev pub times_numbered : ℕ → List Bound → ℕ
times_numbered number [] = 0
times_numbered number (b ∷ bounds) = has_number number b + times_numbered number bounds

pub record NumbersDiffer (e : State) : Type 0 where
  pub once : (number : ℕ) → times_numbered number e.bounds ≤ 1
  pub below_next : (number : ℕ) → e.next ≤ number → times_numbered number e.bounds ≡ 0

-- so a number is that of one place
abbrev pub NumbersTell : Type 0
NumbersTell = (e : State) (place other : ℕ) (h k : Held) → NumbersDiffer e → object_at e place ≡ Some h → object_at e other ≡ Some k →
    number_of h ≡ number_of k → place ≡ other

-- they differ from a script's beginning on, through all that becomes of an environment
pub record NumbersGoOnDiffering : Type 0 where
  pub first : NumbersDiffer first_state
  pub decls : (decls : List ResolvedDecl) (e : State) → NumbersDiffer e → NumbersDiffer (after_decls decls e).after
  pub commands : (e : State) (simple : ResolvedSimple) → NumbersDiffer e → NumbersDiffer (performed e simple).after
  pub resolved : (propagates : Bool) (orders : Orders) (code : ResolvedCode) (guards : Guards) (end : End) (e : State) → NumbersDiffer e →
      NumbersDiffer (resolved_behind propagates orders code guards end e).after
  pub statements : (propagates : Bool) (orders : Orders) (code : Code) (scope : Scope) (guards : Guards) (end : End) (e : State) → NumbersDiffer e →
      NumbersDiffer (exec_behind propagates orders code scope guards end e).after
  pub guarded : (guards : Guards) (e : State) → NumbersDiffer e → NumbersDiffer (under guards e)
  pub rested : (e : State) → NumbersDiffer e → NumbersDiffer (at_rest e)
  pub named : (e : State) (b : Bound) → object_in b ≡ None → NumbersDiffer e → NumbersDiffer (with_name e b)
  pub left : (count : ℕ) (e : State) → NumbersDiffer e → NumbersDiffer (leaving count e)

-- and no number is given again
pub record NextRises : Type 0 where
  pub decls : (decls : List ResolvedDecl) (e : State) → e.next ≤ (after_decls decls e).after.next
  pub resolved : (propagates : Bool) (orders : Orders) (code : ResolvedCode) (guards : Guards) (end : End) (e : State) →
      e.next ≤ (resolved_behind propagates orders code guards end e).after.next
  pub statements : (propagates : Bool) (orders : Orders) (code : Code) (scope : Scope) (guards : Guards) (end : End) (e : State) →
      e.next ≤ (exec_behind propagates orders code scope guards end e).after.next

-- nor is a block of tasks counted back
pub record BlocksRise : Type 0 where
  pub resolved : (propagates : Bool) (orders : Orders) (code : ResolvedCode) (guards : Guards) (end : End) (e : State) →
      e.blocks ≤ (resolved_behind propagates orders code guards end e).after.blocks
  pub statements : (propagates : Bool) (orders : Orders) (code : Code) (scope : Scope) (guards : Guards) (end : End) (e : State) →
      e.blocks ≤ (exec_behind propagates orders code scope guards end e).after.blocks

-- no guard is held on an object that is still to come
pub record GuardsBelow (guards : Guards) (e : State) : Type 0 where
  pub none_from_next : (number : ℕ) (kind : GuardKind) → e.next ≤ number → held_on guards number kind ≡ 0

-- so it is of the guards of blocks on objects in scope, and a new object has no guard
pub record NewObjectsAreUnguarded : Type 0 where
  pub none : (e : State) → GuardsBelow [] e
  pub one_more : (guards : Guards) (e : State) (place : ℕ) (h : Held) (kind : GuardKind) → NumbersDiffer e → object_at e place ≡ Some h →
      GuardsBelow guards e → GuardsBelow (guard_on h kind ∷ guards) e
  pub later : (guards : Guards) (e now : State) → e.next ≤ now.next → GuardsBelow guards e → GuardsBelow guards now
  pub decls : (guards : Guards) (decls : List ResolvedDecl) (e : State) → under guards e ≡ e → GuardsBelow guards e →
      under guards (after_decls decls e).after ≡ (after_decls decls e).after

-- a guard of a block on an object is held on it, and on the object that stands there when it is released, and on no other
pub record GuardsAreOnOneObject : Type 0 where
  pub held : (e : State) (place : ℕ) (h : Held) (kind : GuardKind) → NumbersDiffer e → object_at e place ≡ Some h →
      objects_by (held_with (guard_on h kind)) e ≡ with_bound e place (binds_object (with_rows_by (λ V o. hold_call (is_a_set h) kind o) h))
  pub released : (e : State) (place : ℕ) (h k : Held) (kind : GuardKind) → NumbersDiffer e → object_at e place ≡ Some k →
      number_of k ≡ number_of h →
      objects_by (held_without (guard_on h kind)) e
      ≡ with_bound e place (binds_object (with_rows_by (λ V o. release_call (is_a_set h) kind o) k))
