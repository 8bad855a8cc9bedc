-- Statements run as what they are resolved to.
use Rattle.std.proofs.Common.{◌≡◌, Bool, true, false, [], Some, None, refl, ap, ◌∙◌, if◌then◌else◌}
use Rattle.ac_base.specs.declared.reason.Exception.{Exception}
use Rattle.ac_syntax.specs.Canonical.{propagates_in}
use Rattle.ac_syntax.specs.Code.{Head, loop_at, view_at, stable_at, declare_at, tasks_at, task_at, stop, one, block, handled, HandlerCode, no_handler, handler}
use Rattle.ac_rules.specs.Scopes.{Scope, inside, behind_block, with_decls}
use Rattle.ac_rules.specs.Resolved.{resolve_simple, resolve_head, resolve_decls, resolve, resolve_handlers}
use Rattle.ac_calls.specs.Holdings.{Guards}
use Rattle.ac_meaning.specs.Environment.{State, first_state, after_decls}
use Rattle.ac_meaning.specs.Execution.{End, Orders, outcome, passed_on, followed, commanded, block_on, takes, takes_any, handle, resolved_behind, run_with}
use Rattle.ac_meaning.specs.Laws.{RunsResolved, ScriptRunsResolved}

abbrev normal : End
normal = None

none_either : (b : Bool) → (if b then normal else normal) ≡ normal
none_either true = refl
none_either false = refl

-- no statement of a text is a handler
not_taken : (scope : Scope) (head : Head) (raised : Exception) → takes (resolve_head scope head) raised ≡ false
not_taken scope (loop_at _ _ _ _ _) raised = refl
not_taken scope (view_at _ _ _ _ _) raised = refl
not_taken scope (stable_at _ _) raised = refl
not_taken scope (declare_at _ _) raised = refl
not_taken scope (tasks_at _) raised = refl
not_taken scope (task_at _ _ _) raised = refl

-- handlers to which no exception comes
unasked : (propagates : Bool) (orders : Orders) (handlers : HandlerCode) (scope : Scope) (guards : Guards) (e : State) →
    resolved_behind propagates orders (resolve_handlers scope handlers) guards None e ≡ outcome [] e
unasked propagates orders no_handler scope guards e = refl
unasked propagates orders (handler line own body more) scope guards e =
    ap (λ (end : End). resolved_behind propagates orders (resolve_handlers scope more) guards end e) (none_either propagates)
    ∙ unasked propagates orders more scope guards e

mutual
  pub runs_resolved : RunsResolved
  runs_resolved propagates orders stop scope guards end e = refl
  runs_resolved propagates orders (one simple rest) scope guards None e =
      λ i. followed (passed_on propagates (commanded guards e (resolve_simple scope simple)))
      (λ end now. runs_resolved propagates orders rest scope guards end now i)
  runs_resolved propagates orders (one simple rest) scope guards (Some raised) e = runs_resolved propagates orders rest scope guards (Some raised) e
  runs_resolved propagates orders (block head body rest) scope guards None e =
      λ i. followed
      (passed_on propagates (block_on (λ held now. runs_resolved propagates orders body (inside scope head) held None now i) guards orders
      (resolve (inside scope head) body) e (resolve_head scope head)))
      (λ end now. runs_resolved propagates orders rest (behind_block scope head) guards end now i)
  runs_resolved propagates orders (block head body rest) scope guards (Some raised) e =
      ap (λ b. if b then resolved_behind propagates orders (resolve (inside scope head) body) guards None e
      else resolved_behind propagates orders (resolve (behind_block scope head) rest) guards (Some raised) e) (not_taken scope head raised)
      ∙ runs_resolved propagates orders rest (behind_block scope head) guards (Some raised) e
  runs_resolved propagates orders (handled line body handlers rest) scope guards None e =
      λ i. followed
      (passed_on propagates
      (followed (passed_on propagates (runs_resolved propagates orders body scope guards None e i))
      (λ end now. handlers_resolved propagates orders handlers scope guards end now i)))
      (λ end now. runs_resolved propagates orders rest scope guards end now i)
  runs_resolved propagates orders (handled line body handlers rest) scope guards (Some raised) e =
      runs_resolved propagates orders rest scope guards (Some raised) e

  -- and so do handlers
  handlers_resolved : (propagates : Bool) (orders : Orders) (handlers : HandlerCode) (scope : Scope) (guards : Guards) (end : End) (e : State) →
      resolved_behind propagates orders (resolve_handlers scope handlers) guards end e ≡ handle propagates orders handlers scope guards end e
  handlers_resolved propagates orders no_handler scope guards end e = refl
  handlers_resolved propagates orders (handler line own body more) scope guards None e =
      unasked propagates orders (handler line own body more) scope guards e
  handlers_resolved propagates orders (handler line own body more) scope guards (Some raised) e =
      λ i. if takes_any own raised then runs_resolved propagates orders body scope guards None e i
      else handlers_resolved propagates orders more scope guards (Some raised) e i

pub script_runs_resolved : ScriptRunsResolved
unfolding run_with
script_runs_resolved orders script =
    runs_resolved (propagates_in script) orders script.stmts (with_decls [] script.decls) [] None (after_decls (resolve_decls [] script.decls) first_state).after
