-- Execution: the lines of statements and the environment after them, while the guards of the enclosing blocks are held.
use Rattle.std.specs.Prelude.{ℕ, Bool, true, false, List, [], ◌∷◌, ◌++◌, length, reverse, if◌then◌else◌, Option, Some, None}
use denote.Enum.Bare.{sameb}
use Rattle.ac_base.specs.contracts.reason.Exception.{the_type}
use Rattle.ac_base.specs.declared.reason.Exception.{Exception}
use Rattle.ac_base.specs.Reason.{exception_of}
use Rattle.ac_base.specs.declared.value.Value.{Value}
use Rattle.ac_base.specs.declared.reason.Reason.{Reason}
use Rattle.ac_base.specs.declared.reason.Reason.TheVariants.{NamesSpent}
use Rattle.ac_base.specs.declared.guard.GuardKind.TheVariants as guard
use Rattle.ac_model.specs.Letters.{Mark, mark_at as mark_of_name}
use Rattle.ac_history.specs.Orders.{run_of}
use Rattle.ac_syntax.specs.Canonical.{propagates_in}
use Rattle.ac_syntax.specs.Code.{Code, stop, one, block, handled, HandlerCode, no_handler, handler}
use Rattle.ac_syntax.specs.declared.script.Script.{Script}
use Rattle.ac_syntax.specs.declared.view_kind.ViewKind.{ViewKind}
use Rattle.ac_syntax.specs.declared.view_kind.ViewKind.TheVariants.{Query, Update, Reference, UpdateKey}
use Rattle.ac_rules.specs.Scopes.{Scope, with_decls, inside, behind_block}
use Rattle.ac_rules.specs.Resolved.{ResolvedSimple, ResolvedHead, loops_at, views_at, stables_at, declares_at, gathers_at, works_at, begins_at, tries_at, handles_at, ResolvedCode, no_statement, a_command, a_block, resolve_simple, resolve_head, resolve_decls, resolve}
use Rattle.ac_calls.specs.Answers.{Answer, answers_ok, answers_value, answers_truth, answers_place, answers_list, answers_raised, answers_stalled, Line, line, lines_text}
use Rattle.ac_calls.specs.Holdings.{Held, Guards, names_of, number_of, guard_on, element_value, key_update_reason, key_updated}
use Rattle.ac_meaning.specs.Environment.{Bound, binds_object, binds_cursor, binds_value, binds_element, State, first_state, under, at_rest, with_bound, object_at, guarded_at, mark_at, value_at, value_or_zero, with_name, leaving, Declared, after_decls}
use Rattle.ac_meaning.specs.Commands.{performed, number_in}
use Rattle.ac_meaning.specs.TaskBlocks.{tasks_of, block_of, block_fits, block_lines, after_block}

-- how statements end: where they raised an exception that no handler took, with it
abbrev pub End : Type 0
End = Option Exception

-- what statements come to: their lines, the environment after them, and their end
pub record Outcome : Type 0 where
  pub lines : List Line
  pub after : State
  pub end : End

abbrev pub ending : End → List Line → State → Outcome
ending end lines after = record { lines = lines; after = after; end = end }

-- with a normal end
abbrev pub outcome : List Line → State → Outcome
outcome lines after = ending None lines after

-- a command raises where its answer says so: one that is stalled raises nothing
abbrev pub answer_end : Answer → End
answer_end answers_ok = None
answer_end (answers_value _) = None
answer_end (answers_truth _) = None
answer_end (answers_place _) = None
answer_end (answers_list _) = None
answer_end (answers_raised reason) = Some (exception_of reason)
answer_end answers_stalled = None

abbrev pub one_line : ℕ → Answer → State → Outcome
one_line number answer after = ending (answer_end answer) (line number answer ∷ []) after

-- where exceptions don't propagate, the end of a statement counts as normal at once
abbrev pub passed_on : (propagates : Bool) → Outcome → Outcome
passed_on propagates r = ending (if propagates then r.end else None) r.lines r.after

-- one after another: what follows is told how the first ended
abbrev pub followed : Outcome → (End → State → Outcome) → Outcome
followed first next = let second = next first.end first.after in ending second.end (first.lines ++ second.lines) second.after

-- only behind a normal end
abbrev pub unless_raised : (State → Outcome) → End → State → Outcome
unless_raised next None e = next e
unless_raised next (Some exception) e = ending (Some exception) [] e

-- what runs with more names, which then go
abbrev pub scoped : State → (State → Outcome) → State → Outcome
scoped e body start = let r = body start in ending r.end r.lines (leaving (length e.bounds) r.after)

-- a command under the guards, on the environment as they make it
abbrev pub commanded : Guards → State → ResolvedSimple → Outcome
commanded guards e simple = let r = performed (under guards e) simple in one_line (number_in simple) r.answer (at_rest r.after)

-- A block of tasks, by the order in which these have their turns
abbrev pub run_by : (order : List ℕ) → (tasks : ResolvedCode) → State → Outcome
run_by order tasks e = let b = run_of (block_of e tasks) order in outcome (block_lines (tasks_of e tasks) b) (after_block tasks b e)

-- one whose numbers don't fit is in no script that can run
abbrev pub gathered : (order : List ℕ) → (tasks : ResolvedCode) → State → Outcome
gathered order tasks e = if block_fits (block_of e tasks) then run_by order tasks e else outcome [] e

-- the order of each block of tasks, by how many began before it
abbrev pub Orders : Type 0
Orders = ℕ → List ℕ

-- Blocks on an object

-- the guards that each holds
abbrev pub guards_of_loop : (elements : Bool) → Held → Guards
guards_of_loop false h = guard_on h guard.Cursors ∷ []
guards_of_loop true h = guard_on h guard.Cursors ∷ guard_on h guard.Elements ∷ []

abbrev pub guards_of_stable : Held → Guards
guards_of_stable h = guard_on h guard.Elements ∷ []

abbrev pub guards_of_view : ViewKind → Held → Guards
guards_of_view Query h = guard_on h guard.Elements ∷ []
guards_of_view Update h = guard_on h guard.Elements ∷ []
guards_of_view Reference h = guard_on h guard.Elements ∷ []
guards_of_view UpdateKey h = guard_on h guard.Cursors ∷ []

abbrev pub in_order : (backward : Bool) → List ℕ → List ℕ
in_order false names = names
in_order true names = reverse names

-- what the name of a loop holds in a turn: the cursor, or the element itself
abbrev pub turn_bound : (elements : Bool) → (object : ℕ) → Mark → Bound
turn_bound false object mark = binds_cursor mark
turn_bound true object mark = binds_element object mark

-- why the head of a view is refused: as Element is, or as the start of an update of a key
abbrev pub head_reason : ViewKind → Held → Mark → Option Reason
head_reason Query h at = (element_value h at).reason
head_reason Update h at = (element_value h at).reason
head_reason Reference h at = (element_value h at).reason
head_reason UpdateKey h at = key_update_reason h at

-- the end of an update of a key: the copy is put back, or the element goes and the block's line says so
abbrev pub end_lines : ℕ → Option Reason → List Line
end_lines number None = []
end_lines number (Some reason) = line number (answers_raised reason) ∷ []

abbrev pub reason_end : Option Reason → End
reason_end None = None
reason_end (Some reason) = Some (exception_of reason)

abbrev pub key_end_on : ℕ → (object : ℕ) → State → Mark → Value → Option Held → Outcome
key_end_on number object e at copy None = outcome [] e
key_end_on number object e at copy (Some h) =
    let w = key_updated h at copy in ending (reason_end w.reason) (end_lines number w.reason) (at_rest (with_bound e object (binds_object w.after)))

abbrev pub key_end : ℕ → (object : ℕ) → Mark → Value → Guards → State → Outcome
key_end number object at copy held e = key_end_on number object e at copy (object_at (under held e) object)

-- `body` is the block's body under any guards
module _ (body : Guards → State → Outcome) (guards : Guards) where
  -- the turns of a loop over an object: one for each of these names, up to one that raises
  abbrev pub turns_behind : (elements : Bool) → (object : ℕ) → Held → List ℕ → End → State → Outcome
  turns_behind elements object h [] end e = ending end [] e
  turns_behind elements object h (name ∷ names) (Some exception) e = ending (Some exception) [] e
  turns_behind elements object h (name ∷ names) None e =
      followed
      (scoped e (body (guards_of_loop elements h ++ guards)) (with_name e (turn_bound elements object (mark_of_name (number_of h) name))))
      (turns_behind elements object h names)

  abbrev pub turns : (elements : Bool) → (object : ℕ) → Held → List ℕ → State → Outcome
  turns elements object h names e = turns_behind elements object h names None e

  -- a view of the element itself
  abbrev pub view_body : ViewKind → (object : ℕ) → Mark → Held → State → Outcome
  view_body view object at h e = scoped e (body (guards_of_view view h ++ guards)) (with_name e (binds_element object at))

  -- an update of a key: of a copy, with what the copy is at the end
  abbrev pub key_body : ℕ → (object : ℕ) → Mark → Held → State → Outcome
  key_body number object at h e =
      let held = guards_of_view UpdateKey h ++ guards in
      let r = body held (with_name e (binds_value (value_or_zero (element_value h at).answer))) in
      followed (ending r.end r.lines (leaving (length e.bounds) r.after))
      (unless_raised (key_end number object at (value_at r.after (length e.bounds)) held))

  abbrev pub viewed : ℕ → ViewKind → (object : ℕ) → Mark → Held → State → Outcome
  viewed number Query object at h e = view_body Query object at h e
  viewed number Update object at h e = view_body Update object at h e
  viewed number Reference object at h e = view_body Reference object at h e
  viewed number UpdateKey object at h e = key_body number object at h e

  abbrev pub view_on : ℕ → ViewKind → (object : ℕ) → Mark → Held → State → Outcome
  view_on number view object at h e =
      elim (head_reason view h at) [ None ↦ viewed number view object at h e | Some reason ↦ one_line number (answers_raised reason) e ]

  -- a block on no object, or on one that takes no guards, is in no script that can run
  abbrev pub on_object : ResolvedHead → Option Held → State → Outcome
  on_object head None e = outcome [] e
  on_object (loops_at number elements backward object) (Some h) e = turns elements object h (in_order backward (names_of h)) e
  on_object (views_at number view object at) (Some h) e = view_on number view object (mark_at e at) h e
  on_object (stables_at number object) (Some h) e = body (guards_of_stable h ++ guards) e
  on_object (declares_at number decls) (Some h) e = outcome [] e
  on_object (gathers_at number) (Some h) e = outcome [] e
  on_object (works_at number name locals) (Some h) e = outcome [] e
  on_object begins_at (Some h) e = outcome [] e
  on_object tries_at (Some h) e = outcome [] e
  on_object (handles_at catches) (Some h) e = outcome [] e

  -- where no number is left for an object, its line says so and the body is skipped
  abbrev pub after_declared : State → Declared → Outcome
  after_declared e d =
      elim d.spent [
        | None ↦ scoped e (body guards) d.after
        | Some number ↦ one_line number (answers_raised NamesSpent) (leaving (length e.bounds) d.after)
      ]

  -- a block, whose statements are these where they are tasks. A task alone is in no script that can run
  abbrev pub block_on : Orders → (tasks : ResolvedCode) → State → ResolvedHead → Outcome
  block_on orders tasks e (loops_at number elements backward object) =
      on_object (loops_at number elements backward object) (guarded_at (under guards e) object) e
  block_on orders tasks e (views_at number view object at) = on_object (views_at number view object at) (guarded_at (under guards e) object) e
  block_on orders tasks e (stables_at number object) = on_object (stables_at number object) (guarded_at (under guards e) object) e
  block_on orders tasks e (declares_at number decls) = after_declared e (after_decls decls e)
  block_on orders tasks e (gathers_at number) = gathered (orders e.blocks) tasks e
  block_on orders tasks e (works_at number name locals) = outcome [] e
  block_on orders tasks e begins_at = body guards e
  block_on orders tasks e tries_at = body guards e
  -- a handler to which no exception comes
  block_on orders tasks e (handles_at catches) = outcome [] e

-- a handler takes its exception, and one of `others` every exception
abbrev pub takes_any : Option Exception → Exception → Bool
takes_any None raised = true
takes_any (Some own) raised = sameb the_type own raised

abbrev pub takes : ResolvedHead → Exception → Bool
takes (loops_at _ _ _ _) raised = false
takes (views_at _ _ _ _) raised = false
takes (stables_at _ _) raised = false
takes (declares_at _ _) raised = false
takes (gathers_at _) raised = false
takes (works_at _ _ _) raised = false
takes begins_at raised = false
takes tries_at raised = false
takes (handles_at catches) raised = takes_any catches raised

abbrev mutual
  -- statements in order, in the scope where they stand, behind what ended so: behind an exception none runs
  pub exec_behind : (propagates : Bool) → Orders → Code → Scope → Guards → End → State → Outcome
  exec_behind propagates orders stop scope guards end e = ending end [] e
  exec_behind propagates orders (one simple rest) scope guards None e =
      followed (passed_on propagates (commanded guards e (resolve_simple scope simple))) (exec_behind propagates orders rest scope guards)
  exec_behind propagates orders (one simple rest) scope guards (Some raised) e = exec_behind propagates orders rest scope guards (Some raised) e
  exec_behind propagates orders (block head body rest) scope guards None e =
      followed
      (passed_on propagates
      (block_on (λ held. exec_behind propagates orders body (inside scope head) held None) guards orders
      (resolve (inside scope head) body) e (resolve_head scope head)))
      (exec_behind propagates orders rest (behind_block scope head) guards)
  exec_behind propagates orders (block head body rest) scope guards (Some raised) e =
      exec_behind propagates orders rest (behind_block scope head) guards (Some raised) e
  -- a block with handlers: what it tries, and behind an exception that leaves it a handler
  exec_behind propagates orders (handled line body handlers rest) scope guards None e =
      followed
      (passed_on propagates
      (followed (passed_on propagates (exec_behind propagates orders body scope guards None e)) (handle propagates orders handlers scope guards)))
      (exec_behind propagates orders rest scope guards)
  exec_behind propagates orders (handled line body handlers rest) scope guards (Some raised) e =
      exec_behind propagates orders rest scope guards (Some raised) e

  -- the first handler that takes the exception, where one came and one does
  pub handle : (propagates : Bool) → Orders → HandlerCode → Scope → Guards → End → State → Outcome
  handle propagates orders no_handler scope guards end e = ending end [] e
  handle propagates orders (handler line own body more) scope guards None e = outcome [] e
  handle propagates orders (handler line own body more) scope guards (Some raised) e =
      if takes_any own raised then exec_behind propagates orders body scope guards None e
      else handle propagates orders more scope guards (Some raised) e

abbrev pub exec : (propagates : Bool) → Orders → Code → Scope → Guards → State → Outcome
exec propagates orders code scope guards e = exec_behind propagates orders code scope guards None e

-- a script's statements with no guards, from what its outermost declarations are found to hold
abbrev pub run_from : Orders → Script → State → Outcome
run_from orders script e = exec (propagates_in script) orders script.stmts (with_decls [] script.decls) [] e

-- a script: its outermost declarations, and its statements with no guards. Without the pragma its exceptions don't propagate: each statement runs, whatever the one before it raised
unfoldable pub run_with : Orders → Script → Outcome
run_with orders script = run_from orders script (after_decls (resolve_decls [] script.decls) first_state).after

unfoldable pub text_with : Orders → Script → List ℕ
text_with orders script = lines_text (run_with orders script).lines

-- where no order tells anything, tasks go in rounds. A script without tasks runs the same by all orders
abbrev pub no_orders : Orders
no_orders i = []

unfoldable pub run : Script → Outcome
run script = run_with no_orders script

unfoldable pub text_of : Script → List ℕ
text_of script = lines_text (run script).lines

-- the same of resolved statements
abbrev pub resolved_behind : (propagates : Bool) → Orders → ResolvedCode → Guards → End → State → Outcome
resolved_behind propagates orders no_statement guards end e = ending end [] e
resolved_behind propagates orders (a_command simple rest) guards None e =
    followed (passed_on propagates (commanded guards e simple)) (resolved_behind propagates orders rest guards)
resolved_behind propagates orders (a_command simple rest) guards (Some raised) e = resolved_behind propagates orders rest guards (Some raised) e
resolved_behind propagates orders (a_block head body rest) guards None e =
    followed (passed_on propagates (block_on (λ held. resolved_behind propagates orders body held None) guards orders body e head))
    (resolved_behind propagates orders rest guards)
resolved_behind propagates orders (a_block head body rest) guards (Some raised) e =
    if takes head raised then resolved_behind propagates orders body guards None e
    else resolved_behind propagates orders rest guards (Some raised) e

abbrev pub exec_resolved : (propagates : Bool) → Orders → ResolvedCode → Guards → State → Outcome
exec_resolved propagates orders code guards e = resolved_behind propagates orders code guards None e
