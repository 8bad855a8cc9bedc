-- What holds of every script when it runs.
use Rattle.std.specs.Prelude.{◌≡◌, ◌<◌, ◌≤◌, ⊤, ℕ, Bool, false, [], length, Some, None}
use Rattle.ac_base.specs.declared.reason.Exception.{Exception}
use Rattle.ac_syntax.specs.Code.{Code}
use Rattle.ac_syntax.specs.declared.script.Script.{Script}
use Rattle.ac_rules.specs.Scopes.{Scope}
use Rattle.ac_rules.specs.Resolved.{ResolvedCode, ResolvedScript, ResolvedSimple, resolve, resolve_script}
use Rattle.ac_syntax.specs.declared.operation.Operation.{Operation}
use Rattle.ac_model.specs.Objects.{Object}
use Rattle.ac_calls.specs.Elements.{Tools}
use Rattle.ac_calls.specs.Replies.{Arguments, Source}
use Rattle.ac_meaning.specs.Stays.{ReplyStays, StateStays, ObjectGoesOn}
use Rattle.ac_calls.specs.Answers.{Answer, answers_ok, answers_value, answers_truth, answers_place, answers_list, answers_raised, answers_stalled}
use Rattle.ac_meaning.specs.Commands.{performed}
use Rattle.ac_calls.specs.Holdings.{SequenceKind, Held, Guards, reply_by}
use Rattle.ac_meaning.specs.Environment.{State, first_state, object_at, after_decls}
use Rattle.ac_meaning.specs.Execution.{End, Outcome, Orders, ending, exec_behind, resolved_behind, exec_resolved, run_with}

-- statements come to what they are resolved to comes to
abbrev pub RunsResolved : Type 0
RunsResolved = (propagates : Bool) (orders : Orders) (code : Code) (scope : Scope) (guards : Guards) (end : End) (e : State) →
    resolved_behind propagates orders (resolve scope code) guards end e ≡ exec_behind propagates orders code scope guards end e

-- a script, by what it is resolved to
abbrev pub run_resolved : Orders → ResolvedScript → Outcome
run_resolved orders script = exec_resolved script.propagates orders script.stmts [] (after_decls script.decls first_state).after

abbrev pub ScriptRunsResolved : Type 0
ScriptRunsResolved = (orders : Orders) (script : Script) → run_resolved orders (resolve_script script) ≡ run_with orders script

-- orders that are the same for the blocks from one count up to another
abbrev pub Agree : (orders others : Orders) → (from to : ℕ) → Type 0
Agree orders others from to = (block : ℕ) → from ≤ block → block < to → others block ≡ orders block

-- what statements come to is told by the orders of the blocks of tasks that begin in them
abbrev pub OrdersTell : Type 0
OrdersTell = (propagates : Bool) (orders others : Orders) (code : ResolvedCode) (guards : Guards) (end : End) (e : State) →
    Agree orders others e.blocks (resolved_behind propagates orders code guards end e).after.blocks →
    resolved_behind propagates others code guards end e ≡ resolved_behind propagates orders code guards end e

-- what stays of a list or a vector through every operation on it, whatever the source and the arguments
abbrev pub RepliesStay : Type 0 → Type 0
RepliesStay T =
    (which : SequenceKind) (tools : Tools T) (o : Object ℕ T) (source : Source (Object ℕ T)) (args : Arguments) (operation : Operation) →
    ReplyStays o source (reply_by tools o source args which operation)

-- what stays through every command
abbrev pub CommandsStay : Type 0
CommandsStay = (e : State) (simple : ResolvedSimple) → StateStays e (performed e simple).after

-- so of each object, and no name comes or goes
abbrev pub ObjectsGoOn : Type 0
ObjectsGoOn = (e : State) (simple : ResolvedSimple) (place : ℕ) (h : Held) → object_at e place ≡ Some h →
    ObjectGoesOn h (performed e simple).after place

abbrev pub NamesStayInScope : Type 0
NamesStayInScope = (e : State) (simple : ResolvedSimple) → length (performed e simple).after.bounds ≡ length e.bounds

-- an answer that says that nothing was done
abbrev pub IsRefusal : Answer → Type 0
IsRefusal answers_ok = ⊥
IsRefusal (answers_value _) = ⊥
IsRefusal (answers_truth _) = ⊥
IsRefusal (answers_place _) = ⊥
IsRefusal (answers_list _) = ⊥
IsRefusal (answers_raised _) = ⊤
IsRefusal answers_stalled = ⊤

-- a command that is refused, or would wait, leaves the environment
abbrev pub RefusalsLeave : Type 0
RefusalsLeave = (e : State) (simple : ResolvedSimple) → IsRefusal (performed e simple).answer → (performed e simple).after ≡ e

-- where exceptions don't propagate, statements behind a normal end end normally
abbrev pub EndsStayNormal : Type 0
EndsStayNormal = (orders : Orders) (code : ResolvedCode) (guards : Guards) (e : State) →
    (exec_resolved false orders code guards e).end ≡ None

-- behind an exception no statement of a text runs
abbrev pub NoneRunsBehind : Type 0
NoneRunsBehind = (propagates : Bool) (orders : Orders) (code : Code) (scope : Scope) (guards : Guards) (raised : Exception) (e : State) →
    exec_behind propagates orders code scope guards (Some raised) e ≡ ending (Some raised) [] e
