-- Statements that keep the rules leave each name what it holds, by its type.
use Rattle.std.proofs.Common.{◌≡◌, ◌++◌, ℕ, Bool, true, false, List, [], ◌∷◌, map, length, refl, ap, ◌∙◌, option_map, Option, Some, None, if◌then◌else◌}
use Rattle.ac_base.specs.declared.reason.Reason.{Reason}
use Rattle.ac_base.specs.declared.value.Value.{Value}
use Rattle.ac_base.specs.declared.reason.Exception.{Exception}
use Rattle.ac_model.specs.Letters.{Mark, mark_at as mark_of_name}
use Rattle.ac_syntax.specs.Code.{Head, loop_at, view_at, stable_at, declare_at, tasks_at, task_at, Code, stop, one, block, handled, HandlerCode, no_handler, handler}
use Rattle.ac_syntax.specs.Canonical.{propagates_in}
use Rattle.ac_syntax.specs.Nesting.{AreStatements, AreHandlers}
use Rattle.ac_syntax.specs.declared.script.Script.{Script}
use Rattle.ac_syntax.specs.declared.view_kind.ViewKind.{ViewKind}
use Rattle.ac_syntax.specs.declared.view_kind.ViewKind.TheVariants.{Query, Update, Reference, UpdateKey}
use Rattle.ac_rules.specs.Faults.{IsChecked}
use Rattle.ac_rules.specs.Kept.{KeepsRules, HandlersKept}
use Rattle.ac_rules.specs.Resolved.{ResolvedSimple, loops_at, views_at, stables_at, place_of, resolve, resolve_simple, resolve_head, resolve_decls}
use Rattle.ac_rules.specs.Scopes.{Scope, inside, behind_block, with_decls, with_named}
use Rattle.ac_rules.proofs.Kept.{rules_kept}
use Rattle.ac_calls.specs.Holdings.{Held, of_rows, of_holder, of_queue, Guards, names_of, number_of, element_value}
use Rattle.ac_meaning.specs.Commands.{performed}
use Rattle.ac_meaning.specs.Environment.{Bound, binds_type, binds_object, binds_cursor, binds_value, binds_element, State, first_state, under, at_rest, object_at, guarded_at, mark_at, value_at, value_or_zero, with_name, leaving, Declared, after_decls}
use Rattle.ac_meaning.specs.Execution.{End, Outcome, Orders, passed_on, unless_raised, followed, scoped, commanded, guards_of_loop, guards_of_stable, guards_of_view, in_order, turn_bound, head_reason, key_end, turns_behind, key_body, viewed, view_on, on_object, after_declared, block_on, takes_any, exec, exec_behind, handle, run_with}
use Rattle.ac_meaning.specs.HoldsTypes.{has_line, shape_of, HoldsTypes, GoesOnHolding}
use Rattle.ac_meaning.specs.Stays.{HeldStays, BoundStays, EachStays}
use Rattle.ac_meaning.proofs.CommandsStay.{command_stays}
use Rattle.ac_meaning.proofs.Ends.{none_runs_behind}
use Rattle.ac_meaning.proofs.ExecKeeps.{Extends, decls_extend}
use Rattle.ac_meaning.proofs.HoldsHeads.{declared_holds, heads_hold}
use Rattle.ac_meaning.proofs.HoldsLists.{first_ones}
use Rattle.ac_meaning.proofs.HoldsOn.{of_object, of_element, sort, sorts, holds_on, sorts-under, sorts-at_rest, sorts_back}
use Rattle.ac_meaning.proofs.SortsOfBlocks.{gathered_sorts, key_end_sorts}

-- what runs where the names hold what this scope says
abbrev Keeps : Scope → (Guards → State → Outcome) → Type 0
Keeps scope body = (guards : Guards) (e : State) → HoldsTypes scope e → sorts (body guards e).after ≡ sorts e

module _ (body : Guards → State → Outcome) (scope inner : Scope) (keeps : Keeps inner body) (guards : Guards) where
  scoped_sorts : (held : Guards) (e : State) (b : Bound) → HoldsTypes inner (with_name e b) → sorts (scoped e (body held) (with_name e b)).after ≡ sorts e
  scoped_sorts held e b h = sorts_back e (body held (with_name e b)).after (b ∷ []) (keeps held (with_name e b) h)

  turns_sorts : (elements : Bool) (object : ℕ) (h : Held) (names : List ℕ) (end : End) (e : State) → HoldsTypes scope e →
      ((now : State) (mark : Mark) → HoldsTypes scope now → HoldsTypes inner (with_name now (turn_bound elements object mark))) →
      sorts (turns_behind body guards elements object h names end e).after ≡ sorts e
  turns_sorts elements object h [] end e holds each = refl
  turns_sorts elements object h (name ∷ names) (Some raised) e holds each = refl
  turns_sorts elements object h (name ∷ names) None e holds each =
      let mark = mark_of_name (number_of h) name in
      let b = turn_bound elements object mark in
      let turn = scoped e (body (guards_of_loop elements h ++ guards)) (with_name e b) in
      let first : sorts turn.after ≡ sorts e = scoped_sorts (guards_of_loop elements h ++ guards) e b (each e mark holds) in
      turns_sorts elements object h names turn.end turn.after (holds_on scope e turn.after first holds) each ∙ first

  loop_sorts : (number : ℕ) (elements backward : Bool) (object : ℕ) (found : Option Held) (e : State) → HoldsTypes scope e →
      ((now : State) (mark : Mark) → HoldsTypes scope now → HoldsTypes inner (with_name now (turn_bound elements object mark))) →
      sorts (on_object body guards (loops_at number elements backward object) found e).after ≡ sorts e
  loop_sorts number elements backward object None e holds each = refl
  loop_sorts number elements backward object (Some h) e holds each = turns_sorts elements object h (in_order backward (names_of h)) None e holds each

  unless_sorts : (next : State → Outcome) (end : End) (left : State) → sorts (next left).after ≡ sorts left → sorts (unless_raised next end left).after ≡ sorts left
  unless_sorts next None left h = h
  unless_sorts next (Some raised) left h = refl

  key_sorts : (number object : ℕ) (at : Mark) (h : Held) (e : State) →
      HoldsTypes inner (with_name e (binds_value (value_or_zero (element_value h at).answer))) → sorts (key_body body guards number object at h e).after ≡ sorts e
  key_sorts number object at h e holds =
      let held = guards_of_view UpdateKey h ++ guards in
      let b = binds_value (value_or_zero (element_value h at).answer) in
      let r = body held (with_name e b) in
      let left = leaving (length e.bounds) r.after in
      let copy = value_at r.after (length e.bounds) in
      unless_sorts (key_end number object at copy held) r.end left (key_end_sorts number object held left at copy (object_at (under held left) object) refl)
      ∙ scoped_sorts held e b holds

  viewed_sorts : (number : ℕ) (view : ViewKind) (object : ℕ) (at : Mark) (h : Held) (e : State) →
      HoldsTypes inner (with_name e (binds_element object at)) →
      ((v : Value) → HoldsTypes inner (with_name e (binds_value v))) →
      sorts (viewed body guards number view object at h e).after ≡ sorts e
  viewed_sorts number Query object at h e holds copy = scoped_sorts (guards_of_view Query h ++ guards) e (binds_element object at) holds
  viewed_sorts number Update object at h e holds copy = scoped_sorts (guards_of_view Update h ++ guards) e (binds_element object at) holds
  viewed_sorts number Reference object at h e holds copy = scoped_sorts (guards_of_view Reference h ++ guards) e (binds_element object at) holds
  viewed_sorts number UpdateKey object at h e holds copy = key_sorts number object at h e (copy (value_or_zero (element_value h at).answer))

  view_sorts : (number : ℕ) (view : ViewKind) (object : ℕ) (at : Mark) (h : Held) (e : State) (reason : Option Reason) → head_reason view h at ≡ reason →
      HoldsTypes inner (with_name e (binds_element object at)) →
      ((v : Value) → HoldsTypes inner (with_name e (binds_value v))) →
      sorts (view_on body guards number view object at h e).after ≡ sorts e
  view_sorts number view object at h e None f holds copy = rw (f, view_on) (viewed_sorts number view object at h e holds copy)
  view_sorts number view object at h e (Some reason) f holds copy = rw (f, view_on) refl

  placed_sorts : (number : ℕ) (view : ViewKind) (object : ℕ) (at : Option ℕ) (e : State) (found : Option Held) →
      ((mark : Mark) → HoldsTypes inner (with_name e (binds_element object mark))) →
      ((v : Value) → HoldsTypes inner (with_name e (binds_value v))) →
      sorts (on_object body guards (views_at number view object at) found e).after ≡ sorts e
  placed_sorts number view object at e None each copy = refl
  placed_sorts number view object at e (Some h) each copy =
      view_sorts number view object (mark_at e at) h e _ refl (each (mark_at e at)) copy

  stable_sorts : (number object : ℕ) (found : Option Held) (e : State) → HoldsTypes inner e →
      sorts (on_object body guards (stables_at number object) found e).after ≡ sorts e
  stable_sorts number object None e holds = refl
  stable_sorts number object (Some h) e holds = keeps (guards_of_stable h ++ guards) e holds

  declared_sorts : (e : State) (d : Declared) (spent : Option ℕ) → d.spent ≡ spent → Extends e d.after → (d.spent ≡ None → HoldsTypes inner d.after) →
      sorts (after_declared body guards e d).after ≡ sorts e
  declared_sorts e d None f ext holds =
      rw (f, after_declared) (sorts_back e (body guards d.after).after ext.more (keeps guards d.after (holds f) ∙ ap (map sort) ext.is))
  declared_sorts e d (Some number) f ext holds = rw (f, after_declared) (sorts_back e d.after ext.more (ap (map sort) ext.is))

-- a command, whatever it is

shape_stays : (h after : Held) → HeldStays h after → shape_of after ≡ shape_of h
shape_stays (of_rows kind o) after s = ap shape_of s.1
shape_stays (of_holder element h) after s = ap shape_of s.1
shape_stays (of_queue number q) after s = ap shape_of s.1 ∙ ap has_line s.2.discipline

sort_on : (b c : Bound) → BoundStays b c → sort c ≡ sort b
sort_on binds_type binds_type s = refl
sort_on (binds_object h) (binds_object after) s = ap of_object (shape_stays h after s)
sort_on (binds_cursor m) (binds_cursor n) s = refl
sort_on (binds_value v) (binds_value w) s = refl
sort_on (binds_element object at) (binds_element other mark) s = ap of_element s.0
sort_on _ _ s = absurd s

all_on : (bs cs : List Bound) → EachStays bs cs → map sort cs ≡ map sort bs
all_on [] [] s = refl
all_on [] (c ∷ cs) s = absurd s
all_on (b ∷ bs) [] s = absurd s
all_on (b ∷ bs) (c ∷ cs) s = λ i. sort_on b c s.0 i ∷ all_on bs cs s.1 i

command_sorts : (e : State) (simple : ResolvedSimple) → sorts (performed e simple).after ≡ sorts e
command_sorts e simple = all_on e.bounds (performed e simple).after.bounds (command_stays e simple).bounds

commanded_sorts : (guards : Guards) (e : State) (simple : ResolvedSimple) → sorts (commanded guards e simple).after ≡ sorts e
commanded_sorts guards e simple =
    sorts-at_rest (performed (under guards e) simple).after ∙ (command_sorts (under guards e) simple ∙ sorts-under guards e)

-- what a block comes to, as it is passed on
abbrev pub blocked : (propagates : Bool) → Orders → Head → (body : Code) → Scope → Guards → State → Outcome
blocked propagates orders head body scope guards e =
    passed_on propagates
    (block_on (λ held. exec_behind propagates orders body (inside scope head) held None) guards orders (resolve (inside scope head) body) e (resolve_head scope head))

-- what follows
sorts_then : (scope : Scope) (e : State) (r : Outcome) (next : End → State → Outcome) → HoldsTypes scope e → sorts r.after ≡ sorts e →
    ((end : End) (later : State) → HoldsTypes scope later → sorts (next end later).after ≡ sorts later) → sorts (followed r next).after ≡ sorts e
sorts_then scope e r next holds first rest = rest r.end r.after (holds_on scope e r.after first holds) ∙ first

either_sorts : (b : Bool) (x y : Outcome) (e : State) → sorts x.after ≡ sorts e → sorts y.after ≡ sorts e → sorts (if b then x else y).after ≡ sorts e
either_sorts true x y e h k = h
either_sorts false x y e h k = k

mutual
  pub exec_sorts : (propagates : Bool) (orders : Orders) (code : Code) (scope : Scope) (guards : Guards) (end : End) (e : State) → AreStatements propagates code →
      KeepsRules scope code → HoldsTypes scope e → sorts (exec_behind propagates orders code scope guards end e).after ≡ sorts e
  exec_sorts propagates orders stop scope guards end e are kept holds = refl
  exec_sorts propagates orders (one simple rest) scope guards (Some raised) e are kept holds =
      ap (λ (r : Outcome). sorts r.after) (none_runs_behind propagates orders rest scope guards raised e)
  exec_sorts propagates orders (one simple rest) scope guards None e are kept holds =
      sorts_then scope e (passed_on propagates (commanded guards e (resolve_simple scope simple))) (exec_behind propagates orders rest scope guards) holds
      (commanded_sorts guards e (resolve_simple scope simple))
      (λ end later h. exec_sorts propagates orders rest scope guards end later are kept.rest h)
  exec_sorts propagates orders (block head body rest) scope guards (Some raised) e are kept holds =
      ap (λ (r : Outcome). sorts r.after) (none_runs_behind propagates orders rest (behind_block scope head) guards raised e)
  exec_sorts propagates orders (block (loop_at line name elements backward object) body rest) scope guards None e are kept holds =
      let head = loop_at line name elements backward object in
      let inner : Guards → State → Outcome = λ held. exec_behind propagates orders body (inside scope head) held None in
      sorts_then scope e (blocked propagates orders head body scope guards e) (exec_behind propagates orders rest scope guards) holds
      (loop_sorts inner scope (inside scope head) (λ held now h. exec_sorts propagates orders body (inside scope head) held None now are.0 kept.body h)
      guards line elements backward (place_of scope object) (guarded_at (under guards e) (place_of scope object)) e holds
      (λ now mark h. heads_hold.loops scope now line name elements backward object mark h kept.head))
      (λ end later h. exec_sorts propagates orders rest scope guards end later are.1 kept.rest h)
  exec_sorts propagates orders (block (view_at line view object at name) body rest) scope guards None e are kept holds =
      let head = view_at line view object at name in
      let inner : Guards → State → Outcome = λ held. exec_behind propagates orders body (inside scope head) held None in
      sorts_then scope e (blocked propagates orders head body scope guards e) (exec_behind propagates orders rest scope guards) holds
      (placed_sorts inner scope (inside scope head) (λ held now h. exec_sorts propagates orders body (inside scope head) held None now are.0 kept.body h)
      guards line view (place_of scope object) (option_map (place_of scope) at) e (guarded_at (under guards e) (place_of scope object))
      (λ mark. heads_hold.views scope e line view object at name mark holds kept.head)
      (λ v. heads_hold.copies scope e line view object at name v holds kept.head))
      (λ end later h. exec_sorts propagates orders rest scope guards end later are.1 kept.rest h)
  exec_sorts propagates orders (block (stable_at line object) body rest) scope guards None e are kept holds =
      let inner : Guards → State → Outcome = λ held. exec_behind propagates orders body scope held None in
      sorts_then scope e (blocked propagates orders (stable_at line object) body scope guards e) (exec_behind propagates orders rest scope guards) holds
      (stable_sorts inner scope scope (λ held now h. exec_sorts propagates orders body scope held None now are.0 kept.body h)
      guards line (place_of scope object) (guarded_at (under guards e) (place_of scope object)) e holds)
      (λ end later h. exec_sorts propagates orders rest scope guards end later are.1 kept.rest h)
  exec_sorts propagates orders (block (declare_at line decls) body rest) scope guards None e are kept holds =
      let within = with_decls scope decls in
      let inner : Guards → State → Outcome = λ held. exec_behind propagates orders body within held None in
      sorts_then scope e (blocked propagates orders (declare_at line decls) body scope guards e) (exec_behind propagates orders rest scope guards) holds
      (declared_sorts inner scope within (λ held now h. exec_sorts propagates orders body within held None now are.0 kept.body h)
      guards e (after_decls (resolve_decls scope decls) e) _ refl (decls_extend (resolve_decls scope decls) e)
      (declared_holds.decls scope decls e holds kept.decls))
      (λ end later h. exec_sorts propagates orders rest scope guards end later are.1 kept.rest h)
  exec_sorts propagates orders (block (tasks_at line) body rest) scope guards None e are kept holds =
      sorts_then scope e (blocked propagates orders (tasks_at line) body scope guards e) (exec_behind propagates orders rest scope guards) holds
      (gathered_sorts (orders e.blocks) (resolve scope body) e)
      (λ end later h. exec_sorts propagates orders rest scope guards end later are.2 kept.rest h)
  exec_sorts propagates orders (block (task_at line name locals) body rest) scope guards None e are kept holds = absurd are
  exec_sorts propagates orders (handled line body handlers rest) scope guards (Some raised) e are kept holds =
      ap (λ (r : Outcome). sorts r.after) (none_runs_behind propagates orders rest scope guards raised e)
  exec_sorts propagates orders (handled line body handlers rest) scope guards None e are kept holds =
      let tried = passed_on propagates (exec_behind propagates orders body scope guards None e) in
      let first : sorts tried.after ≡ sorts e = exec_sorts propagates orders body scope guards None e are.1 kept.body holds in
      let taken = followed tried (handle propagates orders handlers scope guards) in
      let second : sorts taken.after ≡ sorts e =
      handle_sorts propagates orders handlers [] scope guards tried.end tried.after are.3 kept.handlers (holds_on scope e tried.after first holds) ∙ first in
      sorts_then scope e (passed_on propagates taken) (exec_behind propagates orders rest scope guards) holds second
      (λ end later h. exec_sorts propagates orders rest scope guards end later are.4 kept.rest h)

  -- and so do handlers
  handle_sorts : (propagates : Bool) (orders : Orders) (handlers : HandlerCode) (named : List Exception) (scope : Scope) (guards : Guards) (end : End)
      (e : State) → AreHandlers propagates handlers → HandlersKept scope named handlers → HoldsTypes scope e →
      sorts (handle propagates orders handlers scope guards end e).after ≡ sorts e
  handle_sorts propagates orders no_handler named scope guards end e are kept holds = refl
  handle_sorts propagates orders (handler line own body more) named scope guards None e are kept holds = refl
  handle_sorts propagates orders (handler line None body more) named scope guards (Some raised) e are kept holds =
      exec_sorts propagates orders body scope guards None e are.0 kept.body holds
  handle_sorts propagates orders (handler line (Some own) body more) named scope guards (Some raised) e are kept holds =
      either_sorts (takes_any (Some own) raised) (exec_behind propagates orders body scope guards None e)
      (handle propagates orders more scope guards (Some raised) e) e (exec_sorts propagates orders body scope guards None e are.0 kept.body holds)
      (handle_sorts propagates orders more (with_named named (Some own)) scope guards (Some raised) e are.1 kept.more holds)

script_holds : (orders : Orders) (script : Script) → IsChecked script → AreStatements (propagates_in script) script.stmts →
    (after_decls (resolve_decls [] script.decls) first_state).spent ≡ None → HoldsTypes (with_decls [] script.decls) (run_with orders script).after
unfolding run_with
script_holds orders script checked are none =
    let scope = with_decls [] script.decls in
    let e = (after_decls (resolve_decls [] script.decls) first_state).after in
    let holds : HoldsTypes scope e = declared_holds.script script checked none in
    holds_on scope e (exec (propagates_in script) orders script.stmts scope [] e).after
    (exec_sorts (propagates_in script) orders script.stmts scope [] None e are (rules_kept script checked).code holds) holds

pub goes_on_holding : GoesOnHolding
goes_on_holding = record {
  commands = λ scope e simple holds. holds_on scope e (performed e simple).after (command_sorts e simple) holds;
  statements = λ propagates orders code scope guards end e are kept holds.
      holds_on scope e (exec_behind propagates orders code scope guards end e).after (exec_sorts propagates orders code scope guards end e are kept holds) holds;
  script = script_holds;
  guarded = λ scope guards e holds. holds_on scope e (under guards e) (sorts-under guards e) holds;
  rested = λ scope e holds. holds_on scope e (at_rest e) (sorts-at_rest e) holds;
  left = λ scope more e holds. first_ones [] scope more e.bounds holds;
}
