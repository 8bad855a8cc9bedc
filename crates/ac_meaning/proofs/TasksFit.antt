-- Each block of tasks of a script that keeps the rules fits, so that it runs.
use Rattle.std.proofs.Common.{◌≡◌, ◌==◌, ◌+◌, ◌-◌, ◌≤◌, ◌&&◌, ◌++◌, ℕ, suc, nat_lt, Bool, true, false, List, [], ◌∷◌, length, map, refl, sym, ap, subst, ◌∙◌, arith, append_assoc, option_map, Option, Some, None, if◌then◌else◌}
use Rattle.std.specs.Prelude.{get_or, unwrap_or}
use Rattle.std.specs.List.{list_all, position_or_len}
use Rattle.std.proofs.lemmas.List.{append-nil}
use Rattle.ac_model.specs.Queues.{Discipline, by_arrival, by_priority}
use Rattle.ac_history.specs.declared.code.TaskArg.{TaskArg}
use Rattle.ac_history.specs.declared.code.TaskCode.{TaskCode}
use Rattle.ac_syntax.specs.Code.{Simple, call_at, set_at, sum_at, loop_at, view_at, stable_at, declare_at, tasks_at, task_at, Code, stop, one, block, handled}
use Rattle.ac_syntax.specs.Nesting.{AreIntegers, AreCommands, AreTasks}
use Rattle.ac_syntax.specs.declared.arg.Arg.{Arg}
use Rattle.ac_syntax.specs.declared.arg.Arg.TheVariants.{Lit, NoElement, Var}
use Rattle.ac_syntax.specs.declared.decl.Decl.{Decl}
use Rattle.ac_syntax.specs.declared.kind.ElemKind.TheVariants.{Integer}
use Rattle.ac_syntax.specs.declared.operation.Operation.{Operation}
use Rattle.ac_syntax.specs.declared.operation.Operation.TheVariants as operation
use Rattle.ac_syntax.specs.declared.operation.QueueCall.TheVariants as queue_call
use Rattle.ac_rules.specs.declared.rows.Letter.{Letter}
use Rattle.ac_rules.specs.Kept.{CommandKept, KeepsRules}
use Rattle.ac_rules.specs.Operations.{operation_of}
use Rattle.ac_rules.specs.Resolved.{place_of, no_operation, resolve_arg, resolve_operation, resolve_simple, resolve}
use Rattle.ac_rules.specs.Rules.{gives_value, given, takes, fits, fits_optional, all_fit, answered, takes_answer, are_local, is_local, is_task_simple, suits}
use Rattle.ac_rules.specs.Scopes.{a_task, an_object, entry, Scope, Typed, meaning_in, object_of, first_task, inside}
use Rattle.ac_rules.specs.Table.{Row}
use Rattle.ac_rules.specs.UsedNames.{optional_name, arg_names, args_names}
use Rattle.ac_rules.proofs.Apart.{neither, and_parts}
use Rattle.ac_rules.proofs.Found.{finds_row, call_kept}
use Rattle.ac_calls.specs.Holdings.{Held, of_rows, of_holder, of_queue}
use Rattle.ac_meaning.specs.Environment.{State, bound_at, object_at}
use Rattle.ac_meaning.specs.Execution.{outcome, run_by}
use Rattle.ac_meaning.specs.HoldsTypes.{Shape, has_rows, has_place, has_line, shape_of, shape_of_type, HoldsTypes}
use Rattle.ac_meaning.specs.Suits.{is_own, TasksFit, TasksRun}
use Rattle.ac_meaning.specs.TaskBlocks.{queue_places, queue_in, queues_at, argument_from, first_argument, call_step, step_of, steps_of, Task, tasks_from, is_ranked, argument_fits, target_fits, step_fits, code_fits}
use Rattle.ac_meaning.proofs.HoldsLists.{as_long, at_place, object_held}
use Rattle.ac_meaning.proofs.OwnOperations.{row_own, high_line}
use Rattle.ac_meaning.proofs.PlacesCalled.{Has, HasObject, AllCalled, AllShared, shared_all, numbered, told_at}
use Rattle.ac_meaning.proofs.TaskNames.{lt_true, length_both, int_entries, with_integers, AllTasks, no_tasks, one_more, suits_none, IsPlain, plain_value, plain_target, plain_source, plain_letter, in_task, task_begins, local_within, object_outside}

and_both : (a b : Bool) → a ≡ true → b ≡ true → (a && b) ≡ true
and_both true b h k = k
and_both false b h k = neither h

length_mapped : {A B : Type 0} (f : A → B) (xs : List A) → length (map f xs) ≡ length xs
length_mapped f [] = refl
length_mapped f (x ∷ xs) = ap suc (length_mapped f xs)

-- Queues by priority

is_line : Shape → Bool
is_line (has_rows kind) = false
is_line (has_place e) = false
is_line (has_line d) = true

line_of : Discipline → Shape → Discipline
line_of other (has_rows kind) = other
line_of other (has_place e) = other
line_of other (has_line d) = d

ranked_line : (h : Held) → shape_of h ≡ has_line by_priority → is_ranked (queue_in (Some h)) ≡ true
unfolding is_line line_of
ranked_line (of_rows kind o) e = neither (ap is_line e)
ranked_line (of_holder element h) e = neither (ap is_line e)
ranked_line (of_queue number q) e =
    ap (λ d. is_ranked (record { discipline = d; queue = q.queue })) (ap (line_of by_arrival) e)

-- which queues are by priority
abbrev ranks : State → List ℕ → List Bool
ranks e places = map (λ place. is_ranked (queue_in (object_at e place))) places

ranks_are : (e : State) (places : List ℕ) → map is_ranked (queues_at e places) ≡ ranks e places
ranks_are e [] = refl
ranks_are e (place ∷ places) = ap (λ bs. is_ranked (queue_in (object_at e place)) ∷ bs) (ranks_are e places)

-- A call

asks_priority : Operation → Bool
asks_priority (operation.Queue queue_call.DequeueOnlyHighPriority) = true
asks_priority _ = false

call_fits : (places : List ℕ) (first : ℕ) (ranked : List Bool) (locals number queue : ℕ) (into : Option ℕ) (item : TaskArg) (op : Operation) →
    nat_lt queue (length ranked) ≡ true → argument_fits locals item ≡ true → target_fits locals into ≡ true →
    (asks_priority op ≡ true → get_or ranked queue false ≡ true) → step_fits ranked locals (call_step places first number queue into item op) ≡ true
unfolding asks_priority
call_fits places first ranked locals number queue into item (operation.Queue queue_call.Enqueue) q a t high = and_both _ _ q a
call_fits places first ranked locals number queue into item (operation.Queue queue_call.Dequeue) q a t high = and_both _ _ q t
call_fits places first ranked locals number queue into item (operation.Queue queue_call.CurrentUse) q a t high = and_both _ _ q t
call_fits places first ranked locals number queue into item (operation.Queue queue_call.PeakUse) q a t high = and_both _ _ q t
call_fits places first ranked locals number queue into item (operation.Queue queue_call.Print) q a t high = and_both _ _ q refl
call_fits places first ranked locals number queue into item (operation.Queue queue_call.DequeueOnlyHighPriority) q a t high =
    and_both _ _ (high refl) (and_both _ _ a t)
call_fits places first ranked locals number queue into item _ q a t high = and_both _ _ q refl

high_own : (op : Operation) (s : Shape) → asks_priority op ≡ true → is_own s op ≡ true → s ≡ has_line by_priority
unfolding asks_priority
high_own (operation.Queue queue_call.DequeueOnlyHighPriority) s h own = high_line s own
high_own (operation.Queue queue_call.Enqueue) s h own = neither h
high_own (operation.Queue queue_call.Dequeue) s h own = neither h
high_own (operation.Queue queue_call.CurrentUse) s h own = neither h
high_own (operation.Queue queue_call.PeakUse) s h own = neither h
high_own (operation.Queue queue_call.Print) s h own = neither h
high_own _ s h own = neither h

-- the first argument of a call is a literal or fits its letter
FirstPlain : Scope → List Arg → Type 0
FirstPlain scope [] = Unit {0}
FirstPlain scope (Lit v ∷ args) = Unit {0}
FirstPlain scope (NoElement ∷ args) = Unit {0}
FirstPlain scope (Var name ∷ args) = IsPlain (meaning_in scope name)

plain_arg : (scope : Scope) (typed : Typed) (l : Letter) (arg : Arg) (args : List Arg) → fits scope typed l arg ≡ true → FirstPlain scope (arg ∷ args)
unfolding FirstPlain
plain_arg scope typed l (Lit v) args h = tt
plain_arg scope typed l NoElement args h = tt
plain_arg scope typed l (Var name) args h = plain_letter scope typed l name h

optional_plain : (scope : Scope) (typed : Typed) (optional : Option Letter) (args : List Arg) → fits_optional scope typed optional args ≡ true → FirstPlain scope args
unfolding FirstPlain
optional_plain scope typed optional [] h = tt
optional_plain scope typed None (arg ∷ args) h = neither h
optional_plain scope typed (Some last) (arg ∷ []) h = plain_arg scope typed last arg [] h
optional_plain scope typed (Some last) (arg ∷ next ∷ args) h = neither h

first_plain : (scope : Scope) (typed : Typed) (letters : List Letter) (optional : Option Letter) (args : List Arg) →
    all_fit scope typed letters optional args ≡ true → FirstPlain scope args
unfolding FirstPlain
first_plain scope typed [] optional args h = optional_plain scope typed optional args h
first_plain scope typed (l ∷ letters) optional [] h = neither h
first_plain scope typed (l ∷ letters) optional (arg ∷ args) h = plain_arg scope typed l arg args (and_parts (fits scope typed l arg) _ h).0

all_parts : {A : Type 0} (test : A → Bool) (xs ys : List A) → list_all test (xs ++ ys) ≡ true → (list_all test xs ≡ true) × (list_all test ys ≡ true)
all_parts test [] ys h = (refl, h)
all_parts test (x ∷ xs) ys h =
    let here = and_parts (test x) _ h in let rest = all_parts test xs ys here.1 in (and_both _ _ here.0 rest.0, rest.1)

-- The commands of a task

module _ (e : State) (before names : Scope) (locals : List Decl) (places : List ℕ) (ints : AreIntegers locals) (none : first_task before ≡ None)
    (tasks : AllTasks names) (some : 1 ≤ length names) (holds : HoldsTypes before e) where
  abbrev scope : Scope
  scope = in_task before names locals ints none tasks some

  abbrev first : ℕ
  first = length (before ++ names)

  within : (name : List ℕ) → IsPlain (meaning_in scope name) → is_local scope (length before) name ≡ true →
      nat_lt (place_of scope name - first) (length locals) ≡ true
  within name plain local = local_within before names locals ints none tasks some name plain local

  in_this_task : (simple : Simple) → suits (first_task scope) (λ f. is_task_simple scope f simple) ≡ true → is_task_simple scope (length before) simple ≡ true
  in_this_task simple h =
      subst (λ o. suits o (λ f. is_task_simple scope f simple) ≡ true) (task_begins before names locals ints none tasks some) h

  high_ranked : (object : List ℕ) (typed : Typed) → object_of scope object ≡ Some typed → shape_of_type typed.def ≡ has_line by_priority →
      is_ranked (queue_in (object_at e (place_of scope object))) ≡ true
  high_ranked object typed is line =
      let n = place_of scope object in
      let there = object_outside before names locals ints none tasks some object typed is in
      let stands = at_place [] before e.bounds n (entry object (an_object typed.type typed.def)) holds there in
      let found = object_held before e n typed.type typed.def (bound_at e n) refl holds stands in
      ap (λ o. is_ranked (queue_in o)) found.there ∙ ranked_line found.held (found.shape ∙ line)

  argument_within : (args : List Arg) → FirstPlain scope args → are_local scope (length before) (args_names args) ≡ true →
      argument_fits (length locals) (first_argument places first (map (resolve_arg scope) args)) ≡ true
  unfolding FirstPlain
  argument_within [] plain local = refl
  argument_within (Lit v ∷ args) plain local = refl
  argument_within (NoElement ∷ args) plain local = refl
  argument_within (Var name ∷ args) plain local = within name plain (and_parts (is_local scope (length before) name) _ local).0

  target_within : (target : Option (List ℕ)) (typed : Typed) (row : Row) → takes_answer scope target (answered typed row.answer) ≡ true →
      are_local scope (length before) (optional_name target) ≡ true →
      target_fits (length locals) (option_map (λ place. place - first) (option_map (place_of scope) target)) ≡ true
  target_within None typed row taken local = refl
  target_within (Some name) typed row taken local =
      within name (plain_target (meaning_in scope name) (answered typed row.answer) taken) (and_parts (is_local scope (length before) name) _ local).0

  call_within : (line : ℕ) (target : Option (List ℕ)) (object word : List ℕ) (args : List Arg) → CommandKept scope (call_at line target object word args) →
      Has places (place_of scope object) →
      step_fits (ranks e places) (length locals)
      (call_step places first line (position_or_len (λ p. p == place_of scope object) places) (option_map (λ place. place - first) (option_map (place_of scope) target))
      (first_argument places first (map (resolve_arg scope) args)) (resolve_operation scope (object_of scope object) target word args)) ≡ true
  call_within line target object word args kept has =
      let number : nat_lt (position_or_len (λ p. p == place_of scope object) places) (length (ranks e places)) ≡ true =
      lt_true _ _ (omega (arith, numbered places (place_of scope object) has, length_mapped (λ place. is_ranked (queue_in (object_at e place))) places)) in
      let call = call_kept scope (object_of scope object) target word args kept.typed in
      let row = call.row in
      let local = (and_parts _ _ (and_parts _ _ (in_this_task (call_at line target object word args) kept.suited)).1).1 in
      let locals_of = all_parts (is_local scope (length before)) (optional_name target) (args_names args) local in
      let means : resolve_operation scope (object_of scope object) target word args ≡ row.operation =
      ap (λ o. unwrap_or (operation_of scope o target word args) no_operation) call.is
      ∙ ap (λ r. unwrap_or (option_map (λ (x : Row). x.operation) r) no_operation) call.found in
      let high : asks_priority row.operation ≡ true → get_or (ranks e places) (position_or_len (λ p. p == place_of scope object) places) false ≡ true = λ h.
      told_at (λ place. is_ranked (queue_in (object_at e place))) false places (place_of scope object) has
      ∙ high_ranked object call.object call.is
      (high_own row.operation (shape_of_type call.object.def) h
      (row_own call.object.def row ((finds_row scope call.object target word args row).1 call.found).there)) in
      subst (λ op. step_fits (ranks e places) (length locals)
      (call_step places first line (position_or_len (λ p. p == place_of scope object) places) (option_map (λ place. place - first) (option_map (place_of scope) target))
      (first_argument places first (map (resolve_arg scope) args)) op) ≡ true) (sym means)
      (call_fits places first (ranks e places) (length locals) line _ _ _ row.operation number
      (argument_within args (first_plain scope call.object row.letters row.optional args call.fits) locals_of.1)
      (target_within target call.object row call.taken locals_of.0) high)

  source_within : (target : List ℕ) (from : Arg) → takes (meaning_in scope target) (given scope from) ≡ true →
      are_local scope (length before) (arg_names from) ≡ true → argument_fits (length locals) (argument_from places first (resolve_arg scope from)) ≡ true
  source_within target (Lit v) typed local = refl
  source_within target NoElement typed local = refl
  source_within target (Var name) typed local =
      within name (plain_source (meaning_in scope target) (meaning_in scope name) typed) (and_parts (is_local scope (length before) name) _ local).0

  simple_fits : (simple : Simple) → CommandKept scope simple → HasObject places (resolve_simple scope simple) →
      step_fits (ranks e places) (length locals) (step_of places first (resolve_simple scope simple)) ≡ true
  unfolding resolve_simple
  simple_fits (call_at line target object word args) kept has = call_within line target object word args kept has
  simple_fits (set_at line target from) kept has =
      let local = and_parts (is_local scope (length before) target) _ (in_this_task (set_at line target from) kept.suited) in
      and_both _ _ (within target (plain_target (meaning_in scope target) (given scope from) kept.typed) local.0)
      (source_within target from kept.typed local.1)
  simple_fits (sum_at line target from minus number) kept has =
      let local = and_parts (is_local scope (length before) target) _ (in_this_task (sum_at line target from minus number) kept.suited) in
      let typed = and_parts (takes (meaning_in scope target) (gives_value Integer)) _ kept.typed in
      and_both _ _ (within target (plain_target (meaning_in scope target) (gives_value Integer) typed.0) local.0)
      (within from (plain_value Integer (meaning_in scope from) typed.1) (and_parts (is_local scope (length before) from) _ local.1).0)

  steps_fit : (steps : Code) → AreCommands steps → KeepsRules scope steps → AllCalled places (resolve scope steps) →
      list_all (step_fits (ranks e places) (length locals)) (steps_of places first (resolve scope steps)) ≡ true
  steps_fit stop commands kept called = refl
  steps_fit (one simple rest) commands kept called =
      and_both _ _ (simple_fits simple kept.first called.0) (steps_fit rest commands kept.rest called.1)
  steps_fit (block head body rest) commands kept called = absurd commands
  steps_fit (handled line body handlers rest) commands kept called = absurd commands

-- Tasks

module _ (e : State) (before : Scope) (places : List ℕ) (none : first_task before ≡ None) (holds : HoldsTypes before e) where
  abbrev AllFit : List TaskCode → Type 0
  AllFit codes = list_all (code_fits (ranks e places)) codes ≡ true

  one_task_fits : (olds : Scope) (line : ℕ) (name : List ℕ) (locals : List Decl) (steps : Code) (at : ℕ) → AreIntegers locals → AreCommands steps →
      AllTasks olds → KeepsRules (inside (before ++ olds) (task_at line name locals)) steps →
      AllCalled places (resolve (inside (before ++ olds) (task_at line name locals)) steps) → at ≡ length (before ++ olds) + 1 →
      list_all (step_fits (ranks e places) (length locals)) (steps_of places at (resolve (inside (before ++ olds) (task_at line name locals)) steps)) ≡ true
  one_task_fits olds line name locals steps at ints commands tasks kept called is =
      let added = entry name a_task ∷ [] in
      let names = olds ++ added in
      let some : 1 ≤ length names = omega (arith, length_both olds added) in
      let now = one_more olds name tasks in
      let same : inside (before ++ olds) (task_at line name locals) ≡ (before ++ names) ++ int_entries locals =
      with_integers ((before ++ olds) ++ added) locals ints ∙ ap (λ s. s ++ int_entries locals) (append_assoc before olds added) in
      let begins : at ≡ length (before ++ names) =
      omega (arith, is, length_both before names, length_both olds added, length_both before olds) in
      subst (λ n. list_all (step_fits (ranks e places) (length locals))
      (steps_of places n (resolve (inside (before ++ olds) (task_at line name locals)) steps)) ≡ true) (sym begins)
      (subst (λ s. list_all (step_fits (ranks e places) (length locals)) (steps_of places (length (before ++ names)) (resolve s steps)) ≡ true) (sym same)
      (steps_fit e before names locals places ints none now some holds steps commands (subst (λ s. KeepsRules s steps) same kept)
      (subst (λ s. AllCalled places (resolve s steps)) same called)))

  tasks_fit : (tasks : Code) (olds : Scope) (at : ℕ) → AreTasks tasks → AllTasks olds → KeepsRules (before ++ olds) tasks →
      AllShared places (resolve (before ++ olds) tasks) → at ≡ length (before ++ olds) + 1 →
      AllFit (map (λ (t : Task). t.code) (tasks_from (resolve (before ++ olds) tasks) places at))
  tasks_fit stop olds at are names kept shared is = refl
  tasks_fit (one simple rest) olds at are names kept shared is = absurd are
  tasks_fit (handled line body handlers rest) olds at are names kept shared is = absurd are
  tasks_fit (block (loop_at _ _ _ _ _) steps rest) olds at are names kept shared is = absurd are
  tasks_fit (block (view_at _ _ _ _ _) steps rest) olds at are names kept shared is = absurd are
  tasks_fit (block (stable_at _ _) steps rest) olds at are names kept shared is = absurd are
  tasks_fit (block (declare_at _ _) steps rest) olds at are names kept shared is = absurd are
  tasks_fit (block (tasks_at _) steps rest) olds at are names kept shared is = absurd are
  tasks_fit (block (task_at line name locals) steps rest) olds at are names kept shared is =
      let added = entry name a_task ∷ [] in
      let same : (before ++ olds) ++ added ≡ before ++ (olds ++ added) = append_assoc before olds added in
      and_both _ _ (one_task_fits olds line name locals steps at are.0 are.1 names kept.body shared.0 is)
      (subst (λ s. AllFit (map (λ (t : Task). t.code) (tasks_from (resolve s rest) places (at + 1)))) (sym same)
      (tasks_fit rest (olds ++ added) (at + 1) are.2 (one_more olds name names) (subst (λ s. KeepsRules s rest) same kept.rest)
      (subst (λ s. AllShared places (resolve s rest)) same shared.1)
      (omega (arith, is, length_both before olds, length_both before (olds ++ added), length_both olds added))))

pub tasks_all_fit : TasksFit
tasks_all_fit propagating scope e line tasks rest holds statements kept =
    let none = suits_none (first_task scope) kept.head.suited in
    let places = queue_places (resolve scope tasks) in
    let same : scope ++ [] ≡ scope = append-nil scope in
    subst (λ ranked. list_all (code_fits ranked) (map (λ (t : Task). t.code) (tasks_from (resolve scope tasks) places (length e.bounds + 1))) ≡ true)
    (sym (ranks_are e places))
    (subst (λ s. list_all (code_fits (ranks e places)) (map (λ (t : Task). t.code) (tasks_from (resolve s tasks) places (length e.bounds + 1))) ≡ true) same
    (tasks_fit e scope places none holds tasks [] (length e.bounds + 1) statements.1 no_tasks (subst (λ s. KeepsRules s tasks) (sym same) kept.body)
    (subst (λ s. AllShared places (resolve s tasks)) (sym same) (shared_all (resolve scope tasks) []))
    (omega (arith, as_long [] scope e.bounds holds, ap (λ (s : Scope). length s) same))))

pub tasks_run : TasksRun
tasks_run propagating scope e order line tasks rest holds statements kept =
    ap (λ b. if b then run_by order (resolve scope tasks) e else outcome [] e) (tasks_all_fit propagating scope e line tasks rest holds statements kept)
