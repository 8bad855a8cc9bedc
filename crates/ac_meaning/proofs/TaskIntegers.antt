-- In tasks each literal is an integer, as the items of queues and the locals are.
use Rattle.std.proofs.Common.{◌≡◌, ◌≤◌, ◌++◌, ℕ, Bool, true, List, [], ◌∷◌, length, refl, sym, ap, subst, ◌∙◌, arith, append_assoc, Option, Some, None}
use Rattle.std.specs.Prelude.{IsTrue}
use Rattle.std.proofs.lemmas.List.{append-nil}
use Rattle.ac_base.specs.declared.value.Value.{Value}
use Rattle.ac_syntax.specs.Code.{Simple, call_at, set_at, sum_at, loop_at, view_at, stable_at, declare_at, tasks_at, task_at, Code, stop, one, block, handled}
use Rattle.ac_syntax.specs.Kinds.{is_queue}
use Rattle.ac_syntax.specs.Nesting.{AreStatements, AreIntegers as AreIntegerLocals, AreCommands, AreTasks}
use Rattle.ac_syntax.specs.declared.arg.Arg.{Arg}
use Rattle.ac_syntax.specs.declared.arg.Arg.TheVariants.{Lit, NoElement, Var}
use Rattle.ac_syntax.specs.declared.decl.Decl.{Decl}
use Rattle.ac_syntax.specs.declared.kind.ElemKind.{ElemKind}
use Rattle.ac_syntax.specs.declared.kind.ElemKind.TheVariants.{Integer}
use Rattle.ac_syntax.specs.declared.kind.Kind.{Kind}
use Rattle.ac_syntax.specs.declared.kind.Kind.TheVariants as kind
use Rattle.ac_syntax.specs.declared.type_def.TypeDef.{TypeDef}
use Rattle.ac_rules.specs.declared.rows.Letter.{Letter}
use Rattle.ac_rules.specs.declared.rows.Letter.TheVariants as letter
use Rattle.ac_rules.specs.Kept.{CommandKept, KeepsRules}
use Rattle.ac_rules.specs.Resolved.{place_of}
use Rattle.ac_rules.specs.Rules.{is_type, kind_of, given, takes, fits, fits_optional, all_fit, is_local, is_on_queue, is_task_simple, suits}
use Rattle.ac_rules.specs.Scopes.{a_value, a_task, an_object, entry, Scope, Typed, meaning_in, object_of, element_of, first_task, inside}
use Rattle.ac_rules.proofs.Apart.{neither, and_parts}
use Rattle.ac_rules.proofs.Found.{call_kept}
use Rattle.ac_meaning.specs.Environment.{State, bound_at}
use Rattle.ac_meaning.specs.HoldsTypes.{shape_by, HoldsTypes}
use Rattle.ac_meaning.specs.ValueTypes.{IsOf, AreIntegers, TakesIntegers, AllTakeIntegers}
use Rattle.ac_meaning.proofs.AnswersTold.{keys_in, elements_in, type_elements}
use Rattle.ac_meaning.proofs.CommandsKeepTypes.{elem_same}
use Rattle.ac_meaning.proofs.HoldsLists.{at_place, object_held}
use Rattle.ac_meaning.proofs.TaskNames.{length_both, int_entries, with_integers, AllTasks, no_tasks, one_more, suits_none, plain_target, in_task, task_begins, local_integer, object_outside}

-- Of queues

queue_shapes : (k : Kind) (first element : ElemKind) (keyed : Bool) → is_queue k ≡ true →
    (keys_in (shape_by k first element keyed) ≡ Integer) × (elements_in (shape_by k first element keyed) ≡ Integer)
queue_shapes kind.Queue first element keyed h = (refl, refl)
queue_shapes kind.PriorityQueue first element keyed h = (refl, refl)
queue_shapes kind.Vector first element keyed h = neither h
queue_shapes kind.List first element keyed h = neither h
queue_shapes kind.HashedMap first element keyed h = neither h
queue_shapes kind.OrderedMap first element keyed h = neither h
queue_shapes kind.HashedSet first element keyed h = neither h
queue_shapes kind.OrderedSet first element keyed h = neither h
queue_shapes kind.Tree first element keyed h = neither h
queue_shapes kind.Holder first element keyed h = neither h

queue_integers : (def : TypeDef) → IsTrue (is_type def) → is_queue def.kind ≡ true → (def.first ≡ Integer) × (element_of def ≡ Integer)
queue_integers def typed queue =
    let types = type_elements def typed in
    let shape = queue_shapes def.kind def.first (element_of def) def.keyed queue in
    (sym types.0 ∙ shape.0, sym types.1 ∙ shape.1)

-- Literals

module _ (scope : Scope) (typed : Typed) (first : typed.def.first ≡ Integer) (element : element_of typed.def ≡ Integer) where
  literal_integer : (l : Letter) (v : Value) → fits scope typed l (Lit v) ≡ true → IsOf Integer v
  literal_integer letter.Cursor v h = neither h
  literal_integer letter.CursorVariable v h = neither h
  literal_integer letter.Integer v h = elem_same Integer (kind_of v) h
  literal_integer letter.Element v h = elem_same (element_of typed.def) (kind_of v) h ∙ element
  literal_integer letter.Key v h = elem_same typed.def.first (kind_of v) h ∙ first
  literal_integer letter.Object v h = neither h

  with_literal : (l : Letter) (arg : Arg) (args : List Arg) → fits scope typed l arg ≡ true → AreIntegers args → AreIntegers (arg ∷ args)
  with_literal l (Lit v) args h rest = (literal_integer l v h, rest)
  with_literal l NoElement args h rest = rest
  with_literal l (Var name) args h rest = rest

  last_integers : (optional : Option Letter) (args : List Arg) → fits_optional scope typed optional args ≡ true → AreIntegers args
  last_integers optional [] h = tt
  last_integers None (arg ∷ args) h = neither h
  last_integers (Some last) (arg ∷ []) h = with_literal last arg [] h tt
  last_integers (Some last) (arg ∷ next ∷ args) h = neither h

  all_integers : (letters : List Letter) (optional : Option Letter) (args : List Arg) → all_fit scope typed letters optional args ≡ true → AreIntegers args
  all_integers [] optional args h = last_integers optional args h
  all_integers (l ∷ letters) optional [] h = neither h
  all_integers (l ∷ letters) optional (arg ∷ args) h =
      let here = and_parts (fits scope typed l arg) _ h in with_literal l arg args here.0 (all_integers letters optional args here.1)

set_integers : (scope : Scope) (from : Arg) → takes (Some (a_value Integer true)) (given scope from) ≡ true → AreIntegers (from ∷ [])
set_integers scope (Lit v) h = (elem_same Integer (kind_of v) h, tt)
set_integers scope NoElement h = tt
set_integers scope (Var name) h = tt

-- The commands of a task

module _ (e : State) (before names : Scope) (locals : List Decl) (ints : AreIntegerLocals locals) (none : first_task before ≡ None)
    (tasks : AllTasks names) (some : 1 ≤ length names) (holds : HoldsTypes before e) where
  abbrev scope : Scope
  scope = in_task before names locals ints none tasks some

  in_this_task : (simple : Simple) → suits (first_task scope) (λ f. is_task_simple scope f simple) ≡ true → is_task_simple scope (length before) simple ≡ true
  in_this_task simple h =
      subst (λ o. suits o (λ f. is_task_simple scope f simple) ≡ true) (task_begins before names locals ints none tasks some) h

  object_type : (object : List ℕ) (typed : Typed) → object_of scope object ≡ Some typed → IsTrue (is_type typed.def)
  object_type object typed is =
      let n = place_of scope object in
      let there = object_outside before names locals ints none tasks some object typed is in
      let stands = at_place [] before e.bounds n (entry object (an_object typed.type typed.def)) holds there in
      (object_held before e n typed.type typed.def (bound_at e n) refl holds stands).type

  simple_integers : (simple : Simple) → CommandKept scope simple → TakesIntegers simple
  simple_integers (call_at line target object word args) kept =
      let call = call_kept scope (object_of scope object) target word args kept.typed in
      let queue = (and_parts (is_on_queue (object_of scope object)) _ (in_this_task (call_at line target object word args) kept.suited)).0 in
      let types = queue_integers call.object.def (object_type object call.object call.is) (subst (λ o. is_on_queue o ≡ true) call.is queue) in
      all_integers scope call.object types.0 types.1 call.row.letters call.row.optional args call.fits
  simple_integers (set_at line target from) kept =
      let local = and_parts (is_local scope (length before) target) _ (in_this_task (set_at line target from) kept.suited) in
      let plain = plain_target (meaning_in scope target) (given scope from) kept.typed in
      let meant : meaning_in scope target ≡ Some (a_value Integer true) =
      plain.is ∙ ap Some (local_integer before names locals ints none tasks some target plain local.0) in
      set_integers scope from (subst (λ m. takes m (given scope from) ≡ true) meant kept.typed)
  simple_integers (sum_at line target from minus number) kept = tt

  steps_integers : (steps : Code) → AreCommands steps → KeepsRules scope steps → AllTakeIntegers steps
  steps_integers stop commands kept = tt
  steps_integers (one simple rest) commands kept = (simple_integers simple kept.first, steps_integers rest commands kept.rest)
  steps_integers (block head body rest) commands kept = absurd commands
  steps_integers (handled line body handlers rest) commands kept = absurd commands

-- Tasks

module _ (e : State) (before : Scope) (none : first_task before ≡ None) (holds : HoldsTypes before e) where
  one_task_integers : (olds : Scope) (line : ℕ) (name : List ℕ) (locals : List Decl) (steps : Code) → AreIntegerLocals locals → AreCommands steps →
      AllTasks olds → KeepsRules (inside (before ++ olds) (task_at line name locals)) steps → AllTakeIntegers steps
  one_task_integers olds line name locals steps ints commands tasks kept =
      let added = entry name a_task ∷ [] in
      let names = olds ++ added in
      let some : 1 ≤ length names = omega (arith, length_both olds added) in
      let same : inside (before ++ olds) (task_at line name locals) ≡ (before ++ names) ++ int_entries locals =
      with_integers ((before ++ olds) ++ added) locals ints ∙ ap (λ s. s ++ int_entries locals) (append_assoc before olds added) in
      steps_integers e before names locals ints none (one_more olds name tasks) some holds steps commands (subst (λ s. KeepsRules s steps) same kept)

  tasks_integers : (tasks : Code) (olds : Scope) → AreTasks tasks → AllTasks olds → KeepsRules (before ++ olds) tasks → AllTakeIntegers tasks
  tasks_integers stop olds are names kept = tt
  tasks_integers (one simple rest) olds are names kept = absurd are
  tasks_integers (handled line body handlers rest) olds are names kept = absurd are
  tasks_integers (block (loop_at _ _ _ _ _) steps rest) olds are names kept = absurd are
  tasks_integers (block (view_at _ _ _ _ _) steps rest) olds are names kept = absurd are
  tasks_integers (block (stable_at _ _) steps rest) olds are names kept = absurd are
  tasks_integers (block (declare_at _ _) steps rest) olds are names kept = absurd are
  tasks_integers (block (tasks_at _) steps rest) olds are names kept = absurd are
  tasks_integers (block (task_at line name locals) steps rest) olds are names kept =
      let added = entry name a_task ∷ [] in
      let same : (before ++ olds) ++ added ≡ before ++ (olds ++ added) = append_assoc before olds added in (
        one_task_integers olds line name locals steps are.0 are.1 names kept.body,
        tasks_integers rest (olds ++ added) are.2 (one_more olds name names) (subst (λ s. KeepsRules s rest) same kept.rest),
      )

pub tasks_take_integers : (propagating : Bool) (scope : Scope) (e : State) (line : ℕ) (tasks rest : Code) → HoldsTypes scope e →
    AreStatements propagating (block (tasks_at line) tasks rest) → KeepsRules scope (block (tasks_at line) tasks rest) → AllTakeIntegers tasks
tasks_take_integers propagating scope e line tasks rest holds statements kept =
    let none = suits_none (first_task scope) kept.head.suited in
    tasks_integers e scope none holds tasks [] statements.1 no_tasks (subst (λ s. KeepsRules s tasks) (sym (append-nil scope)) kept.body)
