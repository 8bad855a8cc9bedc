-- The items that may come in order, up to an end, are those of scripts.
use Rattle.std.proofs.Common.{rules, ◌≡◌, Bool, true, false, List, [], ◌∷◌, ◌++◌, map, length, refl, sym, ap, subst, ◌∙◌, arith, ◌&&◌, append_assoc}
use Rattle.std.proofs.lemmas.Bool.{and_parts}
use Rattle.std.proofs.lemmas.List.{append-nil}
use Rattle.std.proofs.lemmas.Option.{none-some}
use Rattle.std.proofs.Math.Bool.{true≢false}
use Rattle.std.specs.Prelude.{ℕ, not, codes, is_some, Option, Some, None, option_and_then, if◌then◌else◌}
use denote.Enum.Bare.{sameb, same_true, true_same}
use Rattle.ac_base.specs.declared.reason.Exception.{Exception}
use Rattle.ac_syntax.specs.contracts.closing.Closing.{the_type}
use Rattle.ac_syntax.specs.declared.closing.Closing.{Closing}
use Rattle.ac_syntax.specs.declared.closing.Closing.TheVariants.{EndLoop, End, EndTasks, EndTask, EndTried, EndHandlers, EndOthers}
use Rattle.ac_syntax.specs.Code.{Simple, Head, loop_at, view_at, stable_at, declare_at, tasks_at, task_at, Code, stop, one, block, handled, HandlerCode, no_handler, handler}
use Rattle.ac_syntax.specs.declared.decl.Decl.{Decl}
use Rattle.ac_syntax.specs.declared.decl.Decl.TheVariants.{TypeDecl, Object, CursorVar, IntVar, TextVar}
use Rattle.ac_syntax.specs.declared.script.Script.{Script}
use Rattle.ac_syntax.specs.Items.{Item, declares, commands, opens, begins, closes, propagates, tries, catches, bare, ending, declared, opening, closing, handler_end, end_behind, handlers_end, items, handler_items, pragma_items, script_items}
use Rattle.ac_syntax.specs.Nesting.{AreIntegers, AreCommands, AreTasks, IsSome, HasHandler, AreStatements, AreHandlers}
use Rattle.ac_syntax.specs.Order.{Stage, fronting, listing, heading, running, tasking, tasked, preparing, stepping, catching, Context, reach, entered, task_entered, prepared, tried, caught, stage_behind, left_behind, next_after, context_after, at_front, is_heading, IsEnd, AreInOrder}
use Rattle.ac_syntax.specs.Canonical.{propagates_in}
use Rattle.ac_syntax.proofs.ItemsAlone.{around, tried_around}

abbrev pub at : (propagating : Bool) → List Closing → Stage → Context
at propagating blocks stage = record { propagating = propagating; blocks = blocks; stage = stage }

some_context : {c d : Context} → Some c ≡ Some d → c ≡ d
some_context e = cc e

-- ---- the words that end a block

pub left_own : (propagating : Bool) (l : Closing) (blocks : List Closing) → left_behind propagating l (l ∷ blocks) ≡ reach propagating blocks (stage_behind l)
left_own propagating l blocks = rw (true_same the_type l l refl) refl

left_if : (propagating : Bool) (l innermost : Closing) (outer : List Closing) (next : Context) (b : Bool) → sameb the_type innermost l ≡ b
    → (if b then reach propagating outer (stage_behind l) else None) ≡ Some next
    → (found : List Closing) × (innermost ∷ outer ≡ l ∷ found) × (at propagating found (stage_behind l) ≡ next)
left_if propagating l innermost outer next true same e = (outer, ap (λ c. c ∷ outer) (same_true the_type (search rules) innermost l same), some_context e)
left_if propagating l innermost outer next false same e = absurd (none-some next e)

-- they end the innermost one
pub left_from : (propagating : Bool) (l : Closing) (blocks : List Closing) (next : Context) → left_behind propagating l blocks ≡ Some next
    → (outer : List Closing) × (blocks ≡ l ∷ outer) × (at propagating outer (stage_behind l) ≡ next)
left_from propagating l [] next e = absurd (none-some next e)
left_from propagating l (innermost ∷ outer) next e = left_if propagating l innermost outer next (sameb the_type innermost l) refl e

-- what a step and those behind it lead to
pub then_some : (o : Option Context) (all : List Item) (to : Context) → option_and_then (λ next. context_after next all) o ≡ Some to
    → (next : Context) × (o ≡ Some next) × (context_after next all ≡ Some to)
then_some None all to e = absurd (none-some to e)
then_some (Some next) all to e = (next, refl, e)

-- ---- the items of a script may come in their order

-- the end of a block whose last handlers are these, behind one that names its exception
same_end : (raised : Exception) (more : HandlerCode) → end_behind (Some raised) more ≡ handlers_end more
same_end raised no_handler = refl
same_end raised (handler _ _ _ _) = refl

end_runs : (before : Option Exception) (more : HandlerCode) → stage_behind (end_behind before more) ≡ running
end_runs None no_handler = refl
end_runs (Some _) no_handler = refl
end_runs before (handler _ own _ more) = end_runs own more

-- behind a block with handlers statements go on
ends_running : (handlers : HandlerCode) → stage_behind (handlers_end handlers) ≡ running
ends_running no_handler = refl
ends_running (handler _ own _ more) = end_runs own more

module _ (propagating : Bool) where
  declared_runs : (decls : List Decl) (blocks : List Closing) (xs : List Item)
      → context_after (at propagating blocks heading) ((map declares decls ++ begins ∷ []) ++ xs) ≡ context_after (at propagating blocks running) xs
  declared_runs [] blocks xs = refl
  declared_runs (d ∷ decls) blocks xs = declared_runs decls blocks xs

  locals_run : (locals : List Decl) → AreIntegers locals → (blocks : List Closing) (xs : List Item)
      → context_after (at propagating blocks preparing) ((map declares locals ++ begins ∷ []) ++ xs) ≡ context_after (at propagating blocks stepping) xs
  locals_run [] h blocks xs = refl
  locals_run (TypeDecl _ _ _ ∷ locals) h blocks xs = absurd h
  locals_run (Object _ _ _ _ ∷ locals) h blocks xs = absurd h
  locals_run (CursorVar _ _ _ ∷ locals) h blocks xs = absurd h
  locals_run (IntVar _ _ ∷ locals) h blocks xs = locals_run locals h blocks xs
  locals_run (TextVar _ _ ∷ locals) h blocks xs = absurd h

  steps_run : (code : Code) → AreCommands code → (blocks : List Closing) (xs : List Item)
      → context_after (at propagating blocks stepping) (items code ++ xs) ≡ context_after (at propagating blocks stepping) xs
  steps_run stop h blocks xs = refl
  steps_run (one s rest) h blocks xs = steps_run rest h blocks xs
  steps_run (block _ _ _) h blocks xs = absurd h
  steps_run (handled _ _ _ _) h blocks xs = absurd h

  tasks_run : (code : Code) → AreTasks code → (blocks : List Closing) (xs : List Item)
      → context_after (at propagating blocks tasked) (items code ++ xs) ≡ context_after (at propagating blocks tasked) xs
  tasks_run stop h blocks xs = refl
  tasks_run (one _ _) h blocks xs = absurd h
  tasks_run (handled _ _ _ _) h blocks xs = absurd h
  tasks_run (block (loop_at _ _ _ _ _) _ _) h blocks xs = absurd h
  tasks_run (block (view_at _ _ _ _ _) _ _) h blocks xs = absurd h
  tasks_run (block (stable_at _ _) _ _) h blocks xs = absurd h
  tasks_run (block (declare_at _ _) _ _) h blocks xs = absurd h
  tasks_run (block (tasks_at _) _ _) h blocks xs = absurd h
  tasks_run (block (task_at line name locals) steps rest) h blocks xs =
      ap (context_after (at propagating blocks tasked)) (around (task_at line name locals) steps rest xs)
      ∙ locals_run locals h.0 (EndTask ∷ blocks) (items steps ++ closes EndTask ∷ (items rest ++ xs))
      ∙ steps_run steps h.1 (EndTask ∷ blocks) (closes EndTask ∷ (items rest ++ xs)) ∙ tasks_run rest h.2 blocks xs

  -- the first task may come as those behind it
  first_task : (code : Code) → IsSome code → AreTasks code → (blocks : List Closing) (xs : List Item)
      → context_after (at propagating blocks tasking) (items code ++ xs) ≡ context_after (at propagating blocks tasked) (items code ++ xs)
  first_task stop some h blocks xs = absurd some
  first_task (one _ _) some h blocks xs = absurd h
  first_task (handled _ _ _ _) some h blocks xs = absurd h
  first_task (block (loop_at _ _ _ _ _) _ _) some h blocks xs = absurd h
  first_task (block (view_at _ _ _ _ _) _ _) some h blocks xs = absurd h
  first_task (block (stable_at _ _) _ _) some h blocks xs = absurd h
  first_task (block (declare_at _ _) _ _) some h blocks xs = absurd h
  first_task (block (tasks_at _) _ _) some h blocks xs = absurd h
  first_task (block (task_at _ _ _) _ _) some h blocks xs = refl

  -- and the first handler
  first_handler : (handlers : HandlerCode) → HasHandler handlers → (blocks : List Closing) (xs : List Item)
      → context_after (at propagating (EndHandlers ∷ blocks) catching) (handler_items handlers ++ xs)
      ≡ context_after (at propagating (EndHandlers ∷ blocks) running) (handler_items handlers ++ xs)
  first_handler no_handler some blocks xs = absurd some
  first_handler (handler _ _ _ _) some blocks xs = refl

  tried_so : propagating ≡ true → (blocks : List Closing) → tried propagating blocks ≡ reach propagating (EndTried ∷ EndHandlers ∷ blocks) running
  tried_so is blocks = subst (λ mode. tried mode blocks ≡ reach mode (EndTried ∷ EndHandlers ∷ blocks) running) (sym is) refl

  -- behind the end of a block with handlers
  handled_runs : (handlers : HandlerCode) (blocks : List Closing) (xs : List Item)
      → context_after (at propagating (handlers_end handlers ∷ blocks) running) (closes (handlers_end handlers) ∷ xs) ≡ context_after (at propagating blocks running) xs
  handled_runs handlers blocks xs =
      ap (option_and_then (λ next. context_after next xs)) (left_own propagating (handlers_end handlers) blocks)
      ∙ ap (λ stage. context_after (at propagating blocks stage) xs) (ends_running handlers)

  mutual
    code_runs : (code : Code) → AreStatements propagating code → (blocks : List Closing) (xs : List Item)
        → context_after (at propagating blocks running) (items code ++ xs) ≡ context_after (at propagating blocks running) xs
    code_runs stop h blocks xs = refl
    code_runs (one s rest) h blocks xs = code_runs rest h blocks xs
    code_runs (block (loop_at a b c d e) body rest) h blocks xs =
        ap (context_after (at propagating blocks running)) (around (loop_at a b c d e) body rest xs)
        ∙ code_runs body h.0 (EndLoop ∷ blocks) (closes EndLoop ∷ (items rest ++ xs)) ∙ code_runs rest h.1 blocks xs
    code_runs (block (view_at a b c d e) body rest) h blocks xs =
        ap (context_after (at propagating blocks running)) (around (view_at a b c d e) body rest xs)
        ∙ code_runs body h.0 (End ∷ blocks) (closes End ∷ (items rest ++ xs)) ∙ code_runs rest h.1 blocks xs
    code_runs (block (stable_at a b) body rest) h blocks xs =
        ap (context_after (at propagating blocks running)) (around (stable_at a b) body rest xs)
        ∙ code_runs body h.0 (End ∷ blocks) (closes End ∷ (items rest ++ xs)) ∙ code_runs rest h.1 blocks xs
    code_runs (block (declare_at a decls) body rest) h blocks xs =
        ap (context_after (at propagating blocks running)) (around (declare_at a decls) body rest xs)
        ∙ declared_runs decls (End ∷ blocks) (items body ++ closes End ∷ (items rest ++ xs))
        ∙ code_runs body h.0 (End ∷ blocks) (closes End ∷ (items rest ++ xs)) ∙ code_runs rest h.1 blocks xs
    code_runs (block (tasks_at a) body rest) h blocks xs =
        ap (context_after (at propagating blocks running)) (around (tasks_at a) body rest xs)
        ∙ first_task body h.0 h.1 (EndTasks ∷ blocks) (closes EndTasks ∷ (items rest ++ xs))
        ∙ tasks_run body h.1 (EndTasks ∷ blocks) (closes EndTasks ∷ (items rest ++ xs)) ∙ code_runs rest h.2 blocks xs
    code_runs (block (task_at _ _ _) _ _) h blocks xs = absurd h
    code_runs (handled line body handlers rest) h blocks xs =
        let behind = closes (handlers_end handlers) ∷ (items rest ++ xs) in
        let tail = closes EndTried ∷ (handler_items handlers ++ behind) in
        ap (context_after (at propagating blocks running)) (tried_around line body handlers rest xs)
        ∙ ap (option_and_then (λ next. context_after next (items body ++ tail))) (tried_so h.0 blocks)
        ∙ code_runs body h.1 (EndTried ∷ EndHandlers ∷ blocks) tail
        ∙ first_handler handlers h.2 blocks behind ∙ handlers_run handlers h.3 blocks behind
        ∙ handled_runs handlers blocks (items rest ++ xs) ∙ code_runs rest h.4 blocks xs

    handlers_run : (handlers : HandlerCode) → AreHandlers propagating handlers → (blocks : List Closing) (xs : List Item)
        → context_after (at propagating (EndHandlers ∷ blocks) running) (handler_items handlers ++ xs)
        ≡ context_after (at propagating (handlers_end handlers ∷ blocks) running) xs
    handlers_run no_handler h blocks xs = refl
    handlers_run (handler line (Some raised) body more) h blocks xs =
        ap (context_after (at propagating (EndHandlers ∷ blocks) running)) (append_assoc (items body) (handler_items more) xs)
        ∙ code_runs body h.0 (EndHandlers ∷ blocks) (handler_items more ++ xs) ∙ handlers_run more h.1 blocks xs
        ∙ ap (λ end. context_after (at propagating (end ∷ blocks) running) xs) (sym (same_end raised more))
    handlers_run (handler line None body more) h blocks xs =
        subst
        (λ others. context_after (at propagating (EndOthers ∷ blocks) running) ((items body ++ handler_items others) ++ xs) ≡ context_after (at propagating (end_behind None others ∷ blocks) running) xs)
        (sym h.1)
        (ap (λ front. context_after (at propagating (EndOthers ∷ blocks) running) (front ++ xs)) (append-nil (items body)) ∙ code_runs body h.0 (EndOthers ∷ blocks) xs)

  listed_runs : (decls : List Decl) (xs : List Item)
      → context_after (at propagating [] listing) (map declares decls ++ xs) ≡ context_after (at propagating [] listing) xs
  listed_runs [] xs = refl
  listed_runs (d ∷ decls) xs = listed_runs decls xs

  code_ends : (code : Code) → AreStatements propagating code → context_after (at propagating [] running) (items code) ≡ Some (at propagating [] running)
  code_ends code h = ap (context_after (at propagating [] running)) (sym (append-nil (items code))) ∙ code_runs code h [] []

  -- a stage at the front of a script, at which statements may come as they may later
  record IsFront (stage : Stage) : Type 0 where
    ends : is_heading stage ≡ false
    commanded : (s : Simple) → next_after propagating [] stage (commands s) ≡ reach propagating [] running
    opened : (h : Head) → next_after propagating [] stage (opens h) ≡ entered propagating [] h
    begun : (line : ℕ) → next_after propagating [] stage (tries line) ≡ tried propagating []

  front : IsFront fronting
  front = record { ends = refl; commanded = λ s. refl; opened = λ h. refl; begun = λ line. refl }

  behind_front : IsFront listing
  behind_front = record { ends = refl; commanded = λ s. refl; opened = λ h. refl; begun = λ line. refl }

  -- what some items lead to from there, where a script may end
  abbrev Leads : Stage → List Item → Type 0
  Leads stage xs = (last : Context) × (context_after (at propagating [] stage) xs ≡ Some last) × IsEnd last

  at_end_now : IsEnd (at propagating [] running)
  at_end_now = record { closed = refl; begun = refl }

  stmts_end : (stage : Stage) → IsFront stage → (code : Code) → AreStatements propagating code → Leads stage (items code)
  stmts_end stage is stop h = (at propagating [] stage, refl, record { closed = refl; begun = is.ends })
  stmts_end stage is (one s rest) h =
      (at propagating [] running, ap (option_and_then (λ next. context_after next (items rest))) (is.commanded s) ∙ code_ends (one s rest) h, at_end_now)
  stmts_end stage is (block head body rest) h = (
    at propagating [] running,
    ap (option_and_then (λ next. context_after next (declared head ++ (items body ++ (closing head ++ items rest))))) (is.opened (bare head)) ∙ code_ends (block head body rest) h,
    at_end_now,
  )
  stmts_end stage is (handled line body handlers rest) h = (
    at propagating [] running,
    ap (option_and_then (λ next. context_after next (items body ++ (closes EndTried ∷ (handler_items handlers ++ (closes (handlers_end handlers) ∷ items rest)))))) (is.begun line)
        ∙ code_ends (handled line body handlers rest) h,
    at_end_now,
  )

script_runs : (own : Option ℕ) (decls : List Decl) (code : Code) → AreStatements (is_some own) code → AreInOrder (pragma_items own ++ (map declares decls ++ items code))
script_runs None [] code h = let found = stmts_end false fronting (front false) code h in record { last = found.0; leads = found.1; ends = found.2 }
script_runs None (d ∷ decls) code h =
    let found = stmts_end false listing (behind_front false) code h in
    record { last = found.0; leads = listed_runs false decls (items code) ∙ found.1; ends = found.2 }
script_runs (Some line) decls code h =
    let found = stmts_end true listing (behind_front true) code h in
    record { last = found.0; leads = listed_runs true decls (items code) ∙ found.1; ends = found.2 }

pub script_ordered : (script : Script) → AreStatements (propagates_in script) script.stmts → AreInOrder (script_items script)
script_ordered script h = script_runs script.pragma script.decls script.stmts h

-- ---- a test that computes

abbrev are_none : List Closing → Bool
are_none [] = true
are_none (_ ∷ _) = false

abbrev is_end : Option Context → Bool
is_end None = false
is_end (Some context) = are_none context.blocks && not (is_heading context.stage)

abbrev pub is_ordered : List Item → Bool
is_ordered all = is_end (context_after at_front all)

none_open : (blocks : List Closing) → are_none blocks ≡ true → blocks ≡ []
none_open [] p = refl
none_open (_ ∷ _) p = absurd (true≢false (sym p))

begun_so : (b : Bool) → not b ≡ true → b ≡ false
begun_so true p = sym p
begun_so false p = refl

ends_by : (all : List Item) (o : Option Context) → context_after at_front all ≡ o → is_end o ≡ true → AreInOrder all
ends_by all None e p = absurd (true≢false (sym p))
ends_by all (Some last) e p =
    let h : (are_none last.blocks ≡ true) × (not (is_heading last.stage) ≡ true) = and_parts _ _ p in
    record { last = last; leads = e; ends = record { closed = none_open last.blocks h.0; begun = begun_so (is_heading last.stage) h.1 } }

pub ordered : (all : List Item) → is_ordered all ≡ true → AreInOrder all
ordered all p = ends_by all (context_after at_front all) refl p

-- ---- items that may come in their order, up to an end, are a script's

-- handlers, the end of their block, and what rests
abbrev Caught : (List Item → Type 0) → List Item → Type 0
Caught R xs = (handlers : HandlerCode) × (tail : List Item) × (xs ≡ handler_items handlers ++ closes (handlers_end handlers) ∷ tail) × R tail

abbrev Ended : Closing → (List Item → Type 0) → List Item → Type 0
Ended l R ys = (tail : List Item) × (ys ≡ closes l ∷ tail) × R tail

-- how the innermost part ends: `R` is what rests behind it, and `C` where that has to be handlers
abbrev Ends : Closing → (R C : List Item → Type 0) → List Item → Type 0
Ends EndLoop R C ys = Ended EndLoop R ys
Ends End R C ys = Ended End R ys
Ends EndTasks R C ys = Ended EndTasks R ys
Ends EndTask R C ys = Ended EndTask R ys
Ends EndTried R C ys = Ended EndTried C ys
Ends EndHandlers R C ys = Caught R ys
Ends EndOthers R C ys = Ended EndOthers R ys

abbrev mutual
  -- statements, and then the ends of these blocks, each with statements behind it
  Rests : List Closing → List Item → Type 0
  Rests [] xs = (code : Code) × (xs ≡ items code)
  Rests (l ∷ blocks) xs = (code : Code) × (ys : List Item) × (xs ≡ items code ++ ys) × Ends l (Rests blocks) (Catches blocks) ys

  -- behind `exception`
  Catches : List Closing → List Item → Type 0
  Catches [] xs = ⊥
  Catches (EndLoop ∷ blocks) xs = ⊥
  Catches (End ∷ blocks) xs = ⊥
  Catches (EndTasks ∷ blocks) xs = ⊥
  Catches (EndTask ∷ blocks) xs = ⊥
  Catches (EndTried ∷ blocks) xs = ⊥
  Catches (EndHandlers ∷ blocks) xs = Caught (Rests blocks) xs
  Catches (EndOthers ∷ blocks) xs = ⊥

-- declarations up to `begin`, and what rests
abbrev Heads : List Closing → List Item → Type 0
Heads blocks xs = (decls : List Decl) × (rest : List Item) × (xs ≡ (map declares decls ++ begins ∷ []) ++ rest) × Rests blocks rest

-- declarations, and what rests
abbrev Lists : List Closing → List Item → Type 0
Lists blocks xs = (decls : List Decl) × (rest : List Item) × (xs ≡ map declares decls ++ rest) × Rests blocks rest

abbrev Finishes : List Closing → Stage → List Item → Type 0
Finishes blocks fronting xs = (own : Option ℕ) × (ys : List Item) × (xs ≡ pragma_items own ++ ys) × Lists blocks ys
Finishes blocks listing xs = Lists blocks xs
Finishes blocks heading xs = Heads blocks xs
Finishes blocks running xs = Rests blocks xs
Finishes blocks tasking xs = Rests blocks xs
Finishes blocks tasked xs = Rests blocks xs
Finishes blocks preparing xs = Heads blocks xs
Finishes blocks stepping xs = Rests blocks xs
Finishes blocks catching xs = Catches blocks xs

-- without declarations, and without the pragma
unlisted : (blocks : List Closing) (xs : List Item) → Rests blocks xs → Lists blocks xs
unlisted blocks xs r = ([], xs, refl, r)

unfronted : (blocks : List Closing) (xs : List Item) → Lists blocks xs → Finishes blocks fronting xs
unfronted blocks xs r = (None, xs, refl, r)

put_one : (blocks : List Closing) (s : Simple) (xs : List Item) → Rests blocks xs → Rests blocks (commands s ∷ xs)
put_one [] s xs r = (one s r.0, ap (λ ys. commands s ∷ ys) r.1)
put_one (l ∷ blocks) s xs r = (one s r.0, r.1, ap (λ ys. commands s ∷ ys) r.2, r.3)

put_block : (blocks : List Closing) (h : Head) (body : Code) (tail xs : List Item)
    → xs ≡ opening h ++ (items body ++ (closing h ++ tail)) → Rests blocks tail → Rests blocks xs
put_block [] h body tail xs p r = (block h body r.0, p ∙ ap (λ ys. opening h ++ (items body ++ (closing h ++ ys))) r.1)
put_block (l ∷ blocks) h body tail xs p r =
    (block h body r.0, r.1, p ∙ ap (λ ys. opening h ++ (items body ++ (closing h ++ ys))) r.2 ∙ sym (around h body r.0 r.1), r.3)

closed_by : (h : Head) (R C : List Item → Type 0) (ys : List Item) → Ends (ending h) R C ys → Ended (ending h) R ys
closed_by (loop_at _ _ _ _ _) R C ys e = e
closed_by (view_at _ _ _ _ _) R C ys e = e
closed_by (stable_at _ _) R C ys e = e
closed_by (declare_at _ _) R C ys e = e
closed_by (tasks_at _) R C ys e = e
closed_by (task_at _ _ _) R C ys e = e

put_inner : (blocks : List Closing) (h : Head) (xs : List Item) → declared h ≡ [] → Rests (ending h ∷ blocks) xs → Rests blocks (opens (bare h) ∷ xs)
put_inner blocks h xs none r =
    let end = closed_by h (Rests blocks) (Catches blocks) r.1 r.3 in
    put_block blocks h r.0 end.0 (opens (bare h) ∷ xs)
    (ap (λ ys. opens (bare h) ∷ ys) (r.2 ∙ ap (λ ys. items r.0 ++ ys) end.1 ∙ ap (λ front. front ++ (items r.0 ++ closes (ending h) ∷ end.0)) (sym none))) end.2

put_headed : (blocks : List Closing) (h : Head) (xs : List Item) (decls : List Decl) (rest : List Item) → declared h ≡ map declares decls ++ begins ∷ []
    → xs ≡ (map declares decls ++ begins ∷ []) ++ rest → Rests (ending h ∷ blocks) rest → Rests blocks (opens (bare h) ∷ xs)
put_headed blocks h xs decls rest is p r =
    let end = closed_by h (Rests blocks) (Catches blocks) r.1 r.3 in
    put_block blocks h r.0 end.0 (opens (bare h) ∷ xs)
    (ap (λ ys. opens (bare h) ∷ ys) (p ∙ ap (λ ys. (map declares decls ++ begins ∷ []) ++ ys) (r.2 ∙ ap (λ ys. items r.0 ++ ys) end.1)
    ∙ ap (λ front. front ++ (items r.0 ++ closes (ending h) ∷ end.0)) (sym is))) end.2

put_declared : (blocks : List Closing) (line : ℕ) (xs : List Item) → Heads (End ∷ blocks) xs → Rests blocks (opens (declare_at line []) ∷ xs)
put_declared blocks line xs r = put_headed blocks (declare_at line r.0) xs r.0 r.1 refl r.2 r.3

put_task : (blocks : List Closing) (line : ℕ) (name : List ℕ) (xs : List Item) → Heads (EndTask ∷ blocks) xs → Rests blocks (opens (task_at line name []) ∷ xs)
put_task blocks line name xs r = put_headed blocks (task_at line name r.0) xs r.0 r.1 refl r.2 r.3

-- a block with handlers
put_tried : (blocks : List Closing) (line : ℕ) (body : Code) (handlers : HandlerCode) (tail xs : List Item)
    → xs ≡ tries line ∷ (items body ++ (closes EndTried ∷ (handler_items handlers ++ closes (handlers_end handlers) ∷ tail))) → Rests blocks tail → Rests blocks xs
put_tried [] line body handlers tail xs p r =
    (handled line body handlers r.0, p ∙ ap (λ ys. tries line ∷ (items body ++ (closes EndTried ∷ (handler_items handlers ++ closes (handlers_end handlers) ∷ ys)))) r.1)
put_tried (l ∷ blocks) line body handlers tail xs p r = (
  handled line body handlers r.0,
  r.1,
  p ∙ ap (λ ys. tries line ∷ (items body ++ (closes EndTried ∷ (handler_items handlers ++ closes (handlers_end handlers) ∷ ys)))) r.2
      ∙ sym (tried_around line body handlers r.0 r.1),
  r.3,
)

put_tries : (blocks : List Closing) (line : ℕ) (xs : List Item) → Rests (EndTried ∷ EndHandlers ∷ blocks) xs → Rests blocks (tries line ∷ xs)
put_tries blocks line xs r =
    let end = r.3 in
    let caught = end.2 in
    put_tried blocks line r.0 caught.0 caught.1 (tries line ∷ xs)
    (ap (λ ys. tries line ∷ ys) (r.2 ∙ ap (λ ys. items r.0 ++ ys) (end.1 ∙ ap (λ ys. closes EndTried ∷ ys) caught.2))) caught.3

-- a handler's head, before its statements and what follows them
put_catch : (line : ℕ) (own : Option Exception) (blocks : List Closing) (xs : List Item) → Rests (handler_end own ∷ blocks) xs → Caught (Rests blocks) (catches line own ∷ xs)
put_catch line None blocks xs r =
    let end = r.3 in (
      handler line None r.0 no_handler,
      end.0,
      ap (λ ys. catches line None ∷ ys) (r.2 ∙ ap (λ ys. items r.0 ++ ys) end.1 ∙ ap (λ ys. ys ++ closes EndOthers ∷ end.0) (sym (append-nil (items r.0)))),
      end.2,
    )
put_catch line (Some raised) blocks xs r =
    let more = r.3 in (
      handler line (Some raised) r.0 more.0,
      more.1,
      ap (λ ys. catches line (Some raised) ∷ ys)
          (r.2 ∙ ap (λ ys. items r.0 ++ ys) more.2
          ∙ ap (λ end. items r.0 ++ (handler_items more.0 ++ closes end ∷ more.1)) (sym (same_end raised more.0))
          ∙ sym (append_assoc (items r.0) (handler_items more.0) (closes (end_behind (Some raised) more.0) ∷ more.1))),
      more.3,
    )

at_end : (blocks : List Closing) (stage : Stage) → blocks ≡ [] → is_heading stage ≡ false → Finishes blocks stage []
at_end [] fronting c b = (None, [], refl, ([], [], refl, (stop, refl)))
at_end [] listing c b = ([], [], refl, (stop, refl))
at_end [] heading c b = absurd (true≢false b)
at_end [] running c b = (stop, refl)
at_end [] tasking c b = (stop, refl)
at_end [] tasked c b = (stop, refl)
at_end [] preparing c b = absurd (true≢false b)
at_end [] stepping c b = (stop, refl)
at_end [] catching c b = absurd (true≢false b)
at_end (l ∷ blocks) stage c b = absurd (omega (arith, ap length c))

own_end : (l : Closing) (outer : List Closing) (xs : List Item) → Finishes outer (stage_behind l) xs → Ends l (Rests outer) (Catches outer) (closes l ∷ xs)
own_end EndLoop outer xs r = (xs, refl, r)
own_end End outer xs r = (xs, refl, r)
own_end EndTasks outer xs r = (xs, refl, r)
own_end EndTask outer xs r = (xs, refl, r)
own_end EndTried outer xs r = (xs, refl, r)
own_end EndHandlers outer xs r = (no_handler, xs, refl, r)
own_end EndOthers outer xs r = (xs, refl, r)

module _ (xs : List Item) (last : Context) (further : (propagating : Bool) (blocks : List Closing) (stage : Stage) → context_after (at propagating blocks stage) xs ≡ Some last → Finishes blocks stage xs) where
  -- items behind this step lead to the end
  abbrev Goes : Option Context → Type 0
  Goes step = option_and_then (λ next. context_after next xs) step ≡ Some last

  put_end : (propagating : Bool) (l : Closing) (blocks : List Closing) → Goes (left_behind propagating l blocks) → Rests blocks (closes l ∷ xs)
  put_end propagating l blocks e =
      let step = then_some (left_behind propagating l blocks) xs last e in
      let found = left_from propagating l blocks step.0 step.1 in
      let runs : context_after (at propagating found.0 (stage_behind l)) xs ≡ Some last = ap (λ (c : Context). context_after c xs) found.2 ∙ step.2 in
      let end = own_end l found.0 xs (further propagating found.0 (stage_behind l) runs) in
      subst (λ bs. Rests bs (closes l ∷ xs)) (sym found.1) (stop, closes l ∷ xs, refl, end)

  put_begun : (propagating : Bool) (line : ℕ) (blocks : List Closing) → Goes (tried propagating blocks) → Rests blocks (tries line ∷ xs)
  put_begun true line blocks e = put_tries blocks line xs (further true (EndTried ∷ EndHandlers ∷ blocks) running e)
  put_begun false line blocks e = absurd (none-some last e)

  put_first : (propagating : Bool) (line : ℕ) (own : Option Exception) (blocks : List Closing) → Goes (caught propagating own blocks) → Catches blocks (catches line own ∷ xs)
  put_first propagating line own [] e = absurd (none-some last e)
  put_first propagating line own (EndLoop ∷ _) e = absurd (none-some last e)
  put_first propagating line own (End ∷ _) e = absurd (none-some last e)
  put_first propagating line own (EndTasks ∷ _) e = absurd (none-some last e)
  put_first propagating line own (EndTask ∷ _) e = absurd (none-some last e)
  put_first propagating line own (EndTried ∷ _) e = absurd (none-some last e)
  put_first propagating line own (EndHandlers ∷ blocks) e = put_catch line own blocks xs (further propagating (handler_end own ∷ blocks) running e)
  put_first propagating line own (EndOthers ∷ _) e = absurd (none-some last e)

  put_next : (propagating : Bool) (line : ℕ) (own : Option Exception) (blocks : List Closing) → Goes (caught propagating own blocks) → Rests blocks (catches line own ∷ xs)
  put_next propagating line own [] e = absurd (none-some last e)
  put_next propagating line own (EndLoop ∷ _) e = absurd (none-some last e)
  put_next propagating line own (End ∷ _) e = absurd (none-some last e)
  put_next propagating line own (EndTasks ∷ _) e = absurd (none-some last e)
  put_next propagating line own (EndTask ∷ _) e = absurd (none-some last e)
  put_next propagating line own (EndTried ∷ _) e = absurd (none-some last e)
  put_next propagating line own (EndHandlers ∷ blocks) e =
      (stop, catches line own ∷ xs, refl, put_catch line own blocks xs (further propagating (handler_end own ∷ blocks) running e))
  put_next propagating line own (EndOthers ∷ _) e = absurd (none-some last e)

  put_opened : (propagating : Bool) (h : Head) (blocks : List Closing) → Goes (entered propagating blocks h) → Rests blocks (opens h ∷ xs)
  put_opened propagating (loop_at a b c d f) blocks e = put_inner blocks (loop_at a b c d f) xs refl (further propagating (EndLoop ∷ blocks) running e)
  put_opened propagating (view_at a b c d f) blocks e = put_inner blocks (view_at a b c d f) xs refl (further propagating (End ∷ blocks) running e)
  put_opened propagating (stable_at a b) blocks e = put_inner blocks (stable_at a b) xs refl (further propagating (End ∷ blocks) running e)
  put_opened propagating (declare_at a []) blocks e = put_declared blocks a xs (further propagating (End ∷ blocks) heading e)
  put_opened propagating (declare_at a (_ ∷ _)) blocks e = absurd (none-some last e)
  put_opened propagating (tasks_at a) blocks e = put_inner blocks (tasks_at a) xs refl (further propagating (EndTasks ∷ blocks) tasking e)
  put_opened propagating (task_at _ _ _) blocks e = absurd (none-some last e)

  put_task_opened : (propagating : Bool) (h : Head) (blocks : List Closing) → Goes (task_entered propagating blocks h) → Rests blocks (opens h ∷ xs)
  put_task_opened propagating (loop_at _ _ _ _ _) blocks e = absurd (none-some last e)
  put_task_opened propagating (view_at _ _ _ _ _) blocks e = absurd (none-some last e)
  put_task_opened propagating (stable_at _ _) blocks e = absurd (none-some last e)
  put_task_opened propagating (declare_at _ _) blocks e = absurd (none-some last e)
  put_task_opened propagating (tasks_at _) blocks e = absurd (none-some last e)
  put_task_opened propagating (task_at a b []) blocks e = put_task blocks a b xs (further propagating (EndTask ∷ blocks) preparing e)
  put_task_opened propagating (task_at _ _ (_ ∷ _)) blocks e = absurd (none-some last e)

  put_heading : (d : Decl) (blocks : List Closing) → Heads blocks xs → Heads blocks (declares d ∷ xs)
  put_heading d blocks r = (d ∷ r.0, r.1, ap (λ ys. declares d ∷ ys) r.2, r.3)

  put_local : (propagating : Bool) (d : Decl) (blocks : List Closing) → Goes (prepared propagating blocks d) → Heads blocks (declares d ∷ xs)
  put_local propagating (TypeDecl _ _ _) blocks e = absurd (none-some last e)
  put_local propagating (Object _ _ _ _) blocks e = absurd (none-some last e)
  put_local propagating (CursorVar _ _ _) blocks e = absurd (none-some last e)
  put_local propagating (IntVar a b) blocks e = put_heading (IntVar a b) blocks (further propagating blocks preparing e)
  put_local propagating (TextVar _ _) blocks e = absurd (none-some last e)

  put_listed : (d : Decl) (blocks : List Closing) → Lists blocks xs → Lists blocks (declares d ∷ xs)
  put_listed d blocks r = (d ∷ r.0, r.1, ap (λ ys. declares d ∷ ys) r.2, r.3)

  put_pragma : (line : ℕ) (blocks : List Closing) → Lists blocks xs → Finishes blocks fronting (propagates line ∷ xs)
  put_pragma line blocks r = (Some line, xs, refl, r)

finish : (xs : List Item) (mode : Bool) (blocks : List Closing) (stage : Stage) (last : Context)
    → context_after (at mode blocks stage) xs ≡ Some last → IsEnd last → Finishes blocks stage xs
finish [] mode blocks stage last e end =
    let same : at mode blocks stage ≡ last = some_context e in
    at_end blocks stage (ap (λ (c : Context). c.blocks) same ∙ end.closed) (ap (λ (c : Context). is_heading c.stage) same ∙ end.begun)
finish (declares d ∷ xs) mode blocks fronting last e end = unfronted blocks (declares d ∷ xs) (put_listed xs last (λ m bs s r. finish xs m bs s last r end) d blocks (finish xs mode blocks listing last e end))
finish (declares d ∷ xs) mode blocks listing last e end = put_listed xs last (λ m bs s r. finish xs m bs s last r end) d blocks (finish xs mode blocks listing last e end)
finish (declares d ∷ xs) mode blocks heading last e end = put_heading xs last (λ m bs s r. finish xs m bs s last r end) d blocks (finish xs mode blocks heading last e end)
finish (declares d ∷ xs) mode blocks running last e end = absurd (none-some last e)
finish (declares d ∷ xs) mode blocks tasking last e end = absurd (none-some last e)
finish (declares d ∷ xs) mode blocks tasked last e end = absurd (none-some last e)
finish (declares d ∷ xs) mode blocks preparing last e end = put_local xs last (λ m bs s r. finish xs m bs s last r end) mode d blocks e
finish (declares d ∷ xs) mode blocks stepping last e end = absurd (none-some last e)
finish (declares d ∷ xs) mode blocks catching last e end = absurd (none-some last e)
finish (commands s ∷ xs) mode blocks fronting last e end = unfronted blocks (commands s ∷ xs) (unlisted blocks (commands s ∷ xs) (put_one blocks s xs (finish xs mode blocks running last e end)))
finish (commands s ∷ xs) mode blocks listing last e end = unlisted blocks (commands s ∷ xs) (put_one blocks s xs (finish xs mode blocks running last e end))
finish (commands s ∷ xs) mode blocks heading last e end = absurd (none-some last e)
finish (commands s ∷ xs) mode blocks running last e end = put_one blocks s xs (finish xs mode blocks running last e end)
finish (commands s ∷ xs) mode blocks tasking last e end = absurd (none-some last e)
finish (commands s ∷ xs) mode blocks tasked last e end = absurd (none-some last e)
finish (commands s ∷ xs) mode blocks preparing last e end = absurd (none-some last e)
finish (commands s ∷ xs) mode blocks stepping last e end = put_one blocks s xs (finish xs mode blocks stepping last e end)
finish (commands s ∷ xs) mode blocks catching last e end = absurd (none-some last e)
finish (opens h ∷ xs) mode blocks fronting last e end = unfronted blocks (opens h ∷ xs) (unlisted blocks (opens h ∷ xs) (put_opened xs last (λ m bs s r. finish xs m bs s last r end) mode h blocks e))
finish (opens h ∷ xs) mode blocks listing last e end = unlisted blocks (opens h ∷ xs) (put_opened xs last (λ m bs s r. finish xs m bs s last r end) mode h blocks e)
finish (opens h ∷ xs) mode blocks heading last e end = absurd (none-some last e)
finish (opens h ∷ xs) mode blocks running last e end = put_opened xs last (λ m bs s r. finish xs m bs s last r end) mode h blocks e
finish (opens h ∷ xs) mode blocks tasking last e end = put_task_opened xs last (λ m bs s r. finish xs m bs s last r end) mode h blocks e
finish (opens h ∷ xs) mode blocks tasked last e end = put_task_opened xs last (λ m bs s r. finish xs m bs s last r end) mode h blocks e
finish (opens h ∷ xs) mode blocks preparing last e end = absurd (none-some last e)
finish (opens h ∷ xs) mode blocks stepping last e end = absurd (none-some last e)
finish (opens h ∷ xs) mode blocks catching last e end = absurd (none-some last e)
finish (begins ∷ xs) mode blocks fronting last e end = absurd (none-some last e)
finish (begins ∷ xs) mode blocks listing last e end = absurd (none-some last e)
finish (begins ∷ xs) mode blocks heading last e end = ([], xs, refl, finish xs mode blocks running last e end)
finish (begins ∷ xs) mode blocks running last e end = absurd (none-some last e)
finish (begins ∷ xs) mode blocks tasking last e end = absurd (none-some last e)
finish (begins ∷ xs) mode blocks tasked last e end = absurd (none-some last e)
finish (begins ∷ xs) mode blocks preparing last e end = ([], xs, refl, finish xs mode blocks stepping last e end)
finish (begins ∷ xs) mode blocks stepping last e end = absurd (none-some last e)
finish (begins ∷ xs) mode blocks catching last e end = absurd (none-some last e)
finish (closes l ∷ xs) mode blocks fronting last e end = unfronted blocks (closes l ∷ xs) (unlisted blocks (closes l ∷ xs) (put_end xs last (λ m bs s r. finish xs m bs s last r end) mode l blocks e))
finish (closes l ∷ xs) mode blocks listing last e end = unlisted blocks (closes l ∷ xs) (put_end xs last (λ m bs s r. finish xs m bs s last r end) mode l blocks e)
finish (closes l ∷ xs) mode blocks heading last e end = absurd (none-some last e)
finish (closes l ∷ xs) mode blocks running last e end = put_end xs last (λ m bs s r. finish xs m bs s last r end) mode l blocks e
finish (closes l ∷ xs) mode blocks tasking last e end = absurd (none-some last e)
finish (closes l ∷ xs) mode blocks tasked last e end = put_end xs last (λ m bs s r. finish xs m bs s last r end) mode l blocks e
finish (closes l ∷ xs) mode blocks preparing last e end = absurd (none-some last e)
finish (closes l ∷ xs) mode blocks stepping last e end = put_end xs last (λ m bs s r. finish xs m bs s last r end) mode l blocks e
finish (closes l ∷ xs) mode blocks catching last e end = absurd (none-some last e)
finish (propagates n ∷ xs) mode blocks fronting last e end = put_pragma xs last (λ m bs s r. finish xs m bs s last r end) n blocks (finish xs true blocks listing last e end)
finish (propagates n ∷ xs) mode blocks listing last e end = absurd (none-some last e)
finish (propagates n ∷ xs) mode blocks heading last e end = absurd (none-some last e)
finish (propagates n ∷ xs) mode blocks running last e end = absurd (none-some last e)
finish (propagates n ∷ xs) mode blocks tasking last e end = absurd (none-some last e)
finish (propagates n ∷ xs) mode blocks tasked last e end = absurd (none-some last e)
finish (propagates n ∷ xs) mode blocks preparing last e end = absurd (none-some last e)
finish (propagates n ∷ xs) mode blocks stepping last e end = absurd (none-some last e)
finish (propagates n ∷ xs) mode blocks catching last e end = absurd (none-some last e)
finish (tries n ∷ xs) mode blocks fronting last e end = unfronted blocks (tries n ∷ xs) (unlisted blocks (tries n ∷ xs) (put_begun xs last (λ m bs s r. finish xs m bs s last r end) mode n blocks e))
finish (tries n ∷ xs) mode blocks listing last e end = unlisted blocks (tries n ∷ xs) (put_begun xs last (λ m bs s r. finish xs m bs s last r end) mode n blocks e)
finish (tries n ∷ xs) mode blocks heading last e end = absurd (none-some last e)
finish (tries n ∷ xs) mode blocks running last e end = put_begun xs last (λ m bs s r. finish xs m bs s last r end) mode n blocks e
finish (tries n ∷ xs) mode blocks tasking last e end = absurd (none-some last e)
finish (tries n ∷ xs) mode blocks tasked last e end = absurd (none-some last e)
finish (tries n ∷ xs) mode blocks preparing last e end = absurd (none-some last e)
finish (tries n ∷ xs) mode blocks stepping last e end = absurd (none-some last e)
finish (tries n ∷ xs) mode blocks catching last e end = absurd (none-some last e)
finish (catches n own ∷ xs) mode blocks fronting last e end = absurd (none-some last e)
finish (catches n own ∷ xs) mode blocks listing last e end = absurd (none-some last e)
finish (catches n own ∷ xs) mode blocks heading last e end = absurd (none-some last e)
finish (catches n own ∷ xs) mode blocks running last e end = put_next xs last (λ m bs s r. finish xs m bs s last r end) mode n own blocks e
finish (catches n own ∷ xs) mode blocks tasking last e end = absurd (none-some last e)
finish (catches n own ∷ xs) mode blocks tasked last e end = absurd (none-some last e)
finish (catches n own ∷ xs) mode blocks preparing last e end = absurd (none-some last e)
finish (catches n own ∷ xs) mode blocks stepping last e end = absurd (none-some last e)
finish (catches n own ∷ xs) mode blocks catching last e end = put_first xs last (λ m bs s r. finish xs m bs s last r end) mode n own blocks e

pub script_found : (xs : List Item) → AreInOrder xs → (script : Script) × (script_items script ≡ xs)
script_found xs ordered =
    let r : Finishes [] fronting xs = finish xs false [] fronting ordered.last ordered.leads ordered.ends in
    let listed = r.3 in (
      record { pragma = r.0; decls = listed.0; stmts = listed.3.0 },
      sym (r.2 ∙ ap (λ ys. pragma_items r.0 ++ ys) (listed.2 ∙ ap (λ rest. map declares listed.0 ++ rest) listed.3.1)),
    )

-- ---- a front that may come can be completed

abbrev mutual
  -- what closes these blocks
  pub ends_of : List Closing → List Item
  ends_of [] = []
  ends_of (EndLoop ∷ blocks) = closes EndLoop ∷ ends_of blocks
  ends_of (End ∷ blocks) = closes End ∷ ends_of blocks
  ends_of (EndTasks ∷ blocks) = closes EndTasks ∷ ends_of blocks
  ends_of (EndTask ∷ blocks) = closes EndTask ∷ ends_of blocks
  ends_of (EndTried ∷ blocks) = closes EndTried ∷ others_of blocks
  ends_of (EndHandlers ∷ blocks) = closes EndHandlers ∷ ends_of blocks
  ends_of (EndOthers ∷ blocks) = closes EndOthers ∷ ends_of blocks

  -- behind `exception`, the handler of all others first
  pub others_of : List Closing → List Item
  others_of [] = []
  others_of (_ ∷ blocks) = catches 1 None ∷ closes EndOthers ∷ ends_of blocks

-- what closes all that is open
abbrev pub completion : List Closing → Stage → List Item
completion blocks fronting = ends_of blocks
completion blocks listing = ends_of blocks
completion blocks heading = begins ∷ ends_of blocks
completion blocks running = ends_of blocks
completion blocks tasking = opens (task_at 1 (codes "t") []) ∷ begins ∷ closes EndTask ∷ ends_of blocks
completion blocks tasked = ends_of blocks
completion blocks preparing = begins ∷ ends_of blocks
completion blocks stepping = ends_of blocks
completion blocks catching = others_of blocks

abbrev mutual
  -- around what is tried stands the block of its handlers
  AreNested : List Closing → Type 0
  AreNested [] = Unit {0}
  AreNested (EndLoop ∷ blocks) = AreNested blocks
  AreNested (End ∷ blocks) = AreNested blocks
  AreNested (EndTasks ∷ blocks) = AreNested blocks
  AreNested (EndTask ∷ blocks) = AreNested blocks
  AreNested (EndTried ∷ blocks) = TakeHandlers blocks
  AreNested (EndHandlers ∷ blocks) = AreNested blocks
  AreNested (EndOthers ∷ blocks) = AreNested blocks

  TakeHandlers : List Closing → Type 0
  TakeHandlers [] = ⊥
  TakeHandlers (EndLoop ∷ blocks) = ⊥
  TakeHandlers (End ∷ blocks) = ⊥
  TakeHandlers (EndTasks ∷ blocks) = ⊥
  TakeHandlers (EndTask ∷ blocks) = ⊥
  TakeHandlers (EndTried ∷ blocks) = ⊥
  TakeHandlers (EndHandlers ∷ blocks) = AreNested blocks
  TakeHandlers (EndOthers ∷ blocks) = ⊥

-- the blocks of a context fit its stage
abbrev Fits : List Closing → Stage → Type 0
Fits blocks fronting = AreNested blocks
Fits blocks listing = AreNested blocks
Fits blocks heading = AreNested blocks
Fits blocks running = AreNested blocks
Fits blocks tasking = AreNested blocks
Fits blocks tasked = AreNested blocks
Fits blocks preparing = AreNested blocks
Fits blocks stepping = AreNested blocks
Fits blocks catching = TakeHandlers blocks

-- so they do behind a step, where it may be made
abbrev FitsNext : Option Context → Type 0
FitsNext None = Unit {0}
FitsNext (Some next) = Fits next.blocks next.stage

-- and where the step is known to be made
next_fits : (o : Option Context) (next : Context) → o ≡ Some next → FitsNext o → Fits next.blocks next.stage
next_fits o next e h = subst FitsNext e h

module _ (mode : Bool) where
  entered_fits : (blocks : List Closing) (h : Head) → AreNested blocks → FitsNext (entered mode blocks h)
  entered_fits blocks (loop_at _ _ _ _ _) n = n
  entered_fits blocks (view_at _ _ _ _ _) n = n
  entered_fits blocks (stable_at _ _) n = n
  entered_fits blocks (declare_at _ []) n = n
  entered_fits blocks (declare_at _ (_ ∷ _)) n = tt
  entered_fits blocks (tasks_at _) n = n
  entered_fits blocks (task_at _ _ _) n = tt

  task_fits : (blocks : List Closing) (h : Head) → AreNested blocks → FitsNext (task_entered mode blocks h)
  task_fits blocks (loop_at _ _ _ _ _) n = tt
  task_fits blocks (view_at _ _ _ _ _) n = tt
  task_fits blocks (stable_at _ _) n = tt
  task_fits blocks (declare_at _ _) n = tt
  task_fits blocks (tasks_at _) n = tt
  task_fits blocks (task_at _ _ []) n = n
  task_fits blocks (task_at _ _ (_ ∷ _)) n = tt

  prepared_fits : (blocks : List Closing) (d : Decl) → AreNested blocks → FitsNext (prepared mode blocks d)
  prepared_fits blocks (TypeDecl _ _ _) n = tt
  prepared_fits blocks (Object _ _ _ _) n = tt
  prepared_fits blocks (CursorVar _ _ _) n = tt
  prepared_fits blocks (IntVar _ _) n = n
  prepared_fits blocks (TextVar _ _) n = tt

  handler_fits : (own : Option Exception) (blocks : List Closing) → AreNested blocks → AreNested (handler_end own ∷ blocks)
  handler_fits None blocks n = n
  handler_fits (Some _) blocks n = n

  caught_fits : (own : Option Exception) (blocks : List Closing) → AreNested blocks → FitsNext (caught mode own blocks)
  caught_fits own [] n = tt
  caught_fits own (EndLoop ∷ _) n = tt
  caught_fits own (End ∷ _) n = tt
  caught_fits own (EndTasks ∷ _) n = tt
  caught_fits own (EndTask ∷ _) n = tt
  caught_fits own (EndTried ∷ _) n = tt
  caught_fits own (EndHandlers ∷ blocks) n = handler_fits own blocks n
  caught_fits own (EndOthers ∷ _) n = tt

  first_fits : (own : Option Exception) (blocks : List Closing) → TakeHandlers blocks → FitsNext (caught mode own blocks)
  first_fits own [] n = absurd n
  first_fits own (EndLoop ∷ _) n = absurd n
  first_fits own (End ∷ _) n = absurd n
  first_fits own (EndTasks ∷ _) n = absurd n
  first_fits own (EndTask ∷ _) n = absurd n
  first_fits own (EndTried ∷ _) n = absurd n
  first_fits own (EndHandlers ∷ blocks) n = handler_fits own blocks n
  first_fits own (EndOthers ∷ _) n = absurd n

  outer_fits : (l : Closing) (blocks : List Closing) → AreNested (l ∷ blocks) → Fits blocks (stage_behind l)
  outer_fits EndLoop blocks n = n
  outer_fits End blocks n = n
  outer_fits EndTasks blocks n = n
  outer_fits EndTask blocks n = n
  outer_fits EndTried blocks n = n
  outer_fits EndHandlers blocks n = n
  outer_fits EndOthers blocks n = n

  left_fits_by : (l : Closing) (blocks : List Closing) (o : Option Context) → left_behind mode l blocks ≡ o → AreNested blocks → FitsNext o
  left_fits_by l blocks None e n = tt
  left_fits_by l blocks (Some next) e n =
      let found = left_from mode l blocks next e in
      let outer : Fits found.0 (stage_behind l) = outer_fits l found.0 (subst AreNested found.1 n) in
      subst (λ (c : Context). Fits c.blocks c.stage) found.2 outer

  left_fits : (l : Closing) (blocks : List Closing) → AreNested blocks → FitsNext (left_behind mode l blocks)
  left_fits l blocks n = left_fits_by l blocks (left_behind mode l blocks) refl n

tried_fits : (mode : Bool) (blocks : List Closing) → AreNested blocks → FitsNext (tried mode blocks)
tried_fits true blocks n = n
tried_fits false blocks n = tt

step_fits : (mode : Bool) (blocks : List Closing) (stage : Stage) (item : Item) → Fits blocks stage → FitsNext (next_after mode blocks stage item)
step_fits mode blocks fronting (declares _) n = n
step_fits mode blocks listing (declares _) n = n
step_fits mode blocks heading (declares _) n = n
step_fits mode blocks running (declares _) n = tt
step_fits mode blocks tasking (declares _) n = tt
step_fits mode blocks tasked (declares _) n = tt
step_fits mode blocks preparing (declares d) n = prepared_fits mode blocks d n
step_fits mode blocks stepping (declares _) n = tt
step_fits mode blocks catching (declares _) n = tt
step_fits mode blocks fronting (commands _) n = n
step_fits mode blocks listing (commands _) n = n
step_fits mode blocks heading (commands _) n = tt
step_fits mode blocks running (commands _) n = n
step_fits mode blocks tasking (commands _) n = tt
step_fits mode blocks tasked (commands _) n = tt
step_fits mode blocks preparing (commands _) n = tt
step_fits mode blocks stepping (commands _) n = n
step_fits mode blocks catching (commands _) n = tt
step_fits mode blocks fronting (opens h) n = entered_fits mode blocks h n
step_fits mode blocks listing (opens h) n = entered_fits mode blocks h n
step_fits mode blocks heading (opens _) n = tt
step_fits mode blocks running (opens h) n = entered_fits mode blocks h n
step_fits mode blocks tasking (opens h) n = task_fits mode blocks h n
step_fits mode blocks tasked (opens h) n = task_fits mode blocks h n
step_fits mode blocks preparing (opens _) n = tt
step_fits mode blocks stepping (opens _) n = tt
step_fits mode blocks catching (opens _) n = tt
step_fits mode blocks fronting begins n = tt
step_fits mode blocks listing begins n = tt
step_fits mode blocks heading begins n = n
step_fits mode blocks running begins n = tt
step_fits mode blocks tasking begins n = tt
step_fits mode blocks tasked begins n = tt
step_fits mode blocks preparing begins n = n
step_fits mode blocks stepping begins n = tt
step_fits mode blocks catching begins n = tt
step_fits mode blocks fronting (closes l) n = left_fits mode l blocks n
step_fits mode blocks listing (closes l) n = left_fits mode l blocks n
step_fits mode blocks heading (closes _) n = tt
step_fits mode blocks running (closes l) n = left_fits mode l blocks n
step_fits mode blocks tasking (closes _) n = tt
step_fits mode blocks tasked (closes l) n = left_fits mode l blocks n
step_fits mode blocks preparing (closes _) n = tt
step_fits mode blocks stepping (closes l) n = left_fits mode l blocks n
step_fits mode blocks catching (closes _) n = tt
step_fits mode blocks fronting (propagates _) n = n
step_fits mode blocks listing (propagates _) n = tt
step_fits mode blocks heading (propagates _) n = tt
step_fits mode blocks running (propagates _) n = tt
step_fits mode blocks tasking (propagates _) n = tt
step_fits mode blocks tasked (propagates _) n = tt
step_fits mode blocks preparing (propagates _) n = tt
step_fits mode blocks stepping (propagates _) n = tt
step_fits mode blocks catching (propagates _) n = tt
step_fits mode blocks fronting (tries _) n = tried_fits mode blocks n
step_fits mode blocks listing (tries _) n = tried_fits mode blocks n
step_fits mode blocks heading (tries _) n = tt
step_fits mode blocks running (tries _) n = tried_fits mode blocks n
step_fits mode blocks tasking (tries _) n = tt
step_fits mode blocks tasked (tries _) n = tt
step_fits mode blocks preparing (tries _) n = tt
step_fits mode blocks stepping (tries _) n = tt
step_fits mode blocks catching (tries _) n = tt
step_fits mode blocks fronting (catches _ _) n = tt
step_fits mode blocks listing (catches _ _) n = tt
step_fits mode blocks heading (catches _ _) n = tt
step_fits mode blocks running (catches _ own) n = caught_fits mode own blocks n
step_fits mode blocks tasking (catches _ _) n = tt
step_fits mode blocks tasked (catches _ _) n = tt
step_fits mode blocks preparing (catches _ _) n = tt
step_fits mode blocks stepping (catches _ _) n = tt
step_fits mode blocks catching (catches _ own) n = first_fits mode own blocks n

after_fits : (xs : List Item) (from to : Context) → context_after from xs ≡ Some to → Fits from.blocks from.stage → Fits to.blocks to.stage
after_fits [] from to e n = subst (λ (c : Context). Fits c.blocks c.stage) (some_context e) n
after_fits (x ∷ xs) from to e n =
    let step = then_some (next_after from.propagating from.blocks from.stage x) xs to e in
    after_fits xs step.0 to step.2 (next_fits _ step.0 step.1 (step_fits from.propagating from.blocks from.stage x n))

-- the innermost block may end at this stage
abbrev MayEnd : Stage → Type 0
MayEnd fronting = Unit {0}
MayEnd listing = Unit {0}
MayEnd heading = ⊥
MayEnd running = Unit {0}
MayEnd tasking = ⊥
MayEnd tasked = Unit {0}
MayEnd preparing = ⊥
MayEnd stepping = Unit {0}
MayEnd catching = ⊥

not_heading : (stage : Stage) → MayEnd stage → is_heading stage ≡ false
not_heading fronting may = refl
not_heading listing may = refl
not_heading heading may = absurd may
not_heading running may = refl
not_heading tasking may = absurd may
not_heading tasked may = refl
not_heading preparing may = absurd may
not_heading stepping may = refl
not_heading catching may = absurd may

module _ (mode : Bool) where
  closes_own : (l : Closing) (blocks : List Closing) (stage : Stage) → MayEnd stage → next_after mode (l ∷ blocks) stage (closes l) ≡ reach mode blocks (stage_behind l)
  closes_own l blocks fronting may = left_own mode l blocks
  closes_own l blocks listing may = left_own mode l blocks
  closes_own l blocks heading may = absurd may
  closes_own l blocks running may = left_own mode l blocks
  closes_own l blocks tasking may = absurd may
  closes_own l blocks tasked may = left_own mode l blocks
  closes_own l blocks preparing may = absurd may
  closes_own l blocks stepping may = left_own mode l blocks
  closes_own l blocks catching may = absurd may

  -- these items lead from here to where a script may end
  abbrev Completes : List Closing → Stage → List Item → Type 0
  Completes blocks stage xs = (last : Context) × (context_after (at mode blocks stage) xs ≡ Some last) × IsEnd last

  -- the end of the innermost block first
  end_first : (l : Closing) (blocks : List Closing) (stage : Stage) (xs : List Item) → MayEnd stage → Completes blocks (stage_behind l) xs → Completes (l ∷ blocks) stage (closes l ∷ xs)
  end_first l blocks stage xs may rest =
      (rest.0, ap (option_and_then (λ next. context_after next xs)) (closes_own l blocks stage may) ∙ rest.1, rest.2)

  mutual
    closing_runs : (blocks : List Closing) (stage : Stage) → MayEnd stage → AreNested blocks → Completes blocks stage (ends_of blocks)
    closing_runs [] stage may n = (at mode [] stage, refl, record { closed = refl; begun = not_heading stage may })
    closing_runs (EndLoop ∷ blocks) stage may n = end_first EndLoop blocks stage (ends_of blocks) may (closing_runs blocks running tt n)
    closing_runs (End ∷ blocks) stage may n = end_first End blocks stage (ends_of blocks) may (closing_runs blocks running tt n)
    closing_runs (EndTasks ∷ blocks) stage may n = end_first EndTasks blocks stage (ends_of blocks) may (closing_runs blocks running tt n)
    closing_runs (EndTask ∷ blocks) stage may n = end_first EndTask blocks stage (ends_of blocks) may (closing_runs blocks tasked tt n)
    closing_runs (EndTried ∷ blocks) stage may n = end_first EndTried blocks stage (others_of blocks) may (others_run blocks n)
    closing_runs (EndHandlers ∷ blocks) stage may n = end_first EndHandlers blocks stage (ends_of blocks) may (closing_runs blocks running tt n)
    closing_runs (EndOthers ∷ blocks) stage may n = end_first EndOthers blocks stage (ends_of blocks) may (closing_runs blocks running tt n)

    others_run : (blocks : List Closing) → TakeHandlers blocks → Completes blocks catching (others_of blocks)
    others_run [] n = absurd n
    others_run (EndLoop ∷ blocks) n = absurd n
    others_run (End ∷ blocks) n = absurd n
    others_run (EndTasks ∷ blocks) n = absurd n
    others_run (EndTask ∷ blocks) n = absurd n
    others_run (EndTried ∷ blocks) n = absurd n
    others_run (EndHandlers ∷ blocks) n = closing_runs blocks running tt n
    others_run (EndOthers ∷ blocks) n = absurd n

  completes : (blocks : List Closing) (stage : Stage) → Fits blocks stage → Completes blocks stage (completion blocks stage)
  completes blocks fronting n = closing_runs blocks fronting tt n
  completes blocks listing n = closing_runs blocks listing tt n
  completes blocks heading n = closing_runs blocks running tt n
  completes blocks running n = closing_runs blocks running tt n
  completes blocks tasking n = closing_runs (EndTask ∷ blocks) stepping tt n
  completes blocks tasked n = closing_runs blocks tasked tt n
  completes blocks preparing n = closing_runs blocks stepping tt n
  completes blocks stepping n = closing_runs blocks stepping tt n
  completes blocks catching n = others_run blocks n

further : (o : Option Context) (xs ys : List Item) (c : Context) → ((n : Context) → context_after n xs ≡ Some c → context_after n (xs ++ ys) ≡ context_after c ys)
    → option_and_then (λ n. context_after n xs) o ≡ Some c → option_and_then (λ n. context_after n (xs ++ ys)) o ≡ context_after c ys
further None xs ys c h e = absurd (none-some c e)
further (Some n) xs ys c h e = h n e

pub behind : (xs ys : List Item) (from to : Context) → context_after from xs ≡ Some to → context_after from (xs ++ ys) ≡ context_after to ys
behind [] ys from to e = ap (λ (c : Context). context_after c ys) (some_context e)
behind (x ∷ xs) ys from to e = further (next_after from.propagating from.blocks from.stage x) xs ys to (λ n p. behind xs ys n to p) e

-- and behind what may come, what closes all that is open
pub completed : (xs : List Item) (context : Context) → context_after at_front xs ≡ Some context → AreInOrder (xs ++ completion context.blocks context.stage)
completed xs context e =
    let found = completes context.propagating context.blocks context.stage (after_fits xs at_front context e tt) in
    record { last = found.0; leads = behind xs (completion context.blocks context.stage) at_front context e ∙ found.1; ends = found.2 }

pub front_completes : (xs : List Item) (context : Context) → context_after at_front xs ≡ Some context
    → (more : List Item) × (script : Script) × (script_items script ≡ xs ++ more)
front_completes xs context e =
    let script = script_found (xs ++ completion context.blocks context.stage) (completed xs context e) in
    (completion context.blocks context.stage, script.0, script.1)
