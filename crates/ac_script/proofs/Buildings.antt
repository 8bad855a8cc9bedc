-- A script that is built from its items: what each item adds.
use Rattle.std.proofs.Common.{◌≡◌, ℕ, Bool, true, false, List, [], ◌∷◌, ◌++◌, map, reverse, Option, Some, None, refl, sym, ap, ◌∙◌, subst, append_assoc, Vec, Global}
use Rattle.std.specs.Prelude.{flat_map, option_and_then}
use Rattle.std.proofs.lemmas.List.{append-nil, map-append}
use Rattle.std.proofs.lemmas.List.{reverse-append, reverse-reverse}
use Rattle.std.proofs.lemmas.Grind.{flat_map-append}
use Rattle.std.proofs.lemmas.Option.{none-some}
use Rattle.std.proofs.Math.Bool.{true≢false}
use Rattle.ac_syntax.specs.Code.{Code, Simple, Head as SpecHead, loop_at, view_at, stable_at, declare_at, tasks_at, task_at, stop, one, block, handled, HandlerCode}
use Rattle.ac_syntax.specs.Items.{Item, declares, commands, opens, begins, closes, propagates, tries, catches, items, handler_items, pragma_items, handlers_end, end_behind, handler_end, ending, bare, declared}
use Rattle.ac_syntax.specs.Statements.{before, code_of, task_before, tasks_of, handlers_of}
use Rattle.ac_syntax.specs.Order.{Stage, fronting, listing, heading, running, tasking, tasked, preparing, stepping, catching, Context, next_after, context_after, is_heading, IsEnd, reach, entered, task_entered, tried, caught, stage_behind, left_behind, prepared}
use Rattle.ac_syntax.specs.declared.closing.Closing.{Closing}
use Rattle.ac_syntax.specs.declared.closing.Closing.TheVariants.{EndLoop, End, EndTasks, EndTask, EndTried, EndHandlers}
use Rattle.ac_syntax.specs.declared.decl.Decl.{Decl}
use Rattle.ac_syntax.specs.declared.decl.Decl.TheVariants.{TypeDecl, Object, CursorVar, IntVar, TextVar}
use Rattle.ac_syntax.specs.declared.stmt.Stmt.{Stmt}
use Rattle.ac_syntax.specs.declared.stmt.Stmt.TheVariants.{Call, Set, Sum, Loop, View, Stable, Declare, Tasks, Handled}
use Rattle.ac_syntax.specs.declared.stmt.TaskText.{TaskText}
use Rattle.ac_syntax.specs.declared.stmt.Handler.{Handler}
use Rattle.ac_base.specs.declared.reason.Exception.{Exception}
use Rattle.ac_syntax.proofs.Orders.{at, left_from}
use Rattle.ac_script.specs.declared.item.Head.{Head}
use Rattle.ac_script.specs.declared.item.Head.TheVariants as head
use Rattle.ac_script.specs.declared.build.Level.{Level}
use Rattle.ac_script.specs.declared.build.Catching.{Catching}
use Rattle.ac_script.specs.declared.build.Opening.{Opening}
use Rattle.ac_script.specs.declared.build.Opening.TheVariants.{Block, Tried, Awaiting, Handling}
use Rattle.ac_script.specs.declared.build.Enclosing.{Enclosing}
use Rattle.ac_script.specs.declared.build.Building.{Building}
use Rattle.ac_script.specs.declared.build.Ended.{Ended}
use Rattle.ac_script.specs.declared.build.Ended.TheVariants as ended
use Rattle.ac_script.specs.Views.{head_view}
use Rattle.ac_script.specs.Building.{begun_items, body_of, level_code, level_items, own_handler, all_handlers, opened_items, opened_ends, enclosing_items, items_so_far, Inside, no_block, bare_block, declaring, gathering, awaiting, Content, of_statements, of_tasks, of_nothing, inside_head, inside_of, innermost, content, content_in, stands_in, IsEmpty, Suits, Nests, IsHeading, IsAmong, IsStaged, IsBuilding, Takes, Enters, Adds, full_head, body_by, ended_before, ended_content}

-- a block's items, and then those of what follows it
items_block : (h : SpecHead) (body rest : Code) → items (block h body rest) ≡ items (block h body stop) ++ items rest
items_block h body rest =
    ap (λ is. opens (bare h) ∷ is)
    (ap (λ is. declared h ++ is) (sym (append_assoc (items body) (closes (ending h) ∷ []) (items rest)))
    ∙ sym (append_assoc (declared h) (items body ++ closes (ending h) ∷ []) (items rest)))

items_handled : (line : ℕ) (body : Code) (handlers : HandlerCode) (rest : Code) → items (handled line body handlers rest) ≡ items (handled line body handlers stop) ++ items rest
items_handled line body handlers rest =
    let end = closes (handlers_end handlers) in
    ap (λ is. tries line ∷ is)
    (ap (λ is. items body ++ closes EndTried ∷ is) (sym (append_assoc (handler_items handlers) (end ∷ []) (items rest)))
    ∙ sym (append_assoc (items body) (closes EndTried ∷ (handler_items handlers ++ end ∷ [])) (items rest)))

-- a statement's items, and then those of what follows it
items_before : (s : Stmt) (rest : Code) → items (before s rest) ≡ items (before s stop) ++ items rest
items_before (Call _ _ _ _ _) rest = refl
items_before (Set _ _ _) rest = refl
items_before (Sum _ _ _ _ _) rest = refl
items_before (Loop line name elements backward object body) rest = items_block (loop_at line name elements backward object) body rest
items_before (View line kind object at name body) rest = items_block (view_at line kind object at name) body rest
items_before (Stable line object body) rest = items_block (stable_at line object) body rest
items_before (Declare line decls body) rest = items_block (declare_at line decls) body rest
items_before (Tasks line tasks) rest = items_block (tasks_at line) tasks rest
items_before (Handled line body handlers) rest = items_handled line body handlers rest

items_append : (xs ys : List Stmt) → items (code_of (xs ++ ys)) ≡ items (code_of xs) ++ items (code_of ys)
items_append [] ys = refl
items_append (x ∷ xs) ys =
    items_before x (code_of (xs ++ ys)) ∙ ap (λ is. items (before x stop) ++ is) (items_append xs ys)
    ∙ sym (append_assoc (items (before x stop)) (items (code_of xs)) (items (code_of ys))) ∙ ap (λ is. is ++ items (code_of ys)) (sym (items_before x (code_of xs)))

-- one statement more
pub items_more : (xs : List Stmt) (s : Stmt) (c : Code) → before s stop ≡ c → items (code_of (xs ++ s ∷ [])) ≡ items (code_of xs) ++ items c
items_more xs s c e = items_append xs (s ∷ []) ∙ ap (λ code. items (code_of xs) ++ items code) e

-- one task more
items_task : (t : TaskText) (rest : Code) → items (task_before t rest) ≡ items (task_before t stop) ++ items rest
items_task t rest = items_block (task_at t.line t.name t.locals) t.steps rest

tasks_more : (xs : List TaskText) (t : TaskText) → items (tasks_of (xs ++ t ∷ [])) ≡ items (tasks_of xs) ++ items (task_before t stop)
tasks_more [] t = refl
tasks_more (x ∷ xs) t =
    items_task x (tasks_of (xs ++ t ∷ [])) ∙ ap (λ is. items (task_before x stop) ++ is) (tasks_more xs t)
    ∙ sym (append_assoc (items (task_before x stop)) (items (tasks_of xs)) (items (task_before t stop))) ∙ ap (λ is. is ++ items (task_before t stop)) (sym (items_task x (tasks_of xs)))

-- the same in a level

stmt_more : (stmts : List Stmt) (tasks : List TaskText) (s : Stmt) (c : Code) → tasks ≡ [] → before s stop ≡ c → items (body_of (stmts ++ s ∷ []) tasks) ≡ items (body_of stmts tasks) ++ items c
stmt_more stmts tasks s c none e = rw none (items_more stmts s c e)

task_more : (stmts : List Stmt) (tasks : List TaskText) (t : TaskText) (c : Code) → stmts ≡ [] → task_before t stop ≡ c → items (body_of stmts (tasks ++ t ∷ [])) ≡ items (body_of stmts tasks) ++ items c
task_more stmts [] t c none e = rw none (ap items e)
task_more stmts (x ∷ xs) t c none e = tasks_more (x ∷ xs) t ∙ ap (λ code. items (tasks_of (x ∷ xs)) ++ items code) e

-- the items of a level with these parts
abbrev of_level : List Decl → Bool → Code → List Item
of_level decls begun code = map declares decls ++ (begun_items begun ++ items code)

of_decls : (decls : List Decl) (d : Decl) → of_level (decls ++ d ∷ []) false stop ≡ of_level decls false stop ++ declares d ∷ []
of_decls decls d =
    append-nil (map declares (decls ++ d ∷ [])) ∙ map-append declares decls (d ∷ []) ∙ ap (λ is. is ++ declares d ∷ []) (sym (append-nil (map declares decls)))

of_begun : (decls : List Decl) → of_level decls true stop ≡ of_level decls false stop ++ begins ∷ []
of_begun decls = ap (λ is. is ++ begins ∷ []) (sym (append-nil (map declares decls)))

of_code : (decls : List Decl) (begun : Bool) (more code c : Code) → items more ≡ items code ++ items c → of_level decls begun more ≡ of_level decls begun code ++ items c
of_code decls begun more code c e =
    ap (λ is. map declares decls ++ (begun_items begun ++ is)) e
    ∙ ap (λ is. map declares decls ++ is) (sym (append_assoc (begun_items begun) (items code) (items c)))
    ∙ sym (append_assoc (map declares decls) (begun_items begun ++ items code) (items c))

-- a level with the same declarations, and more behind them
level_more : (old new : Level) (c : Code) → new.decls ≡ old.decls → new.begun ≡ old.begun → items (level_code new) ≡ items (level_code old) ++ items c → level_items new ≡ level_items old ++ items c
level_more old new c decls begun e =
    ap (λ (v : Vec Decl Global). of_level v.items new.begun (level_code new)) decls ∙ ap (λ b. of_level old.decls.items b (level_code new)) begun
    ∙ of_code old.decls.items old.begun (level_code new) (level_code old) c e

-- more items at the end of the innermost level
step : (front l more i : List Item) → more ≡ l ++ i → front ++ more ≡ (front ++ l) ++ i
step front l more i e = ap (λ is. front ++ is) e ∙ sym (append_assoc front l i)

abbrev endings : List Enclosing → List Closing
endings around = flat_map (λ (e : Enclosing). opened_ends e.opening) around

-- ---- what a level keeps

suits : (around : List Enclosing) (level : Level) → Nests around level → Suits (innermost around) level
suits [] level h = h
suits (e ∷ outer) level h = h.0

taskless : (i : Inside) (level : Level) → content i ≡ of_statements → Suits i level → level.tasks.items ≡ []
taskless no_block level g h = h.1
taskless bare_block level g h = h.2
taskless declaring level g h = h.1
taskless gathering level g h = absurd (cc g)
taskless awaiting level g h = h.3

stmtless : (i : Inside) (level : Level) → content i ≡ of_tasks → Suits i level → level.stmts.items ≡ []
stmtless no_block level g h = absurd (cc g)
stmtless bare_block level g h = absurd (cc g)
stmtless declaring level g h = absurd (cc g)
stmtless gathering level g h = h.2
stmtless awaiting level g h = absurd (cc g)

nests_so : (around : List Enclosing) (old new : Level) → (Suits (innermost around) old → Suits (innermost around) new) → Nests around old → Nests around new
nests_so [] old new f h = f h
nests_so (e ∷ outer) old new f h = (f h.0, h.1, h.2)

-- with the same declarations and tasks, where there are none of these, or the same statements, where there are tasks alone

suits_stmts : (i : Inside) (old new : Level) → content i ≡ of_statements → new.decls ≡ old.decls → new.begun ≡ old.begun → new.tasks ≡ old.tasks → Suits i old → Suits i new
suits_stmts no_block old new g d b t h = (b ∙ h.0, ap (λ (v : Vec TaskText Global). v.items) t ∙ h.1)
suits_stmts bare_block old new g d b t h = (ap (λ (v : Vec Decl Global). v.items) d ∙ h.0, b ∙ h.1, ap (λ (v : Vec TaskText Global). v.items) t ∙ h.2)
suits_stmts declaring old new g d b t h = (b ∙ h.0, ap (λ (v : Vec TaskText Global). v.items) t ∙ h.1)
suits_stmts gathering old new g d b t h = absurd (cc g)
suits_stmts awaiting old new g d b t h = absurd (cc g)

suits_tasks : (i : Inside) (old new : Level) → content i ≡ of_tasks → new.decls ≡ old.decls → new.begun ≡ old.begun → new.stmts ≡ old.stmts → Suits i old → Suits i new
suits_tasks no_block old new g d b s h = absurd (cc g)
suits_tasks bare_block old new g d b s h = absurd (cc g)
suits_tasks declaring old new g d b s h = absurd (cc g)
suits_tasks gathering old new g d b s h = (ap (λ (v : Vec Decl Global). v.items) d ∙ h.0, b ∙ h.1, ap (λ (v : Vec Stmt Global). v.items) s ∙ h.2)
suits_tasks awaiting old new g d b s h = absurd (cc g)

abbrev Step : Item → Building → Building → Context → Type 0
Step item old new next = (items_so_far new ≡ items_so_far old ++ item ∷ []) × IsBuilding new next

-- at the front of a script no block is open
among_none : (around : List Enclosing) (level : Level) → around ≡ [] → level.begun ≡ false → level.tasks.items ≡ [] → IsAmong of_statements around level
among_none around level none b t = subst (λ around. IsAmong of_statements around level) (sym none) (refl, (b, t))

-- ---- an item in the innermost level

module _ (old new : Building) (context next : Context) (built : IsBuilding old context) (pragma : new.pragma ≡ old.pragma) (around : new.around ≡ old.around) where
  enclosed : flat_map enclosing_items new.around.items ≡ flat_map enclosing_items old.around.items
  enclosed = ap (λ (v : Vec Enclosing Global). flat_map enclosing_items v.items) around

  turned : reverse new.around.items ≡ reverse old.around.items
  turned = ap (λ (v : Vec Enclosing Global). reverse v.items) around

  all_items : (i : List Item) → level_items new.level ≡ level_items old.level ++ i → items_so_far new ≡ items_so_far old ++ i
  all_items i e =
      let flat = flat_map enclosing_items old.around.items in
      ap (λ p. pragma_items p ++ (flat_map enclosing_items new.around.items ++ level_items new.level)) pragma
      ∙ ap (λ is. pragma_items old.pragma ++ (is ++ level_items new.level)) enclosed
      ∙ ap (λ is. pragma_items old.pragma ++ is) (step flat (level_items old.level) (level_items new.level) i e)
      ∙ sym (append_assoc (pragma_items old.pragma) (flat ++ level_items old.level) i)

  reached : (stage : Stage) → reach context.propagating context.blocks stage ≡ Some next → IsStaged stage new.pragma (reverse new.around.items) new.level → IsBuilding new next
  reached stage e staged =
      let is : record { propagating = context.propagating; blocks = context.blocks; stage = stage } ≡ next = cc e in
      subst (λ (c : Context). IsBuilding new c) is (record { blocks = built.blocks ∙ ap endings (sym turned); staged = staged })

  module _ (d : Decl) (decls : new.level.decls.items ≡ old.level.decls.items ++ d ∷ []) (begun : new.level.begun ≡ old.level.begun) (stmts : new.level.stmts ≡ old.level.stmts) (tasks : new.level.tasks ≡ old.level.tasks) where
    no_stmts : old.level.stmts.items ≡ [] → new.level.stmts.items ≡ []
    no_stmts none = ap (λ (v : Vec Stmt Global). v.items) stmts ∙ none

    no_tasks : old.level.tasks.items ≡ [] → new.level.tasks.items ≡ []
    no_tasks none = ap (λ (v : Vec TaskText Global). v.items) tasks ∙ none

    one_decl : old.level.stmts.items ≡ [] → old.level.begun ≡ false → old.level.tasks.items ≡ [] → items_so_far new ≡ items_so_far old ++ declares d ∷ []
    one_decl none unbegun taskless =
        all_items (declares d ∷ []) (rw (decls, no_stmts none, begun ∙ unbegun, no_tasks taskless, none, unbegun, taskless) (of_decls old.level.decls.items d))

    heading_on : IsHeading (reverse old.around.items) old.level → IsHeading (reverse new.around.items) new.level
    heading_on h = record {
      block = h.block;
      outer = h.outer;
      is = turned ∙ h.is;
      declares = h.declares;
      unbegun = begun ∙ h.unbegun;
      empty = no_stmts h.empty;
      taskless = no_tasks h.taskless;
      stands = h.stands;
      nests = h.nests;
    }

    at_heading : (stage : Stage) → ((pragma : Option ℕ) (around : List Enclosing) (level : Level) → IsHeading around level → IsStaged stage pragma around level) → IsHeading (reverse old.around.items) old.level
        → reach context.propagating context.blocks stage ≡ Some next → Step (declares d) old new next
    at_heading stage same h e = (one_decl h.empty h.unbegun h.taskless, reached stage e (same new.pragma (reverse new.around.items) new.level (heading_on h)))

    prepared_step : (kind : Decl) → IsHeading (reverse old.around.items) old.level → prepared context.propagating context.blocks kind ≡ Some next → Step (declares d) old new next
    prepared_step (TypeDecl _ _ _) h e = absurd (none-some next e)
    prepared_step (Object _ _ _ _) h e = absurd (none-some next e)
    prepared_step (CursorVar _ _ _) h e = absurd (none-some next e)
    prepared_step (IntVar _ _) h e = at_heading preparing (λ pragma around level k. k) h e
    prepared_step (TextVar _ _) h e = absurd (none-some next e)

    -- in a script's declarations
    at_listing : reverse old.around.items ≡ [] → old.level.stmts.items ≡ [] → old.level.begun ≡ false → old.level.tasks.items ≡ [] → reach context.propagating context.blocks listing ≡ Some next → Step (declares d) old new next
    at_listing none no_stmts_yet unbegun taskless e =
        (one_decl no_stmts_yet unbegun taskless, reached listing e (turned ∙ none, no_stmts no_stmts_yet, begun ∙ unbegun, no_tasks taskless))

    declared_step : (stage : Stage) → IsStaged stage old.pragma (reverse old.around.items) old.level → next_after context.propagating context.blocks stage (declares d) ≡ Some next → Step (declares d) old new next
    declared_step fronting staged e = at_listing staged.0 staged.1.2 staged.1.1 staged.1.3 e
    declared_step listing staged e = at_listing staged.0 staged.1 staged.2 staged.3 e
    declared_step heading staged e = at_heading heading (λ pragma around level k. k) staged e
    declared_step running staged e = absurd (none-some next e)
    declared_step tasking staged e = absurd (none-some next e)
    declared_step tasked staged e = absurd (none-some next e)
    declared_step preparing staged e = prepared_step d staged e
    declared_step stepping staged e = absurd (none-some next e)
    declared_step catching staged e = absurd (none-some next e)

  module _ (simple : Simple) (s : Stmt) (is : before s stop ≡ one simple stop) (decls : new.level.decls ≡ old.level.decls) (begun : new.level.begun ≡ old.level.begun)
      (stmts : new.level.stmts.items ≡ old.level.stmts.items ++ s ∷ []) (tasks : new.level.tasks ≡ old.level.tasks) where
    ran_items : old.level.tasks.items ≡ [] → items_so_far new ≡ items_so_far old ++ commands simple ∷ []
    ran_items none =
        all_items (commands simple ∷ []) (level_more old.level new.level (one simple stop) decls begun
        (ap (λ stmts. items (body_of stmts new.level.tasks.items)) stmts ∙ ap (λ (v : Vec TaskText Global). items (body_of (old.level.stmts.items ++ s ∷ []) v.items)) tasks
        ∙ stmt_more old.level.stmts.items old.level.tasks.items s (one simple stop) none is))

    ran_among : IsAmong of_statements (reverse old.around.items) old.level → IsAmong of_statements (reverse new.around.items) new.level
    ran_among h =
        subst (λ around. IsAmong of_statements around new.level) (sym turned)
        (h.0, nests_so (reverse old.around.items) old.level new.level (suits_stmts (innermost (reverse old.around.items)) old.level new.level h.0 decls begun tasks) h.1)

    ran_at : (stage : Stage) → ((pragma : Option ℕ) (around : List Enclosing) (level : Level) → IsAmong of_statements around level → IsStaged stage pragma around level) → IsAmong of_statements (reverse old.around.items) old.level
        → reach context.propagating context.blocks stage ≡ Some next → Step (commands simple) old new next
    ran_at stage same h e =
        (ran_items (taskless (innermost (reverse old.around.items)) old.level h.0 (suits (reverse old.around.items) old.level h.1)), reached stage e (same new.pragma (reverse new.around.items) new.level (ran_among h)))

    ran_step : (stage : Stage) → IsStaged stage old.pragma (reverse old.around.items) old.level → next_after context.propagating context.blocks stage (commands simple) ≡ Some next → Step (commands simple) old new next
    ran_step fronting staged e = ran_at running (λ pragma around level h. h) (among_none (reverse old.around.items) old.level staged.0 staged.1.1 staged.1.3) e
    ran_step listing staged e = ran_at running (λ pragma around level h. h) (among_none (reverse old.around.items) old.level staged.0 staged.2 staged.3) e
    ran_step heading staged e = absurd (none-some next e)
    ran_step running staged e = ran_at running (λ pragma around level h. h) staged e
    ran_step tasking staged e = absurd (none-some next e)
    ran_step tasked staged e = absurd (none-some next e)
    ran_step preparing staged e = absurd (none-some next e)
    ran_step stepping staged e = ran_at stepping (λ pragma around level h. h) staged e
    ran_step catching staged e = absurd (none-some next e)

  module _ (decls : new.level.decls ≡ old.level.decls) (begun : new.level.begun ≡ true) (stmts : new.level.stmts ≡ old.level.stmts) (tasks : new.level.tasks ≡ old.level.tasks) where
    begun_items_now : IsHeading (reverse old.around.items) old.level → items_so_far new ≡ items_so_far old ++ begins ∷ []
    begun_items_now h =
        let empty : new.level.stmts.items ≡ [] = ap (λ (v : Vec Stmt Global). v.items) stmts ∙ h.empty in
        let none : new.level.tasks.items ≡ [] = ap (λ (v : Vec TaskText Global). v.items) tasks ∙ h.taskless in
        all_items (begins ∷ []) (rw (decls, begun, empty, none, h.unbegun, h.empty, h.taskless) (of_begun old.level.decls.items))

    begun_among : IsHeading (reverse old.around.items) old.level → IsAmong of_statements (reverse new.around.items) new.level
    begun_among h =
        let none : new.level.tasks.items ≡ [] = ap (λ (v : Vec TaskText Global). v.items) tasks ∙ h.taskless in
        let own : Suits (inside_of h.block.opening) new.level = subst (λ i. Suits i new.level) (sym h.declares) (begun, none) in
        subst (λ around. IsAmong of_statements around new.level) (sym (turned ∙ h.is)) (ap content h.declares, (own, h.stands, h.nests))

    begun_step : (stage : Stage) → IsStaged stage old.pragma (reverse old.around.items) old.level → next_after context.propagating context.blocks stage begins ≡ Some next → Step begins old new next
    begun_step fronting staged e = absurd (none-some next e)
    begun_step listing staged e = absurd (none-some next e)
    begun_step heading staged e = (begun_items_now staged, reached running e (begun_among staged))
    begun_step running staged e = absurd (none-some next e)
    begun_step tasking staged e = absurd (none-some next e)
    begun_step tasked staged e = absurd (none-some next e)
    begun_step preparing staged e = (begun_items_now staged, reached stepping e (begun_among staged))
    begun_step stepping staged e = absurd (none-some next e)
    begun_step catching staged e = absurd (none-some next e)

pub declared_adds : (old new : Building) (d : Decl) → new.pragma ≡ old.pragma → new.around ≡ old.around → new.level.decls.items ≡ old.level.decls.items ++ d ∷ [] → new.level.begun ≡ old.level.begun → new.level.stmts ≡ old.level.stmts
    → new.level.tasks ≡ old.level.tasks → Adds (declares d) old new
declared_adds old new d pragma around decls begun stmts tasks context next built e = declared_step old new context next built pragma around d decls begun stmts tasks context.stage built.staged e

pub ran_adds : (old new : Building) (simple : Simple) (s : Stmt) → before s stop ≡ one simple stop → new.pragma ≡ old.pragma → new.around ≡ old.around → new.level.decls ≡ old.level.decls → new.level.begun ≡ old.level.begun
    → new.level.stmts.items ≡ old.level.stmts.items ++ s ∷ [] → new.level.tasks ≡ old.level.tasks → Adds (commands simple) old new
ran_adds old new simple s is pragma around decls begun stmts tasks context next built e = ran_step old new context next built pragma around simple s is decls begun stmts tasks context.stage built.staged e

pub begun_adds : (old new : Building) → new.pragma ≡ old.pragma → new.around ≡ old.around → new.level.decls ≡ old.level.decls → new.level.begun ≡ true → new.level.stmts ≡ old.level.stmts → new.level.tasks ≡ old.level.tasks → Adds begins old new
begun_adds old new pragma around decls begun stmts tasks context next built e = begun_step old new context next built pragma around decls begun stmts tasks context.stage built.staged e

-- ---- the pragma

module _ (old new : Building) (line : ℕ) (pragma : new.pragma ≡ Some line) (around : new.around ≡ old.around) (level : new.level ≡ old.level) (context next : Context) (built : IsBuilding old context) where
  pragma_first : reverse old.around.items ≡ [] → IsEmpty old.level → old.pragma ≡ None → items_so_far new ≡ items_so_far old ++ propagates line ∷ []
  pragma_first none empty unset =
      let nothing : old.around.items ≡ [] = sym (reverse-reverse old.around.items) ∙ ap reverse none in
      rw (pragma, around, level, nothing, empty.0, empty.1, empty.2, empty.3, unset) refl

  pragma_step : (stage : Stage) → IsStaged stage old.pragma (reverse old.around.items) old.level → next_after context.propagating context.blocks stage (propagates line) ≡ Some next → Step (propagates line) old new next
  pragma_step fronting staged e =
      let is : record { propagating = true; blocks = context.blocks; stage = listing } ≡ next = cc e in
      let turned : reverse new.around.items ≡ reverse old.around.items = ap (λ (v : Vec Enclosing Global). reverse v.items) around in
      let none : reverse new.around.items ≡ [] = turned ∙ staged.0 in
      let kept : (reverse new.around.items ≡ []) × (new.level.stmts.items ≡ []) × (new.level.begun ≡ false) × (new.level.tasks.items ≡ [])
      = (none, ap (λ (l : Level). l.stmts.items) level ∙ staged.1.2, ap (λ (l : Level). l.begun) level ∙ staged.1.1, ap (λ (l : Level). l.tasks.items) level ∙ staged.1.3) in
      (pragma_first staged.0 staged.1 staged.2, subst (λ (c : Context). IsBuilding new c) is (record { blocks = built.blocks ∙ ap endings (sym turned); staged = kept }))
  pragma_step listing staged e = absurd (none-some next e)
  pragma_step heading staged e = absurd (none-some next e)
  pragma_step running staged e = absurd (none-some next e)
  pragma_step tasking staged e = absurd (none-some next e)
  pragma_step tasked staged e = absurd (none-some next e)
  pragma_step preparing staged e = absurd (none-some next e)
  pragma_step stepping staged e = absurd (none-some next e)
  pragma_step catching staged e = absurd (none-some next e)

pub pragma_adds : (old new : Building) (line : ℕ) → new.pragma ≡ Some line → new.around ≡ old.around → new.level ≡ old.level → Adds (propagates line) old new
pragma_adds old new line pragma around level context next built e = pragma_step old new line pragma around level context next built context.stage built.staged e

-- ---- a block that is entered

-- a list with one item more, the other way round
turned_more : (xs : List Enclosing) (e : Enclosing) → reverse (xs ++ e ∷ []) ≡ e ∷ reverse xs
turned_more xs e = reverse-append xs (e ∷ [])

-- the items of what is opened, behind all others, where nothing stands in it
opened_so_far : (old new : Building) (o : Opening) → Enters o old new → items_so_far new ≡ items_so_far old ++ opened_items o
opened_so_far old new o goes =
    let flat = flat_map enclosing_items old.around.items in
    let e : Enclosing = record { level = old.level; opening = o } in
    let inner : flat_map enclosing_items new.around.items ++ level_items new.level ≡ (flat ++ level_items old.level) ++ opened_items o
    = rw (goes.empty.0, goes.empty.1, goes.empty.2, goes.empty.3) (append-nil (flat_map enclosing_items new.around.items))
    ∙ ap (flat_map enclosing_items) goes.around ∙ flat_map-append enclosing_items old.around.items (e ∷ [])
    ∙ ap (λ is. flat ++ is) (append-nil (enclosing_items e)) ∙ sym (append_assoc flat (level_items old.level) (opened_items o)) in
    ap (λ p. pragma_items p ++ (flat_map enclosing_items new.around.items ++ level_items new.level)) goes.pragma
    ∙ ap (λ is. pragma_items old.pragma ++ is) inner ∙ sym (append_assoc (pragma_items old.pragma) (flat ++ level_items old.level) (opened_items o))

turned_in : (old new : Building) (o : Opening) → Enters o old new → reverse new.around.items ≡ record { level = old.level; opening = o } ∷ reverse old.around.items
turned_in old new o goes = ap reverse goes.around ∙ turned_more old.around.items (record { level = old.level; opening = o })

-- the blocks that are open then
opened_blocks : (old new : Building) (o : Opening) (blocks : List Closing) → Enters o old new → blocks ≡ endings (reverse old.around.items) → opened_ends o ++ blocks ≡ endings (reverse new.around.items)
opened_blocks old new o blocks goes e = ap (λ bs. opened_ends o ++ bs) e ∙ ap endings (sym (turned_in old new o goes))

module _ (old new : Building) (context next : Context) (built : IsBuilding old context) (o : Opening) (goes : Enters o old new) where
  inside : (blocks : List Closing) (stage : Stage) → opened_ends o ++ context.blocks ≡ blocks → reach context.propagating blocks stage ≡ Some next
      → IsStaged stage new.pragma (record { level = old.level; opening = o } ∷ reverse old.around.items) new.level → IsBuilding new next
  inside blocks stage ends q staged =
      let is : record { propagating = context.propagating; blocks = blocks; stage = stage } ≡ next = cc q in
      subst (λ (c : Context). IsBuilding new c) is (record {
        blocks = sym ends ∙ opened_blocks old new o context.blocks goes built.blocks;
        staged = subst (λ around. IsStaged stage new.pragma around new.level) (sym (turned_in old new o goes)) staged;
      })

  module _ (p : Opening) (is : o ≡ p) (among : IsAmong (stands_in p) (reverse old.around.items) old.level) where
    stands : content (innermost (reverse old.around.items)) ≡ stands_in o
    stands = among.0 ∙ ap stands_in (sym is)

    within : (own : Content) → content (inside_of p) ≡ own → Suits (inside_of p) new.level → IsAmong own (record { level = old.level; opening = o } ∷ reverse old.around.items) new.level
    within own g suits = (ap (λ p. content (inside_of p)) is ∙ g, (subst (λ p. Suits (inside_of p) new.level) (sym is) suits, stands, among.1))

    in_front : inside_of p ≡ declaring → IsHeading (record { level = old.level; opening = o } ∷ reverse old.around.items) new.level
    in_front g = record {
      block = record { level = old.level; opening = o };
      outer = reverse old.around.items;
      is = refl;
      declares = ap inside_of is ∙ g;
      unbegun = goes.empty.1;
      empty = goes.empty.2;
      taskless = goes.empty.3;
      stands = stands;
      nests = among.1;
    }

    ends_with : opened_ends o ++ context.blocks ≡ opened_ends p ++ context.blocks
    ends_with = ap (λ p. opened_ends p ++ context.blocks) is

  inside_bare : Suits bare_block new.level
  inside_bare = (goes.empty.0, goes.empty.1, goes.empty.3)

  entered_as : (h : Head) → o ≡ Block h → IsAmong of_statements (reverse old.around.items) old.level → entered context.propagating context.blocks (head_view h) ≡ Some next → IsBuilding new next
  entered_as (head.Loop a b c d f) is among q = inside (EndLoop ∷ context.blocks) running (ends_with (Block (head.Loop a b c d f)) is among) q (within (Block (head.Loop a b c d f)) is among of_statements refl inside_bare)
  entered_as (head.View a b c d f) is among q = inside (End ∷ context.blocks) running (ends_with (Block (head.View a b c d f)) is among) q (within (Block (head.View a b c d f)) is among of_statements refl inside_bare)
  entered_as (head.Stable a b) is among q = inside (End ∷ context.blocks) running (ends_with (Block (head.Stable a b)) is among) q (within (Block (head.Stable a b)) is among of_statements refl inside_bare)
  entered_as (head.Declare a) is among q = inside (End ∷ context.blocks) heading (ends_with (Block (head.Declare a)) is among) q (in_front (Block (head.Declare a)) is among refl)
  entered_as (head.Tasks a) is among q = inside (EndTasks ∷ context.blocks) tasking (ends_with (Block (head.Tasks a)) is among) q (within (Block (head.Tasks a)) is among of_tasks refl (goes.empty.0, goes.empty.1, goes.empty.2))
  entered_as (head.Task a b) is among q = absurd (none-some next q)

  task_entered_as : (h : Head) → o ≡ Block h → IsAmong of_tasks (reverse old.around.items) old.level → task_entered context.propagating context.blocks (head_view h) ≡ Some next → IsBuilding new next
  task_entered_as (head.Loop _ _ _ _ _) is among q = absurd (none-some next q)
  task_entered_as (head.View _ _ _ _ _) is among q = absurd (none-some next q)
  task_entered_as (head.Stable _ _) is among q = absurd (none-some next q)
  task_entered_as (head.Declare _) is among q = absurd (none-some next q)
  task_entered_as (head.Tasks _) is among q = absurd (none-some next q)
  task_entered_as (head.Task a b) is among q = inside (EndTask ∷ context.blocks) preparing (ends_with (Block (head.Task a b)) is among) q (in_front (Block (head.Task a b)) is among refl)

  entered_step : (h : Head) → o ≡ Block h → (stage : Stage) → IsStaged stage old.pragma (reverse old.around.items) old.level → next_after context.propagating context.blocks stage (opens (head_view h)) ≡ Some next → IsBuilding new next
  entered_step h is fronting staged q = entered_as h is (among_none (reverse old.around.items) old.level staged.0 staged.1.1 staged.1.3) q
  entered_step h is listing staged q = entered_as h is (among_none (reverse old.around.items) old.level staged.0 staged.2 staged.3) q
  entered_step h is heading staged q = absurd (none-some next q)
  entered_step h is running staged q = entered_as h is staged q
  entered_step h is tasking staged q = task_entered_as h is staged q
  entered_step h is tasked staged q = task_entered_as h is staged q
  entered_step h is preparing staged q = absurd (none-some next q)
  entered_step h is stepping staged q = absurd (none-some next q)
  entered_step h is catching staged q = absurd (none-some next q)

  -- what is tried
  tried_as : (line : ℕ) → o ≡ Tried line → IsAmong of_statements (reverse old.around.items) old.level → (propagating : Bool) → context.propagating ≡ propagating → tried propagating context.blocks ≡ Some next → IsBuilding new next
  tried_as line is among true mode q =
      inside (EndTried ∷ EndHandlers ∷ context.blocks) running (ends_with (Tried line) is among) (ap (λ p. reach p (EndTried ∷ EndHandlers ∷ context.blocks) running) mode ∙ q)
      (within (Tried line) is among of_statements refl inside_bare)
  tried_as line is among false mode q = absurd (none-some next q)

  tried_step : (line : ℕ) → o ≡ Tried line → (stage : Stage) → IsStaged stage old.pragma (reverse old.around.items) old.level → next_after context.propagating context.blocks stage (tries line) ≡ Some next → IsBuilding new next
  tried_step line is fronting staged q = tried_as line is (among_none (reverse old.around.items) old.level staged.0 staged.1.1 staged.1.3) context.propagating refl q
  tried_step line is listing staged q = tried_as line is (among_none (reverse old.around.items) old.level staged.0 staged.2 staged.3) context.propagating refl q
  tried_step line is heading staged q = absurd (none-some next q)
  tried_step line is running staged q = tried_as line is staged context.propagating refl q
  tried_step line is tasking staged q = absurd (none-some next q)
  tried_step line is tasked staged q = absurd (none-some next q)
  tried_step line is preparing staged q = absurd (none-some next q)
  tried_step line is stepping staged q = absurd (none-some next q)
  tried_step line is catching staged q = absurd (none-some next q)

pub entered_adds : (old new : Building) (h : Head) → Enters (Block h) old new → Adds (opens (head_view h)) old new
entered_adds old new h goes context next built q = (opened_so_far old new (Block h) goes, entered_step old new context next built (Block h) goes h refl context.stage built.staged q)

pub tried_adds : (old new : Building) (line : ℕ) → Enters (Tried line) old new → Adds (tries line) old new
tried_adds old new line goes context next built q = (opened_so_far old new (Tried line) goes, tried_step old new context next built (Tried line) goes line refl context.stage built.staged q)

-- ---- a block that ends

-- its head and declarations are those that were kept of it
head_kept : (h : Head) (level : Level) (more : List Item) → Suits (inside_head h) level
    → opens (bare (full_head h level.decls.items)) ∷ (declared (full_head h level.decls.items) ++ more) ≡ opens (head_view h) ∷ (map declares level.decls.items ++ (begun_items level.begun ++ more))
head_kept (head.Loop line name elements backward object) level more h = rw (h.0, h.1) refl
head_kept (head.View line kind object at name) level more h = rw (h.0, h.1) refl
head_kept (head.Stable line object) level more h = rw (h.0, h.1) refl
head_kept (head.Declare line) level more h = rw h.0 (ap (λ is. opens (declare_at line []) ∷ is) (append_assoc (map declares level.decls.items) (begins ∷ []) more))
head_kept (head.Tasks line) level more h = rw (h.0, h.1) refl
head_kept (head.Task line name) level more h = rw h.0 (ap (λ is. opens (task_at line name []) ∷ is) (append_assoc (map declares level.decls.items) (begins ∷ []) more))

ending_kept : (h : Head) (decls : List Decl) → ending (full_head h decls) ≡ ending (head_view h)
ending_kept (head.Loop line name elements backward object) decls = refl
ending_kept (head.View line kind object at name) decls = refl
ending_kept (head.Stable line object) decls = refl
ending_kept (head.Declare line) decls = refl
ending_kept (head.Tasks line) decls = refl
ending_kept (head.Task line name) decls = refl

statements_alone : (stmts : List Stmt) (tasks : List TaskText) → tasks ≡ [] → body_of stmts tasks ≡ code_of stmts
statements_alone stmts tasks none = rw none refl

tasks_alone : (stmts : List Stmt) (tasks : List TaskText) → stmts ≡ [] → body_of stmts tasks ≡ tasks_of tasks
tasks_alone stmts [] none = rw none refl
tasks_alone stmts (t ∷ tasks) none = refl

-- and its body is what was built inside it
body_kept : (h : Head) (level : Level) → Suits (inside_head h) level → level_code level ≡ body_by h (code_of level.stmts.items) (tasks_of level.tasks.items)
body_kept (head.Loop _ _ _ _ _) level h = statements_alone level.stmts.items level.tasks.items h.2
body_kept (head.View _ _ _ _ _) level h = statements_alone level.stmts.items level.tasks.items h.2
body_kept (head.Stable _ _) level h = statements_alone level.stmts.items level.tasks.items h.2
body_kept (head.Declare _) level h = statements_alone level.stmts.items level.tasks.items h.1
body_kept (head.Tasks _) level h = tasks_alone level.stmts.items level.tasks.items h.2
body_kept (head.Task _ _) level h = statements_alone level.stmts.items level.tasks.items h.1

-- behind a task its block goes on
abbrev stage_by : Content → Stage
stage_by of_statements = running
stage_by of_tasks = tasked
stage_by of_nothing = catching

behind_kept : (h : Head) → stage_behind (ending (head_view h)) ≡ stage_by (content_in h)
behind_kept (head.Loop _ _ _ _ _) = refl
behind_kept (head.View _ _ _ _ _) = refl
behind_kept (head.Stable _ _) = refl
behind_kept (head.Declare _) = refl
behind_kept (head.Tasks _) = refl
behind_kept (head.Task _ _) = refl

among_staged : (own : Content) (pragma : Option ℕ) (around : List Enclosing) (level : Level) → IsAmong own around level → IsStaged (stage_by own) pragma around level
among_staged of_statements pragma around level h = h
among_staged of_tasks pragma around level h = h
among_staged of_nothing pragma around level h = h

-- a level that takes what has ended

taken : (x : Ended) (i : Inside) (old new : Level) (c : Code) → Takes x old new → content i ≡ ended_content x → Suits i old → ended_before x stop ≡ c → level_items new ≡ level_items old ++ items c
taken (ended.Statement s) i old new c t g h e =
    level_more old new c t.0 t.1
    (ap (λ stmts. items (body_of stmts new.tasks.items)) t.3 ∙ ap (λ (v : Vec TaskText Global). items (body_of (old.stmts.items ++ s ∷ []) v.items)) t.2
    ∙ stmt_more old.stmts.items old.tasks.items s c (taskless i old g h) e)
taken (ended.OfBlock s) i old new c t g h e =
    level_more old new c t.0 t.1
    (ap (λ tasks. items (body_of new.stmts.items tasks)) t.3 ∙ ap (λ (v : Vec Stmt Global). items (body_of v.items (old.tasks.items ++ s ∷ []))) t.2
    ∙ task_more old.stmts.items old.tasks.items s c (stmtless i old g h) e)

taken_suits : (x : Ended) (i : Inside) (old new : Level) → Takes x old new → content i ≡ ended_content x → Suits i old → Suits i new
taken_suits (ended.Statement s) i old new t g h = suits_stmts i old new g t.0 t.1 t.2 h
taken_suits (ended.OfBlock s) i old new t g h = suits_tasks i old new g t.0 t.1 t.2 h

-- what is left of a building where it goes out of the innermost level
abbrev outside : (old : Building) (e : Enclosing) (outer : Vec Enclosing Global) → Building
outside old e outer = record { pragma = old.pragma; around = outer; level = e.level }

module _ (old : Building) (e : Enclosing) (outer : Vec Enclosing Global) (popped : old.around.items ≡ outer.items ++ e ∷ []) where
  turned_out : reverse old.around.items ≡ e ∷ reverse outer.items
  turned_out = ap reverse popped ∙ turned_more outer.items e

  -- its items are what stands outside, what was opened, and what stands in that
  split_items : items_so_far old ≡ items_so_far (outside old e outer) ++ (opened_items e.opening ++ level_items old.level)
  split_items =
      let flat = flat_map enclosing_items outer.items in
      let inner : flat_map enclosing_items old.around.items ++ level_items old.level ≡ (flat ++ level_items e.level) ++ (opened_items e.opening ++ level_items old.level)
      = ap (λ around. flat_map enclosing_items around ++ level_items old.level) popped
      ∙ ap (λ is. is ++ level_items old.level) (flat_map-append enclosing_items outer.items (e ∷ []) ∙ ap (λ is. flat ++ is) (append-nil (enclosing_items e)) ∙ sym (append_assoc flat (level_items e.level) (opened_items e.opening)))
      ∙ append_assoc (flat ++ level_items e.level) (opened_items e.opening) (level_items old.level) in
      ap (λ is. pragma_items old.pragma ++ is) inner
      ∙ sym (append_assoc (pragma_items old.pragma) (flat ++ level_items e.level) (opened_items e.opening ++ level_items old.level))

  -- where these are the same with an item more
  more_items : (new : Building) (more : List Item) (i : Item) → items_so_far new ≡ items_so_far (outside old e outer) ++ more → more ≡ (opened_items e.opening ++ level_items old.level) ++ i ∷ []
      → items_so_far new ≡ items_so_far old ++ i ∷ []
  more_items new more i is same =
      is ∙ ap (λ list. items_so_far (outside old e outer) ++ list) same
      ∙ sym (append_assoc (items_so_far (outside old e outer)) (opened_items e.opening ++ level_items old.level) (i ∷ []))
      ∙ ap (λ list. list ++ i ∷ []) (sym split_items)

  nested : (own : Content) → IsAmong own (reverse old.around.items) old.level → Nests (e ∷ reverse outer.items) old.level
  nested own h = subst (λ around. Nests around old.level) turned_out h.1

  own_content : (own : Content) → IsAmong own (reverse old.around.items) old.level → content (inside_of e.opening) ≡ own
  own_content own h = ap (λ around. content (innermost around)) (sym turned_out) ∙ h.0

  outer_blocks : (context : Context) → IsBuilding old context → context.blocks ≡ opened_ends e.opening ++ endings (reverse outer.items)
  outer_blocks context built = built.blocks ∙ ap endings turned_out

-- a block that has ended is taken by the level around it
module _ (old new : Building) (e : Enclosing) (x : Ended) (popped : old.around.items ≡ new.around.items ++ e ∷ []) (pragma : new.pragma ≡ old.pragma) (takes : Takes x e.level new.level)
    (sort : ended_content x ≡ stands_in e.opening) (context next : Context) (l own : Closing) where
  ended_items : Nests (e ∷ reverse new.around.items) old.level → (c : Code) → ended_before x stop ≡ c → items c ≡ (opened_items e.opening ++ level_items old.level) ++ closes l ∷ [] → items_so_far new ≡ items_so_far old ++ closes l ∷ []
  ended_items nests c is all =
      let flat = flat_map enclosing_items new.around.items in
      let outer = reverse new.around.items in
      let level : level_items new.level ≡ level_items e.level ++ items c = taken x (innermost outer) e.level new.level c takes (nests.1 ∙ sym sort) (suits outer e.level nests.2) is in
      more_items old e new.around popped new (items c) (closes l)
      (ap (λ p. pragma_items p ++ (flat ++ level_items new.level)) pragma ∙ ap (λ is. pragma_items old.pragma ++ (flat ++ is)) level
      ∙ ap (λ is. pragma_items old.pragma ++ is) (sym (append_assoc flat (level_items e.level) (items c)))
      ∙ sym (append_assoc (pragma_items old.pragma) (flat ++ level_items e.level) (items c)))
      all

  ended_among : Nests (e ∷ reverse new.around.items) old.level → IsAmong (stands_in e.opening) (reverse new.around.items) new.level
  ended_among nests =
      let outer = reverse new.around.items in
      (nests.1, nests_so outer e.level new.level (taken_suits x (innermost outer) e.level new.level takes (nests.1 ∙ sym sort)) nests.2)

  -- where only its own words may end it
  ended_inside : Nests (e ∷ reverse new.around.items) old.level → opened_ends e.opening ≡ own ∷ [] → stage_behind own ≡ stage_by (stands_in e.opening)
      → left_behind context.propagating l (own ∷ endings (reverse new.around.items)) ≡ Some next → (l ≡ own) × IsBuilding new next
  ended_inside nests single behind q =
      let outer = reverse new.around.items in
      let left = left_from context.propagating l (own ∷ endings outer) next q in
      let same : l ≡ own = cc left.1 in
      let rest : endings outer ≡ left.0 = cc left.1 in
      let stage : stage_behind l ≡ stage_by (stands_in e.opening) = ap stage_behind same ∙ behind in (
        same,
        subst (λ (c : Context). IsBuilding new c) left.2 (record {
          blocks = sym rest;
          staged = subst (λ stage. IsStaged stage new.pragma outer new.level) (sym stage) (among_staged (stands_in e.opening) new.pragma outer new.level (ended_among nests));
        }),
      )

-- the words that end something may come among statements or tasks alone
closes_among : (old : Building) (context next : Context) (l : Closing) (e : Enclosing) (outer : List Enclosing) → reverse old.around.items ≡ e ∷ outer
    → (stage : Stage) → IsStaged stage old.pragma (reverse old.around.items) old.level → next_after context.propagating context.blocks stage (closes l) ≡ Some next
    → (own : Content) × IsAmong own (reverse old.around.items) old.level × (left_behind context.propagating l context.blocks ≡ Some next) × ((own ≡ of_nothing) → ⊥)
closes_among old context next l e outer some fronting staged q = let none : e ∷ outer ≡ [] = sym some ∙ staged.0 in absurd (cc none)
closes_among old context next l e outer some listing staged q = let none : e ∷ outer ≡ [] = sym some ∙ staged.0 in absurd (cc none)
closes_among old context next l e outer some heading staged q = absurd (none-some next q)
closes_among old context next l e outer some running staged q = (of_statements, staged, q, λ n. absurd (cc n))
closes_among old context next l e outer some tasking staged q = absurd (none-some next q)
closes_among old context next l e outer some tasked staged q = (of_tasks, staged, q, λ n. absurd (cc n))
closes_among old context next l e outer some preparing staged q = absurd (none-some next q)
closes_among old context next l e outer some stepping staged q = (of_statements, staged, q, λ n. absurd (cc n))
closes_among old context next l e outer some catching staged q = absurd (none-some next q)

-- ---- a block with a head

module _ (old : Building) (h : Head) (l : Closing) where
  head_items : Suits (inside_head h) old.level → l ≡ ending (head_view h)
      → items (block (full_head h old.level.decls.items) (level_code old.level) stop) ≡ (opens (head_view h) ∷ level_items old.level) ++ closes l ∷ []
  head_items own same =
      let body = items (level_code old.level) in
      head_kept h old.level (body ++ closes (ending (full_head h old.level.decls.items)) ∷ []) own
      ∙ ap (λ b. opens (head_view h) ∷ (map declares old.level.decls.items ++ (begun_items old.level.begun ++ (body ++ closes b ∷ [])))) (ending_kept h old.level.decls.items ∙ sym same)
      ∙ ap (λ is. opens (head_view h) ∷ (map declares old.level.decls.items ++ is)) (sym (append_assoc (begun_items old.level.begun) body (closes l ∷ [])))
      ∙ ap (λ is. opens (head_view h) ∷ is) (sym (append_assoc (map declares old.level.decls.items) (begun_items old.level.begun ++ body) (closes l ∷ [])))

pub left_adds : (old new : Building) (level : Level) (h : Head) (x : Ended) (l : Closing) → old.around.items ≡ new.around.items ++ record { level = level; opening = Block h } ∷ [] → new.pragma ≡ old.pragma → Takes x level new.level
    → ended_before x stop ≡ block (full_head h old.level.decls.items) (body_by h (code_of old.level.stmts.items) (tasks_of old.level.tasks.items)) stop → ended_content x ≡ content_in h → Adds (closes l) old new
left_adds old new level h x l popped pragma takes is sort context next built q =
    let e : Enclosing = record { level = level; opening = Block h } in
    let among = closes_among old context next l e (reverse new.around.items) (turned_out old e new.around popped) context.stage built.staged q in
    let nests = nested old e new.around popped among.0 among.1 in
    let kept : ended_before x stop ≡ block (full_head h old.level.decls.items) (level_code old.level) stop =
    is ∙ ap (λ body. block (full_head h old.level.decls.items) body stop) (sym (body_kept h old.level nests.0)) in
    let left = ended_inside old new e x popped pragma takes sort context next l (ending (head_view h)) nests refl (behind_kept h)
    (ap (left_behind context.propagating l) (sym (outer_blocks old e new.around popped context built)) ∙ among.2) in
    (ended_items old new e x popped pragma takes sort context next l (ending (head_view h)) nests (block (full_head h old.level.decls.items) (level_code old.level) stop) kept (head_items old h l nests.0 left.0), left.1)

-- ---- what is tried

bare_code : (level : Level) → Suits bare_block level → level_items level ≡ items (code_of level.stmts.items)
bare_code level h = rw (h.0, h.1, h.2) refl

-- a level inside what is opened in place of what was there
module _ (old new : Building) (e : Enclosing) (outer : Vec Enclosing Global) (popped : old.around.items ≡ outer.items ++ e ∷ []) (o : Opening) (goes : Enters o (outside old e outer) new)
    (context next : Context) where
  turned_again : reverse new.around.items ≡ record { level = e.level; opening = o } ∷ reverse outer.items
  turned_again = turned_in (outside old e outer) new o goes

  again_items : (i : Item) → opened_items o ≡ (opened_items e.opening ++ level_items old.level) ++ i ∷ [] → items_so_far new ≡ items_so_far old ++ i ∷ []
  again_items i is = more_items old e outer popped new (opened_items o) i (opened_so_far (outside old e outer) new o goes) is

  again : (stage : Stage) → (own : Content) → ((pragma : Option ℕ) (around : List Enclosing) (level : Level) → IsAmong own around level → IsStaged stage pragma around level) → content (inside_of o) ≡ own → Suits (inside_of o) new.level
      → stands_in o ≡ stands_in e.opening → Nests (e ∷ reverse outer.items) old.level → reach context.propagating (opened_ends o ++ endings (reverse outer.items)) stage ≡ Some next → IsBuilding new next
  again stage own same g suits stands nests q =
      let is : record { propagating = context.propagating; blocks = opened_ends o ++ endings (reverse outer.items); stage = stage } ≡ next = cc q in
      let among : IsAmong own (record { level = e.level; opening = o } ∷ reverse outer.items) new.level = (g, (suits, nests.1 ∙ sym stands, nests.2)) in
      subst (λ (c : Context). IsBuilding new c) is (record {
        blocks = ap endings (sym turned_again);
        staged = same new.pragma (reverse new.around.items) new.level (subst (λ around. IsAmong own around new.level) (sym turned_again) among);
      })

pub tried_ends : (old new : Building) (level : Level) (outer : Vec Enclosing Global) (line : ℕ) (l : Closing) → old.around.items ≡ outer.items ++ record { level = level; opening = Tried line } ∷ []
    → Enters (Awaiting line (code_of old.level.stmts.items)) (record { pragma = old.pragma; around = outer; level = level }) new → Adds (closes l) old new
tried_ends old new level outer line l popped goes context next built q =
    let e : Enclosing = record { level = level; opening = Tried line } in
    let tried = code_of old.level.stmts.items in
    let o = Awaiting line tried in
    let among = closes_among old context next l e (reverse outer.items) (turned_out old e outer popped) context.stage built.staged q in
    let nests = nested old e outer popped among.0 among.1 in
    let left = left_from context.propagating l (EndTried ∷ EndHandlers ∷ endings (reverse outer.items)) next
    (ap (left_behind context.propagating l) (sym (outer_blocks old e outer popped context built)) ∙ among.2) in
    let same : l ≡ EndTried = cc left.1 in
    let rest : left.0 ≡ EndHandlers ∷ endings (reverse outer.items) = cc left.1 in
    let reaches : reach context.propagating (EndHandlers ∷ endings (reverse outer.items)) catching ≡ Some next
    = ap (λ bs. reach context.propagating bs catching) (sym rest) ∙ ap (λ s. reach context.propagating left.0 s) (ap stage_behind (sym same)) ∙ ap Some left.2 in
    let all : opened_items o ≡ (tries line ∷ level_items old.level) ++ closes l ∷ []
    = ap (λ l. tries line ∷ (items tried ++ closes l ∷ [])) (sym same) ∙ ap (λ is. tries line ∷ (is ++ closes l ∷ [])) (sym (bare_code old.level nests.0)) in (
      again_items old new e outer popped o goes context next (closes l) all,
      again old new e outer popped o goes context next catching of_nothing (λ pragma around level h. h) refl goes.empty refl nests reaches,
    )

-- ---- handlers

handlers_more : (before : List Handler) (own : Handler) → handler_items (handlers_of (before ++ own ∷ [])) ≡ handler_items (handlers_of before) ++ catches own.line own.catches ∷ items own.body
handlers_more [] own = ap (λ is. catches own.line own.catches ∷ is) (append-nil (items own.body))
handlers_more (x ∷ before) own =
    ap (λ is. catches x.line x.catches ∷ (items x.body ++ is)) (handlers_more before own)
    ∙ ap (λ is. catches x.line x.catches ∷ is) (sym (append_assoc (items x.body) (handler_items (handlers_of before)) (catches own.line own.catches ∷ items own.body)))

-- the last one tells how the block ends
end_last : (first : Option Exception) (before : List Handler) (own : Handler) → end_behind first (handlers_of (before ++ own ∷ [])) ≡ handler_end own.catches
end_last first [] own = refl
end_last first (x ∷ before) own = end_last x.catches before own

handlers_end_last : (before : List Handler) (own : Handler) → handlers_end (handlers_of (before ++ own ∷ [])) ≡ handler_end own.catches
handlers_end_last [] own = refl
handlers_end_last (x ∷ before) own = end_last x.catches before own

handler_behind : (catches : Option Exception) → stage_behind (handler_end catches) ≡ running
handler_behind None = refl
handler_behind (Some _) = refl

-- the open handler with these statements, behind what stands before it
open_items : (line : ℕ) (tried : Code) (last : Catching) (stmts : List Stmt) (more : List Item)
    → tries line ∷ (items tried ++ (closes EndTried ∷ (handler_items (handlers_of (all_handlers last stmts)) ++ more))) ≡ (opened_items (Handling line tried last) ++ items (code_of stmts)) ++ more
open_items line tried last stmts more =
    let before = handler_items (handlers_of last.before.items) in
    let head = catches last.line last.catches in
    let body = items (code_of stmts) in
    ap (λ is. tries line ∷ (items tried ++ (closes EndTried ∷ (is ++ more)))) (handlers_more last.before.items (own_handler last stmts))
    ∙ ap (λ is. tries line ∷ (items tried ++ (closes EndTried ∷ is))) (ap (λ is. is ++ more) (sym (append_assoc before (head ∷ []) body)) ∙ append_assoc (before ++ head ∷ []) body more)
    ∙ ap (λ is. tries line ∷ is) (sym (append_assoc (items tried) (closes EndTried ∷ (before ++ head ∷ [])) (body ++ more)))
    ∙ sym (append_assoc (opened_items (Handling line tried last)) body more)

pub handled_adds : (old new : Building) (level : Level) (line : ℕ) (tried : Code) (last : Catching) (x : Ended) (l : Closing)
    → old.around.items ≡ new.around.items ++ record { level = level; opening = Handling line tried last } ∷ [] → new.pragma ≡ old.pragma → Takes x level new.level
    → x ≡ ended.Statement (Handled line tried (handlers_of (all_handlers last old.level.stmts.items))) → Adds (closes l) old new
handled_adds old new level line tried last x l popped pragma takes is context next built q =
    let e : Enclosing = record { level = level; opening = Handling line tried last } in
    let stmts = old.level.stmts.items in
    let all = all_handlers last stmts in
    let own = handler_end last.catches in
    let among = closes_among old context next l e (reverse new.around.items) (turned_out old e new.around popped) context.stage built.staged q in
    let nests = nested old e new.around popped among.0 among.1 in
    let sort : ended_content x ≡ of_statements = ap ended_content is in
    let left = ended_inside old new e x popped pragma takes sort context next l own nests refl (handler_behind last.catches)
    (ap (left_behind context.propagating l) (sym (outer_blocks old e new.around popped context built)) ∙ among.2) in
    let ends : handlers_end (handlers_of all) ≡ l = handlers_end_last last.before.items (own_handler last stmts) ∙ sym left.0 in
    let code = handled line tried (handlers_of all) stop in
    let whole : items code ≡ (opened_items e.opening ++ level_items old.level) ++ closes l ∷ []
    = ap (λ l. tries line ∷ (items tried ++ (closes EndTried ∷ (handler_items (handlers_of all) ++ closes l ∷ [])))) ends
    ∙ open_items line tried last stmts (closes l ∷ [])
    ∙ ap (λ is. (opened_items e.opening ++ is) ++ closes l ∷ []) (sym (bare_code old.level nests.0)) in
    (ended_items old new e x popped pragma takes sort context next l own nests code (ap (λ x. ended_before x stop) is) whole, left.1)

-- a handler may come where one may be caught
catches_among : (old : Building) (context next : Context) (line : ℕ) (exception : Option Exception)
    → (stage : Stage) → IsStaged stage old.pragma (reverse old.around.items) old.level → next_after context.propagating context.blocks stage (catches line exception) ≡ Some next
    → (own : Content) × IsAmong own (reverse old.around.items) old.level × (caught context.propagating exception context.blocks ≡ Some next)
catches_among old context next line exception fronting staged q = absurd (none-some next q)
catches_among old context next line exception listing staged q = absurd (none-some next q)
catches_among old context next line exception heading staged q = absurd (none-some next q)
catches_among old context next line exception running staged q = (of_statements, staged, q)
catches_among old context next line exception tasking staged q = absurd (none-some next q)
catches_among old context next line exception tasked staged q = absurd (none-some next q)
catches_among old context next line exception preparing staged q = absurd (none-some next q)
catches_among old context next line exception stepping staged q = absurd (none-some next q)
catches_among old context next line exception catching staged q = (of_nothing, staged, q)

-- the first handler
pub first_catches : (old new : Building) (level : Level) (outer : Vec Enclosing Global) (own : ℕ) (tried : Code) (last : Catching) (line : ℕ) (exception : Option Exception)
    → old.around.items ≡ outer.items ++ record { level = level; opening = Awaiting own tried } ∷ [] → last.before.items ≡ [] → last.line ≡ line → last.catches ≡ exception
    → Enters (Handling own tried last) (record { pragma = old.pragma; around = outer; level = level }) new → Adds (catches line exception) old new
first_catches old new level outer own tried last line exception popped none at takes goes context next built q =
    let e : Enclosing = record { level = level; opening = Awaiting own tried } in
    let o = Handling own tried last in
    let among = catches_among old context next line exception context.stage built.staged q in
    let nests = nested old e outer popped among.0 among.1 in
    let empty : IsEmpty old.level = nests.0 in
    let caught_now = ap (caught context.propagating exception) (sym (outer_blocks old e outer popped context built)) ∙ among.2 in
    let reaches : reach context.propagating (handler_end last.catches ∷ endings (reverse outer.items)) running ≡ Some next
    = ap (λ c. reach context.propagating (handler_end c ∷ endings (reverse outer.items)) running) takes ∙ caught_now in
    let nothing : level_items old.level ≡ [] = rw (empty.0, empty.1, empty.2, empty.3) refl in
    let all : opened_items o ≡ (opened_items e.opening ++ level_items old.level) ++ catches line exception ∷ []
    = rw (none, at, takes, nothing) (ap (λ is. tries own ∷ is) (sym (append_assoc (items tried) (closes EndTried ∷ []) (catches line exception ∷ [])))
    ∙ ap (λ is. tries own ∷ (is ++ catches line exception ∷ [])) (sym (append-nil (items tried ++ closes EndTried ∷ [])))) in (
      again_items old new e outer popped o goes context next (catches line exception) all,
      again old new e outer popped o goes context next running of_statements (λ pragma around level h. h) refl (goes.empty.0, goes.empty.1, goes.empty.3) refl nests reaches,
    )

caught_behind : (own : Option Exception) (propagating : Bool) (exception : Option Exception) (blocks : List Closing) (next : Context) → caught propagating exception (handler_end own ∷ blocks) ≡ Some next
    → reach propagating (handler_end exception ∷ blocks) running ≡ Some next
caught_behind None propagating exception blocks next e = absurd (none-some next e)
caught_behind (Some _) propagating exception blocks next e = e

-- the handler behind another one
pub next_catches : (old new : Building) (level : Level) (outer : Vec Enclosing Global) (own : ℕ) (tried : Code) (last more : Catching) (line : ℕ) (exception : Option Exception)
    → old.around.items ≡ outer.items ++ record { level = level; opening = Handling own tried last } ∷ [] → more.before.items ≡ all_handlers last old.level.stmts.items → more.line ≡ line → more.catches ≡ exception
    → Enters (Handling own tried more) (record { pragma = old.pragma; around = outer; level = level }) new → Adds (catches line exception) old new
next_catches old new level outer own tried last more line exception popped before at takes goes context next built q =
    let e : Enclosing = record { level = level; opening = Handling own tried last } in
    let o = Handling own tried more in
    let stmts = old.level.stmts.items in
    let among = catches_among old context next line exception context.stage built.staged q in
    let nests = nested old e outer popped among.0 among.1 in
    let caught_now = ap (caught context.propagating exception) (sym (outer_blocks old e outer popped context built)) ∙ among.2 in
    let reaches : reach context.propagating (handler_end more.catches ∷ endings (reverse outer.items)) running ≡ Some next
    = ap (λ c. reach context.propagating (handler_end c ∷ endings (reverse outer.items)) running) takes ∙ caught_behind last.catches context.propagating exception (endings (reverse outer.items)) next caught_now in
    let all : opened_items o ≡ (opened_items e.opening ++ level_items old.level) ++ catches line exception ∷ []
    = ap (λ hs. tries own ∷ (items tried ++ closes EndTried ∷ (handler_items (handlers_of hs) ++ catches more.line more.catches ∷ []))) before
    ∙ (λ i. tries own ∷ (items tried ++ closes EndTried ∷ (handler_items (handlers_of (all_handlers last stmts)) ++ catches (at i) (takes i) ∷ [])))
    ∙ open_items own tried last stmts (catches line exception ∷ [])
    ∙ ap (λ is. (opened_items e.opening ++ is) ++ catches line exception ∷ []) (sym (bare_code old.level nests.0)) in (
      again_items old new e outer popped o goes context next (catches line exception) all,
      again old new e outer popped o goes context next running of_statements (λ pragma around level h. h) refl (goes.empty.0, goes.empty.1, goes.empty.3) refl nests reaches,
    )

-- the item that comes next, with what the others lead to
pub goes_on : (context last : Context) (item : Item) (others : List Item) → context_after context (item ∷ others) ≡ Some last
    → (next : Context) × (next_after context.propagating context.blocks context.stage item ≡ Some next) × (context_after next others ≡ Some last)
goes_on context last item others e = by (next_after context.propagating context.blocks context.stage item) refl e
  where
    by : (o : Option Context) → next_after context.propagating context.blocks context.stage item ≡ o → option_and_then (λ next. context_after next others) o ≡ Some last
        → (next : Context) × (next_after context.propagating context.blocks context.stage item ≡ Some next) × (context_after next others ≡ Some last)
    by None is q = absurd (none-some last q)
    by (Some next) is q = (next, is, q)

-- a building at a script's end has no open block
pub closed : (b : Building) (context : Context) → IsBuilding b context → IsEnd context → (b.around.items ≡ []) × (b.level.begun ≡ false) × (b.level.tasks.items ≡ [])
closed b context built end =
    let none_open : endings (reverse b.around.items) ≡ [] = sym built.blocks ∙ end.closed in
    let none = none_around (reverse b.around.items) none_open in
    let last = at_last context.stage end.begun (subst (λ around. IsStaged context.stage b.pragma around b.level) none built.staged) in
    (sym (reverse-reverse b.around.items) ∙ ap reverse none, last.0, last.1)
  where
    some_end : (o : Opening) (around : List Enclosing) → opened_ends o ++ endings around ≡ [] → ⊥
    some_end (Block _) around q = absurd (cc q)
    some_end (Tried _) around q = absurd (cc q)
    some_end (Awaiting _ _) around q = absurd (cc q)
    some_end (Handling _ _ _) around q = absurd (cc q)

    none_around : (around : List Enclosing) → endings around ≡ [] → around ≡ []
    none_around [] e = refl
    none_around (e ∷ around) q = absurd (some_end e.opening around q)

    at_last : (stage : Stage) → is_heading stage ≡ false → IsStaged stage b.pragma [] b.level → (b.level.begun ≡ false) × (b.level.tasks.items ≡ [])
    at_last fronting q staged = (staged.1.1, staged.1.3)
    at_last listing q staged = (staged.2, staged.3)
    at_last heading q staged = absurd (true≢false q)
    at_last running q staged = staged.1
    at_last tasking q staged = absurd (cc staged.0)
    at_last tasked q staged = absurd (cc staged.0)
    at_last preparing q staged = absurd (true≢false q)
    at_last stepping q staged = staged.1
    at_last catching q staged = absurd (true≢false q)

-- and so has one behind all items of a script
pub all_closed : (b : Building) (context last : Context) (left : List Item) → left ≡ [] → IsBuilding b context → context_after context left ≡ Some last → IsEnd last → b.around.items ≡ []
all_closed b context last left none built leads end =
    let same : Some context ≡ Some last = ap (context_after context) (sym none) ∙ leads in
    (closed b context built (subst IsEnd (sym (cc same)) end)).0
