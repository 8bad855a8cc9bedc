-- Statements that keep the rules leave each variable a value of its type, and each element that a name stands for is there.
use Rattle.std.proofs.Common.{◌≡◌, ◌++◌, ℕ, Bool, true, false, List, [], ◌∷◌, map, length, nat_lt, refl, sym, ap, subst, ◌∙◌, option_map, Option, Some, None, if◌then◌else◌}
use Rattle.ac_base.specs.Limits.{numbers_end}
use Rattle.ac_base.specs.declared.reason.Exception.{Exception}
use Rattle.ac_base.specs.declared.reason.Reason.{Reason}
use Rattle.ac_base.specs.declared.value.Value.{Value}
use Rattle.ac_history.specs.Blocks.{present}
use Rattle.ac_history.specs.Orders.{run_of}
use Rattle.ac_model.specs.Letters.{Mark, no_mark, mark_at as mark_of_name}
use Rattle.ac_model.specs.Queues.{TaskQueue}
use Rattle.ac_syntax.specs.Code.{Simple, Head, loop_at, view_at, stable_at, declare_at, tasks_at, task_at, Code, stop, one, block, handled, HandlerCode, no_handler, handler}
use Rattle.ac_syntax.specs.Canonical.{propagates_in}
use Rattle.ac_syntax.specs.Nesting.{AreStatements, AreHandlers}
use Rattle.ac_syntax.specs.declared.script.Script.{Script}
use Rattle.ac_syntax.specs.declared.view_kind.ViewKind.{ViewKind}
use Rattle.ac_syntax.specs.declared.view_kind.ViewKind.TheVariants.{Query, Update, Reference, UpdateKey}
use Rattle.ac_rules.specs.Faults.{IsChecked}
use Rattle.ac_rules.specs.Kept.{CommandKept, HeadKept, KeepsRules, HandlersKept}
use Rattle.ac_rules.specs.Resolved.{loops_at, views_at, stables_at, place_of, ResolvedCode, resolve, resolve_simple, resolve_decls}
use Rattle.ac_rules.specs.declared.resolved.ResolvedDecl.{ResolvedDecl}
use Rattle.ac_rules.specs.declared.resolved.ResolvedDecl.TheVariants as decl
use Rattle.ac_rules.specs.Scopes.{Scope, behind_words, inside, behind_block, with_decls, with_named}
use Rattle.ac_rules.proofs.Kept.{rules_kept}
use Rattle.ac_calls.specs.Holdings.{Held, of_rows, of_holder, of_queue, Guards, names_of, number_of, new_held, element_value, key_updated}
use Rattle.ac_meaning.specs.Environment.{Bound, binds_type, binds_object, binds_cursor, binds_element, binds_value, State, first_state, under, bound_at, with_bound, object_at, guarded_at, mark_at, value_at, value_or_zero, with_name, leaving, Declared, unless_spent, after_decl, after_decls}
use Rattle.ac_meaning.specs.Commands.{performed}
use Rattle.ac_meaning.specs.Execution.{End, Outcome, outcome as come_to, Orders, passed_on, unless_raised, followed, run_by, gathered, scoped, commanded, guards_of_loop, guards_of_stable, guards_of_view, in_order, turn_bound, head_reason, key_end, key_end_on, turns_behind, key_body, viewed, view_on, on_object, after_declared, takes_any, exec_behind, handle, run_with, no_orders}
use Rattle.ac_meaning.specs.GuardedNames.{kept}
use Rattle.ac_meaning.specs.HoldsTypes.{HoldsTypes}
use Rattle.ac_meaning.specs.TaskBlocks.{queue_places, block_of, block_fits, queue_left, queues_left}
use Rattle.ac_meaning.specs.ValueTypes.{ObjectsSound, HoldsValues, ValuesGoOn}
use Rattle.ac_meaning.proofs.CommandKinds.{Goes, goes_same, goes_then}
use Rattle.ac_meaning.proofs.CommandsKeepTypes.{command_goes}
use Rattle.ac_meaning.proofs.Ends.{none_runs_behind}
use Rattle.ac_meaning.proofs.ExecHolds.{blocked, exec_sorts}
use Rattle.ac_meaning.proofs.ExecKeeps.{Extends, KeepsAll, decls_extend, exec_keeps}
use Rattle.ac_meaning.proofs.Frames.{frame_stays, kept_weaker, kept_back}
use Rattle.ac_meaning.proofs.GuardedPlaces.{guarded_is_there}
use Rattle.ac_meaning.proofs.HoldsOn.{sorts, holds_on, sorts_back}
use Rattle.ac_meaning.proofs.SoundTrees.{key_sound, new_sound}
use Rattle.ac_meaning.proofs.StandingElements.{elements_on, elements_under}
use Rattle.ac_meaning.proofs.UpdatesAlone.{found_frame}
use Rattle.ac_meaning.proofs.ValueHeads.{values_declared, values_under, IsLooped, IsNamedIn, EachNamed, each_in_order, turn_values, view_values, copy_values}
use Rattle.ac_meaning.proofs.ValueLists.{kind_in, kind_stays, variables_on, kinds-under, kinds-at_rest, object_kind, kinds-with_object, kinds_back, sound_at, sound-with_bound, sound_more, sound-leaving, sound-under, sound-at_rest}

-- What goes on by its parts
pub values_on : (scope : Scope) (guards : Guards) (e now : State) → HoldsValues scope guards e → Goes e now → sorts now ≡ sorts e →
    kept guards now ≡ kept guards e → HoldsValues scope guards now
values_on scope guards e now holds g sorted same = record {
  types = holds_on scope e now sorted holds.types;
  variables = variables_on scope e now g.same holds.variables;
  elements = elements_on guards e now same holds.elements;
  sound = g.sound;
}

-- what runs where the values are of their types
abbrev KeepsValues : Scope → (Guards → State → Outcome) → Type 0
KeepsValues scope body = (guards : Guards) (e : State) → HoldsValues scope guards e → Goes e (body guards e).after

abbrev KeepsSorts : Scope → (Guards → State → Outcome) → Type 0
KeepsSorts scope body = (guards : Guards) (e : State) → HoldsTypes scope e → sorts (body guards e).after ≡ sorts e

-- behind a name more, which then goes
record Left (held : Guards) (e left : State) : Type 0 where
  goes : Goes e left
  sort : sorts left ≡ sorts e
  stays : kept held left ≡ kept held e

module _ (body : Guards → State → Outcome) (scope inner : Scope) (keeps : KeepsAll body) (sorted : KeepsSorts inner body) (values : KeepsValues inner body)
    (guards : Guards) where
  scoped_left : (more : Guards) (e : State) (b : Bound) → HoldsValues inner (more ++ guards) (with_name e b) →
      Left (more ++ guards) e (scoped e (body (more ++ guards)) (with_name e b)).after
  scoped_left more e b h =
      let start = with_name e b in
      let now = (body (more ++ guards) start).after in
      let g = values (more ++ guards) start h in
      record {
        goes = record { same = kinds_back e now (b ∷ []) g.same; sound = sound-leaving (length e.bounds) now g.sound };
        sort = sorts_back e now (b ∷ []) (sorted (more ++ guards) start h.types);
        stays = kept_back (more ++ guards) e now (b ∷ []) (keeps (more ++ guards) start);
      }

  left_values : (more : Guards) (e left : State) → HoldsValues scope guards e → Left (more ++ guards) e left → HoldsValues scope guards left
  left_values more e left holds l = values_on scope guards e left holds l.goes l.sort (kept_weaker more guards e left l.stays)

  turns_go : (elements : Bool) (object : ℕ) (h : Held) (names : List ℕ) (end : End) (e : State) → HoldsValues scope guards e →
      IsLooped elements h guards (bound_at e object) → EachNamed (names_of h) names →
      ((now : State) (name : ℕ) → HoldsValues scope guards now →
      IsLooped elements h guards (bound_at now object) → IsNamedIn (names_of h) name →
      HoldsValues inner (guards_of_loop elements h ++ guards) (with_name now (turn_bound elements object (mark_of_name (number_of h) name)))) →
      Goes e (turns_behind body guards elements object h names end e).after
  turns_go elements object h [] end e holds same named each = goes_same e holds.sound
  turns_go elements object h (name ∷ names) (Some raised) e holds same named each = goes_same e holds.sound
  turns_go elements object h (name ∷ names) None e holds same named each =
      let more = guards_of_loop elements h in
      let b = turn_bound elements object (mark_of_name (number_of h) name) in
      let turn = scoped e (body (more ++ guards)) (with_name e b) in
      let end = turn.end in
      let left = turn.after in
      let l = scoped_left more e b (each e name holds same named.0) in
      goes_then e left (turns_behind body guards elements object h names end left).after l.goes
      (turns_go elements object h names end left (left_values more e left holds l) (frame_stays (more ++ guards) e left object l.stays ∙ same) named.1 each)

  loop_goes : (number : ℕ) (elements backward : Bool) (object : ℕ) (found : Option Held) (e : State) → guarded_at (under guards e) object ≡ found →
      HoldsValues scope guards e →
      ((h : Held) → object_at (under guards e) object ≡ Some h → (now : State) (name : ℕ) → HoldsValues scope guards now →
      IsLooped elements h guards (bound_at now object) → IsNamedIn (names_of h) name →
      HoldsValues inner (guards_of_loop elements h ++ guards) (with_name now (turn_bound elements object (mark_of_name (number_of h) name)))) →
      Goes e (on_object body guards (loops_at number elements backward object) found e).after
  loop_goes number elements backward object None e f holds each = goes_same e holds.sound
  loop_goes number elements backward object (Some h) e f holds each =
      let there = guarded_is_there (under guards e) object h f in
      turns_go elements object h (in_order backward (names_of h)) None e holds (found_frame (guards_of_loop elements h ++ guards) guards e object h there)
      (each_in_order backward (names_of h)) (each h there)

  key_end_goes : (number object : ℕ) (held : Guards) (e : State) (at : Mark) (copy : Value) (found : Option Held) → ObjectsSound e →
      object_at (under held e) object ≡ found → Goes e (key_end_on number object e at copy found).after
  key_end_goes number object held e at copy None sound f = goes_same e sound
  key_end_goes number object held e at copy (Some h) sound f =
      let after = (key_updated h at copy).after in
      let is = key_sound h at copy (sound_at (under held e) object h (sound-under held e sound) f) in
      record {
        same = kinds-at_rest (with_bound e object (binds_object after))
            ∙ kinds-with_object e e object after refl
            (sym (kind_stays e (under held e) object (kinds-under held e)) ∙ object_kind (under held e) object h f);
        sound = sound-at_rest (with_bound e object (binds_object after)) (sound-with_bound e object (binds_object after) sound is);
      }

  unless_goes : (next : State → Outcome) (end : End) (left : State) → ObjectsSound left → Goes left (next left).after → Goes left (unless_raised next end left).after
  unless_goes next None left sound g = g
  unless_goes next (Some raised) left sound g = goes_same left sound

  key_goes : (number object : ℕ) (at : Mark) (h : Held) (e : State) →
      HoldsValues inner (guards_of_view UpdateKey h ++ guards) (with_name e (binds_value (value_or_zero (element_value h at).answer))) →
      Goes e (key_body body guards number object at h e).after
  key_goes number object at h e holds =
      let held = guards_of_view UpdateKey h ++ guards in
      let b = binds_value (value_or_zero (element_value h at).answer) in
      let r = body held (with_name e b) in
      let left = leaving (length e.bounds) r.after in
      let l = scoped_left (guards_of_view UpdateKey h) e b holds in
      let copy = value_at r.after (length e.bounds) in
      let end = r.end in
      goes_then e left (unless_raised (key_end number object at copy held) end left).after l.goes
      (unless_goes (key_end number object at copy held) end left l.goes.sound
      (key_end_goes number object held left at copy (object_at (under held left) object) l.goes.sound refl))

  viewed_goes : (number : ℕ) (view : ViewKind) (object : ℕ) (at : Mark) (h : Held) (e : State) →
      ((element_value h at).reason ≡ None → HoldsValues inner (guards_of_view view h ++ guards) (with_name e (binds_element object at))) →
      (view ≡ UpdateKey → HoldsValues inner (guards_of_view UpdateKey h ++ guards) (with_name e (binds_value (value_or_zero (element_value h at).answer)))) →
      head_reason view h at ≡ None → Goes e (viewed body guards number view object at h e).after
  viewed_goes number Query object at h e each copy none = (scoped_left (guards_of_view Query h) e (binds_element object at) (each none)).goes
  viewed_goes number Update object at h e each copy none = (scoped_left (guards_of_view Update h) e (binds_element object at) (each none)).goes
  viewed_goes number Reference object at h e each copy none = (scoped_left (guards_of_view Reference h) e (binds_element object at) (each none)).goes
  viewed_goes number UpdateKey object at h e each copy none = key_goes number object at h e (copy refl)

  view_goes : (number : ℕ) (view : ViewKind) (object : ℕ) (at : Mark) (h : Held) (e : State) (reason : Option Reason) → head_reason view h at ≡ reason →
      ObjectsSound e →
      (head_reason view h at ≡ None → (element_value h at).reason ≡ None →
      HoldsValues inner (guards_of_view view h ++ guards) (with_name e (binds_element object at))) →
      (head_reason view h at ≡ None → view ≡ UpdateKey →
      HoldsValues inner (guards_of_view UpdateKey h ++ guards) (with_name e (binds_value (value_or_zero (element_value h at).answer)))) →
      Goes e (view_on body guards number view object at h e).after
  view_goes number view object at h e None f sound each copy = rw (f, view_on) (viewed_goes number view object at h e (each f) (copy f) f)
  view_goes number view object at h e (Some reason) f sound each copy = rw (f, view_on) (goes_same e sound)

  placed_goes : (number : ℕ) (view : ViewKind) (object : ℕ) (at : Option ℕ) (e : State) (found : Option Held) → guarded_at (under guards e) object ≡ found →
      ObjectsSound e →
      ((h : Held) (mark : Mark) → object_at (under guards e) object ≡ Some h → head_reason view h mark ≡ None → (element_value h mark).reason ≡ None →
      HoldsValues inner (guards_of_view view h ++ guards) (with_name e (binds_element object mark))) →
      ((h : Held) (mark : Mark) → object_at (under guards e) object ≡ Some h → head_reason view h mark ≡ None → view ≡ UpdateKey →
      HoldsValues inner (guards_of_view UpdateKey h ++ guards) (with_name e (binds_value (value_or_zero (element_value h mark).answer)))) →
      Goes e (on_object body guards (views_at number view object at) found e).after
  placed_goes number view object at e None f sound each copy = goes_same e sound
  placed_goes number view object at e (Some h) f sound each copy =
      let there = guarded_is_there (under guards e) object h f in
      view_goes number view object (mark_at e at) h e (head_reason view h (mark_at e at)) refl sound (each h (mark_at e at) there) (copy h (mark_at e at) there)

  stable_goes : (number object : ℕ) (found : Option Held) (e : State) → ObjectsSound e → ((h : Held) → HoldsValues inner (guards_of_stable h ++ guards) e) →
      Goes e (on_object body guards (stables_at number object) found e).after
  stable_goes number object None e sound holds = goes_same e sound
  stable_goes number object (Some h) e sound holds = values (guards_of_stable h ++ guards) e (holds h)

  declared_goes : (e : State) (d : Declared) (spent : Option ℕ) → d.spent ≡ spent → Extends e d.after → ObjectsSound e → ObjectsSound d.after →
      (d.spent ≡ None → HoldsValues inner guards d.after) → Goes e (after_declared body guards e d).after
  declared_goes e d None f ext sound after holds =
      let g = values guards d.after (holds f) in
      rw (f, after_declared)
      (record {
        same = kinds_back e (body guards d.after).after ext.more (g.same ∙ ap (map kind_in) ext.is);
        sound = sound-leaving (length e.bounds) (body guards d.after).after g.sound;
      })
  declared_goes e d (Some number) f ext sound after holds =
      rw (f, after_declared)
      (record { same = kinds_back e d.after ext.more (ap (map kind_in) ext.is); sound = sound-leaving (length e.bounds) d.after after })

-- declarations, also where no number is left
either_sound : (b : Bool) (x y : Declared) → ObjectsSound x.after → ObjectsSound y.after → ObjectsSound (if b then x else y).after
either_sound true x y h k = h
either_sound false x y h k = k

decl_sound : (e : State) (d : ResolvedDecl) → ObjectsSound e → ObjectsSound (after_decl e d).after
decl_sound e decl.TypeDecl sound = sound_more e.bounds binds_type sound tt
decl_sound e (decl.Object line def capacity) sound =
    either_sound (nat_lt e.next numbers_end) _ _ (sound_more e.bounds (binds_object (new_held def e.next capacity)) sound (new_sound def e.next capacity)) sound
decl_sound e decl.Cursor sound = sound_more e.bounds (binds_cursor no_mark) sound tt
decl_sound e decl.Integer sound = sound_more e.bounds (binds_value _) sound tt
decl_sound e decl.Text sound = sound_more e.bounds (binds_value _) sound tt

decls_step : (others : State → Declared) (first : Declared) (spent : Option ℕ) → first.spent ≡ spent → ObjectsSound first.after →
    ((now : State) → ObjectsSound now → ObjectsSound (others now).after) → ObjectsSound (unless_spent others first).after
decls_step others first None f h k = rw f (k first.after h)
decls_step others first (Some line) f h k = rw f h

decls_sound : (ds : List ResolvedDecl) (e : State) → ObjectsSound e → ObjectsSound (after_decls ds e).after
decls_sound [] e sound = sound
decls_sound (d ∷ ds) e sound =
    let first = after_decl e d in decls_step (after_decls ds) first first.spent refl (decl_sound e d sound) (decls_sound ds)

-- a block of tasks
queue_goes : (e : State) (place : ℕ) (q : TaskQueue) (found : Option Held) → ObjectsSound e → object_at e place ≡ found → Goes e (queue_left e place q found)
queue_goes e place q None sound f = goes_same e sound
queue_goes e place q (Some (of_rows k o)) sound f = goes_same e sound
queue_goes e place q (Some (of_holder element h)) sound f = goes_same e sound
queue_goes e place q (Some (of_queue number old)) sound f = record {
  same = kinds-with_object e e place (of_queue number q) refl (object_kind e place (of_queue number old) f);
  sound = sound-with_bound e place (binds_object (of_queue number q)) sound tt;
}

queues_go : (places : List ℕ) (queues : List TaskQueue) (e : State) → ObjectsSound e → Goes e (queues_left places queues e)
queues_go [] queues e sound = goes_same e sound
queues_go (place ∷ places) [] e sound = goes_same e sound
queues_go (place ∷ places) (q ∷ queues) e sound =
    let now = queue_left e place q (object_at e place) in
    let g = queue_goes e place q (object_at e place) sound refl in
    goes_then e now (queues_left places queues now) g (queues_go places queues now g.sound)

gathered_goes : (order : List ℕ) (tasks : ResolvedCode) (e : State) → ObjectsSound e → Goes e (gathered order tasks e).after
gathered_goes order tasks e sound = go (block_fits (block_of e tasks))
  where
    go : (fits : Bool) → Goes e (if fits then run_by order tasks e else come_to [] e).after
    go true =
        let g = queues_go (queue_places tasks) (present (run_of (block_of e tasks) order)).queues e sound in
        record { same = g.same; sound = g.sound }
    go false = goes_same e sound

-- a command
commanded_goes : (scope : Scope) (guards : Guards) (e : State) (simple : Simple) → HoldsValues scope guards e → CommandKept scope simple →
    Goes e (commanded guards e (resolve_simple scope simple)).after
commanded_goes scope guards e simple holds kept =
    let u = under guards e in
    let g = command_goes scope guards u (values_under scope guards e holds) simple kept in
    let now = (performed u (resolve_simple scope simple)).after in
    record { same = kinds-at_rest now ∙ (g.same ∙ kinds-under guards e); sound = sound-at_rest now g.sound }

-- under more guards
more_values : (scope : Scope) (more guards : Guards) (e : State) → HoldsValues scope guards e → HoldsValues scope (more ++ guards) e
more_values scope more guards e holds = record {
  types = holds.types;
  variables = holds.variables;
  elements = elements_under more guards e holds.elements;
  sound = holds.sound;
}

-- what follows
go_on : (scope : Scope) (guards : Guards) (e : State) (r : Outcome) (next : End → State → Outcome) → HoldsValues scope guards e → Goes e r.after →
    sorts r.after ≡ sorts e → kept guards r.after ≡ kept guards e →
    ((end : End) (later : State) → HoldsValues scope guards later → Goes later (next end later).after) → Goes e (followed r next).after
go_on scope guards e r next holds g sorted same rest =
    let end = r.end in
    goes_then e r.after (next end r.after).after g (rest end r.after (values_on scope guards e r.after holds g sorted same))

-- the block alone
block_kept : (scope : Scope) (head : Head) (body rest : Code) → KeepsRules scope (block head body rest) → KeepsRules scope (block head body stop)
block_kept scope head body rest kept = record { head = kept.head; decls = kept.decls; body = kept.body; rest = tt }

copy_or : (scope : Scope) (guards : Guards) (e : State) (line : ℕ) (view : ViewKind) (object : List ℕ) (at : Option (List ℕ)) (name : List ℕ) (h : Held)
    (mark : Mark) → HoldsValues scope guards e → HeadKept scope (view_at line view object at name) → object_at (under guards e) (place_of scope object) ≡ Some h →
    head_reason view h mark ≡ None → view ≡ UpdateKey →
    HoldsValues (behind_words scope (view_at line view object at name)) (guards_of_view UpdateKey h ++ guards)
    (with_name e (binds_value (value_or_zero (element_value h mark).answer)))
copy_or scope guards e line view object at name h mark holds kept there none is =
    subst (λ v. HoldsValues (behind_words scope (view_at line v object at name)) (guards_of_view UpdateKey h ++ guards)
    (with_name e (binds_value (value_or_zero (element_value h mark).answer)))) (sym is)
    (copy_values scope guards e line object at name h mark holds (subst (λ v. HeadKept scope (view_at line v object at name)) is kept) there
    (subst (λ v. head_reason v h mark ≡ None) is none))

either_goes : (b : Bool) (x y : Outcome) (e : State) → Goes e x.after → Goes e y.after → Goes e (if b then x else y).after
either_goes true x y e h k = h
either_goes false x y e h k = k

mutual
  pub exec_goes : (propagates : Bool) (orders : Orders) (code : Code) (scope : Scope) (guards : Guards) (end : End) (e : State) → AreStatements propagates code →
      KeepsRules scope code → HoldsValues scope guards e → Goes e (exec_behind propagates orders code scope guards end e).after
  exec_goes propagates orders stop scope guards end e are kept holds = goes_same e holds.sound
  exec_goes propagates orders (one simple rest) scope guards (Some raised) e are kept holds =
      subst (λ (r : Outcome). Goes e r.after) (sym (none_runs_behind propagates orders rest scope guards raised e)) (goes_same e holds.sound)
  exec_goes propagates orders (one simple rest) scope guards None e are kept holds =
      go_on scope guards e (passed_on propagates (commanded guards e (resolve_simple scope simple))) (exec_behind propagates orders rest scope guards) holds
      (commanded_goes scope guards e simple holds kept.first)
      (exec_sorts propagates orders (one simple stop) scope guards None e tt (record { first = kept.first; rest = tt }) holds.types)
      (exec_keeps propagates orders (one simple stop) scope guards None e)
      (λ end later h. exec_goes propagates orders rest scope guards end later are kept.rest h)
  exec_goes propagates orders (block head body rest) scope guards (Some raised) e are kept holds =
      subst (λ (r : Outcome). Goes e r.after) (sym (none_runs_behind propagates orders rest (behind_block scope head) guards raised e)) (goes_same e holds.sound)
  exec_goes propagates orders (block (loop_at line name elements backward object) body rest) scope guards None e are kept holds =
      let head = loop_at line name elements backward object in
      let within = inside scope head in
      let place = place_of scope object in
      let inner : Guards → State → Outcome = λ held. exec_behind propagates orders body within held None in
      go_on scope guards e (blocked propagates orders head body scope guards e) (exec_behind propagates orders rest scope guards) holds
      (loop_goes inner scope within (λ held now. exec_keeps propagates orders body within held None now)
      (λ held now h. exec_sorts propagates orders body within held None now are.0 kept.body h)
      (λ held now h. exec_goes propagates orders body within held None now are.0 kept.body h)
      guards line elements backward place (guarded_at (under guards e) place) e refl holds
      (λ h there now n values same named. turn_values scope guards now line name elements backward object h n values kept.head
      (sound_at (under guards e) place h (sound-under guards e holds.sound) there) named same))
      (exec_sorts propagates orders (block head body stop) scope guards None e (are.0, tt) (block_kept scope head body rest kept) holds.types)
      (exec_keeps propagates orders (block head body stop) scope guards None e)
      (λ end later h. exec_goes propagates orders rest scope guards end later are.1 kept.rest h)
  exec_goes propagates orders (block (view_at line view object at name) body rest) scope guards None e are kept holds =
      let head = view_at line view object at name in
      let within = inside scope head in
      let place = place_of scope object in
      let inner : Guards → State → Outcome = λ held. exec_behind propagates orders body within held None in
      go_on scope guards e (blocked propagates orders head body scope guards e) (exec_behind propagates orders rest scope guards) holds
      (placed_goes inner scope within (λ held now. exec_keeps propagates orders body within held None now)
      (λ held now h. exec_sorts propagates orders body within held None now are.0 kept.body h)
      (λ held now h. exec_goes propagates orders body within held None now are.0 kept.body h)
      guards line view place (option_map (place_of scope) at) e (guarded_at (under guards e) place) refl holds.sound
      (λ h mark there none stands. view_values scope guards e line view object at name h mark holds kept.head there none stands)
      (λ h mark there none is. copy_or scope guards e line view object at name h mark holds kept.head there none is))
      (exec_sorts propagates orders (block head body stop) scope guards None e (are.0, tt) (block_kept scope head body rest kept) holds.types)
      (exec_keeps propagates orders (block head body stop) scope guards None e)
      (λ end later h. exec_goes propagates orders rest scope guards end later are.1 kept.rest h)
  exec_goes propagates orders (block (stable_at line object) body rest) scope guards None e are kept holds =
      let head = stable_at line object in
      let within = scope in
      let place = place_of scope object in
      let inner : Guards → State → Outcome = λ held. exec_behind propagates orders body within held None in
      go_on scope guards e (blocked propagates orders head body scope guards e) (exec_behind propagates orders rest scope guards) holds
      (stable_goes inner scope within (λ held now. exec_keeps propagates orders body within held None now)
      (λ held now h. exec_sorts propagates orders body within held None now are.0 kept.body h)
      (λ held now h. exec_goes propagates orders body within held None now are.0 kept.body h)
      guards line place (guarded_at (under guards e) place) e holds.sound (λ h. more_values scope (guards_of_stable h) guards e holds))
      (exec_sorts propagates orders (block head body stop) scope guards None e (are.0, tt) (block_kept scope head body rest kept) holds.types)
      (exec_keeps propagates orders (block head body stop) scope guards None e)
      (λ end later h. exec_goes propagates orders rest scope guards end later are.1 kept.rest h)
  exec_goes propagates orders (block (declare_at line decls) body rest) scope guards None e are kept holds =
      let head = declare_at line decls in
      let within = with_decls scope decls in
      let resolved = resolve_decls scope decls in
      let inner : Guards → State → Outcome = λ held. exec_behind propagates orders body within held None in
      go_on scope guards e (blocked propagates orders head body scope guards e) (exec_behind propagates orders rest scope guards) holds
      (declared_goes inner scope within (λ held now. exec_keeps propagates orders body within held None now)
      (λ held now h. exec_sorts propagates orders body within held None now are.0 kept.body h)
      (λ held now h. exec_goes propagates orders body within held None now are.0 kept.body h)
      guards e (after_decls resolved e) (after_decls resolved e).spent refl (decls_extend resolved e) holds.sound (decls_sound resolved e holds.sound)
      (values_declared.decls scope decls guards e holds kept.decls))
      (exec_sorts propagates orders (block head body stop) scope guards None e (are.0, tt) (block_kept scope head body rest kept) holds.types)
      (exec_keeps propagates orders (block head body stop) scope guards None e)
      (λ end later h. exec_goes propagates orders rest scope guards end later are.1 kept.rest h)
  exec_goes propagates orders (block (tasks_at line) body rest) scope guards None e are kept holds =
      let head = tasks_at line in
      go_on scope guards e (blocked propagates orders head body scope guards e) (exec_behind propagates orders rest scope guards) holds
      (gathered_goes (orders e.blocks) (resolve scope body) e holds.sound)
      (exec_sorts propagates orders (block head body stop) scope guards None e (are.0, are.1, tt) (block_kept scope head body rest kept) holds.types)
      (exec_keeps propagates orders (block head body stop) scope guards None e)
      (λ end later h. exec_goes propagates orders rest scope guards end later are.2 kept.rest h)
  exec_goes propagates orders (block (task_at line name locals) body rest) scope guards None e are kept holds = absurd are
  exec_goes propagates orders (handled line body handlers rest) scope guards (Some raised) e are kept holds =
      subst (λ (r : Outcome). Goes e r.after) (sym (none_runs_behind propagates orders rest scope guards raised e)) (goes_same e holds.sound)
  exec_goes propagates orders (handled line body handlers rest) scope guards None e are kept holds =
      let tried = passed_on propagates (exec_behind propagates orders body scope guards None e) in
      let taken = followed tried (handle propagates orders handlers scope guards) in
      go_on scope guards e (passed_on propagates taken) (exec_behind propagates orders rest scope guards) holds
      (go_on scope guards e tried (handle propagates orders handlers scope guards) holds
      (exec_goes propagates orders body scope guards None e are.1 kept.body holds)
      (exec_sorts propagates orders body scope guards None e are.1 kept.body holds.types)
      (exec_keeps propagates orders body scope guards None e)
      (λ end later h. handle_goes propagates orders handlers [] scope guards end later are.3 kept.handlers h))
      (exec_sorts propagates orders (handled line body handlers stop) scope guards None e (are.0, are.1, are.2, are.3, tt)
      (record { body = kept.body; handlers = kept.handlers; rest = tt }) holds.types)
      (exec_keeps propagates orders (handled line body handlers stop) scope guards None e)
      (λ end later h. exec_goes propagates orders rest scope guards end later are.4 kept.rest h)

  -- and so do handlers
  handle_goes : (propagates : Bool) (orders : Orders) (handlers : HandlerCode) (named : List Exception) (scope : Scope) (guards : Guards) (end : End)
      (e : State) → AreHandlers propagates handlers → HandlersKept scope named handlers → HoldsValues scope guards e →
      Goes e (handle propagates orders handlers scope guards end e).after
  handle_goes propagates orders no_handler named scope guards end e are kept holds = goes_same e holds.sound
  handle_goes propagates orders (handler line own body more) named scope guards None e are kept holds = goes_same e holds.sound
  handle_goes propagates orders (handler line None body more) named scope guards (Some raised) e are kept holds =
      exec_goes propagates orders body scope guards None e are.0 kept.body holds
  handle_goes propagates orders (handler line (Some own) body more) named scope guards (Some raised) e are kept holds =
      either_goes (takes_any (Some own) raised) (exec_behind propagates orders body scope guards None e)
      (handle propagates orders more scope guards (Some raised) e) e (exec_goes propagates orders body scope guards None e are.0 kept.body holds)
      (handle_goes propagates orders more (with_named named (Some own)) scope guards (Some raised) e are.1 kept.more holds)

pub statements_keep_values : (propagates : Bool) (orders : Orders) (code : Code) (scope : Scope) (guards : Guards) (end : End) (e : State) →
    AreStatements propagates code → KeepsRules scope code → HoldsValues scope guards e → HoldsValues scope guards (exec_behind propagates orders code scope guards end e).after
statements_keep_values propagates orders code scope guards end e are kept holds =
    values_on scope guards e (exec_behind propagates orders code scope guards end e).after holds
    (exec_goes propagates orders code scope guards end e are kept holds)
    (exec_sorts propagates orders code scope guards end e are kept holds.types) (exec_keeps propagates orders code scope guards end e)

script_values : (orders : Orders) (script : Script) → IsChecked script → AreStatements (propagates_in script) script.stmts →
    (after_decls (resolve_decls [] script.decls) first_state).spent ≡ None → HoldsValues (with_decls [] script.decls) [] (run_with orders script).after
unfolding run_with
script_values orders script checked are none =
    statements_keep_values (propagates_in script) orders script.stmts (with_decls [] script.decls) [] None (after_decls (resolve_decls [] script.decls) first_state).after are
    (rules_kept script checked).code (values_declared.script script checked none)

pub values_go_on : ValuesGoOn
values_go_on = record {
  commands = λ scope guards e simple holds kept.
      values_on scope guards e (commanded guards e (resolve_simple scope simple)).after holds (commanded_goes scope guards e simple holds kept)
      (exec_sorts false no_orders (one simple stop) scope guards None e tt (record { first = kept; rest = tt }) holds.types)
      (exec_keeps false no_orders (one simple stop) scope guards None e);
  statements = statements_keep_values;
  script = script_values;
}
