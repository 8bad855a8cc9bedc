-- Statements keep what is guarded.
use Rattle.std.proofs.Common.{◌≡◌, ◌++◌, ℕ, Bool, true, false, List, [], ◌∷◌, length, nat_lt, refl, sym, ap, ◌∙◌, append_assoc, Option, Some, None, if◌then◌else◌}
use Rattle.std.proofs.lemmas.List.{append-nil}
use Rattle.ac_base.specs.Limits.{numbers_end}
use Rattle.ac_base.specs.declared.reason.Reason.{Reason}
use Rattle.ac_model.specs.Letters.{Mark, mark_at as mark_of_name}
use Rattle.ac_syntax.specs.declared.view_kind.ViewKind.{ViewKind}
use Rattle.ac_syntax.specs.declared.view_kind.ViewKind.TheVariants.{Query, Update, Reference, UpdateKey}
use Rattle.ac_rules.specs.declared.resolved.ResolvedDecl.{ResolvedDecl}
use Rattle.ac_rules.specs.declared.resolved.ResolvedDecl.TheVariants as decl
use Rattle.ac_rules.specs.Resolved.{ResolvedHead, loops_at, views_at, stables_at, declares_at, gathers_at, works_at, begins_at, tries_at, handles_at, ResolvedCode, no_statement, a_command, a_block, resolve}
use Rattle.ac_calls.specs.Holdings.{Held, Guards, names_of, number_of, element_value}
use Rattle.ac_meaning.specs.Environment.{Bound, binds_element, binds_value, State, under, object_at, guarded_at, mark_at, value_at, value_or_zero, with_name, leaving, Declared, unless_spent, after_decl, after_decls}
use Rattle.ac_meaning.specs.Execution.{End, Outcome, Orders, passed_on, unless_raised, scoped, commanded, guards_of_loop, guards_of_stable, guards_of_view, in_order, turn_bound, head_reason, key_end, turns_behind, key_body, viewed, view_on, on_object, after_declared, block_on, takes, resolved_behind}
use Rattle.ac_meaning.specs.GuardedNames.{kept, ResolvedKeepsGuarded, KeepsGuarded}
use Rattle.ac_meaning.proofs.Resolved.{runs_resolved}
use Rattle.ac_meaning.proofs.Frames.{kept_weaker, kept_back}
use Rattle.ac_meaning.proofs.Guarded.{commanded_keeps}
use Rattle.ac_meaning.proofs.UpdatesAlone.{updates_are_alone, key_end_keeps}
use Rattle.ac_meaning.proofs.QueuesLeft.{gathered_keeps}
use Rattle.ac_meaning.proofs.GuardedPlaces.{guarded_is_there}

-- the environment has these names, and more behind them
pub record Extends (e now : State) : Type 0 where
  pub more : List Bound
  pub is : now.bounds ≡ e.bounds ++ more

same_names : (e now : State) → now.bounds ≡ e.bounds → Extends e now
same_names e now h = record { more = []; is = h ∙ sym (append-nil e.bounds) }

pub name_extends : (e : State) (b : Bound) → Extends e (with_name e b)
name_extends e b = record { more = b ∷ []; is = refl }

either_extends : (e : State) (b : Bool) (x y : Declared) → Extends e x.after → Extends e y.after → Extends e (if b then x else y).after
either_extends e true x y h k = h
either_extends e false x y h k = k

decl_extends : (e : State) (d : ResolvedDecl) → Extends e (after_decl e d).after
decl_extends e decl.TypeDecl = name_extends e _
decl_extends e (decl.Object line def capacity) =
    either_extends e (nat_lt e.next numbers_end) _ _ (record { more = _; is = refl }) (same_names e e refl)
decl_extends e decl.Cursor = name_extends e _
decl_extends e decl.Integer = name_extends e _
decl_extends e decl.Text = name_extends e _

then_extends : (e now later : State) → Extends e now → Extends now later → Extends e later
then_extends e now later h k =
    record { more = h.more ++ k.more; is = k.is ∙ (ap (λ bs. bs ++ k.more) h.is ∙ append_assoc e.bounds h.more k.more) }

decls_step : (others : State → Declared) (e : State) (first : Declared) (spent : Option ℕ) → first.spent ≡ spent → Extends e first.after →
    ((now : State) → Extends now (others now).after) → Extends e (unless_spent others first).after
decls_step others e first None f h k = rw f (then_extends e first.after (others first.after).after h (k first.after))
decls_step others e first (Some line) f h k = rw f h

pub decls_extend : (ds : List ResolvedDecl) (e : State) → Extends e (after_decls ds e).after
decls_extend [] e = same_names e e refl
decls_extend (d ∷ ds) e =
    let first = after_decl e d in decls_step (after_decls ds) e first first.spent refl (decl_extends e d) (decls_extend ds)

-- what runs under more guards keeps what these guard
abbrev pub KeepsAll : (Guards → State → Outcome) → Type 0
KeepsAll body = (guards : Guards) (e : State) → kept guards (body guards e).after ≡ kept guards e

module _ (body : Guards → State → Outcome) (keeps : KeepsAll body) (guards : Guards) where
  under_more : (more : Guards) (e : State) → kept guards (body (more ++ guards) e).after ≡ kept guards e
  under_more more e = kept_weaker more guards e (body (more ++ guards) e).after (keeps (more ++ guards) e)

  -- with more names, which then go
  back : (e now later : State) → Extends e now → kept guards later ≡ kept guards now → kept guards (leaving (length e.bounds) later) ≡ kept guards e
  back e now later ext h = kept_back guards e later ext.more (h ∙ ap (λ bs. kept guards (record e { bounds = bs })) ext.is)

  scoped_keeps : (more : Guards) (e : State) (b : Bound) → kept guards (scoped e (body (more ++ guards)) (with_name e b)).after ≡ kept guards e
  scoped_keeps more e b =
      let now = with_name e b in back e now (body (more ++ guards) now).after (name_extends e b) (under_more more now)

  turns_keep : (elements : Bool) (object : ℕ) (h : Held) (names : List ℕ) (end : End) (e : State) →
      kept guards (turns_behind body guards elements object h names end e).after ≡ kept guards e
  turns_keep elements object h [] end e = refl
  turns_keep elements object h (name ∷ names) (Some raised) e = refl
  turns_keep elements object h (name ∷ names) None e =
      let b = turn_bound elements object (mark_of_name (number_of h) name) in
      let more = guards_of_loop elements h in
      let turn = scoped e (body (more ++ guards)) (with_name e b) in
      turns_keep elements object h names turn.end turn.after ∙ scoped_keeps more e b

  unless_keeps : (next : State → Outcome) (end : End) (e left : State) → kept guards left ≡ kept guards e → kept guards (next left).after ≡ kept guards e →
      kept guards (unless_raised next end left).after ≡ kept guards e
  unless_keeps next None e left h k = k
  unless_keeps next (Some raised) e left h k = h

  key_keeps : (number object : ℕ) (at : Mark) (h : Held) (e : State) → object_at (under guards e) object ≡ Some h →
      head_reason UpdateKey h at ≡ None → kept guards (key_body body guards number object at h e).after ≡ kept guards e
  key_keeps number object at h e there none =
      let held = guards_of_view UpdateKey h ++ guards in
      let b = binds_value (value_or_zero (element_value h at).answer) in
      let r = body held (with_name e b) in
      let left = leaving (length e.bounds) r.after in
      let copy = value_at r.after (length e.bounds) in
      unless_keeps (key_end number object at copy held) r.end e left (scoped_keeps (guards_of_view UpdateKey h) e b)
      (key_end_keeps guards held number object e left at copy h there
      (updates_are_alone.found guards e object h at there none)
      (scoped_keeps (guards_of_view UpdateKey h) e b) (object_at (under held left) object) refl)

  viewed_keeps : (number : ℕ) (view : ViewKind) (object : ℕ) (at : Mark) (h : Held) (e : State) → object_at (under guards e) object ≡ Some h →
      head_reason view h at ≡ None → kept guards (viewed body guards number view object at h e).after ≡ kept guards e
  viewed_keeps number Query object at h e there none = scoped_keeps (guards_of_view Query h) e (binds_element object at)
  viewed_keeps number Update object at h e there none = scoped_keeps (guards_of_view Update h) e (binds_element object at)
  viewed_keeps number Reference object at h e there none = scoped_keeps (guards_of_view Reference h) e (binds_element object at)
  viewed_keeps number UpdateKey object at h e there none = key_keeps number object at h e there none

  view_keeps : (number : ℕ) (view : ViewKind) (object : ℕ) (at : Mark) (h : Held) (e : State) → object_at (under guards e) object ≡ Some h →
      (reason : Option Reason) → head_reason view h at ≡ reason → kept guards (view_on body guards number view object at h e).after ≡ kept guards e
  view_keeps number view object at h e there None f = rw (f, view_on) (viewed_keeps number view object at h e there f)
  view_keeps number view object at h e there (Some reason) f = rw (f, view_on) refl

  loop_keeps : (number : ℕ) (elements backward : Bool) (object : ℕ) (found : Option Held) (e : State) →
      kept guards (on_object body guards (loops_at number elements backward object) found e).after ≡ kept guards e
  loop_keeps number elements backward object None e = refl
  loop_keeps number elements backward object (Some h) e = turns_keep elements object h (in_order backward (names_of h)) None e

  placed_keeps : (number : ℕ) (view : ViewKind) (object : ℕ) (at : Option ℕ) (e : State) (found : Option Held) →
      guarded_at (under guards e) object ≡ found → kept guards (on_object body guards (views_at number view object at) found e).after ≡ kept guards e
  placed_keeps number view object at e None there = refl
  placed_keeps number view object at e (Some h) there =
      view_keeps number view object (mark_at e at) h e (guarded_is_there (under guards e) object h there) _ refl

  stable_keeps : (number object : ℕ) (found : Option Held) (e : State) →
      kept guards (on_object body guards (stables_at number object) found e).after ≡ kept guards e
  stable_keeps number object None e = refl
  stable_keeps number object (Some h) e = under_more (guards_of_stable h) e

  declared_keeps : (e : State) (d : Declared) (spent : Option ℕ) → d.spent ≡ spent → Extends e d.after →
      kept guards (after_declared body guards e d).after ≡ kept guards e
  declared_keeps e d None f ext = rw (f, after_declared) (back e d.after (body guards d.after).after ext (keeps guards d.after))
  declared_keeps e d (Some number) f ext = rw (f, after_declared) (back e d.after d.after ext refl)

  block_keeps : (orders : Orders) (tasks : ResolvedCode) (e : State) (head : ResolvedHead) →
      kept guards (block_on body guards orders tasks e head).after ≡ kept guards e
  block_keeps orders tasks e (loops_at number elements backward object) = loop_keeps number elements backward object (guarded_at (under guards e) object) e
  block_keeps orders tasks e (views_at number view object at) = placed_keeps number view object at e (guarded_at (under guards e) object) refl
  block_keeps orders tasks e (stables_at number object) = stable_keeps number object (guarded_at (under guards e) object) e
  block_keeps orders tasks e (declares_at number decls) = declared_keeps e (after_decls decls e) _ refl (decls_extend decls e)
  block_keeps orders tasks e (gathers_at number) = gathered_keeps guards (orders e.blocks) tasks e
  block_keeps orders tasks e (works_at number name locals) = refl
  block_keeps orders tasks e begins_at = keeps guards e
  block_keeps orders tasks e tries_at = keeps guards e
  block_keeps orders tasks e (handles_at catches) = refl

either_keeps : (guards : Guards) (e : State) (b : Bool) (x y : Outcome) → kept guards x.after ≡ kept guards e → kept guards y.after ≡ kept guards e →
    kept guards (if b then x else y).after ≡ kept guards e
either_keeps guards e true x y h k = h
either_keeps guards e false x y h k = k

pub resolved_keeps : ResolvedKeepsGuarded
resolved_keeps propagates orders no_statement guards end e = refl
resolved_keeps propagates orders (a_command simple rest) guards None e =
    let r = passed_on propagates (commanded guards e simple) in
    resolved_keeps propagates orders rest guards r.end r.after ∙ commanded_keeps guards e simple
resolved_keeps propagates orders (a_command simple rest) guards (Some raised) e = resolved_keeps propagates orders rest guards (Some raised) e
resolved_keeps propagates orders (a_block head body rest) guards None e =
    let inner : Guards → State → Outcome = λ held. resolved_behind propagates orders body held None in
    let r = passed_on propagates (block_on inner guards orders body e head) in
    resolved_keeps propagates orders rest guards r.end r.after
    ∙ block_keeps inner (λ held. resolved_keeps propagates orders body held None) guards orders body e head
resolved_keeps propagates orders (a_block head body rest) guards (Some raised) e =
    either_keeps guards e (takes head raised) (resolved_behind propagates orders body guards None e)
    (resolved_behind propagates orders rest guards (Some raised) e)
    (resolved_keeps propagates orders body guards None e) (resolved_keeps propagates orders rest guards (Some raised) e)

pub exec_keeps : KeepsGuarded
exec_keeps propagates orders code scope guards end e =
    ap (λ (r : Outcome). kept guards r.after) (sym (runs_resolved propagates orders code scope guards end e))
    ∙ resolved_keeps propagates orders (resolve scope code) guards end e
