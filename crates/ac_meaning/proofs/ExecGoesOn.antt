-- Statements leave each object as it was declared.
use Rattle.std.proofs.Common.{◌≡◌, ◌++◌, ℕ, Bool, true, false, List, [], ◌∷◌, length, refl, subst, Option, Some, None, if◌then◌else◌}
use Rattle.ac_base.specs.declared.reason.Reason.{Reason}
use Rattle.ac_model.specs.Letters.{Mark, mark_at as mark_of_name}
use Rattle.ac_syntax.specs.Code.{Code}
use Rattle.ac_syntax.specs.declared.view_kind.ViewKind.{ViewKind}
use Rattle.ac_syntax.specs.declared.view_kind.ViewKind.TheVariants.{Query, Update, Reference, UpdateKey}
use Rattle.ac_rules.specs.Resolved.{ResolvedHead, loops_at, views_at, stables_at, declares_at, gathers_at, works_at, begins_at, tries_at, handles_at, ResolvedCode, no_statement, a_command, a_block, resolve}
use Rattle.ac_rules.specs.Scopes.{Scope}
use Rattle.ac_calls.specs.Holdings.{Held, Guards, names_of, number_of, element_value}
use Rattle.ac_meaning.specs.AsDeclared.{EachGoesOn, StateGoesOn, StatesGoOn}
use Rattle.ac_meaning.specs.Environment.{Bound, binds_element, binds_value, State, under, object_at, guarded_at, mark_at, value_at, value_or_zero, with_name, leaving, Declared, after_decls}
use Rattle.ac_meaning.specs.Execution.{End, Outcome, Orders, passed_on, unless_raised, scoped, commanded, guards_of_loop, guards_of_stable, guards_of_view, in_order, turn_bound, head_reason, key_end, turns_behind, key_body, viewed, view_on, on_object, after_declared, block_on, takes, exec_behind, resolved_behind}
use Rattle.ac_meaning.proofs.ExecKeeps.{Extends, name_extends, decls_extend}
use Rattle.ac_meaning.proofs.GoesOnBlocks.{gathered_goes, key_end_goes}
use Rattle.ac_meaning.proofs.GoesOnLists.{each_same, each_then, each_back, under_goes, rest_goes, command_goes, commanded_goes}
use Rattle.ac_meaning.proofs.Resolved.{runs_resolved}

same : (e : State) → StateGoesOn e e
same e = each_same e.bounds

one_then : (e now later : State) → StateGoesOn e now → StateGoesOn now later → StateGoesOn e later
one_then e now later h k = each_then e.bounds now.bounds later.bounds h k

-- with more names, which then go
back : (e now later : State) → Extends e now → StateGoesOn now later → StateGoesOn e (leaving (length e.bounds) later)
back e now later ext h = each_back e.bounds ext.more later.bounds (subst (λ bs. EachGoesOn bs later.bounds) ext.is h)

-- what runs under any guards
abbrev GoesAll : (Guards → State → Outcome) → Type 0
GoesAll body = (guards : Guards) (e : State) → StateGoesOn e (body guards e).after

module _ (body : Guards → State → Outcome) (goes : GoesAll body) (guards : Guards) where
  scoped_goes : (held : Guards) (e : State) (b : Bound) → StateGoesOn e (scoped e (body held) (with_name e b)).after
  scoped_goes held e b = let now = with_name e b in back e now (body held now).after (name_extends e b) (goes held now)

  turns_go : (elements : Bool) (object : ℕ) (h : Held) (names : List ℕ) (end : End) (e : State) →
      StateGoesOn e (turns_behind body guards elements object h names end e).after
  turns_go elements object h [] end e = same e
  turns_go elements object h (name ∷ names) (Some raised) e = same e
  turns_go elements object h (name ∷ names) None e =
      let b = turn_bound elements object (mark_of_name (number_of h) name) in
      let held = guards_of_loop elements h ++ guards in
      let turn = scoped e (body held) (with_name e b) in
      one_then e turn.after (turns_behind body guards elements object h names turn.end turn.after).after
      (scoped_goes held e b) (turns_go elements object h names turn.end turn.after)

  loop_goes : (number : ℕ) (elements backward : Bool) (object : ℕ) (found : Option Held) (e : State) →
      StateGoesOn e (on_object body guards (loops_at number elements backward object) found e).after
  loop_goes number elements backward object None e = same e
  loop_goes number elements backward object (Some h) e = turns_go elements object h (in_order backward (names_of h)) None e

  unless_goes : (next : State → Outcome) (end : End) (left : State) → StateGoesOn left (next left).after →
      StateGoesOn left (unless_raised next end left).after
  unless_goes next None left h = h
  unless_goes next (Some raised) left h = same left

  key_goes : (number object : ℕ) (at : Mark) (h : Held) (e : State) → StateGoesOn e (key_body body guards number object at h e).after
  key_goes number object at h e =
      let held = guards_of_view UpdateKey h ++ guards in
      let b = binds_value (value_or_zero (element_value h at).answer) in
      let r = body held (with_name e b) in
      let left = leaving (length e.bounds) r.after in
      let copy = value_at r.after (length e.bounds) in
      one_then e left (unless_raised (key_end number object at copy held) r.end left).after (scoped_goes held e b)
      (unless_goes (key_end number object at copy held) r.end left (key_end_goes number object held left at copy (object_at (under held left) object) refl))

  viewed_goes : (number : ℕ) (view : ViewKind) (object : ℕ) (at : Mark) (h : Held) (e : State) →
      StateGoesOn e (viewed body guards number view object at h e).after
  viewed_goes number Query object at h e = scoped_goes (guards_of_view Query h ++ guards) e (binds_element object at)
  viewed_goes number Update object at h e = scoped_goes (guards_of_view Update h ++ guards) e (binds_element object at)
  viewed_goes number Reference object at h e = scoped_goes (guards_of_view Reference h ++ guards) e (binds_element object at)
  viewed_goes number UpdateKey object at h e = key_goes number object at h e

  view_goes : (number : ℕ) (view : ViewKind) (object : ℕ) (at : Mark) (h : Held) (e : State) (reason : Option Reason) → head_reason view h at ≡ reason →
      StateGoesOn e (view_on body guards number view object at h e).after
  view_goes number view object at h e None f = rw (f, view_on) (viewed_goes number view object at h e)
  view_goes number view object at h e (Some reason) f = rw (f, view_on) (same e)

  placed_goes : (number : ℕ) (view : ViewKind) (object : ℕ) (at : Option ℕ) (e : State) (found : Option Held) →
      StateGoesOn e (on_object body guards (views_at number view object at) found e).after
  placed_goes number view object at e None = same e
  placed_goes number view object at e (Some h) = view_goes number view object (mark_at e at) h e (head_reason view h (mark_at e at)) refl

  stable_goes : (number object : ℕ) (found : Option Held) (e : State) → StateGoesOn e (on_object body guards (stables_at number object) found e).after
  stable_goes number object None e = same e
  stable_goes number object (Some h) e = goes (guards_of_stable h ++ guards) e

  declared_goes : (e : State) (d : Declared) (spent : Option ℕ) → d.spent ≡ spent → Extends e d.after → StateGoesOn e (after_declared body guards e d).after
  declared_goes e d None f ext = rw (f, after_declared) (back e d.after (body guards d.after).after ext (goes guards d.after))
  declared_goes e d (Some number) f ext = rw (f, after_declared) (back e d.after d.after ext (same d.after))

  block_goes : (orders : Orders) (tasks : ResolvedCode) (e : State) (head : ResolvedHead) → StateGoesOn e (block_on body guards orders tasks e head).after
  block_goes orders tasks e (loops_at number elements backward object) = loop_goes number elements backward object (guarded_at (under guards e) object) e
  block_goes orders tasks e (views_at number view object at) = placed_goes number view object at e (guarded_at (under guards e) object)
  block_goes orders tasks e (stables_at number object) = stable_goes number object (guarded_at (under guards e) object) e
  block_goes orders tasks e (declares_at number decls) =
      let d = after_decls decls e in declared_goes e d d.spent refl (decls_extend decls e)
  block_goes orders tasks e (gathers_at number) = gathered_goes (orders e.blocks) tasks e
  block_goes orders tasks e (works_at number name locals) = same e
  block_goes orders tasks e begins_at = goes guards e
  block_goes orders tasks e tries_at = goes guards e
  block_goes orders tasks e (handles_at catches) = same e

either_goes : (e : State) (b : Bool) (x y : Outcome) → StateGoesOn e x.after → StateGoesOn e y.after → StateGoesOn e (if b then x else y).after
either_goes e true x y h k = h
either_goes e false x y h k = k

pub resolved_goes : (propagates : Bool) (orders : Orders) (code : ResolvedCode) (guards : Guards) (end : End) (e : State) →
    StateGoesOn e (resolved_behind propagates orders code guards end e).after
resolved_goes propagates orders no_statement guards end e = same e
resolved_goes propagates orders (a_command simple rest) guards None e =
    let r = passed_on propagates (commanded guards e simple) in
    one_then e r.after (resolved_behind propagates orders rest guards r.end r.after).after
    (commanded_goes guards e simple) (resolved_goes propagates orders rest guards r.end r.after)
resolved_goes propagates orders (a_command simple rest) guards (Some raised) e = resolved_goes propagates orders rest guards (Some raised) e
resolved_goes propagates orders (a_block head body rest) guards None e =
    let inner : Guards → State → Outcome = λ held. resolved_behind propagates orders body held None in
    let r = passed_on propagates (block_on inner guards orders body e head) in
    one_then e r.after (resolved_behind propagates orders rest guards r.end r.after).after
    (block_goes inner (λ held. resolved_goes propagates orders body held None) guards orders body e head)
    (resolved_goes propagates orders rest guards r.end r.after)
resolved_goes propagates orders (a_block head body rest) guards (Some raised) e =
    either_goes e (takes head raised) (resolved_behind propagates orders body guards None e) (resolved_behind propagates orders rest guards (Some raised) e)
    (resolved_goes propagates orders body guards None e) (resolved_goes propagates orders rest guards (Some raised) e)

pub exec_goes : (propagates : Bool) (orders : Orders) (code : Code) (scope : Scope) (guards : Guards) (end : End) (e : State) →
    StateGoesOn e (exec_behind propagates orders code scope guards end e).after
exec_goes propagates orders code scope guards end e =
    subst (λ (r : Outcome). StateGoesOn e r.after) (runs_resolved propagates orders code scope guards end e)
    (resolved_goes propagates orders (resolve scope code) guards end e)

pub states_go_on : StatesGoOn
states_go_on = record {
  commands = command_goes;
  resolved = resolved_goes;
  statements = exec_goes;
  guarded = under_goes;
  rested = rest_goes;
}
