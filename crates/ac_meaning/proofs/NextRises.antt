-- No number is given again, and no block of tasks counted back.
use Rattle.std.proofs.Common.{◌≡◌, ◌≤◌, ◌++◌, ℕ, Bool, true, false, List, [], ◌∷◌, length, nat_lt, refl, subst, arith, Option, Some, None, if◌then◌else◌}
use Rattle.ac_base.specs.Limits.{numbers_end}
use Rattle.ac_base.specs.declared.reason.Reason.{Reason}
use Rattle.ac_base.specs.declared.value.Value.{Value}
use Rattle.ac_base.specs.declared.value.Value.TheVariants as value
use Rattle.std.specs.Prelude.{pos}
use Rattle.ac_model.specs.Letters.{Mark, no_mark, mark_at as mark_of_name}
use Rattle.ac_syntax.specs.Code.{Code}
use Rattle.ac_syntax.specs.declared.view_kind.ViewKind.{ViewKind}
use Rattle.ac_syntax.specs.declared.view_kind.ViewKind.TheVariants.{Query, Update, Reference, UpdateKey}
use Rattle.ac_rules.specs.declared.resolved.ResolvedDecl.{ResolvedDecl}
use Rattle.ac_rules.specs.declared.resolved.ResolvedDecl.TheVariants as decl
use Rattle.ac_rules.specs.Scopes.{Scope}
use Rattle.ac_rules.specs.Resolved.{ResolvedSimple, ResolvedHead, loops_at, views_at, stables_at, declares_at, gathers_at, works_at, begins_at, tries_at, handles_at, ResolvedCode, no_statement, a_command, a_block, resolve}
use Rattle.ac_calls.specs.Holdings.{Held, Guards, names_of, number_of, element_value}
use Rattle.ac_meaning.specs.Environment.{Bound, binds_type, binds_cursor, binds_element, binds_value, State, under, object_at, guarded_at, mark_at, value_at, value_or_zero, with_name, leaving, Declared, unless_spent, after_decl, after_decls}
use Rattle.ac_meaning.specs.Execution.{End, Outcome, Orders, passed_on, unless_raised, scoped, commanded, guards_of_loop, guards_of_stable, guards_of_view, in_order, turn_bound, head_reason, key_end, key_end_on, gathered, turns_behind, key_body, viewed, view_on, on_object, after_declared, block_on, takes, exec_behind, resolved_behind}
use Rattle.ac_meaning.specs.Numbers.{NextRises, BlocksRise}
use Rattle.ac_meaning.proofs.Resolved.{runs_resolved}
use Rattle.ac_meaning.proofs.CommandsStay.{command_stays}
use Rattle.ac_meaning.proofs.QueuesLeft.{gathered_next, gathered_blocks}

-- the next number of the second is no lower, and neither is its count of blocks
abbrev pub Rises : State → State → Type 0
Rises e now = (e.next ≤ now.next) × (e.blocks ≤ now.blocks)

equal_rises : (e now : State) → now.next ≡ e.next → now.blocks ≡ e.blocks → Rises e now
equal_rises e now h k = (omega (arith, h), omega (arith, k))

rises_then : (e now later : State) → Rises e now → Rises now later → Rises e later
rises_then e now later h k = (omega (arith, h.0, k.0), omega (arith, h.1, k.1))

name_rises : (e : State) (b : Bound) → Rises e (with_name e b)
name_rises e b = equal_rises e (with_name e b) refl refl

either_rises : (e : State) (b : Bool) (x y : Declared) → Rises e x.after → Rises e y.after → Rises e (if b then x else y).after
either_rises e true x y h k = h
either_rises e false x y h k = k

decl_rises : (e : State) (d : ResolvedDecl) → Rises e (after_decl e d).after
decl_rises e decl.TypeDecl = name_rises e binds_type
decl_rises e (decl.Object line def capacity) =
    either_rises e (nat_lt e.next numbers_end) _ _ (omega arith, omega arith) (equal_rises e e refl refl)
decl_rises e decl.Cursor = name_rises e (binds_cursor no_mark)
decl_rises e decl.Integer = name_rises e (binds_value (value.Int (pos 0)))
decl_rises e decl.Text = name_rises e (binds_value (value.Text []))

decls_step : (others : State → Declared) (e : State) (first : Declared) (spent : Option ℕ) → first.spent ≡ spent → Rises e first.after →
    ((now : State) → Rises now (others now).after) → Rises e (unless_spent others first).after
decls_step others e first None f h k = rw f (rises_then e first.after (others first.after).after h (k first.after))
decls_step others e first (Some line) f h k = rw f h

pub decls_rise : (ds : List ResolvedDecl) (e : State) → Rises e (after_decls ds e).after
decls_rise [] e = equal_rises e e refl refl
decls_rise (d ∷ ds) e =
    let first = after_decl e d in decls_step (after_decls ds) e first first.spent refl (decl_rises e d) (decls_rise ds)

pub command_rises : (guards : Guards) (e : State) (simple : ResolvedSimple) → Rises e (commanded guards e simple).after
command_rises guards e simple =
    let stays = command_stays (under guards e) simple in equal_rises e (commanded guards e simple).after stays.next stays.blocks

pub key_end_rises : (number object : ℕ) (e : State) (at : Mark) (copy : Value) (found : Option Held) → Rises e (key_end_on number object e at copy found).after
key_end_rises number object e at copy None = equal_rises e e refl refl
key_end_rises number object e at copy (Some h) = equal_rises e (key_end_on number object e at copy (Some h)).after refl refl

gathered_rises : (order : List ℕ) (tasks : ResolvedCode) (e : State) → Rises e (gathered order tasks e).after
gathered_rises order tasks e =
    (omega (arith, gathered_next order tasks e), gathered_blocks order tasks e)

module _ (body : Guards → State → Outcome) (rises : (guards : Guards) (e : State) → Rises e (body guards e).after) (guards : Guards) where
  scoped_rises : (held : Guards) (e start : State) → Rises e start → Rises e (scoped e (body held) start).after
  scoped_rises held e start h = rises_then e start (body held start).after h (rises held start)

  pub turns_rise : (elements : Bool) (object : ℕ) (h : Held) (names : List ℕ) (end : End) (e : State) →
      Rises e (turns_behind body guards elements object h names end e).after
  turns_rise elements object h [] end e = equal_rises e e refl refl
  turns_rise elements object h (name ∷ names) (Some raised) e = equal_rises e e refl refl
  turns_rise elements object h (name ∷ names) None e =
      let b = turn_bound elements object (mark_of_name (number_of h) name) in
      let turn = scoped e (body (guards_of_loop elements h ++ guards)) (with_name e b) in
      let end = turn.end in
      rises_then e turn.after (turns_behind body guards elements object h names end turn.after).after
      (scoped_rises (guards_of_loop elements h ++ guards) e (with_name e b) (name_rises e b))
      (turns_rise elements object h names end turn.after)

  pub unless_rises : (next : State → Outcome) (end : End) (e : State) → Rises e (next e).after → Rises e (unless_raised next end e).after
  unless_rises next None e h = h
  unless_rises next (Some raised) e h = equal_rises e e refl refl

  key_rises : (number object : ℕ) (at : Mark) (h : Held) (e : State) → Rises e (key_body body guards number object at h e).after
  key_rises number object at h e =
      let held = guards_of_view UpdateKey h ++ guards in
      let start = with_name e (binds_value (value_or_zero (element_value h at).answer)) in
      let r = body held start in
      let left = leaving (length e.bounds) r.after in
      let copy = value_at r.after (length e.bounds) in
      let end = r.end in
      rises_then e left (unless_raised (key_end number object at copy held) end left).after (rises held start)
      (unless_rises (key_end number object at copy held) end left (key_end_rises number object left at copy (object_at (under held left) object)))

  viewed_rises : (number : ℕ) (view : ViewKind) (object : ℕ) (at : Mark) (h : Held) (e : State) →
      Rises e (viewed body guards number view object at h e).after
  viewed_rises number Query object at h e = scoped_rises (guards_of_view Query h ++ guards) e (with_name e (binds_element object at)) (name_rises e (binds_element object at))
  viewed_rises number Update object at h e = scoped_rises (guards_of_view Update h ++ guards) e (with_name e (binds_element object at)) (name_rises e (binds_element object at))
  viewed_rises number Reference object at h e = scoped_rises (guards_of_view Reference h ++ guards) e (with_name e (binds_element object at)) (name_rises e (binds_element object at))
  viewed_rises number UpdateKey object at h e = key_rises number object at h e

  view_rises : (number : ℕ) (view : ViewKind) (object : ℕ) (at : Mark) (h : Held) (e : State) (reason : Option Reason) →
      head_reason view h at ≡ reason → Rises e (view_on body guards number view object at h e).after
  view_rises number view object at h e None f = rw (f, view_on) (viewed_rises number view object at h e)
  view_rises number view object at h e (Some reason) f = rw (f, view_on) (equal_rises e e refl refl)

  object_rises : (head : ResolvedHead) (found : Option Held) (e : State) → Rises e (on_object body guards head found e).after
  object_rises head None e = equal_rises e e refl refl
  object_rises (loops_at number elements backward object) (Some h) e = turns_rise elements object h (in_order backward (names_of h)) None e
  object_rises (views_at number view object at) (Some h) e = view_rises number view object (mark_at e at) h e _ refl
  object_rises (stables_at number object) (Some h) e = rises (guards_of_stable h ++ guards) e
  object_rises (declares_at number decls) (Some h) e = equal_rises e e refl refl
  object_rises (gathers_at number) (Some h) e = equal_rises e e refl refl
  object_rises (works_at number name locals) (Some h) e = equal_rises e e refl refl
  object_rises begins_at (Some h) e = equal_rises e e refl refl
  object_rises tries_at (Some h) e = equal_rises e e refl refl
  object_rises (handles_at catches) (Some h) e = equal_rises e e refl refl

  declared_rises : (e : State) (d : Declared) (spent : Option ℕ) → d.spent ≡ spent → Rises e d.after → Rises e (after_declared body guards e d).after
  declared_rises e d None f h = rw (f, after_declared) (scoped_rises guards e d.after h)
  declared_rises e d (Some number) f h = rw (f, after_declared) h

  pub block_rises : (orders : Orders) (tasks : ResolvedCode) (e : State) (head : ResolvedHead) → Rises e (block_on body guards orders tasks e head).after
  block_rises orders tasks e (loops_at number elements backward object) = object_rises (loops_at number elements backward object) (guarded_at (under guards e) object) e
  block_rises orders tasks e (views_at number view object at) = object_rises (views_at number view object at) (guarded_at (under guards e) object) e
  block_rises orders tasks e (stables_at number object) = object_rises (stables_at number object) (guarded_at (under guards e) object) e
  block_rises orders tasks e (declares_at number decls) = declared_rises e (after_decls decls e) _ refl (decls_rise decls e)
  block_rises orders tasks e (gathers_at number) = gathered_rises (orders e.blocks) tasks e
  block_rises orders tasks e (works_at number name locals) = equal_rises e e refl refl
  block_rises orders tasks e begins_at = rises guards e
  block_rises orders tasks e tries_at = rises guards e
  block_rises orders tasks e (handles_at catches) = equal_rises e e refl refl

pub either_after : (e : State) (b : Bool) (x y : Outcome) → Rises e x.after → Rises e y.after → Rises e (if b then x else y).after
either_after e true x y h k = h
either_after e false x y h k = k

pub resolved_rises : (propagates : Bool) (orders : Orders) (code : ResolvedCode) (guards : Guards) (end : End) (e : State) →
    Rises e (resolved_behind propagates orders code guards end e).after
resolved_rises propagates orders no_statement guards end e = equal_rises e e refl refl
resolved_rises propagates orders (a_command simple rest) guards None e =
    let r = passed_on propagates (commanded guards e simple) in
    let end = r.end in
    rises_then e r.after (resolved_behind propagates orders rest guards end r.after).after (command_rises guards e simple)
    (resolved_rises propagates orders rest guards end r.after)
resolved_rises propagates orders (a_command simple rest) guards (Some raised) e = resolved_rises propagates orders rest guards (Some raised) e
resolved_rises propagates orders (a_block head body rest) guards None e =
    let inner : Guards → State → Outcome = λ held. resolved_behind propagates orders body held None in
    let r = passed_on propagates (block_on inner guards orders body e head) in
    let end = r.end in
    rises_then e r.after (resolved_behind propagates orders rest guards end r.after).after
    (block_rises inner (λ held. resolved_rises propagates orders body held None) guards orders body e head)
    (resolved_rises propagates orders rest guards end r.after)
resolved_rises propagates orders (a_block head body rest) guards (Some raised) e =
    either_after e (takes head raised) (resolved_behind propagates orders body guards None e)
    (resolved_behind propagates orders rest guards (Some raised) e)
    (resolved_rises propagates orders body guards None e) (resolved_rises propagates orders rest guards (Some raised) e)

statements_rise : (propagates : Bool) (orders : Orders) (code : Code) (scope : Scope) (guards : Guards) (end : End) (e : State) →
    Rises e (exec_behind propagates orders code scope guards end e).after
statements_rise propagates orders code scope guards end e =
    subst (λ (r : Outcome). Rises e r.after) (runs_resolved propagates orders code scope guards end e)
    (resolved_rises propagates orders (resolve scope code) guards end e)

pub decl_next : (e : State) (d : ResolvedDecl) → e.next ≤ (after_decl e d).after.next
decl_next e d = (decl_rises e d).0

pub next_rises : NextRises
next_rises = record {
  decls = λ ds e. (decls_rise ds e).0;
  resolved = λ propagates orders code guards end e. (resolved_rises propagates orders code guards end e).0;
  statements = λ propagates orders code scope guards end e. (statements_rise propagates orders code scope guards end e).0;
}

pub blocks_rise : BlocksRise
blocks_rise = record {
  resolved = λ propagates orders code guards end e. (resolved_rises propagates orders code guards end e).1;
  statements = λ propagates orders code scope guards end e. (statements_rise propagates orders code scope guards end e).1;
}
