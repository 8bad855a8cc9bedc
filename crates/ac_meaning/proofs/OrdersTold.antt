-- What statements come to is told by the orders of the blocks of tasks that begin in them.
use Rattle.std.proofs.Common.{◌≡◌, ◌≤◌, ◌++◌, ℕ, Bool, true, false, List, [], ◌∷◌, length, refl, ap, ◌∙◌, arith, if◌then◌else◌, Option, Some, None}
use Rattle.ac_base.specs.declared.reason.Reason.{Reason}
use Rattle.ac_base.specs.declared.reason.Reason.TheVariants.{NamesSpent}
use Rattle.ac_model.specs.Letters.{Mark, mark_at as mark_of_name}
use Rattle.ac_syntax.specs.declared.view_kind.ViewKind.{ViewKind}
use Rattle.ac_syntax.specs.declared.view_kind.ViewKind.TheVariants.{Query, Update, Reference, UpdateKey}
use Rattle.ac_rules.specs.Resolved.{ResolvedHead, loops_at, views_at, stables_at, declares_at, gathers_at, works_at, begins_at, tries_at, handles_at, ResolvedCode, no_statement, a_command, a_block}
use Rattle.ac_calls.specs.Answers.{answers_raised}
use Rattle.ac_calls.specs.Holdings.{Held, Guards, names_of, number_of, element_value}
use Rattle.ac_meaning.specs.Environment.{binds_value, State, under, object_at, guarded_at, mark_at, value_at, value_or_zero, with_name, leaving, after_decls}
use Rattle.ac_meaning.specs.Execution.{End, Outcome, ending, outcome, Orders, passed_on, unless_raised, one_line, followed, scoped, commanded, run_by, gathered, guards_of_loop, guards_of_stable, guards_of_view, in_order, turn_bound, head_reason, key_end, turns_behind, key_body, viewed, on_object, block_on, takes, resolved_behind}
use Rattle.ac_meaning.specs.TaskBlocks.{block_of, block_fits}
use Rattle.ac_meaning.specs.Laws.{Agree, OrdersTell}
use Rattle.ac_meaning.proofs.QueuesLeft.{run_blocks}
use Rattle.ac_meaning.proofs.NextRises.{Rises, decls_rise, command_rises, key_end_rises, turns_rise, unless_rises, block_rises, resolved_rises}

-- one after another
followed_same : (x y : Outcome) (f g : End → State → Outcome) → y ≡ x → g x.end x.after ≡ f x.end x.after → followed y g ≡ followed x f
followed_same x y f g p q = ap (λ r. followed r g) p ∙ ap (λ (s : Outcome). ending s.end (x.lines ++ s.lines) s.after) q

scoped_same : (e : State) (body other : State → Outcome) (start : State) → other start ≡ body start → scoped e other start ≡ scoped e body start
scoped_same e body other start p = ap (λ (r : Outcome). ending r.end r.lines (leaving (length e.bounds) r.after)) p

module _ (orders others : Orders) where
  -- what comes to the same where the orders agree on the blocks that begin in it
  abbrev Told : (body other : Guards → State → Outcome) → Type 0
  Told body other = (guards : Guards) (e : State) → Agree orders others e.blocks (body guards e).after.blocks → other guards e ≡ body guards e

  fewer : (from mid to : ℕ) → mid ≤ to → Agree orders others from to → Agree orders others from mid
  fewer from mid to h agree = λ block low high. agree block low (omega (arith, h, high))

  later : (from mid to : ℕ) → from ≤ mid → Agree orders others from to → Agree orders others mid to
  later from mid to h agree = λ block low high. agree block (omega (arith, h, low)) high

  gathered_same : (tasks : ResolvedCode) (e : State) → Agree orders others e.blocks (gathered (orders e.blocks) tasks e).after.blocks →
      gathered (others e.blocks) tasks e ≡ gathered (orders e.blocks) tasks e
  gathered_same tasks e = go (block_fits (block_of e tasks))
    where
      go : (fits : Bool) → Agree orders others e.blocks (if fits then run_by (orders e.blocks) tasks e else outcome [] e).after.blocks →
          (if fits then run_by (others e.blocks) tasks e else outcome [] e) ≡ (if fits then run_by (orders e.blocks) tasks e else outcome [] e)
      go true agree = ap (λ order. run_by order tasks e) (agree e.blocks (omega arith) (omega (arith, run_blocks (orders e.blocks) tasks e)))
      go false agree = refl

module _ (orders others : Orders) (body other : Guards → State → Outcome) (rises : (guards : Guards) (e : State) → Rises e (body guards e).after)
    (told : Told orders others body other) (guards : Guards) where
  turns_same : (elements : Bool) (object : ℕ) (h : Held) (names : List ℕ) (end : End) (e : State) →
      Agree orders others e.blocks (turns_behind body guards elements object h names end e).after.blocks →
      turns_behind other guards elements object h names end e ≡ turns_behind body guards elements object h names end e
  turns_same elements object h [] end e agree = refl
  turns_same elements object h (name ∷ names) (Some raised) e agree = refl
  turns_same elements object h (name ∷ names) None e agree =
      let held = guards_of_loop elements h ++ guards in
      let start = with_name e (turn_bound elements object (mark_of_name (number_of h) name)) in
      let first = scoped e (body held) start in
      let end = first.end in
      let all = turns_behind body guards elements object h names end first.after in
      followed_same first (scoped e (other held) start) (turns_behind body guards elements object h names)
      (turns_behind other guards elements object h names)
      (scoped_same e (body held) (other held) start
      (told held start
      (fewer orders others e.blocks first.after.blocks all.after.blocks
      (turns_rise body rises guards elements object h names end first.after).1 agree)))
      (turns_same elements object h names end first.after
      (later orders others e.blocks first.after.blocks all.after.blocks (rises held start).1 agree))

  key_same : (number object : ℕ) (at : Mark) (h : Held) (e : State) →
      Agree orders others e.blocks (key_body body guards number object at h e).after.blocks →
      key_body other guards number object at h e ≡ key_body body guards number object at h e
  key_same number object at h e agree =
      let held = guards_of_view UpdateKey h ++ guards in
      let n = length e.bounds in
      let start = with_name e (binds_value (value_or_zero (element_value h at).answer)) in
      let r = body held start in
      let left = leaving n r.after in
      let copy = value_at r.after n in
      let end = r.end in
      let all = unless_raised (key_end number object at copy held) end left in
      ap (λ (s : Outcome). followed (ending s.end s.lines (leaving n s.after))
      (unless_raised (key_end number object at (value_at s.after n) held)))
      (told held start
      (fewer orders others e.blocks r.after.blocks all.after.blocks
      (unless_rises body rises guards (key_end number object at copy held) end left
      (key_end_rises number object left at copy (object_at (under held left) object))).1 agree))

  viewed_same : (number : ℕ) (view : ViewKind) (object : ℕ) (at : Mark) (h : Held) (e : State) →
      Agree orders others e.blocks (viewed body guards number view object at h e).after.blocks →
      viewed other guards number view object at h e ≡ viewed body guards number view object at h e
  viewed_same number Query object at h e agree = let held = guards_of_view Query h ++ guards in scoped_same e (body held) (other held) _ (told held _ agree)
  viewed_same number Update object at h e agree = let held = guards_of_view Update h ++ guards in scoped_same e (body held) (other held) _ (told held _ agree)
  viewed_same number Reference object at h e agree =
      let held = guards_of_view Reference h ++ guards in scoped_same e (body held) (other held) _ (told held _ agree)
  viewed_same number UpdateKey object at h e agree = key_same number object at h e agree

  -- behind a head that may be refused
  abbrev Headed : (body : Guards → State → Outcome) (number : ℕ) (view : ViewKind) (object : ℕ) (at : Mark) (h : Held) (e : State) → Option Reason → Outcome
  Headed body number view object at h e reason =
      elim reason [ None ↦ viewed body guards number view object at h e | Some reason ↦ one_line number (answers_raised reason) e ]

  view_same : (number : ℕ) (view : ViewKind) (object : ℕ) (at : Mark) (h : Held) (e : State) (reason : Option Reason) →
      Agree orders others e.blocks (Headed body number view object at h e reason).after.blocks →
      Headed other number view object at h e reason ≡ Headed body number view object at h e reason
  view_same number view object at h e None agree = viewed_same number view object at h e agree
  view_same number view object at h e (Some reason) agree = refl

  object_same : (head : ResolvedHead) (found : Option Held) (e : State) →
      Agree orders others e.blocks (on_object body guards head found e).after.blocks → on_object other guards head found e ≡ on_object body guards head found e
  object_same head None e agree = refl
  object_same (loops_at number elements backward object) (Some h) e agree = turns_same elements object h (in_order backward (names_of h)) None e agree
  object_same (views_at number view object at) (Some h) e agree =
      view_same number view object (mark_at e at) h e (head_reason view h (mark_at e at)) agree
  object_same (stables_at number object) (Some h) e agree = told (guards_of_stable h ++ guards) e agree
  object_same (declares_at number decls) (Some h) e agree = refl
  object_same (gathers_at number) (Some h) e agree = refl
  object_same (works_at number name locals) (Some h) e agree = refl
  object_same begins_at (Some h) e agree = refl
  object_same tries_at (Some h) e agree = refl
  object_same (handles_at catches) (Some h) e agree = refl

  abbrev Begun : (body : Guards → State → Outcome) (e : State) (after : State) → Option ℕ → Outcome
  Begun body e after spent =
      elim spent [ None ↦ scoped e (body guards) after | Some number ↦ one_line number (answers_raised NamesSpent) (leaving (length e.bounds) after) ]

  declared_same : (e after : State) (spent : Option ℕ) → Rises e after → Agree orders others e.blocks (Begun body e after spent).after.blocks →
      Begun other e after spent ≡ Begun body e after spent
  declared_same e after None h agree =
      scoped_same e (body guards) (other guards) after
      (told guards after (later orders others e.blocks after.blocks (body guards after).after.blocks h.1 agree))
  declared_same e after (Some number) h agree = refl

  block_same : (tasks : ResolvedCode) (e : State) (head : ResolvedHead) →
      Agree orders others e.blocks (block_on body guards orders tasks e head).after.blocks →
      block_on other guards others tasks e head ≡ block_on body guards orders tasks e head
  block_same tasks e (loops_at number elements backward object) agree =
      object_same (loops_at number elements backward object) (guarded_at (under guards e) object) e agree
  block_same tasks e (views_at number view object at) agree = object_same (views_at number view object at) (guarded_at (under guards e) object) e agree
  block_same tasks e (stables_at number object) agree = object_same (stables_at number object) (guarded_at (under guards e) object) e agree
  block_same tasks e (declares_at number decls) agree =
      let d = after_decls decls e in declared_same e d.after d.spent (decls_rise decls e) agree
  block_same tasks e (gathers_at number) agree = gathered_same orders others tasks e agree
  block_same tasks e (works_at number name locals) agree = refl
  block_same tasks e begins_at agree = told guards e agree
  block_same tasks e tries_at agree = told guards e agree
  block_same tasks e (handles_at catches) agree = refl

either_same : (orders others : Orders) (from : ℕ) (b : Bool) (x y z w : Outcome) → Agree orders others from (if b then x else y).after.blocks →
    (Agree orders others from x.after.blocks → z ≡ x) → (Agree orders others from y.after.blocks → w ≡ y) →
    (if b then z else w) ≡ (if b then x else y)
either_same orders others from true x y z w agree h k = h agree
either_same orders others from false x y z w agree h k = k agree

pub orders_tell : OrdersTell
orders_tell propagates orders others no_statement guards end e agree = refl
orders_tell propagates orders others (a_command simple rest) guards (Some raised) e agree =
    orders_tell propagates orders others rest guards (Some raised) e agree
orders_tell propagates orders others (a_command simple rest) guards None e agree =
    let first = passed_on propagates (commanded guards e simple) in
    let end = first.end in
    let all = resolved_behind propagates orders rest guards end first.after in
    followed_same first first (resolved_behind propagates orders rest guards) (resolved_behind propagates others rest guards) refl
    (orders_tell propagates orders others rest guards end first.after
    (later orders others e.blocks first.after.blocks all.after.blocks (command_rises guards e simple).1 agree))
orders_tell propagates orders others (a_block head body rest) guards (Some raised) e agree =
    either_same orders others e.blocks (takes head raised)
    (resolved_behind propagates orders body guards None e) (resolved_behind propagates orders rest guards (Some raised) e)
    (resolved_behind propagates others body guards None e) (resolved_behind propagates others rest guards (Some raised) e) agree
    (orders_tell propagates orders others body guards None e) (orders_tell propagates orders others rest guards (Some raised) e)
orders_tell propagates orders others (a_block head body rest) guards None e agree =
    let inner : Guards → State → Outcome = λ held. resolved_behind propagates orders body held None in
    let inner_other : Guards → State → Outcome = λ held. resolved_behind propagates others body held None in
    let first = passed_on propagates (block_on inner guards orders body e head) in
    let end = first.end in
    let all = resolved_behind propagates orders rest guards end first.after in
    followed_same first (passed_on propagates (block_on inner_other guards others body e head))
    (resolved_behind propagates orders rest guards) (resolved_behind propagates others rest guards)
    (ap (passed_on propagates) (block_same orders others inner inner_other (λ held. resolved_rises propagates orders body held None)
    (λ held. orders_tell propagates orders others body held None) guards body e head
    (fewer orders others e.blocks first.after.blocks all.after.blocks (resolved_rises propagates orders rest guards end first.after).1 agree)))
    (orders_tell propagates orders others rest guards end first.after
    (later orders others e.blocks first.after.blocks all.after.blocks
    (block_rises inner (λ held. resolved_rises propagates orders body held None) guards orders body e head).1 agree))
