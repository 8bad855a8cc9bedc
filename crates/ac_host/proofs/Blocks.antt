-- What a block comes to, and what is left behind it.
use Rattle.std.proofs.Common.{◌≡◌, ◌+◌, ◌<◌, ◌≤◌, ℕ, Bool, true, false, List, [], ◌∷◌, ◌++◌, length, nat_lt, refl, sym, ap, subst, ◌∙◌, arith, Option, Some, None, Result, Ok, Err, OnOk, IfOk, IsErrAnd, is_some, true≢false, if◌then◌else◌}
use Rattle.std.proofs.lemmas.List.{length-append, length-map, map_push, take_all, take-append-le}
use Rattle.std.proofs.lemmas.Option.{slice_get_within}
use Rattle.std.proofs.lemmas.Result.{err_from_is_err_and, on_ok_weaker}
use Rattle.ac_base.specs.Guards.{HeldGuard}
use Rattle.ac_base.specs.Limits.{numbers_end}
use Rattle.ac_base.specs.Reason.{exception_of}
use Rattle.ac_base.specs.declared.guard.GuardKind.{GuardKind}
use Rattle.ac_base.specs.declared.guard.GuardKind.TheVariants as guard
use Rattle.ac_base.specs.declared.reason.Reason.{Reason}
use Rattle.ac_base.specs.declared.reason.Reason.TheVariants.{NamesSpent}
use Rattle.ac_base.specs.declared.value.Value.TheVariants as value
use Rattle.std.specs.Prelude.{pos}
use Rattle.ac_model.specs.Letters.{Mark, no_mark}
use Rattle.ac_syntax.specs.declared.view_kind.ViewKind.{ViewKind}
use Rattle.ac_syntax.specs.declared.view_kind.ViewKind.TheVariants.{Query, Update, Reference, UpdateKey}
use Rattle.ac_syntax.specs.declared.type_def.TypeDef.{TypeDef}
use Rattle.ac_rules.specs.Resolved.{ResolvedCode, ResolvedHead, loops_at, views_at, stables_at}
use Rattle.ac_rules.specs.declared.resolved.ResolvedDecl.{ResolvedDecl}
use Rattle.ac_rules.specs.declared.resolved.ResolvedDecl.TheVariants as decl
use Rattle.ac_calls.specs.Answers.{line, lines_text, answers_raised}
use Rattle.ac_calls.specs.Holdings.{Held, of_rows, of_holder, of_queue, takes_guards, Guards, names_of, new_held, held_under, guard_on}
use Rattle.ac_meaning.specs.Environment.{Bound, binds_type, binds_object, binds_cursor, binds_value, binds_element, bound_by, bound_in, object_in, mark_in, State, objects_by, under, bound_at, object_at, guarded_at, mark_at, with_name, leaving, number_taken, Declared, declared, unless_spent, after_decl, after_decls}
use Rattle.ac_meaning.specs.Execution.{End, Outcome, ending, Orders, one_line, exec_resolved, guards_of_loop, guards_of_stable, guards_of_view, head_reason, in_order, turns, turns_behind, view_on, viewed, on_object, after_declared}
use Rattle.ac_meaning.specs.GuardedNames.{of_element, frame, kept}
use Rattle.ac_meaning.specs.Numbers.{GuardsBelow}
use Rattle.ac_meaning.specs.UnderGuards.{held_with, held_without}
use Rattle.ac_meaning.proofs.BoundsStay.{object_there}
use Rattle.ac_meaning.proofs.CountsStay.{parts_under, counts_are_the_guards, bound_under}
use Rattle.ac_meaning.proofs.ExecKeeps.{resolved_keeps}
use Rattle.ac_meaning.proofs.GuardedPlaces.{guarded_is_there, guarded_takes}
use Rattle.ac_meaning.proofs.NewObjects.{new_objects_are_unguarded}
use Rattle.ac_meaning.proofs.NextRises.{next_rises}
use Rattle.ac_meaning.proofs.NumbersApart.{numbers_go_on}
use Rattle.ac_objects.specs.Blocks.{holding, releasing, IsHeldAt}
use Rattle.ac_objects.specs.Standing.{HeldCounts, TakesGuards, counts_in, counts_of}
use Rattle.ac_objects.specs.World.{World, state_of}
use Rattle.ac_host.specs.declared.end.HostEnd.{HostEnd}
use Rattle.ac_host.specs.Ready.{ElementsKept, IsUnder}
use Rattle.ac_host.specs.Running.{inside}
use Rattle.ac_host.specs.Writing.{Broke, Writes, Reached, Ran, WroteSoFar}
use Rattle.ac_host.proofs.Holding.{releasing_under, released_again, held_now, object_by_there, number_stays}
use Rattle.ac_host.proofs.Standing.{elements_longer, kept_named, bound_found, no_type_object, longer}
use Rattle.ac_host.proofs.Telling.{wrote_nothing, so_far_all}
use Rattle.ac_host.proofs.Turns.{many_kept}

-- an object that takes guards
pub record Taken (s : State) (place : ℕ) : Type 0 where
  pub held : Held
  pub there : object_at s place ≡ Some held
  pub guarded : guarded_at s place ≡ Some held
  pub takes : takes_guards held ≡ true

pub taken : (s : State) (place : ℕ) → TakesGuards s place → Taken s place
taken s place t = record {
  held = t.held;
  there = guarded_is_there s place t.held t.there;
  guarded = t.there;
  takes = guarded_takes s place t.held t.there;
}

pub there_within : (e : State) (place : ℕ) (h : Held) → object_at e place ≡ Some h → place < length e.bounds
there_within e place h there =
    slice_get_within e.bounds place (binds_object h)
    (bound_found e.bounds place (binds_object h) (object_there (bound_at e place) h there) (no_type_object h))

pub many_names : (w : World) → length (state_of w).bounds ≡ length w.bounds
many_names w = length-map w.bounds _

pub many_under : (w : World) (guards : Guards) (e : State) → IsUnder w guards e → length w.bounds ≡ length e.bounds
many_under w guards e u = sym (many_names w) ∙ (ap (λ (s : State). length s.bounds) u.is ∙ length-map e.bounds _)

-- Behind the body

module _ {K : Type 0} (held : K → Option (List ℕ)) (faults : K → ℕ) (room : K → Option ℕ) (counts : K → Bool) where
  pub ran_inside : (more guards : Guards) (count : ℕ) (a b : K) (now later : World) (r : Outcome) (result : Result End HostEnd) →
      state_of later ≡ releasing more (leaving count (state_of now)) → Ran held faults room counts a b now (more ++ guards) r result →
      Ran held faults room counts a b later guards (inside count r) result
  ran_inside more guards count a b now later r result left ran = record {
    writes = ran.writes;
    after =
        on_ok_weaker result
        (λ is.
        left
        ∙ (ap (λ s. releasing more (leaving count s)) is
        ∙ (ap (releasing more) (sym (parts_under.left (more ++ guards) count r.after)) ∙ releasing_under more guards (leaving count r.after))))
        ran.after;
    ended = ran.ended;
  }

  -- where its names have gone before
  pub ran_released : (more guards : Guards) (a b : K) (now : State) (later : World) (r : Outcome) (result : Result End HostEnd) →
      state_of later ≡ releasing more now → Reached held faults room counts a b now (more ++ guards) r result → Ran held faults room counts a b later guards r result
  ran_released more guards a b now later r result left ran = record {
    writes = ran.writes;
    after = on_ok_weaker result (λ is. left ∙ (ap (releasing more) is ∙ releasing_under more guards r.after)) ran.after;
    ended = ran.ended;
  }

  pub ran_as : (a b : K) (now : World) (guards : Guards) (r s : Outcome) (result : Result End HostEnd) → r ≡ s →
      Ran held faults room counts a b now guards r result → Ran held faults room counts a b now guards s result
  ran_as a b now guards r s result is = subst (λ x. Ran held faults room counts a b now guards x result) is

  -- a call that failed hands its end on
  pub ran_broke : (a b : K) (now : State) (guards : Guards) (r : Outcome) (end : HostEnd) (result : Result End HostEnd) → IsErrAnd result (λ y. y ≡ end) →
      Broke held faults room counts a b (lines_text r.lines) end → Reached held faults room counts a b now guards r result
  ran_broke a b now guards r end result exit broke =
      let p = err_from_is_err_and result exit in
      let is : Err end ≡ result = ap Err (sym p.2) ∙ sym p.1 in
      subst (Reached held faults room counts a b now guards r) is (record { writes = broke; after = tt; ended = tt })

  pub ran_all : (a b : K) (now : State) (guards : Guards) (end : End) (e : State) (whole : Outcome) → now ≡ under guards e →
      WroteSoFar held faults room counts a b (ending end [] e) whole → Reached held faults room counts a b now guards whole (Ok end)
  ran_all a b now guards end e whole is so_far = record {
    writes = so_far_all held faults room counts a b end e whole so_far;
    after = is ∙ ap (under guards) so_far.after;
    ended = so_far.end;
  }

  -- a block on no object, or on one that takes no guards
  pub ran_nowhere : (a : K) (now : World) (guards : Guards) (e : State) → IsUnder now guards e → (body : Guards → State → Outcome) (head : ResolvedHead) (object : ℕ) →
      guarded_at (state_of now) object ≡ None →
      Ran held faults room counts a a now guards (on_object body guards head (guarded_at (under guards e) object) e) (Ok None)
  ran_nowhere a now guards e u body head object none =
      let here : guarded_at (under guards e) object ≡ None = ap (λ s. guarded_at s object) (sym u.is) ∙ none in
      subst (λ o. Ran held faults room counts a a now guards (on_object body guards head o e) (Ok None)) (sym here)
      (record { writes = wrote_nothing held faults room counts a; after = u.is; ended = refl })

  -- a refusal that leaves this environment
  pub ran_line : (a b : K) (now : World) (guards : Guards) (number : ℕ) (reason : Reason) (e : State) (whole : Outcome) (result : Result End HostEnd) →
      one_line number (answers_raised reason) e ≡ whole → state_of now ≡ under guards e →
      Writes held faults room counts a b (lines_text (line number (answers_raised reason) ∷ [])) result →
      IfOk result (λ end. end ≡ Some (exception_of reason)) → Ran held faults room counts a b now guards whole result
  ran_line a b now guards number reason e whole result is stands writes ended =
      subst (λ (x : Outcome). Ran held faults room counts a b now guards x result) is (record { writes = writes; after = on_ok result; ended = ended })
    where
      on_ok : (r : Result End HostEnd) → OnOk r (state_of now ≡ under guards e)
      on_ok (Ok x) = stands
      on_ok (Err end) = tt

-- What is held is counted as before once it is released

many_held : (more : Guards) (s : State) → length (holding more s).bounds ≡ length s.bounds
many_held [] s = refl
many_held (g ∷ more) s = length-map (holding more s).bounds _ ∙ many_held more s

pub leaving_held : (more : Guards) (s : State) (count : ℕ) → count ≡ length s.bounds → leaving count (holding more s) ≡ holding more s
leaving_held more s count is =
    let e = holding more s in
    let all : length e.bounds ≤ count = omega (arith, many_held more s, is) in
    λ i. record e { bounds = take_all count e.bounds all i }

pub leaving_named : (more : Guards) (s : State) (b : Bound) (count : ℕ) → count ≡ length s.bounds → leaving count (with_name (holding more s) b) ≡ holding more s
leaving_named more s b count is =
    let e = holding more s in
    let all : length e.bounds ≤ count = omega (arith, many_held more s, is) in
    let within : count ≤ length e.bounds = omega (arith, many_held more s, is) in
    λ i. record e { bounds = (take-append-le count e.bounds (b ∷ []) within ∙ take_all count e.bounds all) i }

pub many_named : (more : Guards) (w now : World) (b : Bound) (count : ℕ) → count ≡ length w.bounds → state_of now ≡ with_name (holding more (state_of w)) b →
    length now.bounds ≡ count + 1
many_named more w now b count is named =
    let e = holding more (state_of w) in
    let many : length (state_of now).bounds ≡ length (e.bounds ++ b ∷ []) = ap (λ (s : State). length s.bounds) named in
    omega (arith, many, length-append e.bounds (b ∷ []), many_held more (state_of w), many_names w, many_names now, is)

-- what leaves the counts of objects leaves as many names
pub same_many : (w now : World) → counts_of (state_of now) ≡ counts_of (state_of w) → length now.bounds ≡ length w.bounds
same_many w now same =
    sym (many_names now)
    ∙ (sym (length-map (state_of now).bounds counts_in)
    ∙ (ap (λ (l : List (Option HeldCounts)). length l) same
    ∙ (length-map (state_of w).bounds counts_in ∙ many_names w)))

pub counts_before : (more : Guards) (count : ℕ) (s now : State) → leaving count now ≡ holding more s → counts_of (releasing more (leaving count now)) ≡ counts_of s
counts_before more count s now is = ap (λ x. counts_of (releasing more x)) is ∙ ap counts_of (released_again more s)

-- The guards of keys

first_of : HeldGuard → List HeldGuard → HeldGuard
first_of other [] = other
first_of other (g ∷ guards) = g

rest_of : List HeldGuard → List HeldGuard
rest_of [] = []
rest_of (g ∷ guards) = guards

pub held_named : (e : State) (b : Bound) (place : ℕ) (g : HeldGuard) → IsHeldAt e place g → IsHeldAt (with_name e b) place g
held_named e b place g is =
    let at = bound_found e.bounds place (binds_object is.held) (object_there (bound_at e place) is.held is.there) (no_type_object is.held) in
    record {
      held = is.held;
      there = ap (λ o. object_in (bound_in o)) (longer e.bounds (b ∷ []) place (binds_object is.held) at);
      own = is.own;
      counted = is.counted;
    }

one_held : (s : State) (place : ℕ) (h : Held) → takes_guards h ≡ true → (kind : GuardKind) (g : HeldGuard) → object_at s place ≡ Some h →
    g ∷ [] ≡ guard_on h kind ∷ [] → IsHeldAt (holding (guard_on h kind ∷ []) s) place g
unfolding first_of
one_held s place h takes kind g there is =
    subst (IsHeldAt (holding (guard_on h kind ∷ []) s) place) (sym (ap (first_of g) is)) (held_now (guard_on h kind) s place h takes there refl)

pub stable_held : (s : State) (place : ℕ) (h : Held) → takes_guards h ≡ true → (g : HeldGuard) → object_at s place ≡ Some h → g ∷ [] ≡ guards_of_stable h →
    IsHeldAt (holding (guards_of_stable h) s) place g
stable_held s place h takes g there is = one_held s place h takes guard.Elements g there is

view_one_held : (s : State) (place : ℕ) (kind : ViewKind) (h : Held) → takes_guards h ≡ true → (g : HeldGuard) → object_at s place ≡ Some h →
    g ∷ [] ≡ guards_of_view kind h → IsHeldAt (holding (guards_of_view kind h) s) place g
view_one_held s place Query h takes g there is = one_held s place h takes guard.Elements g there is
view_one_held s place Update h takes g there is = one_held s place h takes guard.Elements g there is
view_one_held s place Reference h takes g there is = one_held s place h takes guard.Elements g there is
view_one_held s place UpdateKey h takes g there is = one_held s place h takes guard.Cursors g there is

pub view_held : (s : State) (b : Bound) (place : ℕ) (kind : ViewKind) (h : Held) → takes_guards h ≡ true → (g : HeldGuard) → object_at s place ≡ Some h →
    g ∷ [] ≡ guards_of_view kind h → IsHeldAt (with_name (holding (guards_of_view kind h) s) b) place g
view_held s b place kind h takes g there is =
    held_named (holding (guards_of_view kind h) s) b place g (view_one_held s place kind h takes g there is)

takes_still : (g : HeldGuard) (h : Held) → takes_guards (held_with g h) ≡ takes_guards h
takes_still g (of_rows kind o) = refl
takes_still g (of_holder e h) = refl
takes_still g (of_queue number q) = refl

pub loop_cursors_held : (s : State) (place : ℕ) (elements : Bool) (h : Held) → takes_guards h ≡ true → (g : HeldGuard) (others : Guards) →
    object_at s place ≡ Some h → g ∷ others ≡ guards_of_loop elements h → IsHeldAt (holding (guards_of_loop elements h) s) place g
unfolding first_of
loop_cursors_held s place false h takes g others there is =
    subst (IsHeldAt (holding (guards_of_loop false h) s) place) (sym (ap (first_of g) is)) (held_now (guard_on h guard.Cursors) s place h takes there refl)
loop_cursors_held s place true h takes g others there is =
    let el = guard_on h guard.Elements in
    subst (IsHeldAt (holding (guards_of_loop true h) s) place) (sym (ap (first_of g) is))
    (held_now (guard_on h guard.Cursors) (objects_by (held_with el) s) place (held_with el h) (takes_still el h ∙ takes) (object_by_there (held_with el) s place h there)
    (sym (number_stays el h)))

-- a name more that holds no object is in no guard's way
pub held_beside : (f : Held → Held) (e : State) (at : Mark) (place : ℕ) (g : HeldGuard) → IsHeldAt (objects_by f e) place g →
    IsHeldAt (objects_by f (with_name e (binds_cursor at))) place g
held_beside f e at place g held =
    subst (λ s. IsHeldAt s place g)
    (λ i. record (objects_by f e) { bounds = sym (map_push (bound_by f) e.bounds (binds_cursor at)) i })
    (held_named (objects_by f e) (binds_cursor at) place g held)

no_more : (g : HeldGuard) (guards : Guards) → g ∷ guards ≡ [] → ⊥
no_more g guards e = cc

-- the element guard, when the cursor guard is released
pub loop_elements_held : (s : State) (place : ℕ) (elements : Bool) (h : Held) → takes_guards h ≡ true → (g x : HeldGuard) → object_at s place ≡ Some h →
    g ∷ x ∷ [] ≡ guards_of_loop elements h → IsHeldAt (objects_by (held_without g) (holding (guards_of_loop elements h) s)) place x
unfolding first_of rest_of
loop_elements_held s place false h takes g x there is = absurd (no_more x [] (ap rest_of is))
loop_elements_held s place true h takes g x there is =
    let cursors = guard_on h guard.Cursors in
    let elements = guard_on h guard.Elements in
    let held = objects_by (held_without cursors) (holding (guards_of_loop true h) s) in
    subst (λ y. IsHeldAt (objects_by (held_without y) (holding (guards_of_loop true h) s)) place x) (sym (ap (first_of g) is))
    (subst (IsHeldAt held place) (sym (ap (λ l. first_of x (rest_of l)) is))
    (subst (λ e. IsHeldAt e place elements) (sym (released_again (cursors ∷ []) (objects_by (held_with elements) s))) (held_now elements s place h takes there refl)))

-- What each comes to

whole_left : (e : State) (count : ℕ) → length e.bounds ≤ count → leaving count e ≡ e
whole_left e count all = λ i. record e { bounds = take_all count e.bounds all i }

many_exec : (propagates : Bool) (orders : Orders) (code : ResolvedCode) (guards : Guards) (e : State) → length (exec_resolved propagates orders code guards e).after.bounds ≡ length e.bounds
many_exec propagates orders code guards e = many_kept guards e (exec_resolved propagates orders code guards e).after (resolved_keeps propagates orders code guards None e)

pub stable_comes : (propagates : Bool) (orders : Orders) (code : ResolvedCode) (guards more : Guards) (e : State) (line object count : ℕ) (h : Held) → guarded_at (under guards e) object ≡ Some h →
    more ≡ guards_of_stable h → count ≡ length e.bounds →
    inside count (exec_resolved propagates orders code (more ++ guards) e) ≡ on_object (exec_resolved propagates orders code) guards (stables_at line object) (guarded_at (under guards e) object) e
stable_comes propagates orders code guards more e line object count h there is many =
    let held = guards_of_stable h ++ guards in
    let r = exec_resolved propagates orders code held e in
    let all : length r.after.bounds ≤ count = omega (arith, many, many_exec propagates orders code held e) in
    ap (λ m. inside count (exec_resolved propagates orders code (m ++ guards) e)) is
    ∙ (ap (λ s. ending r.end r.lines s) (whole_left r.after count all)
    ∙ ap (λ o. on_object (exec_resolved propagates orders code) guards (stables_at line object) o e) (sym there))

pub mark_under : (guards : Guards) (e : State) (at : Option ℕ) → mark_at (under guards e) at ≡ mark_at e at
mark_under guards e None = refl
mark_under guards e (Some place) = ap mark_in (bound_under (held_under guards) e.bounds place) ∙ go (bound_at e place)
  where
    go : (b : Bound) → mark_in (bound_by (held_under guards) b) ≡ mark_in b
    go binds_type = refl
    go (binds_object h) = refl
    go (binds_cursor mark) = refl
    go (binds_value v) = refl
    go (binds_element object at) = refl

viewed_comes : (body : Guards → State → Outcome) (guards : Guards) (e : State) (line object : ℕ) (kind : ViewKind) (at : Mark) (h : Held) → (kind ≡ UpdateKey → ⊥) →
    viewed body guards line kind object at h e ≡ inside (length e.bounds) (body (guards_of_view kind h ++ guards) (with_name e (binds_element object at)))
viewed_comes body guards e line object Query at h other = refl
viewed_comes body guards e line object Update at h other = refl
viewed_comes body guards e line object Reference at h other = refl
viewed_comes body guards e line object UpdateKey at h other = absurd (other refl)

view_on_comes : (body : Guards → State → Outcome) (guards : Guards) (e : State) (line object : ℕ) (kind : ViewKind) (at : Mark) (h : Held) → (kind ≡ UpdateKey → ⊥) →
    head_reason kind h at ≡ None →
    view_on body guards line kind object at h e ≡ inside (length e.bounds) (body (guards_of_view kind h ++ guards) (with_name e (binds_element object at)))
view_on_comes body guards e line object kind at h other none = rw (none, view_on) (viewed_comes body guards e line object kind at h other)

pub view_comes : (propagates : Bool) (orders : Orders) (code : ResolvedCode) (guards more : Guards) (e : State) (line object count : ℕ) (kind : ViewKind) (at : Option ℕ) (mark : Mark) (h : Held) →
    (kind ≡ UpdateKey → ⊥) → guarded_at (under guards e) object ≡ Some h → more ≡ guards_of_view kind h → count ≡ length e.bounds → mark ≡ mark_at e at → head_reason kind h mark ≡ None →
    inside count (exec_resolved propagates orders code (more ++ guards) (with_name e (binds_element object mark)))
    ≡ on_object (exec_resolved propagates orders code) guards (views_at line kind object at) (guarded_at (under guards e) object) e
view_comes propagates orders code guards more e line object count kind at mark h other there is many mark_is none =
    ap (λ m. inside count (exec_resolved propagates orders code (m ++ guards) (with_name e (binds_element object mark)))) is
    ∙ (ap (λ n. inside n (exec_resolved propagates orders code (guards_of_view kind h ++ guards) (with_name e (binds_element object mark)))) many
    ∙ (sym (view_on_comes (exec_resolved propagates orders code) guards e line object kind mark h other none)
    ∙ (ap (λ m. view_on (exec_resolved propagates orders code) guards line kind object m h e) mark_is
    ∙ ap (λ o. on_object (exec_resolved propagates orders code) guards (views_at line kind object at) o e) (sym there))))

refused_on : (body : Guards → State → Outcome) (guards : Guards) (e : State) (line object : ℕ) (kind : ViewKind) (at : Mark) (h : Held) (reason : Reason) →
    head_reason kind h at ≡ Some reason → view_on body guards line kind object at h e ≡ one_line line (answers_raised reason) e
refused_on body guards e line object kind at h reason some = rw (some, view_on) refl

pub view_refused : (propagates : Bool) (orders : Orders) (code : ResolvedCode) (guards : Guards) (e : State) (line object : ℕ) (kind : ViewKind) (at : Option ℕ) (mark : Mark) (h : Held) (reason : Reason) →
    guarded_at (under guards e) object ≡ Some h → mark ≡ mark_at e at → head_reason kind h mark ≡ Some reason →
    one_line line (answers_raised reason) e ≡ on_object (exec_resolved propagates orders code) guards (views_at line kind object at) (guarded_at (under guards e) object) e
view_refused propagates orders code guards e line object kind at mark h reason there mark_is some =
    sym (refused_on (exec_resolved propagates orders code) guards e line object kind mark h reason some)
    ∙ (ap (λ m. view_on (exec_resolved propagates orders code) guards line kind object m h e) mark_is
    ∙ ap (λ o. on_object (exec_resolved propagates orders code) guards (views_at line kind object at) o e) (sym there))

-- whose names have gone with its last turn
pub loop_comes : (propagates : Bool) (orders : Orders) (code : ResolvedCode) (guards : Guards) (e : State) (line : ℕ) (elements backward : Bool) (object place : ℕ) (h : Held) →
    guarded_at (under guards e) object ≡ Some h → place ≡ object →
    turns (exec_resolved propagates orders code) guards elements place h (in_order backward (names_of h)) e
    ≡ on_object (exec_resolved propagates orders code) guards (loops_at line elements backward object) (guarded_at (under guards e) object) e
loop_comes propagates orders code guards e line elements backward object place h there is =
    ap (λ p. turns (exec_resolved propagates orders code) guards elements p h (in_order backward (names_of h)) e) is
    ∙ ap (λ o. on_object (exec_resolved propagates orders code) guards (loops_at line elements backward object) o e) (sym there)

-- behind a turn that raises none follows
pub turns_behind_none : (body : Guards → State → Outcome) (guards : Guards) (elements : Bool) (object : ℕ) (h : Held) (names : List ℕ) (end : End) (e : State) →
    is_some end ≡ true → turns_behind body guards elements object h names end e ≡ ending end [] e
turns_behind_none body guards elements object h [] end e some = refl
turns_behind_none body guards elements object h (name ∷ names) None e some = absurd (true≢false (sym some))
turns_behind_none body guards elements object h (name ∷ names) (Some raised) e some = refl

-- Declarations

named_alike : (guards : Guards) (a b : State) (x : Bound) → under guards a ≡ under guards b → under guards (with_name a x) ≡ under guards (with_name b x)
named_alike guards a b x h = parts_under.named guards a x ∙ (ap (λ s. with_name s (bound_by (held_under guards) x)) h ∙ sym (parts_under.named guards b x))

record DeclaredAlike (guards : Guards) (x y : Declared) : Type 0 where
  after : under guards x.after ≡ under guards y.after
  spent : x.spent ≡ y.spent

object_by_number : ℕ → TypeDef → Option ℕ → State → ℕ → Declared
object_by_number line def capacity e m =
    if nat_lt m numbers_end then declared (number_taken (with_name e (binds_object (new_held def m capacity)))) else record { after = e; spent = Some line }

either_alike : (guards : Guards) (t : Bool) (x y u v : Declared) → DeclaredAlike guards x y → DeclaredAlike guards u v →
    DeclaredAlike guards (if t then x else u) (if t then y else v)
either_alike guards true x y u v h k = h
either_alike guards false x y u v h k = k

object_alike : (guards : Guards) (line : ℕ) (def : TypeDef) (capacity : Option ℕ) (a b : State) (m : ℕ) → under guards a ≡ under guards b →
    DeclaredAlike guards (object_by_number line def capacity a m) (object_by_number line def capacity b m)
unfolding object_by_number
object_alike guards line def capacity a b m h =
    either_alike guards (nat_lt m numbers_end) _ _ _ _
    (record { after = ap number_taken (named_alike guards a b (binds_object (new_held def m capacity)) h); spent = refl })
    (record { after = h; spent = refl })

decl_alike : (guards : Guards) (a b : State) (d : ResolvedDecl) → under guards a ≡ under guards b → DeclaredAlike guards (after_decl a d) (after_decl b d)
unfolding object_by_number
decl_alike guards a b decl.TypeDecl h = record { after = named_alike guards a b binds_type h; spent = refl }
decl_alike guards a b (decl.Object line def capacity) h =
    let n : a.next ≡ b.next = ap (λ (s : State). s.next) h in
    subst (λ m. DeclaredAlike guards (object_by_number line def capacity a a.next) (object_by_number line def capacity b m)) n
    (object_alike guards line def capacity a b a.next h)
decl_alike guards a b decl.Cursor h = record { after = named_alike guards a b (binds_cursor no_mark) h; spent = refl }
decl_alike guards a b decl.Integer h = record { after = named_alike guards a b (binds_value (value.Int (pos 0))) h; spent = refl }
decl_alike guards a b decl.Text h = record { after = named_alike guards a b (binds_value (value.Text [])) h; spent = refl }

alike_step : (guards : Guards) (others : State → Declared) (x y : Declared) (s : Option ℕ) → x.spent ≡ s → y.spent ≡ s → under guards x.after ≡ under guards y.after →
    ((p q : State) → under guards p ≡ under guards q → DeclaredAlike guards (others p) (others q)) →
    DeclaredAlike guards (unless_spent others x) (unless_spent others y)
alike_step guards others x y None f g h rest = rw (f, g, unless_spent) (rest x.after y.after h)
alike_step guards others x y (Some line) f g h rest = rw (f, g, unless_spent) (record { after = h; spent = f ∙ sym g })

decls_alike : (guards : Guards) (ds : List ResolvedDecl) (a b : State) → under guards a ≡ under guards b → DeclaredAlike guards (after_decls ds a) (after_decls ds b)
decls_alike guards [] a b h = record { after = h; spent = refl }
decls_alike guards (d ∷ ds) a b h =
    let one = decl_alike guards a b d h in
    alike_step guards (after_decls ds) (after_decl a d) (after_decl b d) (after_decl b d).spent one.spent refl one.after (decls_alike guards ds)

pub decls_spent : (guards : Guards) (ds : List ResolvedDecl) (e : State) → (after_decls ds (under guards e)).spent ≡ (after_decls ds e).spent
decls_spent guards ds e = (decls_alike guards ds (under guards e) e (counts_are_the_guards.anew guards guards e)).spent

-- a new object has no guard
pub decls_after : (guards : Guards) (ds : List ResolvedDecl) (e : State) → GuardsBelow guards e →
    (after_decls ds (under guards e)).after ≡ under guards (after_decls ds e).after
decls_after guards ds e below =
    let again = counts_are_the_guards.anew guards guards e in
    let now = under guards e in
    sym (new_objects_are_unguarded.decls guards ds now again (new_objects_are_unguarded.later guards e now (omega arith) below))
    ∙ (decls_alike guards ds now e again).after

no_element : (guards : Guards) (e : State) (b : Bound) → ((object : ℕ) (at : Mark) → frame guards b ≡ of_element object at → ⊥) → ElementsKept guards (kept guards e) →
    ElementsKept guards (kept guards (with_name e b))
no_element guards e b none all =
    subst (ElementsKept guards) (sym (kept_named guards e b)) (elements_longer guards (kept guards e) (frame guards b) all (λ object at f. absurd (none object at f)))

either_kept : (guards : Guards) (t : Bool) (x y : Declared) → ElementsKept guards (kept guards x.after) → ElementsKept guards (kept guards y.after) →
    ElementsKept guards (kept guards (if t then x else y).after)
either_kept guards true x y h k = h
either_kept guards false x y h k = k

decl_kept : (guards : Guards) (e : State) (d : ResolvedDecl) → ElementsKept guards (kept guards e) → ElementsKept guards (kept guards (after_decl e d).after)
decl_kept guards e decl.TypeDecl all = no_element guards e binds_type (λ object at f. cc) all
decl_kept guards e (decl.Object line def capacity) all =
    either_kept guards (nat_lt e.next numbers_end) _ _ (no_element guards e (binds_object (new_held def e.next capacity)) (λ object at f. cc) all) all
decl_kept guards e decl.Cursor all = no_element guards e (binds_cursor no_mark) (λ object at f. cc) all
decl_kept guards e decl.Integer all = no_element guards e (binds_value (value.Int (pos 0))) (λ object at f. cc) all
decl_kept guards e decl.Text all = no_element guards e (binds_value (value.Text [])) (λ object at f. cc) all

kept_step : (guards : Guards) (others : State → Declared) (x : Declared) (s : Option ℕ) → x.spent ≡ s → ElementsKept guards (kept guards x.after) →
    ((p : State) → ElementsKept guards (kept guards p) → ElementsKept guards (kept guards (others p).after)) →
    ElementsKept guards (kept guards (unless_spent others x).after)
kept_step guards others x None f h rest = rw (f, unless_spent) (rest x.after h)
kept_step guards others x (Some line) f h rest = rw (f, unless_spent) h

pub decls_kept : (guards : Guards) (ds : List ResolvedDecl) (e : State) → ElementsKept guards (kept guards e) → ElementsKept guards (kept guards (after_decls ds e).after)
decls_kept guards [] e all = all
decls_kept guards (d ∷ ds) e all =
    let x = after_decl e d in kept_step guards (after_decls ds) x x.spent refl (decl_kept guards e d all) (decls_kept guards ds)

pub decls_begin : (w now : World) (guards : Guards) (e : State) (ds : List ResolvedDecl) → IsUnder w guards e →
    state_of now ≡ (after_decls ds (state_of w)).after → IsUnder now guards (after_decls ds e).after
decls_begin w now guards e ds u is =
    let after = (after_decls ds e).after in
    record {
      is = is ∙ (ap (λ s. (after_decls ds s).after) u.is ∙ decls_after guards ds e u.ready.below);
      ready = record {
        below = new_objects_are_unguarded.later guards e after (next_rises.decls ds e) u.ready.below;
        differ = numbers_go_on.decls ds e u.ready.differ;
        elements = decls_kept guards ds e u.ready.elements;
      };
    }

declared_on : (body : Guards → State → Outcome) (guards : Guards) (e : State) (d : Declared) → d.spent ≡ None → inside (length e.bounds) (body guards d.after) ≡ after_declared body guards e d
declared_on body guards e d none = rw (none, after_declared) refl

pub declare_comes : (body : Guards → State → Outcome) (w : World) (guards : Guards) (e : State) (ds : List ResolvedDecl) (count : ℕ) → IsUnder w guards e →
    (after_decls ds (state_of w)).spent ≡ None → count ≡ length w.bounds →
    inside count (body guards (after_decls ds e).after) ≡ after_declared body guards e (after_decls ds e)
declare_comes body w guards e ds count u none many =
    let d = after_decls ds e in
    let not_spent : d.spent ≡ None = sym (decls_spent guards ds e) ∙ (ap (λ s. (after_decls ds s).spent) (sym u.is) ∙ none) in
    ap (λ n. inside n (body guards d.after)) (many ∙ many_under w guards e u) ∙ declared_on body guards e d not_spent

spent_on : (body : Guards → State → Outcome) (guards : Guards) (e : State) (d : Declared) (line : ℕ) → d.spent ≡ Some line →
    one_line line (answers_raised NamesSpent) (leaving (length e.bounds) d.after) ≡ after_declared body guards e d
spent_on body guards e d line some = rw (some, after_declared) refl

pub declare_spent : (body : Guards → State → Outcome) (w : World) (guards : Guards) (e : State) (ds : List ResolvedDecl) (line : ℕ) → IsUnder w guards e →
    (after_decls ds (state_of w)).spent ≡ Some line →
    one_line line (answers_raised NamesSpent) (leaving (length e.bounds) (after_decls ds e).after) ≡ after_declared body guards e (after_decls ds e)
declare_spent body w guards e ds line u some =
    spent_on body guards e (after_decls ds e) line (sym (decls_spent guards ds e) ∙ (ap (λ s. (after_decls ds s).spent) (sym u.is) ∙ some))

pub declare_back : (w now : World) (guards : Guards) (e : State) (ds : List ResolvedDecl) → IsUnder w guards e →
    state_of now ≡ leaving (length w.bounds) (after_decls ds (state_of w)).after → state_of now ≡ under guards (leaving (length e.bounds) (after_decls ds e).after)
declare_back w now guards e ds u is =
    is
    ∙ (ap (λ n. leaving n (after_decls ds (state_of w)).after) (many_under w guards e u)
    ∙ (ap (leaving (length e.bounds)) (ap (λ s. (after_decls ds s).after) u.is ∙ decls_after guards ds e u.ready.below)
    ∙ sym (parts_under.left guards (length e.bounds) (after_decls ds e).after)))

-- Loops

pub inner_by : {a b place count : ℕ} → a ≡ place → b ≡ count → place < count → a < b
inner_by p q h = omega (arith, p, q, h)

pub loop_left : (now later : State) (more held : Guards) (count names : ℕ) → later ≡ releasing more (leaving count now) → more ≡ held → count ≡ names →
    later ≡ releasing held (leaving names now)
loop_left now later more held count names left same many =
    left ∙ (ap (λ m. releasing m (leaving count now)) same ∙ ap (λ n. releasing held (leaving n now)) many)
