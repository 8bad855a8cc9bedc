-- What is left to do: all of it at first, and less by each step that is done.
use Rattle.std.proofs.Common.{◌≡◌, ◌+◌, ◌<◌, ℕ, zero, suc, Bool, true, false, List, [], ◌∷◌, map, length, drop, get_or, set, Option, Some, None, refl, sym, ap, subst, ◌∙◌, arith, if◌then◌else◌}
use Rattle.std.specs.List.{sum_by, slice_get}
use Rattle.std.proofs.lemmas.List.Sums.{sum_by-cons, sum_by-set, sum_by-drop_more}
use Rattle.ac_history.specs.declared.code.TaskStep.{TaskStep}
use Rattle.ac_history.specs.declared.code.TaskCode.{TaskCode}
use Rattle.ac_history.specs.declared.entry.Entry.{Entry}
use Rattle.ac_history.specs.declared.entry.Reply.{Reply}
use Rattle.ac_history.specs.Blocks.{commands_in}
use Rattle.ac_history.specs.Histories.{over, held_up, done, is_done, is_able, outcome, outcome_of, state_after}
use Rattle.ac_history.specs.States.{State, TaskState, begun, left, one_each}
use Rattle.ac_history.specs.Steps.{step_call, advanced}

pub found_within : {X : Type 0} (xs : List X) (i : ℕ) (x : X) → slice_get xs i ≡ Some x → i < length xs
found_within [] i x e = cc
found_within (y ∷ ys) zero x e = omega arith
found_within (y ∷ ys) (suc i) x e = let more = found_within ys i x e in omega arith

pub found_at : {X : Type 0} (xs : List X) (i : ℕ) (x d : X) → slice_get xs i ≡ Some x → get_or xs i d ≡ x
found_at [] i x d e = cc
found_at (y ∷ ys) zero x d e = cc
found_at (y ∷ ys) (suc i) x d e = found_at ys i x d e

pub left_falls : (weight : TaskStep → ℕ) (tasks : List TaskState) (i : ℕ) (t : TaskState) (step : TaskStep) (answer : Reply) → slice_get tasks i ≡ Some t → slice_get t.steps t.place ≡ Some step
    → left weight (set tasks i (advanced t step answer)) + weight step ≡ left weight tasks
left_falls weight tasks i t step answer at next =
    let f = λ (u : TaskState). sum_by weight (drop u.place u.steps) in
    let first = sum_by-set f tasks i (advanced t step answer) t (found_within tasks i t at) in
    let here : get_or tasks i t ≡ t = found_at tasks i t t at in
    let more = sum_by-drop_more weight t.steps t.place step (found_within t.steps t.place step next) in
    let this : get_or t.steps t.place step ≡ step = found_at t.steps t.place step step next in
    let first' : left weight (set tasks i (advanced t step answer)) + f t ≡ left weight tasks + sum_by weight (drop (t.place + 1) t.steps) = subst (λ u. left weight (set tasks i (advanced t step answer)) + f u ≡ left weight tasks + sum_by weight (drop (t.place + 1) t.steps)) here first in
    let more' : f t ≡ weight step + sum_by weight (drop (t.place + 1) t.steps) = subst (λ u. f t ≡ weight u + sum_by weight (drop (t.place + 1) t.steps)) this more in
    omega (arith, first', more')

falls_if : (b : Bool) (s after : State) (e : Entry) → left one_each after.tasks + 1 ≡ left one_each s.tasks → is_done (if b then held_up else done e after) ≡ true → left one_each (state_after s (if b then held_up else done e after)).tasks + 1 ≡ left one_each s.tasks
falls_if true s after e falls h = cc
falls_if false s after e falls h = falls

falls_next : (s : State) (i : ℕ) (t : TaskState) (next : Option TaskStep) → slice_get s.tasks i ≡ Some t → slice_get t.steps t.place ≡ next → is_done (outcome_of s i t next) ≡ true → left one_each (state_after s (outcome_of s i t next)).tasks + 1 ≡ left one_each s.tasks
falls_next s i t None at is h = cc
falls_next s i t (Some step) at is h = falls_if (step_call step s.queues t.locals).waits s _ _ (left_falls one_each s.tasks i t step (step_call step s.queues t.locals).answer at is) h

falls_at : (s : State) (i : ℕ) (o : Option TaskState) → slice_get s.tasks i ≡ o → is_done (elim o [ None ↦ over | Some t ↦ outcome_of s i t (slice_get t.steps t.place) ]) ≡ true
    → left one_each (state_after s (elim o [ None ↦ over | Some t ↦ outcome_of s i t (slice_get t.steps t.place) ])).tasks + 1 ≡ left one_each s.tasks
falls_at s i None at h = cc
falls_at s i (Some t) at h = falls_next s i t (slice_get t.steps t.place) at refl h

-- a turn of a task that is able
pub turn_falls : (s : State) (task : ℕ) → is_able s task ≡ true → left one_each (state_after s (outcome s task)).tasks + 1 ≡ left one_each s.tasks
turn_falls s task able = falls_at s task (slice_get s.tasks task) refl able

-- at first

pub left_begun : (weight : TaskStep → ℕ) (code : List TaskCode) → left weight (map begun code) ≡ sum_by (λ (t : TaskCode). sum_by weight t.steps) code
left_begun weight [] = refl
left_begun weight (t ∷ ts) =
    sum_by-cons (λ (u : TaskState). sum_by weight (drop u.place u.steps)) (begun t) (map begun ts)
    ∙ ap (λ n. sum_by weight t.steps + n) (left_begun weight ts)
    ∙ sym (sum_by-cons (λ (u : TaskCode). sum_by weight u.steps) t ts)

ones : (steps : List TaskStep) → sum_by one_each steps ≡ length steps
ones [] = refl
ones (x ∷ xs) = let e = ones xs in omega (arith, sum_by-cons one_each x xs, e)

pub all_ones : (code : List TaskCode) → sum_by (λ (t : TaskCode). sum_by one_each t.steps) code ≡ commands_in code
all_ones [] = refl
all_ones (t ∷ ts) =
    sum_by-cons (λ (u : TaskCode). sum_by one_each u.steps) t ts
    ∙ ap (λ n. n + sum_by (λ (u : TaskCode). sum_by one_each u.steps) ts) (ones t.steps)
    ∙ ap (λ n. length t.steps + n) (all_ones ts)
    ∙ sym (sum_by-cons (λ (u : TaskCode). length u.steps) t ts)
