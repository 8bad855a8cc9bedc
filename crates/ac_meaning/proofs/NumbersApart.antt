-- Each object in scope has a number of its own.
use Rattle.std.proofs.Common.{◌≡◌, ◌==◌, ◌+◌, ◌≤◌, ◌++◌, ℕ, zero, suc, Bool, true, false, List, [], ◌∷◌, map, take, slice_get, nat_lt, refl, sym, ap, subst, ◌∙◌, arith, Option, Some, None, if◌then◌else◌}
use Rattle.std.proofs.lemmas.Bool.Decides.{nat_tests}
use Rattle.ac_base.specs.Limits.{numbers_end}
use Rattle.ac_syntax.specs.declared.type_def.TypeDef.{TypeDef}
use Rattle.ac_model.specs.Objects.{empty_object}
use Rattle.ac_model.specs.Holders.{empty_holder}
use Rattle.ac_model.specs.Queues.{empty_queue}
use Rattle.ac_syntax.specs.Kinds.{is_holder, is_queue}
use Rattle.ac_rules.specs.declared.resolved.ResolvedDecl.{ResolvedDecl}
use Rattle.ac_rules.specs.declared.resolved.ResolvedDecl.TheVariants as decl
use Rattle.ac_rules.specs.Resolved.{ResolvedSimple}
use Rattle.ac_calls.specs.Holdings.{Held, of_rows, of_holder, of_queue, Guards, number_of, have_capacity, kind_by, discipline_by, limit_by, new_held}
use Rattle.ac_meaning.specs.Environment.{Bound, binds_type, binds_object, binds_cursor, binds_value, binds_element, bound_in, object_in, State, under, with_name, leaving, number_taken, Declared, unless_spent, after_decl, after_decls}
use Rattle.ac_meaning.specs.Commands.{performed}
use Rattle.ac_meaning.specs.Execution.{exec_behind, resolved_behind}
use Rattle.ac_meaning.specs.Stays.{BoundStays, EachStays}
use Rattle.ac_meaning.specs.GuardedNames.{Frame, of_type, of_object, of_cursor, of_value, of_element, frame, kept}
use Rattle.ac_meaning.specs.Numbers.{has_number, times_numbered, NumbersDiffer, NumbersTell, NumbersGoOnDiffering}
use Rattle.ac_meaning.proofs.CallsStay.{none_some}
use Rattle.ac_meaning.proofs.BoundsStay.{object_there}
use Rattle.ac_meaning.proofs.CommandsStay.{command_stays}
use Rattle.ac_meaning.proofs.ObjectsGoOn.{held_number}
use Rattle.ac_meaning.proofs.Frames.{kept-under}
use Rattle.ac_meaning.proofs.ExecKeeps.{resolved_keeps, exec_keeps}
use Rattle.ac_meaning.proofs.NextRises.{next_rises}

-- The same number in each place

numbered_frame : ℕ → Frame → ℕ
numbered_frame number of_type = 0
numbered_frame number (of_object own rooted names has_element) = if own == number then 1 else 0
numbered_frame number of_cursor = 0
numbered_frame number of_value = 0
numbered_frame number (of_element object at) = 0

frame_numbered : (guards : Guards) (number : ℕ) (b : Bound) → has_number number b ≡ numbered_frame number (frame guards b)
unfolding numbered_frame
frame_numbered guards number binds_type = refl
frame_numbered guards number (binds_object h) = refl
frame_numbered guards number (binds_cursor mark) = refl
frame_numbered guards number (binds_value v) = refl
frame_numbered guards number (binds_element object at) = refl

all_framed : ℕ → List Frame → ℕ
all_framed number [] = 0
all_framed number (f ∷ fs) = numbered_frame number f + all_framed number fs

frames_numbered : (guards : Guards) (number : ℕ) (bs : List Bound) →
    times_numbered number bs ≡ all_framed number (map (frame guards) bs)
unfolding all_framed
frames_numbered guards number [] = refl
frames_numbered guards number (b ∷ bs) = λ i. frame_numbered guards number b i + frames_numbered guards number bs i

kept_numbered : (guards : Guards) (e now : State) (number : ℕ) → kept guards now ≡ kept guards e →
    times_numbered number now.bounds ≡ times_numbered number e.bounds
kept_numbered guards e now number h =
    frames_numbered guards number now.bounds ∙ (ap (all_framed number) h ∙ sym (frames_numbered guards number e.bounds))

-- what has the same numbers, and a next that is no lower
goes_on : (e now : State) → e.next ≤ now.next → ((number : ℕ) → times_numbered number now.bounds ≡ times_numbered number e.bounds) →
    NumbersDiffer e → NumbersDiffer now
goes_on e now rises same d = record {
  once = λ number. subst (λ n. n ≤ 1) (sym (same number)) (d.once number);
  below_next = λ number h. same number ∙ d.below_next number (omega (arith, rises, h));
}

bound_numbered : (number : ℕ) (b c : Bound) → BoundStays b c → has_number number c ≡ has_number number b
bound_numbered number binds_type binds_type s = refl
bound_numbered number (binds_object h) (binds_object k) s = ap (λ n. if n == number then 1 else 0) (held_number h k s)
bound_numbered number (binds_cursor m) (binds_cursor n) s = refl
bound_numbered number (binds_value m) (binds_value n) s = refl
bound_numbered number (binds_element p m) (binds_element q n) s = refl
bound_numbered number binds_type _ s = absurd s
bound_numbered number (binds_object h) _ s = absurd s
bound_numbered number (binds_cursor m) _ s = absurd s
bound_numbered number (binds_value m) _ s = absurd s
bound_numbered number (binds_element p m) _ s = absurd s

each_numbered : (number : ℕ) (bs cs : List Bound) → EachStays bs cs → times_numbered number cs ≡ times_numbered number bs
each_numbered number [] [] s = refl
each_numbered number [] (c ∷ cs) s = absurd s
each_numbered number (b ∷ bs) [] s = absurd s
each_numbered number (b ∷ bs) (c ∷ cs) s = λ i. bound_numbered number b c s.0 i + each_numbered number bs cs s.1 i

command_goes_on : (e : State) (simple : ResolvedSimple) → NumbersDiffer e → NumbersDiffer (performed e simple).after
command_goes_on e simple d =
    let stays = command_stays e simple in
    let after = (performed e simple).after in
    goes_on e after (omega (arith, stays.next)) (λ number. each_numbered number e.bounds after.bounds stays.bounds) d

under_goes_on : (guards : Guards) (e : State) → NumbersDiffer e → NumbersDiffer (under guards e)
under_goes_on guards e d = goes_on e (under guards e) (omega arith) (λ number. kept_numbered [] e (under guards e) number (kept-under [] guards e)) d

-- Names that come and go

with_last : (number : ℕ) (bs : List Bound) (b : Bound) → times_numbered number (bs ++ b ∷ []) ≡ times_numbered number bs + has_number number b
with_last number [] b = omega arith
with_last number (x ∷ bs) b = omega (arith, with_last number bs b)

no_number : (number : ℕ) (b : Bound) → object_in b ≡ None → has_number number b ≡ 0
no_number number binds_type e = refl
no_number number (binds_object h) e = none_some h (sym e)
no_number number (binds_cursor mark) e = refl
no_number number (binds_value v) e = refl
no_number number (binds_element object at) e = refl

named_goes_on : (e : State) (b : Bound) → object_in b ≡ None → NumbersDiffer e → NumbersDiffer (with_name e b)
named_goes_on e b none d =
    goes_on e (with_name e b) (omega arith) (λ number. with_last number e.bounds b ∙ omega (arith, no_number number b none)) d

fewer : (number count : ℕ) (bs : List Bound) → times_numbered number (take count bs) ≤ times_numbered number bs
fewer number zero bs = omega arith
fewer number (suc count) [] = omega arith
fewer number (suc count) (b ∷ bs) = omega (arith, fewer number count bs)

left_goes_on : (count : ℕ) (e : State) → NumbersDiffer e → NumbersDiffer (leaving count e)
left_goes_on count e d = record {
  once = λ number. omega (arith, fewer number count e.bounds, d.once number);
  below_next = λ number h. omega (arith, fewer number count e.bounds, d.below_next number h);
}

-- Declarations

new_number : (def : TypeDef) (number : ℕ) (capacity : Option ℕ) → number_of (new_held def number capacity) ≡ number
new_number def number capacity = go (is_holder def.kind) (is_queue def.kind)
  where
    go : (b c : Bool) →
        number_of (if b then of_holder def.first (empty_holder number (limit_by capacity))
        else if c then of_queue number (record { discipline = discipline_by def.kind; queue = empty_queue (limit_by capacity) })
        else let kind = kind_by def.kind def.first def.second def.keyed in
        of_rows kind (empty_object (have_capacity kind) number (limit_by capacity))) ≡ number
    go true c = refl
    go false true = refl
    go false false = refl

new_once : (n next number : ℕ) (b : Bool) → (next == number) ≡ b → n ≤ 1 → (next ≤ number → n ≡ 0) → n + (if b then 1 else 0) ≤ 1
new_once n next number true e once below = let p : next ≤ number = grind (arith, nat_tests) in omega (arith, below p)
new_once n next number false e once below = omega (arith, once)

new_below : (n next number : ℕ) (b : Bool) → (next == number) ≡ b → next + 1 ≤ number → (next ≤ number → n ≡ 0) → n + (if b then 1 else 0) ≡ 0
new_below n next number true e h below = absurd (grind (arith, nat_tests))
new_below n next number false e h below = omega (arith, below (omega (arith, h)))

taken_goes_on : (e : State) (h : Held) → number_of h ≡ e.next → NumbersDiffer e → NumbersDiffer (number_taken (with_name e (binds_object h)))
taken_goes_on e h is d = record {
  once = λ number.
      subst (λ n. n ≤ 1)
      (sym (with_last number e.bounds (binds_object h) ∙ ap (λ n. times_numbered number e.bounds + (if n == number then 1 else 0)) is))
      (new_once (times_numbered number e.bounds) e.next number (e.next == number) refl (d.once number) (d.below_next number));
  below_next = λ number k.
      with_last number e.bounds (binds_object h)
      ∙ (ap (λ n. times_numbered number e.bounds + (if n == number then 1 else 0)) is
      ∙ new_below (times_numbered number e.bounds) e.next number (e.next == number) refl k (d.below_next number));
}

either_goes_on : (b : Bool) (x y : Declared) → NumbersDiffer x.after → NumbersDiffer y.after → NumbersDiffer (if b then x else y).after
either_goes_on true x y h k = h
either_goes_on false x y h k = k

decl_goes_on : (e : State) (d : ResolvedDecl) → NumbersDiffer e → NumbersDiffer (after_decl e d).after
decl_goes_on e decl.TypeDecl h = named_goes_on e _ refl h
decl_goes_on e (decl.Object line def capacity) h =
    either_goes_on (nat_lt e.next numbers_end) _ _ (taken_goes_on e (new_held def e.next capacity) (new_number def e.next capacity) h) h
decl_goes_on e decl.Cursor h = named_goes_on e _ refl h
decl_goes_on e decl.Integer h = named_goes_on e _ refl h
decl_goes_on e decl.Text h = named_goes_on e _ refl h

decls_step : (others : State → Declared) (first : Declared) (spent : Option ℕ) → first.spent ≡ spent → NumbersDiffer first.after →
    ((now : State) → NumbersDiffer now → NumbersDiffer (others now).after) → NumbersDiffer (unless_spent others first).after
decls_step others first None f h k = rw f (k first.after h)
decls_step others first (Some line) f h k = rw f h

decls_go_on : (ds : List ResolvedDecl) (e : State) → NumbersDiffer e → NumbersDiffer (after_decls ds e).after
decls_go_on [] e h = h
decls_go_on (d ∷ ds) e h = let first = after_decl e d in decls_step (after_decls ds) first first.spent refl (decl_goes_on e d h) (decls_go_on ds)

pub numbers_go_on : NumbersGoOnDiffering
numbers_go_on = record {
  first = record { once = λ number. omega arith; below_next = λ number h. refl };
  decls = decls_go_on;
  commands = command_goes_on;
  resolved = λ propagates orders code guards end e d.
      goes_on e (resolved_behind propagates orders code guards end e).after (next_rises.resolved propagates orders code guards end e)
      (λ number. kept_numbered guards e (resolved_behind propagates orders code guards end e).after number (resolved_keeps propagates orders code guards end e)) d;
  statements = λ propagates orders code scope guards end e d.
      goes_on e (exec_behind propagates orders code scope guards end e).after (next_rises.statements propagates orders code scope guards end e)
      (λ number. kept_numbered guards e (exec_behind propagates orders code scope guards end e).after number (exec_keeps propagates orders code scope guards end e)) d;
  guarded = under_goes_on;
  rested = λ e d. under_goes_on [] e d;
  named = named_goes_on;
  left = left_goes_on;
}

-- A number is that of one place

pub own_number : (n : ℕ) → 1 ≤ (if n == n then 1 else 0)
own_number n = grind (arith, nat_tests)

pub is_there : (bs : List Bound) (place : ℕ) (h : Held) → object_in (bound_in (slice_get bs place)) ≡ Some h → 1 ≤ times_numbered (number_of h) bs
is_there [] place h e = none_some h e
is_there (b ∷ bs) zero h e =
    subst (λ x. 1 ≤ has_number (number_of h) x + times_numbered (number_of h) bs) (sym (object_there b h e)) (omega (arith, own_number (number_of h)))
is_there (b ∷ bs) (suc place) h e = omega (arith, is_there bs place h e)

two_places : (b : Bound) (bs : List Bound) (place : ℕ) (h k : Held) → object_in b ≡ Some h → object_in (bound_in (slice_get bs place)) ≡ Some k →
    number_of h ≡ number_of k → 2 ≤ times_numbered (number_of h) (b ∷ bs)
two_places b bs place h k e f same =
    let here : 1 ≤ has_number (number_of h) b =
    subst (λ x. 1 ≤ has_number (number_of h) x) (sym (object_there b h e)) (own_number (number_of h)) in
    let there : 1 ≤ times_numbered (number_of h) bs = subst (λ n. 1 ≤ times_numbered n bs) (sym same) (is_there bs place k f) in
    omega (arith, here, there)

one_place : (bs : List Bound) (place other : ℕ) (h k : Held) → object_in (bound_in (slice_get bs place)) ≡ Some h →
    object_in (bound_in (slice_get bs other)) ≡ Some k → number_of h ≡ number_of k → times_numbered (number_of h) bs ≤ 1 → place ≡ other
one_place [] place other h k e f same once = none_some h e
one_place (b ∷ bs) zero zero h k e f same once = refl
one_place (b ∷ bs) zero (suc other) h k e f same once = absurd (omega (arith, once, two_places b bs other h k e f same))
one_place (b ∷ bs) (suc place) zero h k e f same once =
    absurd (omega (arith, subst (λ n. times_numbered n (b ∷ bs) ≤ 1) same once, two_places b bs place k h f e (sym same)))
one_place (b ∷ bs) (suc place) (suc other) h k e f same once =
    ap suc (one_place bs place other h k e f same (omega (arith, once)))

pub numbers_tell : NumbersTell
numbers_tell e place other h k d f g same = one_place e.bounds place other h k f g same (d.once (number_of h))
