-- Guards that are held and released one after another.
use Rattle.std.proofs.Common.{◌≡◌, ◌==◌, ◌+◌, ◌-◌, ◌<◌, ℕ, zero, suc, Bool, true, false, List, [], ◌∷◌, ◌++◌, map, take, slice_get, refl, sym, ap, subst, ◌∙◌, arith, option_map, Some, None, if◌then◌else◌}
use Rattle.std.proofs.lemmas.List.{take-map}
use Rattle.std.proofs.lemmas.Option.{none-some, same_Some}
use Rattle.std.proofs.lemmas.Bool.Decides.{nat_tests}
use Rattle.ac_base.specs.declared.guard.GuardKind.{GuardKind}
use Rattle.ac_base.specs.declared.guard.GuardKind.TheVariants as guard
use Rattle.ac_base.specs.Guards.{HeldGuard, GuardCounts, count_of, one_more, one_less}
use Rattle.ac_model.specs.Objects.{Object}
use Rattle.ac_model.specs.Holders.{Holder}
use Rattle.ac_model.specs.Common.{hold_call, release_call, guards_on}
use Rattle.ac_calls.specs.Holdings.{Held, of_rows, of_holder, of_queue, takes_guards, as_object, counted_as, Guards, number_of}
use Rattle.ac_meaning.specs.Environment.{Bound, binds_type, binds_object, binds_cursor, binds_value, binds_element, bound_by, bound_in, object_in, State, objects_by, under, bound_at, object_at, leaving}
use Rattle.ac_meaning.specs.UnderGuards.{held_with, held_without}
use Rattle.ac_meaning.proofs.CountsStay.{guards_come_and_go, release_hold, objects_twice, objects_alike, bound_under}
use Rattle.ac_objects.specs.Blocks.{holding, releasing, IsHeldAt}
use Rattle.ac_objects.specs.Standing.{HeldCounts, counts_in_held, held_counts, counts_in, counts_of}

pub holding_under : (more guards : Guards) (e : State) → holding more (under guards e) ≡ under (more ++ guards) e
holding_under [] guards e = refl
holding_under (g ∷ more) guards e =
    ap (objects_by (held_with g)) (holding_under more guards e) ∙ sym (guards_come_and_go.held g (more ++ guards) e)

pub releasing_under : (more guards : Guards) (e : State) → releasing more (under (more ++ guards) e) ≡ under guards e
releasing_under [] guards e = refl
releasing_under (g ∷ more) guards e =
    ap (releasing more) (guards_come_and_go.released g (more ++ guards) e) ∙ releasing_under more guards e

-- whatever was held before
holder_back : {T : Type 0} (k : GuardKind) (b : Bool) (h : Holder T) →
    let held = counted_as h (if b then hold_call false k (as_object h) else as_object h) in
    counted_as held (if b then release_call false k (as_object held) else as_object held) ≡ h
holder_back guard.Cursors true h = let p : h.cursor_guards + 1 - 1 ≡ h.cursor_guards = omega arith in λ i. record h { cursor_guards = p i }
holder_back guard.Elements true h = let p : h.element_guards + 1 - 1 ≡ h.element_guards = omega arith in λ i. record h { element_guards = p i }
holder_back k false h = refl

held_back : (g : HeldGuard) (h : Held) → held_without g (held_with g h) ≡ h
held_back g (of_rows kind o) = ap (of_rows kind) (release_hold g o)
held_back g (of_holder e h) = ap (of_holder e) (holder_back g.kind (g.object == h.number) h)
held_back g (of_queue number q) = refl

bound_self : (b : Bound) → bound_by (λ h. h) b ≡ b
bound_self binds_type = refl
bound_self (binds_object h) = refl
bound_self (binds_cursor mark) = refl
bound_self (binds_value v) = refl
bound_self (binds_element object at) = refl

bounds_self : (bs : List Bound) → map (bound_by (λ h. h)) bs ≡ bs
bounds_self [] = refl
bounds_self (b ∷ bs) = λ i. bound_self b i ∷ bounds_self bs i

pub released_again : (more : Guards) (e : State) → releasing more (holding more e) ≡ e
released_again [] e = refl
released_again (g ∷ more) e =
    let now = holding more e in
    ap (releasing more) (
    objects_twice (held_without g) (held_with g) now
    ∙ objects_alike (λ h. held_without g (held_with g h)) (λ h. h) (held_back g) now
    ∙ (λ i. record now { bounds = bounds_self now.bounds i }))
    ∙ released_again more e

-- Counts

-- on a queue none is held
on_taking : (GuardCounts → GuardCounts) → (takes : Bool) → GuardCounts → GuardCounts
on_taking count true c = count c
on_taking count false c = c

counts_with : HeldGuard → HeldCounts → HeldCounts
counts_with g c = record {
  guards = on_taking (λ (x : GuardCounts). if g.object == x.number then one_more g.kind x else x) c.takes c.guards;
  takes = c.takes;
}

counts_without : HeldGuard → HeldCounts → HeldCounts
counts_without g c = record {
  guards = on_taking (λ (x : GuardCounts). if g.object == x.number then one_less g.kind x else x) c.takes c.guards;
  takes = c.takes;
}

taking : GuardCounts → HeldCounts
taking c = record { guards = c; takes = true }

object_with : {V : Type 0} (k : GuardKind) (b : Bool) (o : Object ℕ V) →
    guards_on (if b then hold_call false k o else o) ≡ (if b then one_more k (guards_on o) else guards_on o)
object_with guard.Cursors true o = refl
object_with guard.Elements true o = refl
object_with k false o = refl

object_without : {V : Type 0} (k : GuardKind) (b : Bool) (o : Object ℕ V) →
    guards_on (if b then release_call false k o else o) ≡ (if b then one_less k (guards_on o) else guards_on o)
object_without guard.Cursors true o = refl
object_without guard.Elements true o = refl
object_without k false o = refl

-- and of a holder

holder_with : {T : Type 0} (k : GuardKind) (b : Bool) (h : Holder T) →
    guards_on (as_object (counted_as h (if b then hold_call false k (as_object h) else as_object h)))
    ≡ (if b then one_more k (guards_on (as_object h)) else guards_on (as_object h))
holder_with guard.Cursors true h = refl
holder_with guard.Elements true h = refl
holder_with k false h = refl

holder_without : {T : Type 0} (k : GuardKind) (b : Bool) (h : Holder T) →
    guards_on (as_object (counted_as h (if b then release_call false k (as_object h) else as_object h)))
    ≡ (if b then one_less k (guards_on (as_object h)) else guards_on (as_object h))
holder_without guard.Cursors true h = refl
holder_without guard.Elements true h = refl
holder_without k false h = refl

held_with_counts : (g : HeldGuard) (h : Held) → held_counts (held_with g h) ≡ counts_with g (held_counts h)
unfolding counts_with on_taking taking
held_with_counts g (of_rows kind o) = ap taking (object_with g.kind (g.object == o.number) o)
held_with_counts g (of_holder e h) = ap taking (holder_with g.kind (g.object == h.number) h)
held_with_counts g (of_queue number q) = refl

held_without_counts : (g : HeldGuard) (h : Held) → held_counts (held_without g h) ≡ counts_without g (held_counts h)
unfolding counts_without on_taking taking
held_without_counts g (of_rows kind o) = ap taking (object_without g.kind (g.object == o.number) o)
held_without_counts g (of_holder e h) = ap taking (holder_without g.kind (g.object == h.number) h)
held_without_counts g (of_queue number q) = refl

bound_counts : (f : Held → Held) (count : HeldCounts → HeldCounts) → ((h : Held) → held_counts (f h) ≡ count (held_counts h)) →
    (b : Bound) → counts_in (bound_by f b) ≡ option_map count (counts_in b)
bound_counts f count each binds_type = refl
bound_counts f count each (binds_object h) = ap Some (each h)
bound_counts f count each (binds_cursor mark) = refl
bound_counts f count each (binds_value v) = refl
bound_counts f count each (binds_element object at) = refl

bounds_counts : (f : Held → Held) (count : HeldCounts → HeldCounts) → ((h : Held) → held_counts (f h) ≡ count (held_counts h)) →
    (bs : List Bound) → map counts_in (map (bound_by f) bs) ≡ map (option_map count) (map counts_in bs)
bounds_counts f count each [] = refl
bounds_counts f count each (b ∷ bs) = λ i. bound_counts f count each b i ∷ bounds_counts f count each bs i

-- what is held and released changes the counts by the counts alone
counts_alike : (f : Held → Held) (count : HeldCounts → HeldCounts) → ((h : Held) → held_counts (f h) ≡ count (held_counts h)) →
    (a b : State) → counts_of a ≡ counts_of b → counts_of (objects_by f a) ≡ counts_of (objects_by f b)
counts_alike f count each a b same =
    bounds_counts f count each a.bounds ∙ (ap (map (option_map count)) same ∙ sym (bounds_counts f count each b.bounds))

pub releasing_counts : (more : Guards) (a b : State) → counts_of a ≡ counts_of b → counts_of (releasing more a) ≡ counts_of (releasing more b)
releasing_counts [] a b same = same
releasing_counts (g ∷ more) a b same =
    releasing_counts more (objects_by (held_without g) a) (objects_by (held_without g) b)
    (counts_alike (held_without g) (counts_without g) (held_without_counts g) a b same)

pub leaving_counts : (count : ℕ) (e : State) → counts_of (leaving count e) ≡ take count (counts_of e)
leaving_counts count e = sym (take-map counts_in count e.bounds)

-- what was counted before so many names went, and is counted again
pub counts_back : (more : Guards) (count : ℕ) (a b : State) → take count (counts_of a) ≡ take count (counts_of b) →
    counts_of (releasing more (leaving count a)) ≡ counts_of (releasing more (leaving count b))
counts_back more count a b same =
    releasing_counts more (leaving count a) (leaving count b) (leaving_counts count a ∙ (same ∙ sym (leaving_counts count b)))

-- A guard that is held

counted_there : (bs : List Bound) (place : ℕ) (h : Held) → object_in (bound_in (slice_get bs place)) ≡ Some h →
    slice_get (map counts_in bs) place ≡ Some (Some (held_counts h))
counted_there [] place h e = absurd (none-some h e)
counted_there (binds_object k ∷ bs) zero h e = ap (λ (x : Held). Some (Some (held_counts x))) (same_Some k h e)
counted_there (binds_type ∷ bs) zero h e = absurd (none-some h e)
counted_there (binds_cursor mark ∷ bs) zero h e = absurd (none-some h e)
counted_there (binds_value v ∷ bs) zero h e = absurd (none-some h e)
counted_there (binds_element object at ∷ bs) zero h e = absurd (none-some h e)
counted_there (b ∷ bs) (suc place) h e = counted_there bs place h e

-- an object with these counts
record CountsAt (bs : List Bound) (place : ℕ) (c : HeldCounts) : Type 0 where
  held : Held
  there : object_in (bound_in (slice_get bs place)) ≡ Some held
  is : held_counts held ≡ c

found_by_counts : (bs : List Bound) (place : ℕ) (c : HeldCounts) → slice_get (map counts_in bs) place ≡ Some (Some c) → CountsAt bs place c
found_by_counts [] place c e = absurd (none-some (Some c) e)
found_by_counts (binds_object h ∷ bs) zero c e = record { held = h; there = refl; is = same_Some (held_counts h) c (same_Some (Some (held_counts h)) (Some c) e) }
found_by_counts (binds_type ∷ bs) zero c e = absurd (none-some c (same_Some None (Some c) e))
found_by_counts (binds_cursor mark ∷ bs) zero c e = absurd (none-some c (same_Some None (Some c) e))
found_by_counts (binds_value v ∷ bs) zero c e = absurd (none-some c (same_Some None (Some c) e))
found_by_counts (binds_element object at ∷ bs) zero c e = absurd (none-some c (same_Some None (Some c) e))
found_by_counts (b ∷ bs) (suc place) c e = let r = found_by_counts bs place c e in record { held = r.held; there = r.there; is = r.is }

pub within_take : {A : Type 0} (xs : List A) (place count : ℕ) → place < count → slice_get (take count xs) place ≡ slice_get xs place
within_take [] place zero h = refl
within_take [] place (suc count) h = refl
within_take (x ∷ xs) place zero h = absurd (omega (arith, h))
within_take (x ∷ xs) zero (suc count) h = refl
within_take (x ∷ xs) (suc place) (suc count) h = within_take xs place count (omega (arith, h))

number_counted : (h : Held) → (counts_in_held h).number ≡ number_of h
number_counted (of_rows kind o) = refl
number_counted (of_holder e h) = refl
number_counted (of_queue number q) = refl

-- it is, where the counts of so many names are as they were
pub held_still : (e now : State) (place count : ℕ) (g : HeldGuard) → place < count → take count (counts_of now) ≡ take count (counts_of e) →
    IsHeldAt e place g → IsHeldAt now place g
held_still e now place count g within same is =
    let c = held_counts is.held in
    let here : slice_get (counts_of now) place ≡ Some (Some c) =
    sym (within_take (counts_of now) place count within)
    ∙ (ap (λ l. slice_get l place) same
    ∙ (within_take (counts_of e) place count within ∙ counted_there e.bounds place is.held is.there)) in
    let r = found_by_counts now.bounds place c here in
    let same_guards : counts_in_held r.held ≡ counts_in_held is.held = ap (λ (x : HeldCounts). x.guards) r.is in
    record {
      held = r.held;
      there = r.there;
      own = is.own ∙ (sym (number_counted is.held) ∙ (ap (λ (x : GuardCounts). x.number) (sym same_guards) ∙ number_counted r.held));
      counted = subst (λ x. 0 < count_of g.kind x) (sym same_guards) is.counted;
    }

-- so too behind a guard that is released first
pub held_behind : (e now : State) (place count : ℕ) (first g : HeldGuard) → place < count → take count (counts_of now) ≡ take count (counts_of e) →
    IsHeldAt (objects_by (held_without first) e) place g → IsHeldAt (objects_by (held_without first) now) place g
held_behind e now place count first g within same is =
    let f = held_without first in
    let without = option_map (counts_without first) in
    let each : (s : State) → take count (counts_of (objects_by f s)) ≡ map without (take count (counts_of s)) =
    λ s. ap (take count) (bounds_counts f (counts_without first) (held_without_counts first) s.bounds) ∙ take-map without count (counts_of s) in
    held_still (objects_by f e) (objects_by f now) place count g within (each now ∙ (ap (map without) same ∙ sym (each e))) is

own_number : (n : ℕ) → (n == n) ≡ true
own_number n = grind (arith, nat_tests)

more_counted : (k : GuardKind) (c : GuardCounts) → 0 < count_of k (one_more k c)
more_counted guard.Cursors c = omega arith
more_counted guard.Elements c = omega arith

counted_once : (g : HeldGuard) (c : GuardCounts) (b : Bool) → b ≡ true → 0 < count_of g.kind (if b then one_more g.kind c else c)
counted_once g c true e = more_counted g.kind c
counted_once g c false e = absurd (cc)

taken_once : (g : HeldGuard) (c : GuardCounts) (takes : Bool) → takes ≡ true → (g.object == c.number) ≡ true →
    0 < count_of g.kind (on_taking (λ (x : GuardCounts). if g.object == x.number then one_more g.kind x else x) takes c)
unfolding on_taking
taken_once g c true e own = counted_once g c (g.object == c.number) own
taken_once g c false e own = absurd (cc)

pub number_stays : (g : HeldGuard) (h : Held) → number_of (held_with g h) ≡ number_of h
number_stays g (of_rows kind o) = go (g.object == o.number)
  where
    go : (b : Bool) → (if b then hold_call false g.kind o else o).number ≡ o.number
    go true = refl
    go false = refl
number_stays g (of_holder e h) = refl
number_stays g (of_queue number q) = refl

pub object_by_there : (f : Held → Held) (e : State) (place : ℕ) (h : Held) → object_at e place ≡ Some h → object_at (objects_by f e) place ≡ Some (f h)
object_by_there f e place h there =
    ap object_in (bound_under f e.bounds place) ∙ go (bound_at e place) there
  where
    go : (b : Bound) → object_in b ≡ Some h → object_in (bound_by f b) ≡ Some (f h)
    go binds_type is = absurd (none-some h is)
    go (binds_object k) is = ap (λ (x : Held). Some (f x)) (same_Some k h is)
    go (binds_cursor mark) is = absurd (none-some h is)
    go (binds_value v) is = absurd (none-some h is)
    go (binds_element object at) is = absurd (none-some h is)

-- from the time on when it is held
pub held_now : (g : HeldGuard) (e : State) (place : ℕ) (h : Held) → takes_guards h ≡ true → object_at e place ≡ Some h → g.object ≡ number_of h →
    IsHeldAt (objects_by (held_with g) e) place g
unfolding counts_with
held_now g e place h takes there own = record {
  held = held_with g h;
  there = object_by_there (held_with g) e place h there;
  own = own ∙ sym (number_stays g h);
  counted =
      subst (λ (x : HeldCounts). 0 < count_of g.kind x.guards) (sym (held_with_counts g h))
      (taken_once g (counts_in_held h) (takes_guards h) takes
      (ap (λ n. n == (counts_in_held h).number) (own ∙ sym (number_counted h)) ∙ own_number (counts_in_held h).number));
}
