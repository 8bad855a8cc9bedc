-- The counts of guards are those of the guards that are held.
use Rattle.std.proofs.Common.{◌≡◌, ◌==◌, ◌+◌, ◌-◌, ◌&&◌, ℕ, zero, suc, Bool, true, false, List, [], ◌∷◌, map, slice_get, slice_set, refl, sym, ap, ◌∙◌, arith, option_map, None, if◌then◌else◌}
use Rattle.std.proofs.lemmas.List.{take-map, map-append}
use Rattle.ac_base.specs.declared.guard.GuardKind.{GuardKind}
use Rattle.ac_base.specs.declared.guard.GuardKind.TheVariants as guard
use Rattle.ac_base.specs.Guards.{HeldGuard}
use Rattle.ac_model.specs.Objects.{Object}
use Rattle.ac_model.specs.Holders.{Holder}
use Rattle.ac_model.specs.Common.{hold_call, release_call, under_guards}
use Rattle.ac_calls.specs.Holdings.{Held, of_rows, of_holder, of_queue, as_object, counted_as, from_rows, Guards, is_kind, held_on, guarded, held_under}
use Rattle.ac_meaning.specs.Environment.{Bound, binds_type, binds_object, binds_cursor, binds_value, binds_element, bound_by, bound_in, object_in, State, objects_by, under, bound_at, with_name, leaving}
use Rattle.ac_meaning.specs.Commands.{performed}
use Rattle.ac_meaning.specs.Stays.{Stays, HolderStays, HeldStays, BoundStays, EachStays}
use Rattle.ac_meaning.specs.UnderGuards.{hold_on, release_on, held_with, held_without, GuardsComeAndGo, CountsAreTheGuards, PartsUnder, CommandsKeepCounts, BlocksKeepCounts}
use Rattle.ac_meaning.proofs.CallsStay.{none_some}
use Rattle.ac_meaning.proofs.CommandsStay.{command_stays}

-- A guard more

counted : {V : Type 0} (guards : Guards) (o : Object ℕ V) (b : Bool) (k : GuardKind) →
    under_guards o (record {
      number = o.number;
      cursor_guards = (if b && is_kind k guard.Cursors then 1 else 0) + held_on guards o.number guard.Cursors;
      element_guards = (if b && is_kind k guard.Elements then 1 else 0) + held_on guards o.number guard.Elements;
    })
    ≡ (if b then hold_call false k (guarded guards V o) else guarded guards V o)
counted guards o true guard.Cursors =
    let more : 1 + held_on guards o.number guard.Cursors ≡ held_on guards o.number guard.Cursors + 1 = omega arith in
    let same : 0 + held_on guards o.number guard.Elements ≡ held_on guards o.number guard.Elements = omega arith in
    λ i. record o { cursor_guards = more i; element_guards = same i }
counted guards o true guard.Elements =
    let same : 0 + held_on guards o.number guard.Cursors ≡ held_on guards o.number guard.Cursors = omega arith in
    let more : 1 + held_on guards o.number guard.Elements ≡ held_on guards o.number guard.Elements + 1 = omega arith in
    λ i. record o { cursor_guards = same i; element_guards = more i }
counted guards o false k =
    let cursors : 0 + held_on guards o.number guard.Cursors ≡ held_on guards o.number guard.Cursors = omega arith in
    let elements : 0 + held_on guards o.number guard.Elements ≡ held_on guards o.number guard.Elements = omega arith in
    λ i. record o { cursor_guards = cursors i; element_guards = elements i }

object_held : {V : Type 0} (g : HeldGuard) (guards : Guards) (o : Object ℕ V) → guarded (g ∷ guards) V o ≡ hold_on g V (guarded guards V o)
object_held g guards o = counted guards o (g.object == o.number) g.kind

held_held : (g : HeldGuard) (guards : Guards) (h : Held) → held_under (g ∷ guards) h ≡ held_with g (held_under guards h)
held_held g guards (of_rows kind o) = ap (of_rows kind) (object_held g guards o)
held_held g guards (of_holder e h) = ap (λ o. of_holder e (counted_as h o)) (object_held g guards (as_object h))
held_held g guards (of_queue number q) = refl

object_released : {V : Type 0} (k : GuardKind) (b : Bool) (o : Object ℕ V) →
    (if b then release_call false k (if b then hold_call false k o else o) else (if b then hold_call false k o else o)) ≡ o
object_released guard.Cursors true o = let p : o.cursor_guards + 1 - 1 ≡ o.cursor_guards = omega arith in λ i. record o { cursor_guards = p i }
object_released guard.Elements true o = let p : o.element_guards + 1 - 1 ≡ o.element_guards = omega arith in λ i. record o { element_guards = p i }
object_released k false o = refl

held_number : {V : Type 0} (g : HeldGuard) (b : Bool) (o : Object ℕ V) → (if b then hold_call false g.kind o else o).number ≡ o.number
held_number g true o = refl
held_number g false o = refl

pub release_hold : {V : Type 0} (g : HeldGuard) (o : Object ℕ V) → release_on g V (hold_on g V o) ≡ o
release_hold {V} g o =
    let now = hold_on g V o in
    ap (λ n. if g.object == n then release_call false g.kind now else now) (held_number g (g.object == o.number) o)
    ∙ object_released g.kind (g.object == o.number) o

held_released : (g : HeldGuard) (guards : Guards) (h : Held) → held_without g (held_under (g ∷ guards) h) ≡ held_under guards h
held_released g guards (of_rows kind o) =
    ap (of_rows kind) (ap (release_on g _) (object_held g guards o) ∙ release_hold g (guarded guards _ o))
held_released g guards (of_holder e h) =
    let o = as_object h in
    ap (λ p. of_holder e (counted_as h p)) (ap (release_on g _) (object_held g guards o) ∙ release_hold g (guarded guards _ o))
held_released g guards (of_queue number q) = refl

-- what is done to the objects is done to each alone
bound_twice : (f g : Held → Held) (b : Bound) → bound_by f (bound_by g b) ≡ bound_by (λ h. f (g h)) b
bound_twice f g binds_type = refl
bound_twice f g (binds_object h) = refl
bound_twice f g (binds_cursor mark) = refl
bound_twice f g (binds_value v) = refl
bound_twice f g (binds_element object at) = refl

bounds_twice : (f g : Held → Held) (bs : List Bound) → map (bound_by f) (map (bound_by g) bs) ≡ map (bound_by (λ h. f (g h))) bs
bounds_twice f g [] = refl
bounds_twice f g (b ∷ bs) = λ i. bound_twice f g b i ∷ bounds_twice f g bs i

pub objects_twice : (f g : Held → Held) (e : State) → objects_by f (objects_by g e) ≡ objects_by (λ h. f (g h)) e
objects_twice f g e = λ i. record e { bounds = bounds_twice f g e.bounds i }

pub objects_alike : (f g : Held → Held) → ((h : Held) → f h ≡ g h) → (e : State) → objects_by f e ≡ objects_by g e
objects_alike f g each e = λ i. objects_by (λ h. each h i) e

pub guards_come_and_go : GuardsComeAndGo
guards_come_and_go = record {
  held = λ g guards e.
      objects_alike (held_under (g ∷ guards)) (λ h. held_with g (held_under guards h)) (held_held g guards) e
      ∙ sym (objects_twice (held_with g) (held_under guards) e);
  released = λ g guards e.
      objects_twice (held_without g) (held_under (g ∷ guards)) e
      ∙ objects_alike (λ h. held_without g (held_under (g ∷ guards) h)) (held_under guards) (held_released g guards) e;
}

pub held_anew : (guards others : Guards) (h : Held) → held_under guards (held_under others h) ≡ held_under guards h
held_anew guards others (of_rows kind o) = refl
held_anew guards others (of_holder e h) = refl
held_anew guards others (of_queue number q) = refl

under_anew : (guards others : Guards) (e : State) → under guards (under others e) ≡ under guards e
under_anew guards others e =
    objects_twice (held_under guards) (held_under others) e
    ∙ objects_alike (λ h. held_under guards (held_under others h)) (held_under guards) (held_anew guards others) e

pub counts_are_the_guards : CountsAreTheGuards
counts_are_the_guards = record { anew = under_anew; rested = λ guards e. under_anew guards [] e }

-- Parts

pub bound_under : (f : Held → Held) (bs : List Bound) (place : ℕ) → bound_in (slice_get (map (bound_by f) bs) place) ≡ bound_by f (bound_in (slice_get bs place))
bound_under f [] place = refl
bound_under f (b ∷ bs) zero = refl
bound_under f (b ∷ bs) (suc place) = bound_under f bs place

object_by : (f : Held → Held) (b : Bound) → object_in (bound_by f b) ≡ option_map f (object_in b)
object_by f binds_type = refl
object_by f (binds_object h) = refl
object_by f (binds_cursor mark) = refl
object_by f (binds_value v) = refl
object_by f (binds_element object at) = refl

set_by : (f : Held → Held) (bs : List Bound) (place : ℕ) (b : Bound) →
    map (bound_by f) (slice_set bs place b) ≡ slice_set (map (bound_by f) bs) place (bound_by f b)
set_by f [] place b = refl
set_by f (x ∷ bs) zero b = refl
set_by f (x ∷ bs) (suc place) b = λ i. bound_by f x ∷ set_by f bs place b i

pub parts_under : PartsUnder
parts_under = record {
  bound = λ guards e place. bound_under (held_under guards) e.bounds place;
  object = λ guards e place. ap object_in (bound_under (held_under guards) e.bounds place) ∙ object_by (held_under guards) (bound_at e place);
  set = λ guards e place b. λ i. record e { bounds = set_by (held_under guards) e.bounds place b i };
  named = λ guards e b. λ i. record e { bounds = map-append (bound_by (held_under guards)) e.bounds (b ∷ []) i };
  left = λ guards count e. λ i. record e { bounds = sym (take-map (bound_by (held_under guards)) count e.bounds) i };
}

-- Commands

abbrev pub cursors_of : Held → ℕ
cursors_of h = from_rows (λ V o. o.cursor_guards) h

abbrev pub elements_of : Held → ℕ
elements_of h = from_rows (λ V o. o.element_guards) h

object_counts : {V : Type 0} (guards : Guards) (o after : Object ℕ V) → Stays o None after →
    (guarded guards V o).cursor_guards ≡ o.cursor_guards → (guarded guards V o).element_guards ≡ o.element_guards → guarded guards V after ≡ after
object_counts guards o after s c e =
    let cursors : held_on guards after.number guard.Cursors ≡ after.cursor_guards =
    ap (λ n. held_on guards n guard.Cursors) s.number ∙ (c ∙ sym s.cursor_guards) in
    let elements : held_on guards after.number guard.Elements ≡ after.element_guards =
    ap (λ n. held_on guards n guard.Elements) s.number ∙ (e ∙ sym s.element_guards) in
    λ i. record after { cursor_guards = cursors i; element_guards = elements i }

holder_counts : {T : Type 0} (guards : Guards) (h after : Holder T) → HolderStays h None after →
    (guarded guards T (as_object h)).cursor_guards ≡ h.cursor_guards → (guarded guards T (as_object h)).element_guards ≡ h.element_guards →
    counted_as after (guarded guards T (as_object after)) ≡ after
holder_counts guards h after s c e =
    let cursors : held_on guards after.number guard.Cursors ≡ after.cursor_guards =
    ap (λ n. held_on guards n guard.Cursors) s.number ∙ (c ∙ sym s.cursor_guards) in
    let elements : held_on guards after.number guard.Elements ≡ after.element_guards =
    ap (λ n. held_on guards n guard.Elements) s.number ∙ (e ∙ sym s.element_guards) in
    λ i. record after { cursor_guards = cursors i; element_guards = elements i }

held_counts : (guards : Guards) (h after : Held) → HeldStays h after → held_under guards h ≡ h → held_under guards after ≡ after
held_counts guards (of_rows kind o) after s e =
    ap (held_under guards) s.1 ∙ (ap (of_rows kind) (object_counts guards o s.0 s.2 (ap cursors_of e) (ap elements_of e)) ∙ sym s.1)
held_counts guards (of_holder element h) after s e =
    ap (held_under guards) s.1
    ∙ (ap (of_holder element) (holder_counts guards h s.0 s.2 (ap cursors_of e) (ap elements_of e)) ∙ sym s.1)
held_counts guards (of_queue number q) after s e = ap (held_under guards) s.1 ∙ sym s.1

held_or : Held → Bound → Held
held_or other binds_type = other
held_or other (binds_object h) = h
held_or other (binds_cursor mark) = other
held_or other (binds_value v) = other
held_or other (binds_element object at) = other

bound_counts : (guards : Guards) (b after : Bound) → BoundStays b after → bound_by (held_under guards) b ≡ b →
    bound_by (held_under guards) after ≡ after
unfolding held_or
bound_counts guards (binds_object h) (binds_object after) s e = λ i. binds_object (held_counts guards h after s (ap (held_or h) e) i)
bound_counts guards _ (binds_object after) s e = absurd s
bound_counts guards b binds_type s e = refl
bound_counts guards b (binds_cursor mark) s e = refl
bound_counts guards b (binds_value v) s e = refl
bound_counts guards b (binds_element object at) s e = refl

head_or : Bound → List Bound → Bound
head_or other [] = other
head_or other (b ∷ bs) = b

tail_of : List Bound → List Bound
tail_of [] = []
tail_of (b ∷ bs) = bs

bounds_count : (guards : Guards) (bs after : List Bound) → EachStays bs after → map (bound_by (held_under guards)) bs ≡ bs →
    map (bound_by (held_under guards)) after ≡ after
unfolding head_or tail_of
bounds_count guards [] [] s e = refl
bounds_count guards (b ∷ bs) (a ∷ after) s e =
    λ i. bound_counts guards b a s.0 (ap (head_or b) e) i ∷ bounds_count guards bs after s.1 (ap tail_of e) i
bounds_count guards [] (a ∷ after) s e = absurd s
bounds_count guards (b ∷ bs) [] s e = absurd s

pub commands_keep_counts : CommandsKeepCounts
commands_keep_counts guards e simple is =
    let after = (performed e simple).after in
    let same : under guards after ≡ after =
    λ i. record after { bounds = bounds_count guards e.bounds after.bounds (command_stays e simple).bounds (ap (λ (s : State). s.bounds) is) i } in
    record { same = same; rested = under_anew guards [] after ∙ same }

-- Blocks

unchanged : (guards : Guards) (b : Bound) → object_in b ≡ None → bound_by (held_under guards) b ≡ b
unchanged guards binds_type e = refl
unchanged guards (binds_object h) e = none_some h (sym e)
unchanged guards (binds_cursor mark) e = refl
unchanged guards (binds_value v) e = refl
unchanged guards (binds_element object at) e = refl

pub blocks_keep_counts : BlocksKeepCounts
blocks_keep_counts = record {
  named = λ guards e b is none. parts_under.named guards e b ∙ (λ i. with_name (is i) (unchanged guards b none i));
  left = λ guards count e is. parts_under.left guards count e ∙ ap (leaving count) is;
}
