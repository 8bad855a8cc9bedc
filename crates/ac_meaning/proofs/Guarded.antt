-- What a command keeps of the objects that are guarded.
use Rattle.std.proofs.Common.{◌≡◌, ◌==◌, ◌||◌, ◌&&◌, ◌+◌, ◌<◌, ℕ, Bool, true, false, not, List, [], ◌∷◌, map, refl, sym, ap, ◌∙◌, arith, nat_lt, Some, None, if◌then◌else◌}
use Rattle.std.specs.Prelude.{is_none}
use Rattle.ac_base.specs.declared.reason.Reason.{Reason}
use Rattle.ac_base.specs.declared.reason.Reason.TheVariants.{CursorTampering, ElementTampering}
use Rattle.ac_base.specs.declared.guard.GuardKind.{GuardKind}
use Rattle.ac_base.specs.declared.guard.GuardKind.TheVariants as guard
use Rattle.ac_base.specs.declared.guard.Class.TheVariants as class
use Rattle.ac_base.specs.Guards.{HeldGuard}
use Rattle.ac_base.specs.Tampering.{forbids}
use Rattle.ac_base.specs.Rows.{names}
use Rattle.ac_model.specs.Objects.{Object}
use Rattle.ac_model.specs.Holders.{Holder}
use Rattle.ac_model.specs.Letters.{tampers_cursors}
use Rattle.ac_rules.specs.Resolved.{ResolvedSimple}
use Rattle.ac_calls.specs.Holdings.{Held, of_rows, of_holder, of_queue, have_root, Guards, is_on, is_kind, held_on, held_under}
use Rattle.ac_meaning.specs.Environment.{Bound, binds_type, binds_object, binds_cursor, binds_value, binds_element, bound_by, State, under}
use Rattle.ac_meaning.specs.Commands.{performed}
use Rattle.ac_meaning.specs.Execution.{commanded}
use Rattle.ac_meaning.specs.Stays.{Stays, HolderStays, HeldStays, BoundStays, EachStays}
use Rattle.ac_meaning.specs.GuardedNames.{is_guarded, is_element_guarded, of_object, names_if, frame, kept}
use Rattle.ac_meaning.proofs.CommandsStay.{command_stays}
use Rattle.ac_meaning.proofs.CountsStay.{cursors_of, elements_of, held_anew}
use Rattle.ac_meaning.proofs.Frames.{kept-under, kept-at_rest}

-- an object with a guard is forbidden to change its names
pub record Forbidden (cursor_guards element_guards : ℕ) : Type 0 where
  pub reason : Reason
  pub is : forbids class.Cursors cursor_guards element_guards ≡ Some reason

some_forbid : (c e : ℕ) → 0 < c + e → Forbidden c e
some_forbid c e h = go (nat_lt 0 c) refl (nat_lt 0 e) refl
  where
    go : (s : Bool) → nat_lt 0 c ≡ s → (t : Bool) → nat_lt 0 e ≡ t → Forbidden c e
    go true p t q = record { reason = CursorTampering; is = rw p }
    go false p true q = record { reason = ElementTampering; is = rw (p, q) }
    go false p false q = absurd (grind (arith))

on_some : (b : Bool) (k : GuardKind) → b ≡ true →
    0 < (if b && is_kind k guard.Cursors then 1 else 0) + (if b && is_kind k guard.Elements then 1 else 0)
on_some true guard.Cursors e = omega arith
on_some true guard.Elements e = omega arith
on_some false k e = cc

held_step : (g : HeldGuard) (guards : Guards) (n : ℕ) (b : Bool) → (g.object == n) ≡ b → (b || is_guarded guards n) ≡ true →
    (is_guarded guards n ≡ true → 0 < held_on guards n guard.Cursors + held_on guards n guard.Elements) →
    0 < ((if (g.object == n) && is_kind g.kind guard.Cursors then 1 else 0) + held_on guards n guard.Cursors)
    + ((if (g.object == n) && is_kind g.kind guard.Elements then 1 else 0) + held_on guards n guard.Elements)
held_step g guards n true e k rest = omega (arith, on_some (g.object == n) g.kind e)
held_step g guards n false e k rest = omega (arith, rest k)

pub held_some : (guards : Guards) (n : ℕ) → is_guarded guards n ≡ true → 0 < held_on guards n guard.Cursors + held_on guards n guard.Elements
held_some [] n h = cc
held_some (g ∷ guards) n h = held_step g guards n (g.object == n) refl h (held_some guards n)

-- so it is of an object as its guards make it, where one is held on it
pub guarded_forbids : {V : Type 0} (guards : Guards) (o : Object ℕ V) → held_on guards o.number guard.Cursors ≡ o.cursor_guards →
    held_on guards o.number guard.Elements ≡ o.element_guards → is_guarded guards o.number ≡ true → Forbidden o.cursor_guards o.element_guards
guarded_forbids guards o c e f =
    let forbidden = some_forbid _ _ (held_some guards o.number f) in
    let is : tampers_cursors o ≡ Some forbidden.reason =
    ap (λ n. forbids class.Cursors n o.element_guards) (sym c)
    ∙ (ap (λ n. forbids class.Cursors (held_on guards o.number guard.Cursors) n) (sym e) ∙ forbidden.is) in
    record { reason = forbidden.reason; is = is }

-- which then keeps its names
object_names : {V : Type 0} (guards : Guards) (o after : Object ℕ V) → held_on guards o.number guard.Cursors ≡ o.cursor_guards →
    held_on guards o.number guard.Elements ≡ o.element_guards → Stays o None after →
    names_if (is_guarded guards after.number) (names after.rows) ≡ names_if (is_guarded guards o.number) (names o.rows)
object_names guards o after c e stays =
    ap (λ n. names_if (is_guarded guards n) (names after.rows)) stays.number ∙ go (is_guarded guards o.number) refl
  where
    go : (b : Bool) → is_guarded guards o.number ≡ b → names_if b (names after.rows) ≡ names_if b (names o.rows)
    go false f = refl
    go true f = let forbidden = guarded_forbids guards o c e f in stays.names refl forbidden.reason forbidden.is

-- and a holder keeps that it has an element, under an element guard
counted_element : (g : HeldGuard) (guards : Guards) (n : ℕ) (b : Bool) → is_on g n guard.Elements ≡ b → (b || is_element_guarded guards n) ≡ true →
    (is_element_guarded guards n ≡ true → 0 < held_on guards n guard.Elements) →
    0 < (if b then 1 else 0) + held_on guards n guard.Elements
counted_element g guards n true e k rest = omega arith
counted_element g guards n false e k rest = omega (arith, rest k)

element_some : (guards : Guards) (n : ℕ) → is_element_guarded guards n ≡ true → 0 < held_on guards n guard.Elements
element_some [] n h = cc
element_some (g ∷ guards) n h = counted_element g guards n (is_on g n guard.Elements) refl h (element_some guards n)

element_forbids : (c e : ℕ) → 0 < e → forbids class.Elements c e ≡ Some ElementTampering
element_forbids c e h = go (nat_lt 0 e) refl
  where
    go : (b : Bool) → nat_lt 0 e ≡ b → forbids class.Elements c e ≡ Some ElementTampering
    go true p = rw p refl
    go false p = absurd (grind (arith))

element_stays : {T : Type 0} (guards : Guards) (h now : Holder T) → held_on guards h.number guard.Elements ≡ h.element_guards →
    HolderStays h None now →
    (not (is_none now.element) && is_element_guarded guards now.number) ≡ (not (is_none h.element) && is_element_guarded guards h.number)
element_stays guards h now e stays =
    ap (λ n. not (is_none now.element) && is_element_guarded guards n) stays.number ∙ go (is_element_guarded guards h.number) refl
  where
    none_has : (a b : Bool) → (a && false) ≡ (b && false)
    none_has true true = refl
    none_has true false = refl
    none_has false true = refl
    none_has false false = refl

    go : (b : Bool) → is_element_guarded guards h.number ≡ b → (not (is_none now.element) && b) ≡ (not (is_none h.element) && b)
    go true f =
        let tampers : forbids class.Elements h.cursor_guards h.element_guards ≡ Some ElementTampering =
        ap (λ n. forbids class.Elements h.cursor_guards n) (sym e) ∙ element_forbids h.cursor_guards _ (element_some guards h.number f) in
        ap (λ t. not t && true) (stays.element refl ElementTampering tampers)
    go false f = none_has (not (is_none now.element)) (not (is_none h.element))

no_names : (b : Bool) → names_if b [] ≡ []
no_names true = refl
no_names false = refl

held_frame : (guards : Guards) (h after : Held) → HeldStays h after → held_under guards h ≡ h →
    frame guards (binds_object after) ≡ frame guards (binds_object h)
held_frame guards (of_rows kind o) after s e =
    let m = object_names guards o s.0 (ap cursors_of e) (ap elements_of e) s.2 in
    ap (λ x. frame guards (binds_object x)) s.1 ∙ (λ i. of_object (s.2.number i) (have_root kind) (m i) false)
held_frame guards (of_holder element h) after s e =
    let none : names_if (is_guarded guards s.0.number) [] ≡ names_if (is_guarded guards h.number) [] =
    no_names (is_guarded guards s.0.number) ∙ sym (no_names (is_guarded guards h.number)) in
    let has = element_stays guards h s.0 (ap elements_of e) s.2 in
    ap (λ x. frame guards (binds_object x)) s.1 ∙ (λ i. of_object (s.2.number i) false (none i) (has i))
held_frame guards (of_queue number q) after s e = ap (λ x. frame guards (binds_object x)) s.1

bound_frame : (guards : Guards) (b after : Bound) → BoundStays (bound_by (held_under guards) b) after →
    frame guards after ≡ frame guards (bound_by (held_under guards) b)
bound_frame guards binds_type binds_type s = refl
bound_frame guards (binds_object h) (binds_object after) s = held_frame guards (held_under guards h) after s (held_anew guards guards h)
bound_frame guards (binds_cursor m) (binds_cursor n) s = refl
bound_frame guards (binds_value v) (binds_value w) s = refl
bound_frame guards (binds_element p m) (binds_element q n) s =
    λ i. frame guards (binds_element (s.0 i) (s.1 i))
bound_frame guards binds_type _ s = absurd s
bound_frame guards (binds_object h) _ s = absurd s
bound_frame guards (binds_cursor m) _ s = absurd s
bound_frame guards (binds_value v) _ s = absurd s
bound_frame guards (binds_element p m) _ s = absurd s

frames_stay : (guards : Guards) (bs after : List Bound) → EachStays (map (bound_by (held_under guards)) bs) after →
    map (frame guards) after ≡ map (frame guards) (map (bound_by (held_under guards)) bs)
frames_stay guards [] [] s = refl
frames_stay guards [] (a ∷ after) s = absurd s
frames_stay guards (b ∷ bs) [] s = absurd s
frames_stay guards (b ∷ bs) (a ∷ after) s = λ i. bound_frame guards b a s.0 i ∷ frames_stay guards bs after s.1 i

pub commanded_keeps : (guards : Guards) (e : State) (simple : ResolvedSimple) → kept guards (commanded guards e simple).after ≡ kept guards e
commanded_keeps guards e simple =
    let after = (performed (under guards e) simple).after in
    kept-at_rest guards after
    ∙ (frames_stay guards e.bounds after.bounds (command_stays (under guards e) simple).bounds ∙ kept-under guards guards e)
