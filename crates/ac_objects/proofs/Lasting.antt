-- Elements that names stand for last: an object with a guard keeps its names through a command, and a holder with an element guard that it has an element.
use Rattle.std.proofs.Common.{◌≡◌, ◌+◌, ◌<◌, ℕ, Bool, true, false, not, nat_lt, refl, sym, ap, subst, ◌∙◌, arith, Some, None, if◌then◌else◌}
use Rattle.std.proofs.lemmas.Bool.{lt-ltb}
use Rattle.std.proofs.lemmas.Bool.Decides.{nat_tests}
use Rattle.ac_base.specs.declared.guard.Class.TheVariants as class
use Rattle.ac_base.specs.declared.reason.Reason.{Reason}
use Rattle.ac_base.specs.declared.reason.Reason.TheVariants.{CursorTampering, ElementTampering}
use Rattle.ac_base.specs.Tampering.{forbids}
use Rattle.ac_model.specs.Objects.{Object}
use Rattle.ac_model.specs.Letters.{Mark}
use Rattle.ac_meaning.specs.Environment.{Bound, binds_type, binds_object, binds_cursor, binds_value, binds_element, State, bound_at, object_in}
use Rattle.ac_calls.specs.Holdings.{RowKind, RowOf, have_root, Held, of_rows, of_holder, of_queue, element_value}
use Rattle.ac_meaning.specs.Stays.{Stays, HeldStays, BoundStays, StateStays}
use Rattle.ac_meaning.proofs.BoundsStay.{each_at, object_there}
use Rattle.ac_meaning.proofs.HoldersStay.{element_stands, stands_there}
use Rattle.ac_meaning.proofs.Designating.{element_refused, designates, designated, designates_on}
use Rattle.ac_objects.specs.Standing.{ElementStands, ElementsStand, keeping_guards}

-- a guard forbids to change them

some_if : (a b : Bool) → (a ≡ false → b ≡ true) →
    (t : Reason) × ((if a then Some CursorTampering else if b then Some ElementTampering else None) ≡ Some t)
some_if true b f = (CursorTampering, refl)
some_if false true f = (ElementTampering, refl)
some_if false false f = absurd (let e = f refl in cc)

either_held : (a b : ℕ) → 0 < a + b → nat_lt 0 a ≡ false → nat_lt 0 b ≡ true
either_held a b h e = grind (arith, nat_tests)

guarded : (a b : ℕ) → 0 < a + b → (t : Reason) × (forbids class.Cursors a b ≡ Some t)
guarded a b h = some_if (nat_lt 0 a) (nat_lt 0 b) (either_held a b h)

row_lasts : (kind : RowKind) (o now : Object ℕ (RowOf kind)) (m : Mark) → Stays o None now → 0 < o.cursor_guards + o.element_guards →
    (element_value (of_rows kind o) m).reason ≡ None → (element_value (of_rows kind now) m).reason ≡ None
row_lasts kind o now m stays held h =
    let t = guarded o.cursor_guards o.element_guards held in
    let rooted = have_root kind in
    element_refused kind now m
    ∙ designated rooted now m
    (designates_on rooted o now m stays.number (stays.names refl t.0 t.1) (designates rooted o m (sym (element_refused kind o m) ∙ h)))

-- and an element guard to take a holder's element out
element_held : (b : ℕ) → 0 < b → (t : Reason) × ((if nat_lt 0 b then Some ElementTampering else None) ≡ Some t)
element_held b h = (ElementTampering, rw (lt-ltb 0 b h) refl)

-- an object that stays

pub record LastsAt (h k : Held) (m : Mark) : Type 0 where
  pub stands : (element_value k m).reason ≡ None
  pub guarded : 0 < keeping_guards k

held_lasts : (h k : Held) (m : Mark) → HeldStays h k → 0 < keeping_guards h →
    (element_value h m).reason ≡ None → LastsAt h k m
held_lasts (of_rows kind o) k m s held h =
    subst (λ x. LastsAt (of_rows kind o) x m) (sym s.1)
    (record {
      stands = row_lasts kind o s.0 m s.2 held h;
      guarded = omega (arith, held, s.2.cursor_guards, s.2.element_guards);
    })
held_lasts (of_holder e o) k m s held h =
    let t = element_held o.element_guards held in
    subst (λ x. LastsAt (of_holder e o) x m) (sym s.1)
    (record {
      stands = element_stands (of_holder e s.0) m (ap not (s.2.element refl t.0 t.1) ∙ stands_there e o m h);
      guarded = omega (arith, held, s.2.element_guards);
    })
held_lasts (of_queue number q) k m s held h = absurd (omega (arith, held))

element_before : (b : Bound) (object : ℕ) (m : Mark) → BoundStays b (binds_element object m) → b ≡ binds_element object m
element_before binds_type object m s = absurd s
element_before (binds_object h) object m s = absurd s
element_before (binds_cursor c) object m s = absurd s
element_before (binds_value v) object m s = absurd s
element_before (binds_element other c) object m s = λ i. binds_element (sym s.0 i) (sym s.1 i)

object_after : (h : Held) (now : State) (object : ℕ) (m : Mark) (b : Bound) → bound_at now object ≡ b → BoundStays (binds_object h) b →
    0 < keeping_guards h → (element_value h m).reason ≡ None → ElementStands now object m
object_after h now object m (binds_object k) is s held e =
    let l = held_lasts h k m s held e in record { held = k; there = ap object_in is; stands = l.stands; guarded = l.guarded }
object_after h now object m binds_type is s held e = absurd s
object_after h now object m (binds_cursor c) is s held e = absurd s
object_after h now object m (binds_value v) is s held e = absurd s
object_after h now object m (binds_element other c) is s held e = absurd s

pub elements_last : (e now : State) → StateStays e now → ElementsStand e → ElementsStand now
elements_last e now stays stand place object m there =
    let before = element_before (bound_at e place) object m
    (subst (λ b. BoundStays (bound_at e place) b) there (each_at e.bounds now.bounds place stays.bounds)) in
    let st = stand place object m before in
    object_after st.held now object m (bound_at now object) refl
    (subst (λ b. BoundStays b (bound_at now object)) (object_there (bound_at e object) st.held st.there) (each_at e.bounds now.bounds object stays.bounds))
    st.guarded st.stands
