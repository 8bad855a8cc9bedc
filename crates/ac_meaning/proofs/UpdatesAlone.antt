-- An update of a key begins only where no other guard is held on its set, so that its end keeps what is guarded.
use Rattle.std.proofs.Common.{◌≡◌, ◌==◌, ◌+◌, ◌-◌, ◌&&◌, ℕ, Bool, true, false, List, [], ◌∷◌, refl, sym, ap, subst, ◌∙◌, arith, option_map, Option, Some, None, if◌then◌else◌}
use Rattle.ac_base.specs.declared.reason.Reason.TheVariants.{NoElement}
use Rattle.ac_base.specs.declared.value.Value.{Value}
use Rattle.ac_base.specs.declared.guard.GuardKind.TheVariants as guard
use Rattle.ac_base.specs.Rows.{Row}
use Rattle.ac_model.specs.Objects.{Object, with_rows}
use Rattle.ac_model.specs.Letters.{Mark, needs}
use Rattle.ac_model.specs.KeyedSets.{update_key_reason}
use Rattle.ac_model.specs.Cursors.{seen}
use Rattle.ac_syntax.specs.declared.view_kind.ViewKind.TheVariants.{UpdateKey}
use Rattle.ac_calls.specs.Holdings.{a_sequence, a_map, a_set, a_keyed_set, a_tree, Held, of_rows, of_holder, of_queue, Guards, held_on, guarded, held_under, number_of, names_of, holds_element, has_root, key_updated}
use Rattle.ac_meaning.specs.Environment.{binds_object, State, under, bound_at, with_bound, object_at}
use Rattle.ac_meaning.specs.Execution.{head_reason, key_end_on}
use Rattle.ac_meaning.specs.UnderGuards.{UpdatesKeepCounts}
use Rattle.ac_meaning.specs.GuardedNames.{is_guarded, is_element_guarded, of_object, names_if, frame, kept, UpdatesAreAlone}
use Rattle.ac_meaning.proofs.CallsStay.{none_some, first_check}
use Rattle.ac_meaning.proofs.BoundsStay.{object_there}
use Rattle.ac_meaning.proofs.CountsStay.{cursors_of, elements_of, held_anew, bound_under, parts_under}
use Rattle.ac_meaning.proofs.Frames.{frame_under, frame_stays, kept-at_rest, kept-with_bound, number_in_frame}
use Rattle.ac_meaning.proofs.Guarded.{guarded_forbids}

set_alone : {V : Type 0} (guards : Guards) (o : Object ℕ V) (at : Mark) → held_on guards o.number guard.Cursors ≡ o.cursor_guards →
    held_on guards o.number guard.Elements ≡ o.element_guards → update_key_reason o at ≡ None → is_guarded guards o.number ≡ false
set_alone guards o at c e none = go (is_guarded guards o.number) refl
  where
    go : (b : Bool) → is_guarded guards o.number ≡ b → is_guarded guards o.number ≡ false
    go false f = f
    go true f =
        let forbidden = guarded_forbids guards o c e f in
        none_some forbidden.reason (sym (first_check o (needs o at ∷ []) none) ∙ forbidden.is)

update_alone : (guards : Guards) (h : Held) (at : Mark) → held_under guards h ≡ h → head_reason UpdateKey h at ≡ None →
    is_guarded guards (number_of h) ≡ false
update_alone guards (of_rows (a_keyed_set which) o) at same none =
    set_alone guards o (seen o at) (ap cursors_of same) (ap elements_of same) none
update_alone guards (of_rows (a_sequence which e) o) at same none = none_some NoElement (sym none)
update_alone guards (of_rows (a_map which k e) o) at same none = none_some NoElement (sym none)
update_alone guards (of_rows (a_set which e) o) at same none = none_some NoElement (sym none)
update_alone guards (of_rows (a_tree e) o) at same none = none_some NoElement (sym none)
update_alone guards (of_holder e h) at same none = none_some NoElement (sym none)
update_alone guards (of_queue number q) at same none = none_some NoElement (sym none)

-- what is found under guards has their counts
found_under : (guards : Guards) (e : State) (place : ℕ) (h : Held) → object_at (under guards e) place ≡ Some h → held_under guards h ≡ h
found_under guards e place h there = go (object_at e place) (sym (parts_under.object guards e place) ∙ there)
  where
    go : (found : Option Held) → option_map (held_under guards) found ≡ Some h → held_under guards h ≡ h
    go None f = none_some h f
    go (Some k) f = let is : held_under guards k ≡ h = cc in subst (λ x. held_under guards x ≡ x) is (held_anew guards guards k)

pub updates_are_alone : UpdatesAreAlone
updates_are_alone = record {
  held = update_alone;
  found = λ guards e place h at there none. update_alone guards h at (found_under guards e place h there) none;
}

-- Its end

number_stays : (h : Held) (at : Mark) (copy : Value) → number_of (key_updated h at copy).after ≡ number_of h
number_stays (of_rows (a_keyed_set which) o) at copy = refl
number_stays (of_rows (a_sequence which e) o) at copy = refl
number_stays (of_rows (a_map which k e) o) at copy = refl
number_stays (of_rows (a_set which e) o) at copy = refl
number_stays (of_rows (a_tree e) o) at copy = refl
number_stays (of_holder e h) at copy = refl
number_stays (of_queue number q) at copy = refl

no_element : (h : Held) (at : Mark) (copy : Value) → holds_element (key_updated h at copy).after ≡ holds_element h
no_element (of_rows (a_keyed_set which) o) at copy = refl
no_element (of_rows (a_sequence which e) o) at copy = refl
no_element (of_rows (a_map which k e) o) at copy = refl
no_element (of_rows (a_set which e) o) at copy = refl
no_element (of_rows (a_tree e) o) at copy = refl
no_element (of_holder e h) at copy = refl
no_element (of_queue number q) at copy = refl

same_root : (h : Held) (at : Mark) (copy : Value) → has_root (key_updated h at copy).after ≡ has_root h
same_root (of_rows (a_keyed_set which) o) at copy = refl
same_root (of_rows (a_sequence which e) o) at copy = refl
same_root (of_rows (a_map which k e) o) at copy = refl
same_root (of_rows (a_set which e) o) at copy = refl
same_root (of_rows (a_tree e) o) at copy = refl
same_root (of_holder e h) at copy = refl
same_root (of_queue number q) at copy = refl

-- of an object without a guard nothing but its number is kept, whether it has a root, and that it is no holder with an element
unguarded_frame : (guards : Guards) (h now : Held) → is_guarded guards (number_of h) ≡ false → number_of now ≡ number_of h →
    has_root now ≡ has_root h → holds_element now ≡ holds_element h → frame guards (binds_object now) ≡ frame guards (binds_object h)
unguarded_frame guards h now free n root has =
    let own : is_guarded guards (number_of now) ≡ false = ap (is_guarded guards) n ∙ free in
    let none : names_if (is_guarded guards (number_of now)) (names_of now) ≡ names_if (is_guarded guards (number_of h)) (names_of h) =
    ap (λ t. names_if t (names_of now)) own ∙ sym (ap (λ t. names_if t (names_of h)) free) in
    λ i. of_object (n i) (root i) (none i) (has i && is_element_guarded guards (n i))

pub found_frame : (guards held : Guards) (e : State) (place : ℕ) (h : Held) → object_at (under held e) place ≡ Some h →
    frame guards (bound_at e place) ≡ frame guards (binds_object h)
found_frame guards held e place h there =
    sym (frame_under guards held (bound_at e place))
    ∙ ap (frame guards) (sym (bound_under (held_under held) e.bounds place) ∙ object_there (bound_at (under held e) place) h there)

-- the object that is found at the end of an update has the number of the one at its head, on which there was no guard
pub key_end_keeps : (guards held : Guards) (number object : ℕ) (e left : State) (at : Mark) (copy : Value) (h : Held) →
    object_at (under guards e) object ≡ Some h → is_guarded guards (number_of h) ≡ false → kept guards left ≡ kept guards e →
    (found : Option Held) → object_at (under held left) object ≡ found →
    kept guards (key_end_on number object left at copy found).after ≡ kept guards e
unfolding number_in_frame
key_end_keeps guards held number object e left at copy h there free same None f = same
key_end_keeps guards held number object e left at copy h there free same (Some k) f =
    let own : frame guards (bound_at left object) ≡ frame guards (binds_object k) = found_frame guards held left object k f in
    let old : frame guards (bound_at e object) ≡ frame guards (binds_object h) = found_frame guards guards e object h there in
    let is : frame guards (binds_object k) ≡ frame guards (binds_object h) = sym own ∙ (frame_stays guards e left object same ∙ old) in
    let n : number_of k ≡ number_of h = ap number_in_frame is in
    let now = (key_updated k at copy).after in
    let stays : frame guards (binds_object now) ≡ frame guards (binds_object k) =
    unguarded_frame guards k now (ap (is_guarded guards) n ∙ free) (number_stays k at copy) (same_root k at copy) (no_element k at copy) in
    kept-at_rest guards (with_bound left object (binds_object now))
    ∙ (kept-with_bound guards left object (binds_object now) (stays ∙ sym own) ∙ same)

-- and the guard is released
set_released : {V : Type 0} (guards : Guards) (o : Object ℕ V) (rows : List (Row ℕ V)) (b : Bool) → b ≡ true →
    (if b then 1 else 0) + held_on guards o.number guard.Cursors ≡ o.cursor_guards → 0 + held_on guards o.number guard.Elements ≡ o.element_guards →
    let now = with_rows (record o { cursor_guards = o.cursor_guards - 1 }) rows in guarded guards V now ≡ now
set_released guards o rows true own c e =
    let now = with_rows (record o { cursor_guards = o.cursor_guards - 1 }) rows in
    let cursors : held_on guards o.number guard.Cursors ≡ o.cursor_guards - 1 = omega (arith, c) in
    let elements : held_on guards o.number guard.Elements ≡ o.element_guards = omega (arith, e) in
    λ i. record now { cursor_guards = cursors i; element_guards = elements i }
set_released guards o rows false own c e = absurd (cc)

no_other : (b : Bool) (n : ℕ) → 0 + n ≡ (if b && false then 1 else 0) + n
no_other true n = refl
no_other false n = refl

itself_alone : (b : Bool) (n : ℕ) → (if b then 1 else 0) + n ≡ (if b && true then 1 else 0) + n
itself_alone true n = refl
itself_alone false n = refl

pub updates_keep_counts : UpdatesKeepCounts
updates_keep_counts guards which o at copy same =
    ap (of_rows (a_keyed_set which))
    (set_released guards o _ (o.number == o.number) (grind (arith))
    (itself_alone (o.number == o.number) (held_on guards o.number guard.Cursors) ∙ ap cursors_of same)
    (no_other (o.number == o.number) (held_on guards o.number guard.Elements) ∙ ap elements_of same))
