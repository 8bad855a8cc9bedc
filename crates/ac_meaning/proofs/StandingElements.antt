-- An element that a name stands for is there while its guard is held, and its value is of its object's type.
use Rattle.std.proofs.Common.{◌≡◌, ◌==◌, ◌||◌, ◌++◌, ℕ, zero, suc, Bool, true, false, List, [], ◌∷◌, slice_get, refl, sym, ap, subst, ◌∙◌, Some, None, inl, inr}
use Rattle.std.specs.Prelude.{◌⊎◌}
use Rattle.std.proofs.lemmas.List.Folds.{list_any-append}
use Rattle.std.proofs.lemmas.Option.{same_Some}
use Rattle.ac_base.specs.declared.guard.GuardKind.TheVariants as guard
use Rattle.ac_base.specs.declared.reason.Reason.TheVariants.{NoElement}
use Rattle.ac_base.specs.declared.value.Value.{Value}
use Rattle.ac_base.specs.Guards.{HeldGuard}
use Rattle.ac_base.specs.Rows.{Row, names}
use Rattle.ac_model.specs.Holders as holder
use Rattle.ac_model.specs.Letters.{Mark, name_of}
use Rattle.ac_model.specs.Maps as map
use Rattle.ac_model.specs.Objects.{Object}
use Rattle.ac_model.specs.Rows.{Entry, Node, is_named, value_at as under_name}
use Rattle.ac_model.specs.Sequences as sequence
use Rattle.ac_model.specs.Trees as tree
use Rattle.ac_syntax.specs.declared.kind.ElemKind.{ElemKind}
use Rattle.ac_syntax.specs.declared.kind.ElemKind.TheVariants.{Str}
use Rattle.ac_rules.specs.Scopes.{Scope, a_value}
use Rattle.ac_calls.specs.Elements.{ElementOf, tools_of, keyed_texts}
use Rattle.ac_calls.specs.Holdings.{a_sequence, a_map, a_set, a_keyed_set, a_tree, have_root, Held, of_rows, of_holder, of_queue, Guards, is_on, number_of, names_of, holds_element, seen_in, element_value}
use Rattle.ac_meaning.specs.Environment.{Bound, binds_type, binds_object, binds_cursor, binds_value, binds_element, bound_in, object_in, State, bound_at, object_at, element_in, value_or_zero, value_in, with_name}
use Rattle.ac_meaning.specs.GuardedNames.{is_guarded, is_element_guarded, of_element, frame, kept}
use Rattle.ac_meaning.specs.HoldsTypes.{shape_of, HasElements, Holds, HoldsTypes}
use Rattle.ac_meaning.specs.ValueTypes.{IsOf, HoldsValue, ElementStands, ElementsStand}
use Rattle.ac_meaning.proofs.AnswerParts.{tools_make, gives, some_mapped, some_looked, some_viewed, some_held}
use Rattle.ac_meaning.proofs.AnswersTold.{elements_in, type_elements}
use Rattle.ac_meaning.proofs.BoundsStay.{object_there}
use Rattle.ac_meaning.proofs.CallsStay.{none_some}
use Rattle.ac_meaning.proofs.Designating.{element_refused, Designates, designates}
use Rattle.ac_meaning.proofs.Frames.{frame_stays}
use Rattle.ac_meaning.proofs.GuardedGoesOn.{goes_on, designated_held, element_goes_on}
use Rattle.ac_meaning.proofs.HoldersStay.{stands_there}
use Rattle.ac_meaning.proofs.HoldsLists.{types_found}
use Rattle.ac_rules.proofs.Apart.{neither}

-- Going on

no_row : {V : Type 0} (rows : List (Row ℕ V)) (name : ℕ) → names rows ≡ [] → is_named rows name ≡ true → ⊥
no_row [] name e there = cc
no_row (r ∷ rows) name e there = cc

-- what has rows is no holder
no_holder : {V : Type 0} (rooted : Bool) (o : Object ℕ V) (k : Held) (at : Mark) → names_of k ≡ names o.rows → Designates rooted o at →
    holds_element k ≡ false
no_holder rooted o (of_rows kind now) at same d = refl
no_holder rooted o (of_holder e h) at same d = absurd (no_row o.rows d.name (sym same) d.named)
no_holder rooted o (of_queue n q) at same d = refl

pub stands_by : (guards : Guards) (now : State) (object : ℕ) (at : Mark) (h : Held) → (element_value h at).reason ≡ None →
    is_guarded guards (number_of h) ≡ true → (holds_element h ≡ true → is_element_guarded guards (number_of h) ≡ true) →
    frame guards (bound_at now object) ≡ frame guards (binds_object h) → ElementStands guards now object at
stands_by guards now object at (of_rows kind o) stands g k same =
    let on = goes_on (of_rows kind o) now object (bound_at now object) refl guards g same in
    let d = designates (have_root kind) o at (sym (element_refused kind o at) ∙ stands) in
    record {
      held = on.held;
      there = on.there;
      stands = designated_held kind o on.held at on.number on.rooted on.names d;
      guarded = ap (is_guarded guards) on.number ∙ g;
      kept = λ has. neither (sym (no_holder (have_root kind) o on.held at on.names d) ∙ has);
    }
stands_by guards now object at (of_holder e h) stands g k same =
    let has = stands_there e h at stands in
    let on = element_goes_on (of_holder e h) now object (bound_at now object) refl guards (k has) same in
    record {
      held = on.held;
      there = on.there;
      stands = on.stands has at;
      guarded = ap (is_guarded guards) on.number ∙ g;
      kept = λ _. ap (is_element_guarded guards) on.number ∙ k has;
    }
stands_by guards now object at (of_queue number q) stands g k same = none_some NoElement (sym stands)

element_there : (guards : Guards) (b : Bound) (object : ℕ) (at : Mark) → frame guards b ≡ of_element object at → b ≡ binds_element object at
element_there guards binds_type object at e = absurd (cc)
element_there guards (binds_object h) object at e = absurd (cc)
element_there guards (binds_cursor mark) object at e = absurd (cc)
element_there guards (binds_value v) object at e = absurd (cc)
element_there guards (binds_element p m) object at e = cc

pub elements_on : (guards : Guards) (e now : State) → kept guards now ≡ kept guards e → ElementsStand guards e → ElementsStand guards now
elements_on guards e now same stand place object at is =
    let old = element_there guards (bound_at e place) object at (sym (frame_stays guards e now place same) ∙ ap (frame guards) is) in
    let s = stand place object at old in
    stands_by guards now object at s.held s.stands s.guarded s.kept
    (frame_stays guards e now object same ∙ ap (frame guards) (object_there (bound_at e object) s.held s.there))

-- under more guards
or_true : (a b : Bool) → b ≡ true → (a || b) ≡ true
or_true true b h = refl
or_true false b h = h

pub elements_under : (more guards : Guards) (e : State) → ElementsStand guards e → ElementsStand (more ++ guards) e
elements_under more guards e stand place object at is =
    let s = stand place object at is in
    let n = number_of s.held in
    record {
      held = s.held;
      there = s.there;
      stands = s.stands;
      guarded = list_any-append (λ (g : HeldGuard). g.object == n) more guards ∙ or_true (is_guarded more n) (is_guarded guards n) s.guarded;
      kept = λ has. list_any-append (λ (g : HeldGuard). is_on g n guard.Elements) more guards
          ∙ or_true (is_element_guarded more n) (is_element_guarded guards n) (s.kept has);
    }

-- with a name more
object_longer : (bs more : List Bound) (place : ℕ) (h : Held) → object_in (bound_in (slice_get bs place)) ≡ Some h →
    object_in (bound_in (slice_get (bs ++ more) place)) ≡ Some h
object_longer [] more place h there = none_some h there
object_longer (b ∷ bs) more zero h there = there
object_longer (b ∷ bs) more (suc place) h there = object_longer bs more place h there

pub stands_longer : (guards : Guards) (e : State) (b : Bound) (object : ℕ) (at : Mark) → ElementStands guards e object at →
    ElementStands guards (with_name e b) object at
stands_longer guards e b object at s = record {
  held = s.held;
  there = object_longer e.bounds (b ∷ []) object s.held s.there;
  stands = s.stands;
  guarded = s.guarded;
  kept = s.kept;
}

last_or : (bs : List Bound) (b : Bound) (place object : ℕ) (at : Mark) → bound_in (slice_get (bs ++ b ∷ []) place) ≡ binds_element object at →
    (bound_in (slice_get bs place) ≡ binds_element object at) ⊎ (b ≡ binds_element object at)
last_or [] b zero object at h = inr h
last_or [] b (suc place) object at h = inl h
last_or (x ∷ bs) b zero object at h = inl h
last_or (x ∷ bs) b (suc place) object at h = last_or bs b place object at h

pub elements_with : (guards : Guards) (e : State) (b : Bound) → ElementsStand guards e →
    ((object : ℕ) (at : Mark) → b ≡ binds_element object at → ElementStands guards e object at) → ElementsStand guards (with_name e b)
elements_with guards e b stand own place object at is = go (last_or e.bounds b place object at is)
  where
    go : (bound_at e place ≡ binds_element object at) ⊎ (b ≡ binds_element object at) → ElementStands guards (with_name e b) object at
    go (inl before) = stands_longer guards e b object at (stand place object at before)
    go (inr last) = stands_longer guards e b object at (own object at last)

-- Its value

pub element_found : (h : Held) (at : Mark) → (element_value h at).reason ≡ None →
    (v : Value) × ((element_value h at).answer ≡ Some v) × IsOf (elements_in (shape_of h)) v
element_found (of_rows (a_sequence which e) o) at none =
    let c = seen_in (a_sequence which e) o at in gives e (tools_of e) (tools_make e) (sequence.element_call o c) (some_looked o c) none
element_found (of_rows (a_map which k e) o) at none =
    let c = seen_in (a_map which k e) o at in
    gives e (tools_of e) (tools_make e) (map.element_call o c)
    (λ none. some_mapped (λ (x : Entry (ElementOf k) (ElementOf e)). x.element) (under_name o.rows (name_of c)) (some_looked o c none)) none
element_found (of_rows (a_set which e) o) at none =
    let c = seen_in (a_set which e) o at in gives e (tools_of e) (tools_make e) (sequence.element_call o c) (some_looked o c) none
element_found (of_rows (a_keyed_set which) o) at none =
    let c = seen_in (a_keyed_set which) o at in gives Str keyed_texts (λ text. refl) (sequence.element_call o c) (some_looked o c) none
element_found (of_rows (a_tree e) o) at none =
    let c = seen_in (a_tree e) o at in
    gives e (tools_of e) (tools_make e) (tree.element_call o c)
    (λ none. some_mapped (λ (x : Node (ElementOf e)). x.element) (under_name o.rows (name_of c)) (some_viewed o c none)) none
element_found (of_holder e h) at none = gives e (tools_of e) (tools_make e) (holder.element_call h) (some_held h.element) none
element_found (of_queue number q) at none = none_some NoElement (sym none)

element_is : (scope : Scope) (guards : Guards) (e : State) (element : ElemKind) (object : ℕ) (at : Mark) → HoldsTypes scope e →
    HasElements scope object element → ElementStands guards e object at → IsOf element (value_or_zero (element_in (object_at e object) at))
element_is scope guards e element object at types has s =
    let found = types_found.elements scope e object element types has in
    let same : s.held ≡ found.1.held = same_Some s.held found.1.held (sym s.there ∙ found.1.there) in
    let is : elements_in (shape_of s.held) ≡ element =
    ap (λ h. elements_in (shape_of h)) same
    ∙ (ap elements_in found.1.shape ∙ ((type_elements found.0.def found.1.type).1 ∙ found.2)) in
    let v = element_found s.held at s.stands in
    subst (λ o. IsOf element (value_or_zero (element_in o at))) (sym s.there) (subst (λ a. IsOf element (value_or_zero a)) (sym v.1) (v.2 ∙ is))

-- and that of what a name of a value holds
pub value_is : (scope : Scope) (guards : Guards) (e : State) (element : ElemKind) (w : Bool) (b : Bound) → HoldsTypes scope e →
    Holds scope (a_value element w) b → HoldsValue (a_value element w) b →
    ((object : ℕ) (at : Mark) → b ≡ binds_element object at → ElementStands guards e object at) → IsOf element (value_in e b)
value_is scope guards e element w (binds_value v) types holds is stands = is
value_is scope guards e element w (binds_element object at) types holds is stands =
    element_is scope guards e element object at types holds (stands object at refl)
value_is scope guards e element w _ types holds is stands = absurd holds
