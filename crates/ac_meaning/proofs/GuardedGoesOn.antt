-- An object with a guard stays in its place, with its names in their order.
use Rattle.std.proofs.Common.{◌≡◌, ◌==◌, ◌||◌, ◌&&◌, ◌++◌, ℕ, Bool, true, false, List, [], ◌∷◌, length, refl, sym, ap, ◌∙◌, arith, None}
use Rattle.ac_base.specs.declared.reason.Reason.TheVariants.{NoElement}
use Rattle.ac_base.specs.Rows.{Row, names}
use Rattle.ac_model.specs.Letters.{Mark}
use Rattle.ac_model.specs.Objects.{Object}
use Rattle.ac_model.specs.Rows.{is_named}
use Rattle.ac_syntax.specs.declared.view_kind.ViewKind.{ViewKind}
use Rattle.ac_syntax.specs.declared.view_kind.ViewKind.TheVariants.{Query, Update, Reference, UpdateKey}
use Rattle.ac_calls.specs.Holdings.{RowKind, RowOf, have_root, Held, of_rows, of_holder, of_queue, Guards, number_of, names_of, holds_element, has_root, element_value}
use Rattle.ac_meaning.specs.Environment.{Bound, binds_type, binds_object, binds_cursor, binds_value, binds_element, object_in, State, bound_at, with_name, leaving}
use Rattle.ac_meaning.specs.Execution.{exec_resolved, resolved_behind, guards_of_loop, guards_of_view}
use Rattle.ac_meaning.specs.GuardedNames.{is_guarded, is_element_guarded, Frame, of_type, of_object, of_cursor, of_value, of_element, names_if, frame, GuardedGoesOn, GuardedStays, DesignatedStays, ElementGoesOn, ElementsStay, ViewsGuardElements, BlocksGuard, TurnsKeepNames}
use Rattle.ac_meaning.proofs.CallsStay.{none_some}
use Rattle.ac_meaning.proofs.HoldersStay.{element_stands, stands_there}
use Rattle.ac_meaning.proofs.BoundsStay.{object_there}
use Rattle.ac_meaning.proofs.Designating.{element_reason, element_refused, Designates, designates, designated, designates_on}
use Rattle.ac_meaning.proofs.Frames.{frame_stays, kept_back, number_in_frame}
use Rattle.ac_meaning.proofs.ExecKeeps.{resolved_keeps}

names_in_frame : Frame → List ℕ
names_in_frame of_type = []
names_in_frame (of_object number rooted names has_element) = names
names_in_frame of_cursor = []
names_in_frame of_value = []
names_in_frame (of_element object at) = []

rooted_in_frame : Frame → Bool
rooted_in_frame of_type = false
rooted_in_frame (of_object number rooted names has_element) = rooted
rooted_in_frame of_cursor = false
rooted_in_frame of_value = false
rooted_in_frame (of_element object at) = false

pub goes_on : (h : Held) (now : State) (place : ℕ) (b : Bound) → bound_at now place ≡ b → (guards : Guards) → is_guarded guards (number_of h) ≡ true →
    frame guards b ≡ frame guards (binds_object h) → GuardedGoesOn h now place
unfolding number_in_frame rooted_in_frame names_in_frame
goes_on h now place (binds_object k) f guards g e =
    let n : number_of k ≡ number_of h = ap number_in_frame e in
    let k_guarded : is_guarded guards (number_of k) ≡ true = ap (is_guarded guards) n ∙ g in
    let m : names_if (is_guarded guards (number_of k)) (names_of k) ≡ names_if (is_guarded guards (number_of h)) (names_of h) = ap names_in_frame e in
    record {
      held = k;
      there = ap object_in f;
      number = n;
      rooted = ap rooted_in_frame e;
      names = sym (ap (λ t. names_if t (names_of k)) k_guarded) ∙ (m ∙ ap (λ t. names_if t (names_of h)) g);
    }
goes_on h now place binds_type f guards g e = absurd (cc)
goes_on h now place (binds_cursor mark) f guards g e = absurd (cc)
goes_on h now place (binds_value v) f guards g e = absurd (cc)
goes_on h now place (binds_element object at) f guards g e = absurd (cc)

pub guarded_stays : GuardedStays
guarded_stays propagates orders code guards end e place h there g =
    let now = (resolved_behind propagates orders code guards end e).after in
    goes_on h now place (bound_at now place) refl guards g
    (frame_stays guards e now place (resolved_keeps propagates orders code guards end e) ∙ ap (frame guards) (object_there (bound_at e place) h there))

-- so an element that a cursor designates stands

no_row : {V : Type 0} (rows : List (Row ℕ V)) (name : ℕ) → names rows ≡ [] → is_named rows name ≡ true → ⊥
no_row [] name e there = cc
no_row (r ∷ rows) name e there = cc

pub designated_held : (kind : RowKind) (o : Object ℕ (RowOf kind)) (k : Held) (at : Mark) → number_of k ≡ o.number → has_root k ≡ have_root kind →
    names_of k ≡ names o.rows → Designates (have_root kind) o at → (element_value k at).reason ≡ None
designated_held kind o (of_rows other now) at number rooted same d =
    element_refused other now at
    ∙ (ap (λ r. element_reason r now at) rooted
    ∙ designated (have_root kind) now at (designates_on (have_root kind) o now at number same d))
designated_held kind o (of_holder e h) at number rooted same d = absurd (no_row o.rows d.name (sym same) d.named)
designated_held kind o (of_queue n q) at number rooted same d = absurd (no_row o.rows d.name (sym same) d.named)

pub designated_stays : DesignatedStays
designated_stays propagates orders code guards end e place kind o at there g stands =
    let on = guarded_stays propagates orders code guards end e place (of_rows kind o) there g in
    record {
      held = on.held;
      there = on.there;
      stands = designated_held kind o on.held at on.number on.rooted on.names
          (designates (have_root kind) o at (sym (element_refused kind o at) ∙ stands));
    }

has_element_in_frame : Frame → Bool
has_element_in_frame of_type = false
has_element_in_frame (of_object number rooted names has_element) = has_element
has_element_in_frame of_cursor = false
has_element_in_frame of_value = false
has_element_in_frame (of_element object at) = false

and_true : (a : Bool) → (a && true) ≡ a
and_true true = refl
and_true false = refl

pub element_goes_on : (h : Held) (now : State) (place : ℕ) (b : Bound) → bound_at now place ≡ b → (guards : Guards) →
    is_element_guarded guards (number_of h) ≡ true → frame guards b ≡ frame guards (binds_object h) → ElementGoesOn h now place
unfolding number_in_frame has_element_in_frame
element_goes_on h now place (binds_object k) f guards g e =
    let n : number_of k ≡ number_of h = ap number_in_frame e in
    let k_guarded : is_element_guarded guards (number_of k) ≡ true = ap (is_element_guarded guards) n ∙ g in
    let m : (holds_element k && is_element_guarded guards (number_of k)) ≡ (holds_element h && is_element_guarded guards (number_of h)) =
    ap has_element_in_frame e in
    let has : holds_element k ≡ holds_element h =
    sym (and_true (holds_element k)) ∙ (sym (ap (λ t. holds_element k && t) k_guarded)
    ∙ (m ∙ (ap (λ t. holds_element h && t) g ∙ and_true (holds_element h)))) in
    record {
      held = k;
      there = ap object_in f;
      number = n;
      has_element = has;
      stands = λ there at. element_stands k at (has ∙ there);
    }
element_goes_on h now place binds_type f guards g e = absurd (cc)
element_goes_on h now place (binds_cursor mark) f guards g e = absurd (cc)
element_goes_on h now place (binds_value v) f guards g e = absurd (cc)
element_goes_on h now place (binds_element object at) f guards g e = absurd (cc)

pub elements_stay : ElementsStay
elements_stay propagates orders code guards end e place h there g =
    let now = (resolved_behind propagates orders code guards end e).after in
    element_goes_on h now place (bound_at now place) refl guards g
    (frame_stays guards e now place (resolved_keeps propagates orders code guards end e) ∙ ap (frame guards) (object_there (bound_at e place) h there))

own_guard : (n : ℕ) (others : Bool) → ((n == n) || others) ≡ true
own_guard n others = go (n == n) (grind (arith))
  where
    go : (b : Bool) → b ≡ true → (b || others) ≡ true
    go true e = refl
    go false e = absurd (cc)

loops_guard : (elements : Bool) (h : Held) (guards : Guards) → is_guarded (guards_of_loop elements h ++ guards) (number_of h) ≡ true
loops_guard false h guards = own_guard (number_of h) _
loops_guard true h guards = own_guard (number_of h) _

views_guard : (view : ViewKind) (h : Held) (guards : Guards) → is_guarded (guards_of_view view h ++ guards) (number_of h) ≡ true
views_guard Query h guards = own_guard (number_of h) _
views_guard Update h guards = own_guard (number_of h) _
views_guard Reference h guards = own_guard (number_of h) _
views_guard UpdateKey h guards = own_guard (number_of h) _

own_element_guard : (n : ℕ) (others : Bool) → (((n == n) && true) || others) ≡ true
own_element_guard n others = go (n == n) (grind (arith))
  where
    go : (b : Bool) → b ≡ true → ((b && true) || others) ≡ true
    go true e = refl
    go false e = absurd (cc)

pub views_guard_elements : ViewsGuardElements
views_guard_elements Query element h at guards none =
    record { guarded = own_element_guard h.number _; has_element = stands_there element h at none }
views_guard_elements Update element h at guards none =
    record { guarded = own_element_guard h.number _; has_element = stands_there element h at none }
views_guard_elements Reference element h at guards none =
    record { guarded = own_element_guard h.number _; has_element = stands_there element h at none }
views_guard_elements UpdateKey element h at guards none = none_some NoElement (sym none)

pub blocks_guard : BlocksGuard
blocks_guard = record { loops = loops_guard; views = views_guard; stables = λ h guards. own_guard (number_of h) _ }

pub turns_keep_names : TurnsKeepNames
turns_keep_names propagates orders code elements guards e place h b there =
    let held = guards_of_loop elements h ++ guards in
    let start = with_name e b in
    let now = (exec_resolved propagates orders code held start).after in
    let left = leaving (length e.bounds) now in
    goes_on h left place (bound_at left place) refl held (loops_guard elements h guards)
    (frame_stays held e left place (kept_back held e now (b ∷ []) (resolved_keeps propagates orders code held None start))
    ∙ ap (frame held) (object_there (bound_at e place) h there))
