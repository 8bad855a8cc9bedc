-- What statements keep while guards are held: what kind of thing each name in scope holds, an object's number and whether it has a root, and where a guard is held on it the names in its rows, in their order.
use Rattle.std.specs.Prelude.{◌≡◌, ◌==◌, ◌&&◌, ℕ, Bool, true, false, List, [], ◌++◌, map, Some, None, if◌then◌else◌}
use Rattle.std.specs.List.{list_any}
use Rattle.ac_base.specs.declared.guard.GuardKind.TheVariants as guard
use Rattle.ac_base.specs.Guards.{HeldGuard}
use Rattle.ac_model.specs.Holders.{Holder}
use Rattle.ac_model.specs.Objects.{Object}
use Rattle.ac_model.specs.Letters.{Mark}
use Rattle.ac_syntax.specs.declared.kind.ElemKind.{ElemKind}
use Rattle.ac_syntax.specs.Code.{Code}
use Rattle.ac_syntax.specs.declared.view_kind.ViewKind.{ViewKind}
use Rattle.ac_syntax.specs.declared.view_kind.ViewKind.TheVariants.{UpdateKey}
use Rattle.ac_rules.specs.Scopes.{Scope}
use Rattle.ac_rules.specs.Resolved.{ResolvedCode}
use Rattle.ac_calls.specs.Elements.{ElementOf}
use Rattle.ac_calls.specs.Holdings.{RowKind, RowOf, Held, of_rows, of_holder, Guards, is_on, number_of, names_of, holds_element, has_root, element_value, held_under}
use Rattle.ac_meaning.specs.Environment.{Bound, binds_type, binds_object, binds_cursor, binds_value, binds_element, State, under, object_at, with_name}
use Rattle.ac_meaning.specs.Execution.{End, Orders, scoped, exec_behind, resolved_behind, exec_resolved, guards_of_loop, guards_of_stable, guards_of_view, head_reason}

abbrev pub is_guarded : Guards → ℕ → Bool
is_guarded guards number = list_any (λ (g : HeldGuard). g.object == number) guards

-- by an element guard, which alone keeps a holder's element
abbrev pub is_element_guarded : Guards → ℕ → Bool
is_element_guarded guards number = list_any (λ (g : HeldGuard). is_on g number guard.Elements) guards

-- what stays of what a name holds
pub data Frame : Type 0 where
  of_type : Frame
  of_object : (number : ℕ) → (rooted : Bool) → (names : List ℕ) → (has_element : Bool) → Frame
  of_cursor : Frame
  of_value : Frame
  of_element : (object : ℕ) → (at : Mark) → Frame

abbrev pub names_if : Bool → List ℕ → List ℕ
names_if guarded names = if guarded then names else []

abbrev pub frame : Guards → Bound → Frame
frame guards binds_type = of_type
frame guards (binds_object h) =
    of_object (number_of h) (has_root h) (names_if (is_guarded guards (number_of h)) (names_of h))
    (holds_element h && is_element_guarded guards (number_of h))
frame guards (binds_cursor mark) = of_cursor
frame guards (binds_value v) = of_value
frame guards (binds_element object at) = of_element object at

abbrev pub kept : Guards → State → List Frame
kept guards e = map (frame guards) e.bounds

-- statements keep it, whatever they are
abbrev pub ResolvedKeepsGuarded : Type 0
ResolvedKeepsGuarded = (propagates : Bool) (orders : Orders) (code : ResolvedCode) (guards : Guards) (end : End) (e : State) →
    kept guards (resolved_behind propagates orders code guards end e).after ≡ kept guards e

abbrev pub KeepsGuarded : Type 0
KeepsGuarded = (propagates : Bool) (orders : Orders) (code : Code) (scope : Scope) (guards : Guards) (end : End) (e : State) →
    kept guards (exec_behind propagates orders code scope guards end e).after ≡ kept guards e

-- an object with a guard stays in its place, with its names in their order
pub record GuardedGoesOn (h : Held) (now : State) (place : ℕ) : Type 0 where
  pub held : Held
  pub there : object_at now place ≡ Some held
  pub number : number_of held ≡ number_of h
  pub rooted : has_root held ≡ has_root h
  pub names : names_of held ≡ names_of h

abbrev pub GuardedStays : Type 0
GuardedStays = (propagates : Bool) (orders : Orders) (code : ResolvedCode) (guards : Guards) (end : End) (e : State) (place : ℕ) (h : Held) →
    object_at e place ≡ Some h → is_guarded guards (number_of h) ≡ true → GuardedGoesOn h (resolved_behind propagates orders code guards end e).after place

-- so a cursor that designates one of its elements goes on to
pub record DesignatesOn (now : State) (place : ℕ) (at : Mark) : Type 0 where
  pub held : Held
  pub there : object_at now place ≡ Some held
  pub stands : (element_value held at).reason ≡ None

abbrev pub DesignatedStays : Type 0
DesignatedStays =
    (propagates : Bool) (orders : Orders) (code : ResolvedCode) (guards : Guards) (end : End) (e : State) (place : ℕ) (kind : RowKind) (o : Object ℕ (RowOf kind)) (at : Mark) →
    let h = of_rows kind o in
    object_at e place ≡ Some h → is_guarded guards (number_of h) ≡ true → (element_value h at).reason ≡ None →
    DesignatesOn (resolved_behind propagates orders code guards end e).after place at

-- and a holder with an element has one while an element guard is held on it, so that a name that stands for it finds one
pub record ElementGoesOn (h : Held) (now : State) (place : ℕ) : Type 0 where
  pub held : Held
  pub there : object_at now place ≡ Some held
  pub number : number_of held ≡ number_of h
  pub has_element : holds_element held ≡ holds_element h
  pub stands : holds_element h ≡ true → (at : Mark) → (element_value held at).reason ≡ None

abbrev pub ElementsStay : Type 0
ElementsStay = (propagates : Bool) (orders : Orders) (code : ResolvedCode) (guards : Guards) (end : End) (e : State) (place : ℕ) (h : Held) →
    object_at e place ≡ Some h → is_element_guarded guards (number_of h) ≡ true →
    ElementGoesOn h (resolved_behind propagates orders code guards end e).after place

-- as in every view of its element, which begins only where it has one
pub record ViewGuards (view : ViewKind) (h : Held) (guards : Guards) : Type 0 where
  pub guarded : is_element_guarded (guards_of_view view h ++ guards) (number_of h) ≡ true
  pub has_element : holds_element h ≡ true

abbrev pub ViewsGuardElements : Type 0
ViewsGuardElements = (view : ViewKind) (element : ElemKind) (holder : Holder (ElementOf element)) (at : Mark) (guards : Guards) →
    let h = of_holder element holder in head_reason view h at ≡ None → ViewGuards view h guards

-- so it does in every block on it: the guards of a block are guards of its object
pub record BlocksGuard : Type 0 where
  pub loops : (elements : Bool) (h : Held) (guards : Guards) → is_guarded (guards_of_loop elements h ++ guards) (number_of h) ≡ true
  pub views : (view : ViewKind) (h : Held) (guards : Guards) → is_guarded (guards_of_view view h ++ guards) (number_of h) ≡ true
  pub stables : (h : Held) (guards : Guards) → is_guarded (guards_of_stable h ++ guards) (number_of h) ≡ true

-- so a loop that took its names anew at each turn would find those that stood at its head: where a turn ends its object has them still
abbrev pub TurnsKeepNames : Type 0
TurnsKeepNames =
    (propagates : Bool) (orders : Orders) (code : ResolvedCode) (elements : Bool) (guards : Guards) (e : State) (place : ℕ) (h : Held) (b : Bound) →
    object_at e place ≡ Some h →
    GuardedGoesOn h (scoped e (exec_resolved propagates orders code (guards_of_loop elements h ++ guards)) (with_name e b)).after place

-- an update of a key begins only where no other guard is held on its set, so that its end may take the element out
pub record UpdatesAreAlone : Type 0 where
  pub held : (guards : Guards) (h : Held) (at : Mark) → held_under guards h ≡ h → head_reason UpdateKey h at ≡ None →
      is_guarded guards (number_of h) ≡ false
  pub found : (guards : Guards) (e : State) (place : ℕ) (h : Held) (at : Mark) → object_at (under guards e) place ≡ Some h →
      head_reason UpdateKey h at ≡ None → is_guarded guards (number_of h) ≡ false
