-- What is kept of what the names hold: lists alone.
use Rattle.std.proofs.Common.{◌≡◌, ◌==◌, ◌||◌, ◌&&◌, ◌++◌, ℕ, zero, suc, Bool, true, false, List, [], ◌∷◌, map, take, length, slice_get, slice_set, refl, sym, ap, ◌∙◌, option_map, Option, Some, None}
use Rattle.std.proofs.lemmas.List.{take-map}
use Rattle.std.proofs.lemmas.List.Folds.{list_any-append}
use Rattle.std.proofs.lemmas.Option.{slice_get-map}
use Rattle.std.proofs.Math.Seq.{take-append_seam}
use Rattle.ac_base.specs.declared.guard.GuardKind.TheVariants as guard
use Rattle.ac_base.specs.Guards.{HeldGuard}
use Rattle.ac_calls.specs.Holdings.{of_rows, of_holder, of_queue, Guards, is_on, held_under, number_of, names_of, holds_element, has_root}
use Rattle.ac_meaning.specs.Environment.{Bound, binds_type, binds_object, binds_cursor, binds_value, binds_element, bound_by, bound_in, State, under, at_rest, bound_at, with_bound, leaving}
use Rattle.ac_meaning.specs.GuardedNames.{is_guarded, is_element_guarded, Frame, of_type, of_object, of_cursor, of_value, of_element, names_if, frame, kept}

-- guards on the objects themselves change nothing of what is kept
pub frame_under : (guards held : Guards) (b : Bound) → frame guards (bound_by (held_under held) b) ≡ frame guards b
frame_under guards held binds_type = refl
frame_under guards held (binds_object (of_rows kind o)) = refl
frame_under guards held (binds_object (of_holder e h)) = refl
frame_under guards held (binds_object (of_queue number q)) = refl
frame_under guards held (binds_cursor mark) = refl
frame_under guards held (binds_value v) = refl
frame_under guards held (binds_element object at) = refl

frames_under : (guards held : Guards) (bs : List Bound) → map (frame guards) (map (bound_by (held_under held)) bs) ≡ map (frame guards) bs
frames_under guards held [] = refl
frames_under guards held (b ∷ bs) = λ i. frame_under guards held b i ∷ frames_under guards held bs i

pub kept-under : (guards held : Guards) (e : State) → kept guards (under held e) ≡ kept guards e
kept-under guards held e = frames_under guards held e.bounds

pub kept-at_rest : (guards : Guards) (e : State) → kept guards (at_rest e) ≡ kept guards e
kept-at_rest guards e = kept-under guards [] e

-- the same names keep the same
found_frame : Option Frame → Frame
found_frame None = of_type
found_frame (Some f) = f

frame_found : (guards : Guards) (found : Option Bound) → frame guards (bound_in found) ≡ found_frame (option_map (frame guards) found)
unfolding found_frame
frame_found guards None = refl
frame_found guards (Some b) = refl

frame_at : (guards : Guards) (e : State) (place : ℕ) → frame guards (bound_at e place) ≡ found_frame (slice_get (kept guards e) place)
frame_at guards e place =
    frame_found guards (slice_get e.bounds place) ∙ ap found_frame (sym (slice_get-map (frame guards) e.bounds place))

pub frame_stays : (guards : Guards) (e now : State) (place : ℕ) → kept guards now ≡ kept guards e →
    frame guards (bound_at now place) ≡ frame guards (bound_at e place)
frame_stays guards e now place h =
    frame_at guards now place ∙ (ap (λ fs. found_frame (slice_get fs place)) h ∙ sym (frame_at guards e place))

-- what keeps the same stands at a place
frames_set : (guards : Guards) (bs : List Bound) (place : ℕ) (b : Bound) → frame guards b ≡ frame guards (bound_in (slice_get bs place)) →
    map (frame guards) (slice_set bs place b) ≡ map (frame guards) bs
frames_set guards [] place b h = refl
frames_set guards (x ∷ bs) zero b h = λ i. h i ∷ map (frame guards) bs
frames_set guards (x ∷ bs) (suc place) b h = λ i. frame guards x ∷ frames_set guards bs place b h i

pub kept-with_bound : (guards : Guards) (e : State) (place : ℕ) (b : Bound) → frame guards b ≡ frame guards (bound_at e place) →
    kept guards (with_bound e place b) ≡ kept guards e
kept-with_bound guards e place b h = frames_set guards e.bounds place b h

-- more guards keep more
forget : Guards → Frame → Frame
forget guards of_type = of_type
forget guards (of_object number rooted names has_element) =
    of_object number rooted (names_if (is_guarded guards number) names) (has_element && is_element_guarded guards number)
forget guards of_cursor = of_cursor
forget guards of_value = of_value
forget guards (of_element object at) = of_element object at

names_twice : (a b : Bool) (names : List ℕ) → names_if b (names_if (a || b) names) ≡ names_if b names
names_twice true true names = refl
names_twice false true names = refl
names_twice true false names = refl
names_twice false false names = refl

element_twice : (has a b : Bool) → ((has && (a || b)) && b) ≡ (has && b)
element_twice true true true = refl
element_twice true false true = refl
element_twice true true false = refl
element_twice true false false = refl
element_twice false a b = refl

forgotten : (more guards : Guards) (b : Bound) → forget guards (frame (more ++ guards) b) ≡ frame guards b
unfolding forget
forgotten more guards binds_type = refl
forgotten more guards (binds_object h) =
    let n = number_of h in
    let has : ((holds_element h && is_element_guarded (more ++ guards) n) && is_element_guarded guards n)
    ≡ (holds_element h && is_element_guarded guards n) =
    ap (λ t. (holds_element h && t) && is_element_guarded guards n)
    (list_any-append (λ (g : HeldGuard). is_on g n guard.Elements) more guards)
    ∙ element_twice (holds_element h) (is_element_guarded more n) (is_element_guarded guards n) in
    λ i. of_object n (has_root h) ((ap (λ t. names_if (is_guarded guards n) (names_if t (names_of h))) (list_any-append (λ (g : HeldGuard). g.object == n) more guards)
    ∙ names_twice (is_guarded more n) (is_guarded guards n) (names_of h)) i) (has i)
forgotten more guards (binds_cursor mark) = refl
forgotten more guards (binds_value v) = refl
forgotten more guards (binds_element object at) = refl

all_forgotten : (more guards : Guards) (bs : List Bound) → map (forget guards) (map (frame (more ++ guards)) bs) ≡ map (frame guards) bs
all_forgotten more guards [] = refl
all_forgotten more guards (b ∷ bs) = λ i. forgotten more guards b i ∷ all_forgotten more guards bs i

pub kept_weaker : (more guards : Guards) (e now : State) → kept (more ++ guards) now ≡ kept (more ++ guards) e → kept guards now ≡ kept guards e
kept_weaker more guards e now h =
    sym (all_forgotten more guards now.bounds) ∙ (ap (map (forget guards)) h ∙ all_forgotten more guards e.bounds)

-- names that come and go
kept-take : (guards : Guards) (n : ℕ) (bs : List Bound) → map (frame guards) (take n bs) ≡ take n (map (frame guards) bs)
kept-take guards n bs = sym (take-map (frame guards) n bs)

pub kept_back : (guards : Guards) (e now : State) (more : List Bound) → kept guards now ≡ map (frame guards) (e.bounds ++ more) →
    kept guards (leaving (length e.bounds) now) ≡ kept guards e
kept_back guards e now more h =
    kept-take guards (length e.bounds) now.bounds
    ∙ (ap (take (length e.bounds)) h
    ∙ (sym (kept-take guards (length e.bounds) (e.bounds ++ more)) ∙ ap (map (frame guards)) (take-append_seam e.bounds more)))

-- the number of an object
unfoldable pub number_in_frame : Frame → ℕ
number_in_frame of_type = 0
number_in_frame (of_object number rooted names has_element) = number
number_in_frame of_cursor = 0
number_in_frame of_value = 0
number_in_frame (of_element object at) = 0
