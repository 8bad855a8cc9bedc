-- Environments in which statements can run.
use Rattle.std.proofs.Common.{◌≡◌, ◌==◌, ◌||◌, ◌&&◌, ◌+◌, ◌<◌, ◌⊎◌, inl, inr, ℕ, zero, suc, Bool, true, false, List, [], ◌∷◌, ◌++◌, map, length, slice_get, reverse, refl, sym, ap, subst, ◌∙◌, arith, Some, None, if◌then◌else◌}
use Rattle.std.proofs.lemmas.List.{map-append}
use Rattle.std.proofs.lemmas.List.Folds.{list_any-append}
use Rattle.std.proofs.lemmas.Option.{none-some, same_Some}
use Rattle.ac_base.specs.Guards.{HeldGuard}
use Rattle.ac_base.specs.declared.guard.GuardKind.{GuardKind}
use Rattle.ac_base.specs.declared.guard.GuardKind.TheVariants as guard
use Rattle.ac_base.specs.Rows.{names}
use Rattle.ac_model.specs.Letters.{Mark, mark_at}
use Rattle.ac_rules.specs.Resolved.{ResolvedCode}
use Rattle.ac_rules.proofs.Apart.{and_parts}
use Rattle.ac_model.proofs.Depths.{both_true}
use Rattle.ac_calls.specs.Holdings.{Held, of_rows, of_holder, of_queue, Guards, is_on, held_on, number_of, names_of, holds_element, has_root, have_root, held_under, element_value, guard_on}
use Rattle.ac_meaning.specs.Environment.{Bound, binds_type, binds_object, binds_cursor, binds_value, binds_element, bound_by, bound_in, object_in, State, under, bound_at, object_at, with_name, leaving}
use Rattle.ac_meaning.specs.Execution.{Orders, exec_resolved, in_order}
use Rattle.ac_meaning.specs.GuardedNames.{is_guarded, is_element_guarded, Frame, of_type, of_object, of_cursor, of_value, of_element, names_if, frame, kept}
use Rattle.ac_meaning.specs.Numbers.{NumbersDiffer, GuardsBelow}
use Rattle.ac_meaning.proofs.BoundsStay.{object_there}
use Rattle.ac_meaning.proofs.CountsStay.{bound_under}
use Rattle.ac_meaning.proofs.ExecKeeps.{resolved_keeps}
use Rattle.ac_meaning.proofs.Frames.{kept_back}
use Rattle.ac_meaning.proofs.Guarded.{held_some}
use Rattle.ac_meaning.proofs.HoldersStay.{element_stands}
use Rattle.ac_meaning.proofs.NewObjects.{new_objects_are_unguarded}
use Rattle.ac_meaning.proofs.NextRises.{next_rises}
use Rattle.ac_meaning.proofs.NumbersApart.{numbers_go_on}
use Rattle.ac_meaning.proofs.Designating.{element_refused, designated}
use Rattle.ac_meaning.proofs.Walks.{named_there, turned}
use Rattle.ac_objects.specs.RootFree.{NoRootAmong}
use Rattle.ac_objects.specs.Standing.{ElementStands, ElementsStand, keeping_guards}
use Rattle.ac_objects.specs.World.{World, state_of}
use Rattle.ac_host.specs.Ready.{IsNamed, IsKept, ElementsKept, Ready, IsReady}
use Rattle.ac_host.proofs.Holding.{object_by_there}

-- An element that an object has

no_row : (before : List ℕ) (name : ℕ) (after : List ℕ) → [] ≡ before ++ name ∷ after → ⊥
no_row [] name after e = cc
no_row (x ∷ before) name after e = cc

pub element_there : (h : Held) (before : List ℕ) (name : ℕ) (after : List ℕ) → names_of h ≡ before ++ name ∷ after →
    (has_root h ≡ true → name ≡ 0 → ⊥) → (element_value h (mark_at (number_of h) name)).reason ≡ None
element_there (of_rows kind o) before name after e other =
    element_refused kind o (mark_at o.number name)
    ∙ designated (have_root kind) o (mark_at o.number name)
    (record { name = name; named = named_there o.rows before name after e; no_root = other; is = refl })
element_there (of_holder e h) before name after is other = absurd (no_row before name after is)
element_there (of_queue number q) before name after is other = absurd (no_row before name after is)

pub number_under : (guards : Guards) (h : Held) → number_of (held_under guards h) ≡ number_of h
number_under guards (of_rows kind o) = refl
number_under guards (of_holder e h) = refl
number_under guards (of_queue number q) = refl

pub names_under : (guards : Guards) (h : Held) → names_of (held_under guards h) ≡ names_of h
names_under guards (of_rows kind o) = refl
names_under guards (of_holder e h) = refl
names_under guards (of_queue number q) = refl

pub root_under : (guards : Guards) (h : Held) → has_root (held_under guards h) ≡ has_root h
root_under guards (of_rows kind o) = refl
root_under guards (of_holder e h) = refl
root_under guards (of_queue number q) = refl

pub has_under : (guards : Guards) (h : Held) → holds_element (held_under guards h) ≡ holds_element h
has_under guards (of_rows kind o) = refl
has_under guards (of_holder e h) = refl
has_under guards (of_queue number q) = refl

guarded_counts : (guards : Guards) (h : Held) (before : List ℕ) (name : ℕ) (after : List ℕ) → is_guarded guards (number_of h) ≡ true →
    names_of h ≡ before ++ name ∷ after → 0 < keeping_guards (held_under guards h)
guarded_counts guards (of_rows kind o) before name after g e = held_some guards o.number g
guarded_counts guards (of_holder e h) before name after g is = absurd (no_row before name after is)
guarded_counts guards (of_queue number q) before name after g is = absurd (no_row before name after is)

-- an element that is kept, as those of holders are

abbrev pub keeps_element : Guards → Held → Bool
keeps_element guards h = holds_element h && is_element_guarded guards (number_of h)

any_later : (a b : Bool) → b ≡ true → (a || b) ≡ true
any_later true b e = refl
any_later false b e = e

keeps_more : (more guards : Guards) (h : Held) → keeps_element guards h ≡ true → keeps_element (more ++ guards) h ≡ true
keeps_more more guards h e =
    let n = number_of h in
    let p = and_parts (holds_element h) (is_element_guarded guards n) e in
    both_true (holds_element h) (is_element_guarded (more ++ guards) n) p.0
    (list_any-append (λ (g : HeldGuard). is_on g n guard.Elements) more guards
    ∙ any_later (is_element_guarded more n) (is_element_guarded guards n) p.1)

element_step : (g : HeldGuard) (guards : Guards) (n : ℕ) (b : Bool) → is_on g n guard.Elements ≡ b → (b || is_element_guarded guards n) ≡ true →
    (is_element_guarded guards n ≡ true → 0 < held_on guards n guard.Elements) →
    0 < (if b then 1 else 0) + held_on guards n guard.Elements
element_step g guards n true e k rest = omega arith
element_step g guards n false e k rest = omega (arith, rest k)

element_some : (guards : Guards) (n : ℕ) → is_element_guarded guards n ≡ true → 0 < held_on guards n guard.Elements
element_some [] n h = absurd (cc)
element_some (g ∷ guards) n h = element_step g guards n (is_on g n guard.Elements) refl h (element_some guards n)

element_counts : (guards : Guards) (h : Held) → holds_element h ≡ true → is_element_guarded guards (number_of h) ≡ true →
    0 < keeping_guards (held_under guards h)
element_counts guards (of_rows kind o) has g = let some = element_some guards o.number g in omega (arith, some)
element_counts guards (of_holder e h) has g = element_some guards h.number g
element_counts guards (of_queue number q) has g = absurd (cc)

-- What stays of a name, and what it holds

pub record Framed (guards : Guards) (bs : List Bound) (place : ℕ) (f : Frame) : Type 0 where
  pub bound : Bound
  pub there : slice_get bs place ≡ Some bound
  pub is : frame guards bound ≡ f

pub framed : (guards : Guards) (bs : List Bound) (place : ℕ) (f : Frame) → slice_get (map (frame guards) bs) place ≡ Some f → Framed guards bs place f
framed guards [] place f e = absurd (none-some f e)
framed guards (b ∷ bs) zero f e = record { bound = b; there = refl; is = same_Some (frame guards b) f e }
framed guards (b ∷ bs) (suc place) f e = let r = framed guards bs place f e in record { bound = r.bound; there = r.there; is = r.is }

pub frame_there : (guards : Guards) (bs : List Bound) (place : ℕ) (b : Bound) → slice_get bs place ≡ Some b → slice_get (map (frame guards) bs) place ≡ Some (frame guards b)
frame_there guards [] place b e = absurd (none-some b e)
frame_there guards (x ∷ bs) zero b e = ap (λ (y : Bound). Some (frame guards y)) (same_Some x b e)
frame_there guards (x ∷ bs) (suc place) b e = frame_there guards bs place b e

pub last_there : (bs : List Bound) (b : Bound) → slice_get (bs ++ b ∷ []) (length bs) ≡ Some b
last_there [] b = refl
last_there (x ∷ bs) b = last_there bs b

number_in : Frame → ℕ
number_in of_type = 0
number_in (of_object number rooted names has_element) = number
number_in of_cursor = 0
number_in of_value = 0
number_in (of_element object at) = 0

names_in : Frame → List ℕ
names_in of_type = []
names_in (of_object number rooted names has_element) = names
names_in of_cursor = []
names_in of_value = []
names_in (of_element object at) = []

rooted_in : Frame → Bool
rooted_in of_type = false
rooted_in (of_object number rooted names has_element) = rooted
rooted_in of_cursor = false
rooted_in of_value = false
rooted_in (of_element object at) = false

element_in : Frame → Bool
element_in of_type = false
element_in (of_object number rooted names has_element) = has_element
element_in of_cursor = false
element_in of_value = false
element_in (of_element object at) = false

-- an object that has these names, where a guard is held on it, and whether it keeps an element
pub record ObjectKept (guards : Guards) (e : State) (place number : ℕ) (rooted : Bool) (all : List ℕ) (has_element : Bool) : Type 0 where
  pub held : Held
  pub there : object_at e place ≡ Some held
  pub number_is : number_of held ≡ number
  pub rooted_is : has_root held ≡ rooted
  pub names_are : is_guarded guards number ≡ true → names_of held ≡ all
  pub keeps : keeps_element guards held ≡ has_element

framed_object : (guards : Guards) (e : State) (place number : ℕ) (rooted : Bool) (all : List ℕ) (has : Bool) (b : Bound) → slice_get e.bounds place ≡ Some b →
    frame guards b ≡ of_object number rooted all has → ObjectKept guards e place number rooted all has
unfolding number_in rooted_in names_in element_in
framed_object guards e place number rooted all has (binds_object h) there is =
    let n : number_of h ≡ number = ap number_in is in
    record {
      held = h;
      there = ap (λ o. object_in (bound_in o)) there;
      number_is = n;
      rooted_is = ap rooted_in is;
      names_are = λ g.
          let own : is_guarded guards (number_of h) ≡ true = ap (is_guarded guards) n ∙ g in
          sym (ap (λ t. names_if t (names_of h)) own) ∙ ap names_in is;
      keeps = ap element_in is;
    }
framed_object guards e place number rooted all has binds_type there is = absurd (cc)
framed_object guards e place number rooted all has (binds_cursor mark) there is = absurd (cc)
framed_object guards e place number rooted all has (binds_value v) there is = absurd (cc)
framed_object guards e place number rooted all has (binds_element object at) there is = absurd (cc)

pub kept_object : (guards : Guards) (e : State) (place number : ℕ) (rooted : Bool) (all : List ℕ) (has : Bool) →
    slice_get (kept guards e) place ≡ Some (of_object number rooted all has) → ObjectKept guards e place number rooted all has
kept_object guards e place number rooted all has there =
    let f = framed guards e.bounds place (of_object number rooted all has) there in framed_object guards e place number rooted all has f.bound f.there f.is

pub bound_found : (bs : List Bound) (place : ℕ) (b : Bound) → bound_in (slice_get bs place) ≡ b → (b ≡ binds_type → ⊥) → slice_get bs place ≡ Some b
bound_found [] place b e other = absurd (other (sym e))
bound_found (x ∷ bs) zero b e other = ap Some e
bound_found (x ∷ bs) (suc place) b e other = bound_found bs place b e other

pub no_type_object : (h : Held) → binds_object h ≡ binds_type → ⊥
no_type_object h e = cc

no_type_element : (object : ℕ) (at : Mark) → binds_element object at ≡ binds_type → ⊥
no_type_element object at e = cc

any_framed : (guards : Guards) (e : State) (place : ℕ) (h : Held) → object_at e place ≡ Some h →
    slice_get (kept guards e) place ≡ Some (frame guards (binds_object h))
any_framed guards e place h there =
    frame_there guards e.bounds place (binds_object h)
    (bound_found e.bounds place (binds_object h) (object_there (bound_at e place) h there) (no_type_object h))

pub object_framed : (guards : Guards) (e : State) (place : ℕ) (h : Held) → object_at e place ≡ Some h → is_guarded guards (number_of h) ≡ true →
    slice_get (kept guards e) place ≡ Some (of_object (number_of h) (has_root h) (names_of h) (keeps_element guards h))
object_framed guards e place h there guarded =
    any_framed guards e place h there
    ∙ ap (λ t. Some (of_object (number_of h) (has_root h) (names_if t (names_of h)) (keeps_element guards h))) guarded

element_framed : (guards : Guards) (e : State) (place object : ℕ) (at : Mark) → bound_at e place ≡ binds_element object at →
    slice_get (kept guards e) place ≡ Some (of_element object at)
element_framed guards e place object at is =
    frame_there guards e.bounds place (binds_element object at) (bound_found e.bounds place (binds_element object at) is (no_type_element object at))

framed_element : (guards : Guards) (b : Bound) (object : ℕ) (at : Mark) → frame guards b ≡ of_element object at → b ≡ binds_element object at
framed_element guards (binds_element p m) object at is = cc
framed_element guards (binds_object h) object at is = absurd (cc)
framed_element guards binds_type object at is = absurd (cc)
framed_element guards (binds_cursor mark) object at is = absurd (cc)
framed_element guards (binds_value v) object at is = absurd (cc)

element_by : (f : Held → Held) (b : Bound) (object : ℕ) (at : Mark) → bound_by f b ≡ binds_element object at → b ≡ binds_element object at
element_by f (binds_element p m) object at is = cc
element_by f (binds_object h) object at is = absurd (cc)
element_by f binds_type object at is = absurd (cc)
element_by f (binds_cursor mark) object at is = absurd (cc)
element_by f (binds_value v) object at is = absurd (cc)

-- so an element that is kept stands, while the guards are held

module _ (guards : Guards) (e : State) (object : ℕ) (at : Mark) (number : ℕ) (rooted : Bool) (all : List ℕ) (has : Bool)
    (o : ObjectKept guards e object number rooted all has) where
  named_stands : IsNamed guards number rooted all at → ElementStands (under guards e) object at
  named_stands k =
      let h = held_under guards o.held in
      let same : number_of h ≡ number = number_under guards o.held ∙ o.number_is in
      let among : names_of h ≡ k.before ++ k.name ∷ k.after = names_under guards o.held ∙ (o.names_are k.guarded ∙ k.among) in
      let is : at ≡ mark_at (number_of h) k.name = k.is ∙ ap (λ n. mark_at n k.name) (sym same) in
      record {
        held = h;
        there = object_by_there (held_under guards) e object o.held o.there;
        stands =
            ap (λ m. (element_value h m).reason) is
            ∙ element_there h k.before k.name k.after among (λ t. k.no_root (sym (root_under guards o.held ∙ o.rooted_is) ∙ t));
        guarded =
            guarded_counts guards o.held k.before k.name k.after (ap (is_guarded guards) o.number_is ∙ k.guarded) (o.names_are k.guarded ∙ k.among);
      }

  own_stands : has ≡ true → ElementStands (under guards e) object at
  own_stands k =
      let keeps = and_parts (holds_element o.held) (is_element_guarded guards (number_of o.held)) (o.keeps ∙ k) in
      record {
        held = held_under guards o.held;
        there = object_by_there (held_under guards) e object o.held o.there;
        stands = element_stands (held_under guards o.held) at (has_under guards o.held ∙ keeps.0);
        guarded = element_counts guards o.held keeps.0 keeps.1;
      }

pub kept_stands : (guards : Guards) (e : State) (object : ℕ) (at : Mark) → IsKept guards (kept guards e) object at → ElementStands (under guards e) object at
kept_stands guards e object at k = go k.stands
  where
    o : ObjectKept guards e object k.number k.rooted k.names k.has_element
    o = kept_object guards e object k.number k.rooted k.names k.has_element k.there

    go : IsNamed guards k.number k.rooted k.names at ⊎ (k.has_element ≡ true) → ElementStands (under guards e) object at
    go (inl named) = named_stands guards e object at k.number k.rooted k.names k.has_element o named
    go (inr own) = own_stands guards e object at k.number k.rooted k.names k.has_element o own

pub elements_stand : (guards : Guards) (e : State) → Ready guards e → ElementsStand (under guards e)
elements_stand guards e r place object at is =
    let own = element_by (held_under guards) (bound_at e place) object at (sym (bound_under (held_under guards) e.bounds place) ∙ is) in
    kept_stands guards e object at (r.elements place object at (element_framed guards e place object at own))

pub ready_stand : (w : World) → IsReady w → ElementsStand (state_of w)
ready_stand w r = subst ElementsStand (sym r.stands.is) (elements_stand r.guards r.env r.stands.ready)

-- What stays ready

pub ready_exec : (propagates : Bool) (orders : Orders) (code : ResolvedCode) (guards : Guards) (e : State) → Ready guards e → Ready guards (exec_resolved propagates orders code guards e).after
ready_exec propagates orders code guards e r =
    let now = (exec_resolved propagates orders code guards e).after in
    record {
      below = new_objects_are_unguarded.later guards e now (next_rises.resolved propagates orders code guards None e) r.below;
      differ = numbers_go_on.resolved propagates orders code guards None e r.differ;
      elements = subst (ElementsKept guards) (sym (resolved_keeps propagates orders code guards None e)) r.elements;
    }

guarded_more : (more guards : Guards) (number : ℕ) → is_guarded guards number ≡ true → is_guarded (more ++ guards) number ≡ true
guarded_more more guards number g =
    list_any-append (λ (x : HeldGuard). x.object == number) more guards ∙ any_later (is_guarded more number) (is_guarded guards number) g

kept_more : (more guards : Guards) (e : State) (object : ℕ) (at : Mark) → IsKept guards (kept guards e) object at →
    IsKept (more ++ guards) (kept (more ++ guards) e) object at
kept_more more guards e object at k = go k.stands
  where
    all : Guards
    all = more ++ guards

    o : ObjectKept guards e object k.number k.rooted k.names k.has_element
    o = kept_object guards e object k.number k.rooted k.names k.has_element k.there

    named : IsNamed guards k.number k.rooted k.names at → IsKept all (kept all e) object at
    named n =
        let own : is_guarded all (number_of o.held) ≡ true = ap (is_guarded all) o.number_is ∙ guarded_more more guards k.number n.guarded in
        record {
          number = number_of o.held;
          rooted = has_root o.held;
          names = names_of o.held;
          has_element = keeps_element all o.held;
          there = object_framed all e object o.held o.there own;
          stands = inl (record {
            guarded = own;
            before = n.before;
            name = n.name;
            after = n.after;
            among = o.names_are n.guarded ∙ n.among;
            no_root = λ t. n.no_root (sym o.rooted_is ∙ t);
            is = n.is ∙ ap (λ m. mark_at m n.name) (sym o.number_is);
          });
        }

    go : IsNamed guards k.number k.rooted k.names at ⊎ (k.has_element ≡ true) → IsKept all (kept all e) object at
    go (inl n) = named n
    go (inr own) = record {
      number = number_of o.held;
      rooted = has_root o.held;
      names = names_if (is_guarded all (number_of o.held)) (names_of o.held);
      has_element = keeps_element all o.held;
      there = any_framed all e object o.held o.there;
      stands = inr (keeps_more more guards o.held (o.keeps ∙ own));
    }

-- under more guards
pub ready_more : (more guards : Guards) (e : State) → GuardsBelow (more ++ guards) e → Ready guards e → Ready (more ++ guards) e
ready_more more guards e below r = record {
  below = below;
  differ = r.differ;
  elements = λ place object at is.
      let f = framed (more ++ guards) e.bounds place (of_element object at) is in
      let own = framed_element (more ++ guards) f.bound object at f.is in
      kept_more more guards e object at
      (r.elements place object at (element_framed guards e place object at (ap bound_in f.there ∙ own)));
}

-- a name among those of an object, in either order
pub record Among (all : List ℕ) (name : ℕ) : Type 0 where
  pub before : List ℕ
  pub after : List ℕ
  pub is : all ≡ before ++ name ∷ after

pub among_order : (backward : Bool) (all before : List ℕ) (name : ℕ) (after : List ℕ) → in_order backward all ≡ before ++ name ∷ after → Among all name
among_order false all before name after e = record { before = before; after = after; is = e }
among_order true all before name after e = record { before = reverse after; after = reverse before; is = turned all before name after e }

-- an object at a place is kept there with each of its names
pub kept_at : (guards : Guards) (frames : List Frame) (place number : ℕ) (rooted : Bool) (all : List ℕ) (has : Bool) (name : ℕ) →
    slice_get frames place ≡ Some (of_object number rooted all has) → is_guarded guards number ≡ true → Among all name → NoRootAmong all →
    IsKept guards frames place (mark_at number name)
kept_at guards frames place number rooted all has name there guarded among none = record {
  number = number;
  rooted = rooted;
  names = all;
  has_element = has;
  there = there;
  stands = inl (record {
    guarded = guarded;
    before = among.before;
    name = name;
    after = among.after;
    among = among.is;
    no_root = λ _. none among.before name among.after among.is;
    is = refl;
  });
}

pub longer : {A : Type 0} (xs ys : List A) (place : ℕ) (x : A) → slice_get xs place ≡ Some x → slice_get (xs ++ ys) place ≡ Some x
longer [] ys place x e = absurd (none-some x e)
longer (y ∷ xs) ys zero x e = e
longer (y ∷ xs) ys (suc place) x e = longer xs ys place x e

last_or_before : {A : Type 0} (xs : List A) (y : A) (place : ℕ) (x : A) → slice_get (xs ++ y ∷ []) place ≡ Some x → (slice_get xs place ≡ Some x) ⊎ (y ≡ x)
last_or_before [] y zero x e = inr (same_Some y x e)
last_or_before [] y (suc place) x e = absurd (none-some x e)
last_or_before (z ∷ xs) y zero x e = inl e
last_or_before (z ∷ xs) y (suc place) x e = last_or_before xs y place x e

pub kept_longer : (guards : Guards) (frames more : List Frame) (object : ℕ) (at : Mark) → IsKept guards frames object at → IsKept guards (frames ++ more) object at
kept_longer guards frames more object at k = record {
  number = k.number;
  rooted = k.rooted;
  names = k.names;
  has_element = k.has_element;
  there = longer frames more object (of_object k.number k.rooted k.names k.has_element) k.there;
  stands = k.stands;
}

pub elements_longer : (guards : Guards) (frames : List Frame) (last : Frame) → ElementsKept guards frames →
    ((object : ℕ) (at : Mark) → last ≡ of_element object at → IsKept guards frames object at) → ElementsKept guards (frames ++ last ∷ [])
elements_longer guards frames last all own place object at is =
    go (last_or_before frames last place (of_element object at) is)
  where
    go : (slice_get frames place ≡ Some (of_element object at)) ⊎ (last ≡ of_element object at) → IsKept guards (frames ++ last ∷ []) object at
    go (inl before) = kept_longer guards frames (last ∷ []) object at (all place object at before)
    go (inr here) = kept_longer guards frames (last ∷ []) object at (own object at here)

pub kept_named : (guards : Guards) (e : State) (b : Bound) → kept guards (with_name e b) ≡ kept guards e ++ frame guards b ∷ []
kept_named guards e b = map-append (frame guards) e.bounds (b ∷ [])

-- with a name more
pub ready_named : (guards : Guards) (e : State) (b : Bound) → object_in b ≡ None →
    ((object : ℕ) (at : Mark) → frame guards b ≡ of_element object at → IsKept guards (kept guards e) object at) → Ready guards e → Ready guards (with_name e b)
ready_named guards e b none own r = record {
  below = new_objects_are_unguarded.later guards e (with_name e b) (omega arith) r.below;
  differ = numbers_go_on.named e b none r.differ;
  elements = subst (ElementsKept guards) (sym (kept_named guards e b)) (elements_longer guards (kept guards e) (frame guards b) r.elements own);
}

-- and when it goes
pub ready_back : (guards : Guards) (e now : State) (b : Bound) → kept guards now ≡ kept guards (with_name e b) → Ready guards e → Ready guards now →
    Ready guards (leaving (length e.bounds) now)
ready_back guards e now b same r now_ready = record {
  below = new_objects_are_unguarded.later guards now (leaving (length e.bounds) now) (omega arith) now_ready.below;
  differ = numbers_go_on.left (length e.bounds) now now_ready.differ;
  elements = subst (ElementsKept guards) (sym (kept_back guards e now (b ∷ []) same)) r.elements;
}

-- with a guard of a block on an object
pub below_held : (guards : Guards) (e : State) (place : ℕ) (h : Held) (kind : GuardKind) → object_at (under guards e) place ≡ Some h →
    NumbersDiffer e → (others : Guards) → GuardsBelow others e → GuardsBelow (guard_on h kind ∷ others) e
below_held guards e place h kind there differ others below =
    let now = under guards e in
    new_objects_are_unguarded.later (guard_on h kind ∷ others) now e (omega arith)
    (new_objects_are_unguarded.one_more others now place h kind (numbers_go_on.guarded guards e differ) there
    (new_objects_are_unguarded.later others e now (omega arith) below))
