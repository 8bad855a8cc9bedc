-- Values of variables, and trees, in lists of what names hold: the types of the values alone tell whether each is of its type.
use Rattle.std.proofs.Common.{◌≡◌, ◌+◌, ◌++◌, ℕ, zero, suc, Bool, true, false, not, List, [], ◌∷◌, map, take, length, find, slice_get, slice_set, refl, sym, ap, subst, ◌∙◌, arith, option_map, Option, Some, None, cond, if◌then◌else◌}
use Rattle.std.specs.Str.{bytes_eq}
use Rattle.std.proofs.lemmas.List.{take-map}
use Rattle.std.proofs.lemmas.Option.{slice_get-map}
use Rattle.std.proofs.Math.Seq.{take-append_seam}
use Rattle.ac_syntax.specs.declared.kind.ElemKind.{ElemKind}
use Rattle.ac_rules.specs.Resolved.{place_of}
use Rattle.ac_rules.specs.Rules.{kind_of}
use Rattle.ac_rules.specs.Scopes.{Meaning, a_type, an_object, a_cursor, a_value, a_task, Entry, Scope, meaning_in}
use Rattle.ac_calls.specs.Holdings.{Held, Guards, held_under}
use Rattle.ac_meaning.specs.Environment.{Bound, binds_type, binds_object, binds_cursor, binds_value, binds_element, bound_by, bound_in, State, under, at_rest, bound_at, with_bound, object_at, leaving}
use Rattle.ac_meaning.specs.ValueTypes.{HoldsValue, AllValues, VariablesHold, IsSound, IsSoundIn, AllSound, ObjectsSound}
use Rattle.ac_meaning.proofs.BoundsStay.{object_there}
use Rattle.ac_meaning.proofs.CallsStay.{none_some}
use Rattle.ac_meaning.proofs.SoundTrees.{under_sound}

-- The type of a variable's value

abbrev pub kind_in : Bound → Option ElemKind
kind_in binds_type = None
kind_in (binds_object h) = None
kind_in (binds_cursor mark) = None
kind_in (binds_value v) = Some (kind_of v)
kind_in (binds_element object at) = None

abbrev pub kinds : State → List (Option ElemKind)
kinds e = map kind_in e.bounds

abbrev HoldsKind : Meaning → Option ElemKind → Type 0
HoldsKind (a_value element _) (Some k) = k ≡ element
HoldsKind _ _ = Unit {0}

to_kind : (m : Meaning) (b : Bound) → HoldsValue m b → HoldsKind m (kind_in b)
to_kind (a_value element w) (binds_value v) h = h
to_kind (a_value element w) binds_type h = tt
to_kind (a_value element w) (binds_object x) h = tt
to_kind (a_value element w) (binds_cursor x) h = tt
to_kind (a_value element w) (binds_element p x) h = tt
to_kind (a_type d) b h = tt
to_kind (an_object t d) b h = tt
to_kind (a_cursor t v) b h = tt
to_kind a_task b h = tt

from_kind : (m : Meaning) (b : Bound) → HoldsKind m (kind_in b) → HoldsValue m b
from_kind (a_value element w) (binds_value v) h = h
from_kind (a_value element w) binds_type h = tt
from_kind (a_value element w) (binds_object x) h = tt
from_kind (a_value element w) (binds_cursor x) h = tt
from_kind (a_value element w) (binds_element p x) h = tt
from_kind (a_type d) b h = tt
from_kind (an_object t d) b h = tt
from_kind (a_cursor t v) b h = tt
from_kind a_task b h = tt

abbrev first_or : List (Option ElemKind) → Option ElemKind
first_or [] = None
first_or (k ∷ ks) = k

abbrev rest_of : List (Option ElemKind) → List (Option ElemKind)
rest_of [] = []
rest_of (k ∷ ks) = ks

all_on : (scope : Scope) (bs cs : List Bound) → map kind_in cs ≡ map kind_in bs → AllValues scope bs → AllValues scope cs
all_on [] [] [] e h = tt
all_on [] [] (c ∷ cs) e h = absurd (cc)
all_on [] (b ∷ bs) cs e h = absurd h
all_on (s ∷ scope) [] cs e h = absurd h
all_on (s ∷ scope) (b ∷ bs) [] e h = absurd (cc)
all_on (s ∷ scope) (b ∷ bs) (c ∷ cs) e h =
    let f : kind_in c ≡ kind_in b = ap first_or e in
    (from_kind s.meaning c (subst (HoldsKind s.meaning) (sym f) (to_kind s.meaning b h.0)), all_on scope bs cs (ap rest_of e) h.1)

pub variables_on : (scope : Scope) (e now : State) → kinds now ≡ kinds e → VariablesHold scope e → VariablesHold scope now
variables_on scope e now same h = all_on scope e.bounds now.bounds same h

pub with_value : (scope : Scope) (bs : List Bound) (added : Entry) (b : Bound) → AllValues scope bs → HoldsValue added.meaning b →
    AllValues (scope ++ added ∷ []) (bs ++ b ∷ [])
with_value [] [] added b h k = (k, tt)
with_value [] (x ∷ bs) added b h k = absurd h
with_value (e ∷ scope) [] added b h k = absurd h
with_value (e ∷ scope) (x ∷ bs) added b h k = (h.0, with_value scope bs added b h.1 k)

-- Names that are looked up

found_step : (s : Entry) (scope : Scope) (b : Bound) (bs : List Bound) (name : List ℕ) (m : Meaning) (t : Bool) → HoldsValue s.meaning b →
    option_map (λ (e : Entry). e.meaning) (cond t (Some s) (find (λ (e : Entry). bytes_eq e.name name) scope)) ≡ Some m →
    (meaning_in scope name ≡ Some m → HoldsValue m (bound_in (slice_get bs (place_of scope name)))) →
    HoldsValue m (bound_in (slice_get (b ∷ bs) (if not t then 1 + place_of scope name else 0)))
found_step s scope b bs name m true h f others = let p : s.meaning ≡ m = cc in subst (λ x. HoldsValue x b) p h
found_step s scope b bs name m false h f others =
    let p : 1 + place_of scope name ≡ suc (place_of scope name) = omega arith in
    subst (λ n. HoldsValue m (bound_in (slice_get (b ∷ bs) n))) (sym p) (others f)

pub value_found : (scope : Scope) (bs : List Bound) (name : List ℕ) (m : Meaning) → AllValues scope bs → meaning_in scope name ≡ Some m →
    HoldsValue m (bound_in (slice_get bs (place_of scope name)))
value_found [] bs name m h f = none_some m f
value_found (s ∷ scope) [] name m h f = absurd h
value_found (s ∷ scope) (b ∷ bs) name m h f =
    found_step s scope b bs name m (bytes_eq s.name name) h.0 f (value_found scope bs name m h.1)

-- Under guards

kind_under : (f : Held → Held) (b : Bound) → kind_in (bound_by f b) ≡ kind_in b
kind_under f binds_type = refl
kind_under f (binds_object h) = refl
kind_under f (binds_cursor mark) = refl
kind_under f (binds_value v) = refl
kind_under f (binds_element object at) = refl

all_under : (f : Held → Held) (bs : List Bound) → map kind_in (map (bound_by f) bs) ≡ map kind_in bs
all_under f [] = refl
all_under f (b ∷ bs) = λ i. kind_under f b i ∷ all_under f bs i

pub kinds-under : (guards : Guards) (e : State) → kinds (under guards e) ≡ kinds e
kinds-under guards e = all_under (held_under guards) e.bounds

pub kinds-at_rest : (e : State) → kinds (at_rest e) ≡ kinds e
kinds-at_rest e = kinds-under [] e

-- At a place

abbrev found_kind : Option (Option ElemKind) → Option ElemKind
found_kind None = None
found_kind (Some k) = k

kind_found : (found : Option Bound) → kind_in (bound_in found) ≡ found_kind (option_map kind_in found)
kind_found None = refl
kind_found (Some b) = refl

kind_at : (e : State) (place : ℕ) → kind_in (bound_at e place) ≡ found_kind (slice_get (kinds e) place)
kind_at e place = kind_found (slice_get e.bounds place) ∙ ap found_kind (sym (slice_get-map kind_in e.bounds place))

pub kind_stays : (e now : State) (place : ℕ) → kinds now ≡ kinds e → kind_in (bound_at now place) ≡ kind_in (bound_at e place)
kind_stays e now place same = kind_at now place ∙ (ap (λ ks. found_kind (slice_get ks place)) same ∙ sym (kind_at e place))

kinds_set : (bs : List Bound) (place : ℕ) (b : Bound) → kind_in b ≡ kind_in (bound_in (slice_get bs place)) →
    map kind_in (slice_set bs place b) ≡ map kind_in bs
kinds_set [] place b h = refl
kinds_set (x ∷ bs) zero b h = λ i. h i ∷ map kind_in bs
kinds_set (x ∷ bs) (suc place) b h = λ i. kind_in x ∷ kinds_set bs place b h i

pub kinds-with_bound : (e : State) (place : ℕ) (b : Bound) → kind_in b ≡ kind_in (bound_at e place) → kinds (with_bound e place b) ≡ kinds e
kinds-with_bound e place b h = kinds_set e.bounds place b h

-- an object in the place of one
pub object_kind : (e : State) (place : ℕ) (h : Held) → object_at e place ≡ Some h → kind_in (bound_at e place) ≡ None
object_kind e place h there = ap kind_in (object_there (bound_at e place) h there)

pub kinds-with_object : (e now : State) (place : ℕ) (h : Held) → kinds now ≡ kinds e → kind_in (bound_at e place) ≡ None →
    kinds (with_bound now place (binds_object h)) ≡ kinds e
kinds-with_object e now place h same none =
    kinds-with_bound now place (binds_object h) (sym (kind_stays e now place same ∙ none)) ∙ same

kinds-take : (n : ℕ) (bs : List Bound) → map kind_in (take n bs) ≡ take n (map kind_in bs)
kinds-take n bs = sym (take-map kind_in n bs)

pub kinds_back : (e now : State) (more : List Bound) → kinds now ≡ map kind_in (e.bounds ++ more) → kinds (leaving (length e.bounds) now) ≡ kinds e
kinds_back e now more h =
    kinds-take (length e.bounds) now.bounds
    ∙ (ap (take (length e.bounds)) h
    ∙ (sym (kinds-take (length e.bounds) (e.bounds ++ more)) ∙ ap (map kind_in) (take-append_seam e.bounds more)))

-- Trees

sound_in : (bs : List Bound) (place : ℕ) → AllSound bs → IsSoundIn (bound_in (slice_get bs place))
sound_in [] place h = tt
sound_in (b ∷ bs) zero h = h.0
sound_in (b ∷ bs) (suc place) h = sound_in bs place h.1

pub sound_at : (e : State) (place : ℕ) (h : Held) → ObjectsSound e → object_at e place ≡ Some h → IsSound h
sound_at e place h all there =
    subst (λ b. IsSoundIn b) (object_there (bound_at e place) h there) (sound_in e.bounds place all)

set_sound : (bs : List Bound) (place : ℕ) (b : Bound) → AllSound bs → IsSoundIn b → AllSound (slice_set bs place b)
set_sound [] place b h k = tt
set_sound (x ∷ bs) zero b h k = (k, h.1)
set_sound (x ∷ bs) (suc place) b h k = (h.0, set_sound bs place b h.1 k)

pub sound-with_bound : (e : State) (place : ℕ) (b : Bound) → ObjectsSound e → IsSoundIn b → ObjectsSound (with_bound e place b)
sound-with_bound e place b h k = set_sound e.bounds place b h k

pub sound_more : (bs : List Bound) (b : Bound) → AllSound bs → IsSoundIn b → AllSound (bs ++ b ∷ [])
sound_more [] b h k = (k, tt)
sound_more (x ∷ bs) b h k = (h.0, sound_more bs b h.1 k)

take_sound : (n : ℕ) (bs : List Bound) → AllSound bs → AllSound (take n bs)
take_sound zero bs h = tt
take_sound (suc n) [] h = tt
take_sound (suc n) (b ∷ bs) h = (h.0, take_sound n bs h.1)

pub sound-leaving : (n : ℕ) (e : State) → ObjectsSound e → ObjectsSound (leaving n e)
sound-leaving n e h = take_sound n e.bounds h

bound_sound : (guards : Guards) (b : Bound) → IsSoundIn b → IsSoundIn (bound_by (held_under guards) b)
bound_sound guards binds_type h = tt
bound_sound guards (binds_object x) h = under_sound guards x h
bound_sound guards (binds_cursor mark) h = tt
bound_sound guards (binds_value v) h = tt
bound_sound guards (binds_element object at) h = tt

each_sound : (guards : Guards) (bs : List Bound) → AllSound bs → AllSound (map (bound_by (held_under guards)) bs)
each_sound guards [] h = tt
each_sound guards (b ∷ bs) h = (bound_sound guards b h.0, each_sound guards bs h.1)

pub sound-under : (guards : Guards) (e : State) → ObjectsSound e → ObjectsSound (under guards e)
sound-under guards e h = each_sound guards e.bounds h

pub sound-at_rest : (e : State) → ObjectsSound e → ObjectsSound (at_rest e)
sound-at_rest e h = sound-under [] e h
