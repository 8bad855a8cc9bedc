-- What the names hold goes on to be of their types: what each keeps of it, as a list.
use Rattle.std.proofs.Common.{◌≡◌, ◌++◌, ℕ, zero, suc, true, List, [], ◌∷◌, map, take, length, slice_get, slice_set, refl, sym, ap, subst, ◌∙◌, option_map, Option, Some, None}
use Rattle.std.proofs.lemmas.List.{take-map}
use Rattle.std.proofs.lemmas.Option.{slice_get-map}
use Rattle.std.proofs.Math.Seq.{take-append_seam}
use Rattle.ac_rules.specs.Rules.{is_type}
use Rattle.ac_rules.specs.Scopes.{Meaning, a_type, an_object, a_cursor, a_value, Scope}
use Rattle.ac_calls.specs.Holdings.{of_rows, of_holder, of_queue, Guards, held_under}
use Rattle.ac_meaning.specs.Environment.{Bound, binds_type, binds_object, binds_cursor, binds_value, binds_element, bound_by, bound_in, State, under, at_rest, bound_at, with_bound, leaving}
use Rattle.ac_meaning.specs.HoldsTypes.{Shape, shape_of, shape_of_type, IsTypeIn, HasCursors, HasElements, Holds, AllHold, HoldsTypes}

-- of what a name holds
pub data Sort : Type 0 where
  of_type : Sort
  of_object : Shape → Sort
  of_cursor : Sort
  of_value : Sort
  of_element : (object : ℕ) → Sort

abbrev pub sort : Bound → Sort
sort binds_type = of_type
sort (binds_object h) = of_object (shape_of h)
sort (binds_cursor mark) = of_cursor
sort (binds_value v) = of_value
sort (binds_element object at) = of_element object

abbrev pub sorts : State → List Sort
sorts e = map sort e.bounds

HoldsSort : Scope → Meaning → Sort → Type 0
HoldsSort scope (a_type def) of_type = is_type def ≡ true
HoldsSort scope (an_object type def) (of_object s) = IsTypeIn scope type def × (s ≡ shape_of_type def)
HoldsSort scope (a_cursor type _) of_cursor = HasCursors scope type
HoldsSort scope (a_value _ _) of_value = Unit {0}
HoldsSort scope (a_value element _) (of_element object) = HasElements scope object element
HoldsSort _ _ _ = ⊥

to_sort : (scope : Scope) (m : Meaning) (b : Bound) → Holds scope m b → HoldsSort scope m (sort b)
unfolding HoldsSort
to_sort scope (a_type d) binds_type h = h
to_sort scope (an_object t d) (binds_object x) h = h
to_sort scope (a_cursor t v) (binds_cursor x) h = h
to_sort scope (a_value k w) (binds_value x) h = tt
to_sort scope (a_value k w) (binds_element p x) h = h
to_sort scope _ _ h = absurd h

from_sort : (scope : Scope) (m : Meaning) (b : Bound) → HoldsSort scope m (sort b) → Holds scope m b
unfolding HoldsSort
from_sort scope (a_type d) binds_type h = h
from_sort scope (an_object t d) (binds_object x) h = h
from_sort scope (a_cursor t v) (binds_cursor x) h = h
from_sort scope (a_value k w) (binds_value x) h = tt
from_sort scope (a_value k w) (binds_element p x) h = h
from_sort scope _ _ h = absurd h

first_or : Sort → List Sort → Sort
first_or other [] = other
first_or other (s ∷ ss) = s

rest_of : List Sort → List Sort
rest_of [] = []
rest_of (s ∷ ss) = ss

all_on : (before scope : Scope) (bs cs : List Bound) → map sort cs ≡ map sort bs → AllHold before scope bs → AllHold before scope cs
unfolding first_or rest_of
all_on before [] [] [] e h = tt
all_on before [] [] (c ∷ cs) e h = absurd (cc)
all_on before [] (b ∷ bs) cs e h = absurd h
all_on before (s ∷ scope) [] cs e h = absurd h
all_on before (s ∷ scope) (b ∷ bs) [] e h = absurd (cc)
all_on before (s ∷ scope) (b ∷ bs) (c ∷ cs) e h =
    let f : sort c ≡ sort b = ap (first_or of_type) e in (
      from_sort before s.meaning c (subst (HoldsSort before s.meaning) (sym f) (to_sort before s.meaning b h.0)),
      all_on (before ++ s ∷ []) scope bs cs (ap rest_of e) h.1,
    )

pub holds_on : (scope : Scope) (e now : State) → sorts now ≡ sorts e → HoldsTypes scope e → HoldsTypes scope now
holds_on scope e now same h = all_on [] scope e.bounds now.bounds same h

-- Under guards

sort_under : (guards : Guards) (b : Bound) → sort (bound_by (held_under guards) b) ≡ sort b
sort_under guards binds_type = refl
sort_under guards (binds_object (of_rows kind o)) = refl
sort_under guards (binds_object (of_holder e h)) = refl
sort_under guards (binds_object (of_queue number q)) = refl
sort_under guards (binds_cursor mark) = refl
sort_under guards (binds_value v) = refl
sort_under guards (binds_element object at) = refl

all_under : (guards : Guards) (bs : List Bound) → map sort (map (bound_by (held_under guards)) bs) ≡ map sort bs
all_under guards [] = refl
all_under guards (b ∷ bs) = λ i. sort_under guards b i ∷ all_under guards bs i

pub sorts-under : (guards : Guards) (e : State) → sorts (under guards e) ≡ sorts e
sorts-under guards e = all_under guards e.bounds

pub sorts-at_rest : (e : State) → sorts (at_rest e) ≡ sorts e
sorts-at_rest e = sorts-under [] e

-- At a place

found_sort : Option Sort → Sort
found_sort None = of_type
found_sort (Some s) = s

sort_found : (found : Option Bound) → sort (bound_in found) ≡ found_sort (option_map sort found)
unfolding found_sort
sort_found None = refl
sort_found (Some b) = refl

sort_at : (e : State) (place : ℕ) → sort (bound_at e place) ≡ found_sort (slice_get (sorts e) place)
sort_at e place = sort_found (slice_get e.bounds place) ∙ ap found_sort (sym (slice_get-map sort e.bounds place))

pub sort_stays : (e now : State) (place : ℕ) → sorts now ≡ sorts e → sort (bound_at now place) ≡ sort (bound_at e place)
sort_stays e now place same = sort_at now place ∙ (ap (λ ss. found_sort (slice_get ss place)) same ∙ sym (sort_at e place))

sorts_set : (bs : List Bound) (place : ℕ) (b : Bound) → sort b ≡ sort (bound_in (slice_get bs place)) → map sort (slice_set bs place b) ≡ map sort bs
sorts_set [] place b h = refl
sorts_set (x ∷ bs) zero b h = λ i. h i ∷ map sort bs
sorts_set (x ∷ bs) (suc place) b h = λ i. sort x ∷ sorts_set bs place b h i

pub sorts-with_bound : (e : State) (place : ℕ) (b : Bound) → sort b ≡ sort (bound_at e place) → sorts (with_bound e place b) ≡ sorts e
sorts-with_bound e place b h = sorts_set e.bounds place b h

-- Names that come and go

sorts-take : (n : ℕ) (bs : List Bound) → map sort (take n bs) ≡ take n (map sort bs)
sorts-take n bs = sym (take-map sort n bs)

pub sorts_back : (e now : State) (more : List Bound) → sorts now ≡ map sort (e.bounds ++ more) → sorts (leaving (length e.bounds) now) ≡ sorts e
sorts_back e now more h =
    sorts-take (length e.bounds) now.bounds
    ∙ (ap (take (length e.bounds)) h
    ∙ (sym (sorts-take (length e.bounds) (e.bounds ++ more)) ∙ ap (map sort) (take-append_seam e.bounds more)))
