-- What the names hold is of their types: lists alone, and names that are looked up.
use Rattle.std.proofs.Common.{◌≡◌, ◌+◌, ◌++◌, ℕ, zero, suc, Bool, true, false, not, List, [], ◌∷◌, take, length, find, slice_get, refl, sym, ap, subst, arith, append_assoc, option_map, Option, Some, None, cond, if◌then◌else◌}
use Rattle.std.specs.Prelude.{option_and_then, IsTrue}
use Rattle.std.specs.Str.{bytes_eq}
use Rattle.std.proofs.lemmas.List.{append-nil}
use Rattle.std.proofs.lemmas.Option.{same_Some}
use Rattle.ac_syntax.specs.declared.kind.ElemKind.{ElemKind}
use Rattle.ac_syntax.specs.declared.type_def.TypeDef.{TypeDef}
use Rattle.ac_rules.specs.Scopes.{Meaning, a_type, an_object, a_cursor, a_value, a_task, Entry, entry, Scope, Typed, object_in as object_meant, meaning_in, element_of}
use Rattle.ac_rules.specs.Rules.{is_type}
use Rattle.ac_rules.specs.Resolved.{place_of}
use Rattle.ac_meaning.specs.Environment.{Bound, binds_type, binds_object, binds_cursor, binds_value, binds_element, bound_in, object_in, State, bound_at}
use Rattle.ac_meaning.specs.FitsScope.{Fits, AllFit}
use Rattle.ac_meaning.specs.HoldsTypes.{IsTypeIn, HasElements, Holds, AllHold, HoldsTypes, IsObjectAt, TypesFound}
use Rattle.ac_meaning.proofs.CallsStay.{none_some}

-- Scopes that grow

pub got_longer : {A : Type 0} (xs ys : List A) (n : ℕ) (x : A) → slice_get xs n ≡ Some x → slice_get (xs ++ ys) n ≡ Some x
got_longer [] ys n x h = none_some x h
got_longer (y ∷ xs) ys zero x h = h
got_longer (y ∷ xs) ys (suc n) x h = got_longer xs ys n x h

pub meaning_longer : (scope more : Scope) (name : List ℕ) (m : Meaning) → meaning_in scope name ≡ Some m → meaning_in (scope ++ more) name ≡ Some m
meaning_longer [] more name m h = none_some m h
meaning_longer (s ∷ scope) more name m h = go (bytes_eq s.name name) (meaning_longer scope more name m) h
  where
    go : (t : Bool) → (meaning_in scope name ≡ Some m → meaning_in (scope ++ more) name ≡ Some m) →
        option_map (λ (e : Entry). e.meaning) (cond t (Some s) (find (λ (e : Entry). bytes_eq e.name name) scope)) ≡ Some m →
        option_map (λ (e : Entry). e.meaning) (cond t (Some s) (find (λ (e : Entry). bytes_eq e.name name) (scope ++ more))) ≡ Some m
    go true others f = f
    go false others f = others f

pub holds_longer : (scope more : Scope) (m : Meaning) (b : Bound) → Holds scope m b → Holds (scope ++ more) m b
holds_longer scope more (a_type d) binds_type h = h
holds_longer scope more (an_object t d) (binds_object x) h = (meaning_longer scope more t (a_type d) h.0, h.1)
holds_longer scope more (a_cursor t v) (binds_cursor x) h =
    record { def = h.def; is = meaning_longer scope more t (a_type h.def) h.is; has = h.has }
holds_longer scope more (a_value k w) (binds_value x) h = h
holds_longer scope more (a_value k w) (binds_element p x) h = record {
  name = h.name;
  type = h.type;
  def = h.def;
  there = got_longer scope more p (entry h.name (an_object h.type h.def)) h.there;
  elements = h.elements;
}
holds_longer scope more _ _ h = absurd h

pub with_last : (before scope : Scope) (bs : List Bound) (added : Entry) (b : Bound) → AllHold before scope bs →
    Holds (before ++ scope) added.meaning b → AllHold before (scope ++ added ∷ []) (bs ++ b ∷ [])
with_last before [] [] added b h k = (subst (λ s. Holds s added.meaning b) (append-nil before) k, tt)
with_last before [] (x ∷ bs) added b h k = absurd h
with_last before (e ∷ scope) [] added b h k = absurd h
with_last before (e ∷ scope) (x ∷ bs) added b h k =
    (h.0, with_last (before ++ e ∷ []) scope bs added b h.1 (subst (λ s. Holds s added.meaning b) (sym (append_assoc before (e ∷ []) scope)) k))

pub first_ones : (before scope more : Scope) (bs : List Bound) → AllHold before (scope ++ more) bs → AllHold before scope (take (length scope) bs)
first_ones before [] more bs h = tt
first_ones before (e ∷ scope) more [] h = absurd h
first_ones before (e ∷ scope) more (b ∷ bs) h = (h.0, first_ones (before ++ e ∷ []) scope more bs h.1)

pub as_long : (before scope : Scope) (bs : List Bound) → AllHold before scope bs → length bs ≡ length scope
as_long before [] [] h = refl
as_long before [] (b ∷ bs) h = absurd h
as_long before (e ∷ scope) [] h = absurd h
as_long before (e ∷ scope) (b ∷ bs) h = ap suc (as_long (before ++ e ∷ []) scope bs h.1)

-- Names that are looked up

found_step : (before : Scope) (s : Entry) (scope : Scope) (b : Bound) (bs : List Bound) (name : List ℕ) (m : Meaning) (t : Bool) →
    Holds before s.meaning b →
    option_map (λ (e : Entry). e.meaning) (cond t (Some s) (find (λ (e : Entry). bytes_eq e.name name) scope)) ≡ Some m →
    (meaning_in scope name ≡ Some m → Holds ((before ++ s ∷ []) ++ scope) m (bound_in (slice_get bs (place_of scope name)))) →
    Holds (before ++ s ∷ scope) m (bound_in (slice_get (b ∷ bs) (if not t then 1 + place_of scope name else 0)))
found_step before s scope b bs name m true h f others =
    let p : s.meaning ≡ m = cc in holds_longer before (s ∷ scope) m b (subst (λ x. Holds before x b) p h)
found_step before s scope b bs name m false h f others =
    let p : 1 + place_of scope name ≡ suc (place_of scope name) = omega arith in
    subst (λ n. Holds (before ++ s ∷ scope) m (bound_in (slice_get (b ∷ bs) n))) (sym p)
    (subst (λ x. Holds x m (bound_in (slice_get bs (place_of scope name)))) (append_assoc before (s ∷ []) scope) (others f))

pub found : (before scope : Scope) (bs : List Bound) (name : List ℕ) (m : Meaning) → AllHold before scope bs → meaning_in scope name ≡ Some m →
    Holds (before ++ scope) m (bound_in (slice_get bs (place_of scope name)))
found before [] bs name m h f = none_some m f
found before (s ∷ scope) [] name m h f = absurd h
found before (s ∷ scope) (b ∷ bs) name m h f =
    found_step before s scope b bs name m (bytes_eq s.name name) h.0 f (found (before ++ s ∷ []) scope bs name m h.1)

pub at_place : (before scope : Scope) (bs : List Bound) (n : ℕ) (s : Entry) → AllHold before scope bs → slice_get scope n ≡ Some s →
    Holds (before ++ scope) s.meaning (bound_in (slice_get bs n))
at_place before [] bs n s h f = none_some s f
at_place before (x ∷ scope) [] n s h f = absurd h
at_place before (x ∷ scope) (b ∷ bs) zero s h f =
    let p : x ≡ s = same_Some x s f in
    subst (λ (y : Entry). Holds (before ++ x ∷ scope) y.meaning b) p (holds_longer before (x ∷ scope) x.meaning b h.0)
at_place before (x ∷ scope) (b ∷ bs) (suc n) s h f =
    subst (λ y. Holds y s.meaning (bound_in (slice_get bs n))) (append_assoc before (x ∷ []) scope) (at_place (before ++ x ∷ []) scope bs n s h.1 f)

-- Types and objects

checked_by : (scope : Scope) (def : TypeDef) (b : Bound) → Holds scope (a_type def) b → IsTrue (is_type def)
checked_by scope def binds_type h = h
checked_by scope def _ h = absurd h

pub type_checked : (scope : Scope) (e : State) (type : List ℕ) (def : TypeDef) → HoldsTypes scope e → IsTypeIn scope type def → IsTrue (is_type def)
type_checked scope e type def all is = checked_by scope def (bound_at e (place_of scope type)) (found [] scope e.bounds type (a_type def) all is)

pub object_held : (scope : Scope) (e : State) (place : ℕ) (type : List ℕ) (def : TypeDef) (b : Bound) → bound_at e place ≡ b → HoldsTypes scope e →
    Holds scope (an_object type def) b → IsObjectAt scope e place (record { type = type; def = def })
object_held scope e place type def (binds_object x) there all h = record {
  held = x;
  there = ap object_in there;
  is = h.0;
  type = type_checked scope e type def all h.0;
  shape = h.1;
}
object_held scope e place type def _ there all h = absurd h

object_at_place : (scope : Scope) (e : State) (place : ℕ) (m : Meaning) (typed : Typed) → HoldsTypes scope e → object_meant m ≡ Some typed →
    Holds scope m (bound_at e place) → IsObjectAt scope e place typed
object_at_place scope e place (an_object t d) typed all f h =
    subst (λ y. IsObjectAt scope e place y) (same_Some _ typed f) (object_held scope e place t d (bound_at e place) refl all h)
object_at_place scope e place (a_type d) typed all f h = none_some typed f
object_at_place scope e place (a_cursor t v) typed all f h = none_some typed f
object_at_place scope e place (a_value k w) typed all f h = none_some typed f
object_at_place scope e place a_task typed all f h = none_some typed f

object_found : (scope : Scope) (e : State) (name : List ℕ) (typed : Typed) (meant : Option Meaning) → meaning_in scope name ≡ meant →
    HoldsTypes scope e → option_and_then object_meant meant ≡ Some typed → IsObjectAt scope e (place_of scope name) typed
object_found scope e name typed None is all f = none_some typed f
object_found scope e name typed (Some m) is all f =
    object_at_place scope e (place_of scope name) m typed all f (found [] scope e.bounds name m all is)

elements_found : (scope : Scope) (e : State) (place : ℕ) (element : ElemKind) → HoldsTypes scope e → HasElements scope place element →
    (typed : Typed) × IsObjectAt scope e place typed × (element_of typed.def ≡ element)
elements_found scope e place element all h =
    let stands = at_place [] scope e.bounds place (entry h.name (an_object h.type h.def)) all h.there in
    (record { type = h.type; def = h.def }, object_held scope e place h.type h.def (bound_at e place) refl all stands, h.elements)

-- What holds fits

holds_fits : (scope : Scope) (m : Meaning) (b : Bound) → Holds scope m b → Fits m b
holds_fits scope (a_type d) binds_type h = tt
holds_fits scope (an_object t d) (binds_object x) h = tt
holds_fits scope (a_cursor t v) (binds_cursor x) h = tt
holds_fits scope (a_value k w) (binds_value x) h = tt
holds_fits scope (a_value k w) (binds_element p x) h = tt
holds_fits scope _ _ h = absurd h

all_fit : (before scope : Scope) (bs : List Bound) → AllHold before scope bs → AllFit scope bs
all_fit before [] [] h = tt
all_fit before [] (b ∷ bs) h = absurd h
all_fit before (e ∷ scope) [] h = absurd h
all_fit before (e ∷ scope) (b ∷ bs) h = (holds_fits before e.meaning b h.0, all_fit (before ++ e ∷ []) scope bs h.1)

pub types_found : TypesFound
types_found = record {
  names = λ scope e name m h f. found [] scope e.bounds name m h f;
  objects = λ scope e name typed h f. object_found scope e name typed (meaning_in scope name) refl h f;
  elements = elements_found;
  fit = λ scope e h. all_fit [] scope e.bounds h;
}
