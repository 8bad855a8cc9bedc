-- What the names in scope hold is what the checks say.
use Rattle.std.proofs.Common.{◌≡◌, ◌+◌, ◌++◌, ℕ, suc, Bool, true, false, not, List, [], ◌∷◌, map, take, length, find, slice_get, nat_lt, refl, sym, ap, subst, ◌∙◌, arith, option_map, Option, Some, None, cond, if◌then◌else◌}
use Rattle.std.specs.Prelude.{option_and_then, pos}
use Rattle.std.specs.Str.{bytes_eq}
use Rattle.ac_base.specs.Limits.{numbers_end}
use Rattle.ac_base.specs.declared.value.Value.TheVariants as value
use Rattle.ac_model.specs.Letters.{Mark, no_mark}
use Rattle.ac_syntax.specs.declared.decl.Decl.{Decl}
use Rattle.ac_syntax.specs.declared.decl.Decl.TheVariants as source_decl
use Rattle.ac_syntax.specs.declared.type_def.TypeDef.{TypeDef}
use Rattle.ac_syntax.specs.declared.view_kind.ViewKind.{ViewKind}
use Rattle.ac_rules.specs.Scopes.{Meaning, a_type, an_object, a_cursor, a_value, a_task, Entry, entry, Scope, Typed, type_of, object_in as object_meant, loop_meaning, view_meaning, meaning_in, object_of, decl_entry, with_entry, with_decls}
use Rattle.ac_rules.specs.Rules.{is_object_of, is_looped, is_view}
use Rattle.ac_rules.specs.Kept.{DeclKept, DeclsKept}
use Rattle.ac_rules.specs.Resolved.{place_of, resolve_decl, resolve_decls}
use Rattle.ac_calls.specs.Holdings.{Held, Guards}
use Rattle.ac_meaning.specs.Environment.{Bound, binds_type, binds_object, binds_cursor, binds_value, binds_element, bound_in, object_in, State, under, bound_at, object_at, Declared, after_decl, after_decls, unless_spent}
use Rattle.ac_meaning.specs.Commands.{performed}
use Rattle.ac_meaning.specs.Execution.{exec_behind, resolved_behind, turn_bound}
use Rattle.ac_meaning.specs.Stays.{BoundStays, EachStays}
use Rattle.ac_meaning.specs.GuardedNames.{Frame, of_type, of_object, of_cursor, of_value, of_element, frame, kept}
use Rattle.ac_meaning.specs.FitsScope.{Fits, AllFit, FitsScope, NamesFound, DeclaredFits, HeadsFit, GoesOnFitting}
use Rattle.ac_meaning.proofs.CallsStay.{none_some}
use Rattle.ac_meaning.proofs.CommandsStay.{command_stays}
use Rattle.ac_meaning.proofs.Frames.{kept-under}
use Rattle.ac_meaning.proofs.ExecKeeps.{resolved_keeps, exec_keeps}

-- Lists alone

with_last : (scope : Scope) (bs : List Bound) (added : Entry) (b : Bound) → AllFit scope bs → Fits added.meaning b →
    AllFit (scope ++ added ∷ []) (bs ++ b ∷ [])
with_last [] [] added b h k = (k, tt)
with_last [] (x ∷ bs) added b h k = absurd h
with_last (e ∷ scope) [] added b h k = absurd h
with_last (e ∷ scope) (x ∷ bs) added b h k = (h.0, with_last scope bs added b h.1 k)

first_ones : (scope more : Scope) (bs : List Bound) → AllFit (scope ++ more) bs → AllFit scope (take (length scope) bs)
first_ones [] more bs h = tt
first_ones (e ∷ scope) more [] h = absurd h
first_ones (e ∷ scope) more (b ∷ bs) h = (h.0, first_ones scope more bs h.1)

as_long : (scope : Scope) (bs : List Bound) → AllFit scope bs → length bs ≡ length scope
as_long [] [] h = refl
as_long [] (b ∷ bs) h = absurd h
as_long (e ∷ scope) [] h = absurd h
as_long (e ∷ scope) (b ∷ bs) h = ap suc (as_long scope bs h.1)

-- What goes on

fits_stays : (m : Meaning) (b c : Bound) → BoundStays b c → Fits m b → Fits m c
fits_stays (a_type d) binds_type binds_type s h = tt
fits_stays (an_object t d) (binds_object x) (binds_object y) s h = tt
fits_stays (a_cursor t v) (binds_cursor x) (binds_cursor y) s h = tt
fits_stays (a_value k w) (binds_value x) (binds_value y) s h = tt
fits_stays (a_value k w) (binds_element p x) (binds_element q y) s h = tt
fits_stays (a_type d) binds_type _ s h = absurd s
fits_stays (an_object t d) (binds_object x) _ s h = absurd s
fits_stays (a_cursor t v) (binds_cursor x) _ s h = absurd s
fits_stays (a_value k w) (binds_value x) _ s h = absurd s
fits_stays (a_value k w) (binds_element p x) _ s h = absurd s
fits_stays _ _ c s h = absurd h

all_stay : (scope : Scope) (bs cs : List Bound) → EachStays bs cs → AllFit scope bs → AllFit scope cs
all_stay scope [] [] s h = h
all_stay scope [] (c ∷ cs) s h = absurd s
all_stay scope (b ∷ bs) [] s h = absurd s
all_stay [] (b ∷ bs) (c ∷ cs) s h = absurd h
all_stay (e ∷ scope) (b ∷ bs) (c ∷ cs) s h = (fits_stays e.meaning b c s.0 h.0, all_stay scope bs cs s.1 h.1)

FitsFrame : Meaning → Frame → Type 0
FitsFrame (a_type _) of_type = Unit {0}
FitsFrame (an_object _ _) (of_object _ _ _ _) = Unit {0}
FitsFrame (a_cursor _ _) of_cursor = Unit {0}
FitsFrame (a_value _ _) of_value = Unit {0}
FitsFrame (a_value _ _) (of_element _ _) = Unit {0}
FitsFrame _ _ = ⊥

to_frame : (guards : Guards) (m : Meaning) (b : Bound) → Fits m b → FitsFrame m (frame guards b)
unfolding FitsFrame
to_frame guards (a_type d) binds_type h = tt
to_frame guards (an_object t d) (binds_object x) h = tt
to_frame guards (a_cursor t v) (binds_cursor x) h = tt
to_frame guards (a_value k w) (binds_value x) h = tt
to_frame guards (a_value k w) (binds_element p x) h = tt
to_frame guards _ _ h = absurd h

from_frame : (guards : Guards) (m : Meaning) (b : Bound) → FitsFrame m (frame guards b) → Fits m b
unfolding FitsFrame
from_frame guards (a_type d) binds_type h = tt
from_frame guards (an_object t d) (binds_object x) h = tt
from_frame guards (a_cursor t v) (binds_cursor x) h = tt
from_frame guards (a_value k w) (binds_value x) h = tt
from_frame guards (a_value k w) (binds_element p x) h = tt
from_frame guards _ _ h = absurd h

head_or : Frame → List Frame → Frame
head_or other [] = other
head_or other (f ∷ fs) = f

tail_of : List Frame → List Frame
tail_of [] = []
tail_of (f ∷ fs) = fs

kept_fits : (guards : Guards) (scope : Scope) (bs cs : List Bound) → map (frame guards) cs ≡ map (frame guards) bs → AllFit scope bs → AllFit scope cs
unfolding head_or tail_of
kept_fits guards [] [] [] e h = tt
kept_fits guards [] [] (c ∷ cs) e h = absurd (cc)
kept_fits guards [] (b ∷ bs) cs e h = absurd h
kept_fits guards (s ∷ scope) [] cs e h = absurd h
kept_fits guards (s ∷ scope) (b ∷ bs) [] e h = absurd (cc)
kept_fits guards (s ∷ scope) (b ∷ bs) (c ∷ cs) e h =
    let f : frame guards c ≡ frame guards b = ap (head_or of_type) e in (
      from_frame guards s.meaning c (subst (FitsFrame s.meaning) (sym f) (to_frame guards s.meaning b h.0)),
      kept_fits guards scope bs cs (ap tail_of e) h.1,
    )

state_fits : (guards : Guards) (scope : Scope) (e now : State) → kept guards now ≡ kept guards e → FitsScope scope e → FitsScope scope now
state_fits guards scope e now k h = kept_fits guards scope e.bounds now.bounds k h

under_fits : (scope : Scope) (guards : Guards) (e : State) → FitsScope scope e → FitsScope scope (under guards e)
under_fits scope guards e h = state_fits [] scope e (under guards e) (kept-under [] guards e) h

pub goes_on_fitting : GoesOnFitting
goes_on_fitting = record {
  commands = λ scope e simple h. all_stay scope e.bounds (performed e simple).after.bounds (command_stays e simple).bounds h;
  resolved = λ propagates orders code scope guards end e h.
      state_fits guards scope e (resolved_behind propagates orders code guards end e).after (resolved_keeps propagates orders code guards end e) h;
  statements = λ propagates orders code scope guards end e h.
      state_fits guards scope e (exec_behind propagates orders code scope guards end e).after (exec_keeps propagates orders code scope guards end e) h;
  guarded = under_fits;
  rested = λ scope e h. under_fits scope [] e h;
  left = λ scope more e h. first_ones scope more e.bounds h;
  as_long = λ scope e h. as_long scope e.bounds h;
}

-- Names that are looked up

found_step : (s : Entry) (scope : Scope) (b : Bound) (bs : List Bound) (name : List ℕ) (m : Meaning) (t : Bool) → Fits s.meaning b →
    option_map (λ (e : Entry). e.meaning) (cond t (Some s) (find (λ (e : Entry). bytes_eq e.name name) scope)) ≡ Some m →
    (meaning_in scope name ≡ Some m → Fits m (bound_in (slice_get bs (place_of scope name)))) →
    Fits m (bound_in (slice_get (b ∷ bs) (if not t then 1 + place_of scope name else 0)))
found_step s scope b bs name m true h f others = let p : s.meaning ≡ m = cc in subst (λ x. Fits x b) p h
found_step s scope b bs name m false h f others =
    let p : 1 + place_of scope name ≡ suc (place_of scope name) = omega arith in
    subst (λ n. Fits m (bound_in (slice_get (b ∷ bs) n))) (sym p) (others f)

found : (scope : Scope) (bs : List Bound) (name : List ℕ) (m : Meaning) → AllFit scope bs → meaning_in scope name ≡ Some m →
    Fits m (bound_in (slice_get bs (place_of scope name)))
found [] bs name m h f = none_some m f
found (s ∷ scope) [] name m h f = absurd h
found (s ∷ scope) (b ∷ bs) name m h f = found_step s scope b bs name m (bytes_eq s.name name) h.0 f (found scope bs name m h.1)

object_fits : (m : Meaning) (typed : Typed) (b : Bound) → object_meant m ≡ Some typed → Fits m b → (h : Held) × (object_in b ≡ Some h)
object_fits (an_object t d) typed (binds_object h) f k = (h, refl)
object_fits (an_object t d) typed binds_type f k = absurd k
object_fits (an_object t d) typed (binds_cursor x) f k = absurd k
object_fits (an_object t d) typed (binds_value x) f k = absurd k
object_fits (an_object t d) typed (binds_element p x) f k = absurd k
object_fits (a_type d) typed b f k = none_some typed f
object_fits (a_cursor t v) typed b f k = none_some typed f
object_fits (a_value e w) typed b f k = none_some typed f
object_fits a_task typed b f k = none_some typed f

object_found : (scope : Scope) (e : State) (name : List ℕ) (typed : Typed) (meant : Option Meaning) → meaning_in scope name ≡ meant →
    FitsScope scope e → option_and_then object_meant meant ≡ Some typed → (h : Held) × (object_at e (place_of scope name) ≡ Some h)
object_found scope e name typed None is h f = none_some typed f
object_found scope e name typed (Some m) is h f = object_fits m typed (bound_at e (place_of scope name)) f (found scope e.bounds name m h is)

pub names_found : NamesFound
names_found = record {
  names = λ scope e name m h f. found scope e.bounds name m h f;
  objects = λ scope e name typed h f. object_found scope e name typed (meaning_in scope name) refl h f;
}

-- Declarations

object_decl : (scope : Scope) (e : State) (name of : List ℕ) (held : Held) (def : Option TypeDef) (capacity : Option ℕ) →
    is_object_of def capacity ≡ true → FitsScope scope e →
    AllFit (with_entry scope (option_map (entry name) (option_map (an_object of) def))) (e.bounds ++ binds_object held ∷ [])
object_decl scope e name of held None capacity t h = absurd (cc)
object_decl scope e name of held (Some def) capacity t h = with_last scope e.bounds (entry name (an_object of def)) (binds_object held) h tt

either_decl : (scope : Scope) (b : Bool) (x y : Declared) (line : ℕ) → y.spent ≡ Some line → (if b then x else y).spent ≡ None →
    FitsScope scope x.after → FitsScope scope (if b then x else y).after
either_decl scope true x y line f none h = h
either_decl scope false x y line f none h = none_some line (sym none ∙ f)

decl_fits : (scope : Scope) (d : Decl) (e : State) → FitsScope scope e → DeclKept scope d → (after_decl e (resolve_decl scope d)).spent ≡ None →
    FitsScope (with_entry scope (decl_entry scope d)) (after_decl e (resolve_decl scope d)).after
decl_fits scope (source_decl.TypeDecl line name def) e h k none = with_last scope e.bounds (entry name (a_type def)) binds_type h tt
decl_fits scope (source_decl.Object line name of capacity) e h k none =
    either_decl (with_entry scope (decl_entry scope (source_decl.Object line name of capacity))) (nat_lt e.next numbers_end) _ _ line refl none
    (object_decl scope e name of _ (type_of scope of) capacity k.typed h)
decl_fits scope (source_decl.CursorVar line name of) e h k none =
    with_last scope e.bounds (entry name (a_cursor of true)) (binds_cursor no_mark) h tt
decl_fits scope (source_decl.IntVar line name) e h k none = with_last scope e.bounds (entry name (a_value _ true)) (binds_value (value.Int (pos 0))) h tt
decl_fits scope (source_decl.TextVar line name) e h k none = with_last scope e.bounds (entry name (a_value _ true)) (binds_value (value.Text [])) h tt

decls_step : (scope : Scope) (others : State → Declared) (first : Declared) (spent : Option ℕ) → first.spent ≡ spent →
    (unless_spent others first).spent ≡ None → (first.spent ≡ None → (others first.after).spent ≡ None → FitsScope scope (others first.after).after) →
    FitsScope scope (unless_spent others first).after
decls_step scope others first None f none rest = rw f (rest f (subst (λ s. (elim s as (λ s. Declared) [ None ↦ others first.after | Some line ↦ first ]).spent ≡ None) f none))
decls_step scope others first (Some line) f none rest =
    none_some line (sym (subst (λ s. (elim s as (λ s. Declared) [ None ↦ others first.after | Some line ↦ first ]).spent ≡ None) f none) ∙ f)

decls_fit : (scope : Scope) (decls : List Decl) (e : State) → FitsScope scope e → DeclsKept scope decls →
    (after_decls (resolve_decls scope decls) e).spent ≡ None → FitsScope (with_decls scope decls) (after_decls (resolve_decls scope decls) e).after
decls_fit scope [] e h k none = h
decls_fit scope (d ∷ decls) e h k none =
    let first = after_decl e (resolve_decl scope d) in
    let inner = with_entry scope (decl_entry scope d) in
    decls_step (with_decls inner decls) (after_decls (resolve_decls inner decls)) first first.spent refl none
    (λ f rest. decls_fit inner decls first.after (decl_fits scope d e h k.first f) k.rest rest)

pub declared_fits : DeclaredFits
declared_fits = record { first = tt; decls = decls_fit }

-- Heads

turn_fits : (typed : Typed) (elements : Bool) (place : ℕ) (mark : Mark) → Fits (loop_meaning elements typed) (turn_bound elements place mark)
turn_fits typed false place mark = tt
turn_fits typed true place mark = tt

loop_fits : (scope : Scope) (e : State) (name : List ℕ) (elements backward : Bool) (typed : Option Typed) (place : ℕ) (mark : Mark) →
    FitsScope scope e → is_looped backward typed ≡ true →
    AllFit (with_entry scope (option_map (entry name) (option_map (loop_meaning elements) typed))) (e.bounds ++ turn_bound elements place mark ∷ [])
loop_fits scope e name elements backward None place mark h t = absurd (cc)
loop_fits scope e name elements backward (Some typed) place mark h t =
    with_last scope e.bounds (entry name (loop_meaning elements typed)) (turn_bound elements place mark) h (turn_fits typed elements place mark)

view_fits : (scope : Scope) (e : State) (view : ViewKind) (at : Option (List ℕ)) (name : List ℕ) (typed : Option Typed) (b : Bound) →
    ((typed : Typed) → Fits (view_meaning view typed) b) → FitsScope scope e → is_view scope view typed at ≡ true →
    AllFit (with_entry scope (option_map (entry name) (option_map (view_meaning view) typed))) (e.bounds ++ b ∷ [])
view_fits scope e view at name None b each h t = absurd (cc)
view_fits scope e view at name (Some typed) b each h t = with_last scope e.bounds (entry name (view_meaning view typed)) b h (each typed)

pub heads_fit : HeadsFit
heads_fit = record {
  loops = λ scope e line name elements backward object place mark h k.
      loop_fits scope e name elements backward (object_of scope object) place mark h k.typed;
  views = λ scope e line view object at name place mark h k.
      view_fits scope e view at name (object_of scope object) (binds_element place mark) (λ typed. tt) h k.typed;
  copies = λ scope e line view object at name v h k.
      view_fits scope e view at name (object_of scope object) (binds_value v) (λ typed. tt) h k.typed;
}
