-- A command leaves each variable a value of the type that it had, where what it assigns is of that type, and each tree valid.
use Rattle.std.proofs.Common.{◌≡◌, ℕ, ℤ, Bool, true, false, List, [], ◌∷◌, slice_get, refl, sym, ap, subst, ◌∙◌, Option, Some, None}
use Rattle.std.proofs.lemmas.Option.{same_Some}
use Rattle.ac_base.specs.declared.reason.Reason.{Reason}
use Rattle.ac_base.specs.declared.value.Value.{Value}
use Rattle.ac_model.specs.Letters.{Mark}
use Rattle.ac_syntax.specs.declared.kind.ElemKind.{ElemKind}
use Rattle.ac_syntax.specs.declared.operation.Operation.{Operation}
use Rattle.ac_rules.specs.Rules.{kind_of}
use Rattle.ac_rules.specs.declared.resolved.ResolvedArg.{ResolvedArg}
use Rattle.ac_rules.specs.declared.resolved.ResolvedArg.TheVariants.{Lit, NoElement, At}
use Rattle.ac_calls.specs.Answers.{Answer, answers_ok, answers_value, answers_truth, answers_place, answers_list, answers_raised, answers_stalled, answers_integer}
use Rattle.ac_calls.specs.Holdings.{Held, write, reply_of}
use Rattle.ac_calls.specs.Replies.{Reply, Placed}
use Rattle.ac_meaning.specs.Commands.{Assigned, value_set, mark_set, assigned, element_written, place_in, variable_to, variable_set, source_place, source_of, source_set, after_call, unless_refused, waits_or_goes, replied, call_on, arguments, assigned_from, is_integer, sum_assigned}
use Rattle.ac_meaning.specs.Environment.{Bound, binds_type, binds_object, binds_cursor, binds_value, binds_element, State, bound_at, with_bound, object_at}
use Rattle.ac_meaning.specs.ValueTypes.{IsSound, ObjectsSound}
use Rattle.ac_meaning.proofs.CallsStay.{none_some}
use Rattle.ac_meaning.proofs.SoundTrees.{LeavesSound, reply_sound, write_sound}
use Rattle.ac_meaning.proofs.ValueLists.{kind_in, kinds, kind_stays, kinds-with_bound, object_kind, kinds-with_object, sound_at, sound-with_bound}

-- what is kept of an environment that is sound
pub record Goes (e now : State) : Type 0 where
  pub same : kinds now ≡ kinds e
  pub sound : ObjectsSound now

pub goes_same : (e : State) → ObjectsSound e → Goes e e
goes_same e sound = record { same = refl; sound = sound }

pub goes_then : (e now later : State) → Goes e now → Goes now later → Goes e later
goes_then e now later g h = record { same = h.same ∙ g.same; sound = h.sound }

-- what is assigned to a variable is of its type
abbrev pub Assignable : State → Option ℕ → Answer → Type 0
Assignable e target answer = (place : ℕ) (k : ElemKind) (v : Value) → target ≡ Some place → kind_in (bound_at e place) ≡ Some k →
    answer ≡ answers_value v → kind_of v ≡ k

assignable_on : (e now : State) (target : Option ℕ) (answer : Answer) → kinds now ≡ kinds e → Assignable e target answer → Assignable now target answer
assignable_on e now target answer same ok place k v is has says = ok place k v is (sym (kind_stays e now place same) ∙ has) says

-- an object in the place of one
object_set : (e : State) (place : ℕ) (h after : Held) → ObjectsSound e → object_at e place ≡ Some h → IsSound after →
    Goes e (with_bound e place (binds_object after))
object_set e place h after sound there is = record {
  same = kinds-with_object e e place after refl (object_kind e place h there);
  sound = sound-with_bound e place (binds_object after) sound is;
}

-- Assignments: what they leave where they aren't refused

abbrev AssignedGoes : State → Assigned → Type 0
AssignedGoes e a = a.reason ≡ None → Goes e a.after

element_goes : (e : State) (object : ℕ) (at : Mark) (v : Value) (found : Option Held) → ObjectsSound e → object_at e object ≡ found →
    AssignedGoes e (element_written e object at v found)
element_goes e object at v None sound f none = goes_same e sound
element_goes e object at v (Some h) sound f none =
    object_set e object h (write h at v).after sound f (write_sound h at v (sound_at e object h sound f) none)

value_goes : (e : State) (place : ℕ) (v : Value) (b : Bound) → ObjectsSound e → bound_at e place ≡ b →
    ((k : ElemKind) → kind_in (bound_at e place) ≡ Some k → kind_of v ≡ k) → AssignedGoes e (value_set e place v b)
value_goes e place v binds_type sound f ok none = goes_same e sound
value_goes e place v (binds_object h) sound f ok none = goes_same e sound
value_goes e place v (binds_cursor mark) sound f ok none = goes_same e sound
value_goes e place v (binds_value old) sound f ok none = record {
  same = kinds-with_bound e place (binds_value v) (ap Some (ok (kind_of old) (ap kind_in f)) ∙ sym (ap kind_in f));
  sound = sound-with_bound e place (binds_value v) sound tt;
}
value_goes e place v (binds_element object at) sound f ok none = element_goes e object at v (object_at e object) sound refl none

mark_goes : (e : State) (place : ℕ) (mark : Mark) (b : Bound) → ObjectsSound e → bound_at e place ≡ b → Goes e (mark_set e place mark b)
mark_goes e place mark binds_type sound f = goes_same e sound
mark_goes e place mark (binds_object h) sound f = goes_same e sound
mark_goes e place mark (binds_cursor old) sound f = record {
  same = kinds-with_bound e place (binds_cursor mark) (sym (ap kind_in f));
  sound = sound-with_bound e place (binds_cursor mark) sound tt;
}
mark_goes e place mark (binds_value v) sound f = goes_same e sound
mark_goes e place mark (binds_element object at) sound f = goes_same e sound

assigned_goes : (e : State) (target : Option ℕ) (answer : Answer) → ObjectsSound e → Assignable e target answer → AssignedGoes e (assigned e target answer)
assigned_goes e None answer sound ok none = goes_same e sound
assigned_goes e (Some place) answers_ok sound ok none = goes_same e sound
assigned_goes e (Some place) (answers_value v) sound ok none =
    value_goes e place v (bound_at e place) sound refl (λ k has. ok place k v refl has refl) none
assigned_goes e (Some place) (answers_truth b) sound ok none = goes_same e sound
assigned_goes e (Some place) (answers_place mark) sound ok none = mark_goes e place mark (bound_at e place) sound refl
assigned_goes e (Some place) (answers_list text) sound ok none = goes_same e sound
assigned_goes e (Some place) (answers_raised reason) sound ok none = goes_same e sound
assigned_goes e (Some place) answers_stalled sound ok none = goes_same e sound

unless_goes : (e now : State) (answer : Answer) (a : Assigned) (reason : Option Reason) → a.reason ≡ reason → ObjectsSound e → Goes e now →
    AssignedGoes now a → Goes e (unless_refused e answer a).after
unless_goes e now answer a None r sound g h = rw r (goes_then e now a.after g (h r))
unless_goes e now answer a (Some reason) r sound g h = rw r (goes_same e sound)

-- Calls

variable_to_goes : (e : State) (mark : Mark) (place : Option ℕ) → ObjectsSound e → Goes e (variable_to e mark place)
variable_to_goes e mark None sound = goes_same e sound
variable_to_goes e mark (Some place) sound = mark_goes e place mark (bound_at e place) sound refl

variable_goes : (e : State) (args : List ResolvedArg) (p : Option Placed) → ObjectsSound e → Goes e (variable_set e args p)
variable_goes e args None sound = goes_same e sound
variable_goes e args (Some p) sound = variable_to_goes e p.mark (place_in (slice_get args p.place)) sound

-- in the place of a call's source an object stands
source_kind : (e : State) (args : List ResolvedArg) (place : ℕ) → source_place e args ≡ Some place → kind_in (bound_at e place) ≡ None
source_kind e [] place f = none_some place f
source_kind e (Lit v ∷ args) place f = source_kind e args place f
source_kind e (NoElement ∷ args) place f = source_kind e args place f
source_kind e (At p ∷ args) place f = go (object_at e p) refl f (source_kind e args place)
  where
    go : (found : Option Held) → object_at e p ≡ found →
        (elim found as (λ o. Option ℕ) [ None ↦ source_place e args | Some h ↦ Some p ]) ≡ Some place →
        (source_place e args ≡ Some place → kind_in (bound_at e place) ≡ None) → kind_in (bound_at e place) ≡ None
    go None is f further = further f
    go (Some h) is f further = subst (λ n. kind_in (bound_at e n) ≡ None) (same_Some p place f) (object_kind e p h is)

source_goes : (e now : State) (args : List ResolvedArg) (place : Option ℕ) (found : Option Held) → source_place e args ≡ place → Goes e now →
    ((t : Held) → found ≡ Some t → IsSound t) → Goes e (source_set now place found)
source_goes e now args None found f g each = g
source_goes e now args (Some place) None f g each = g
source_goes e now args (Some place) (Some t) f g each = record {
  same = kinds-with_object e now place t g.same (source_kind e args place f);
  sound = sound-with_bound now place (binds_object t) g.sound (each t refl);
}

after_call_goes : (e : State) (object : ℕ) (h : Held) (args : List ResolvedArg) (r : Reply Held) → ObjectsSound e → object_at e object ≡ Some h →
    r.reason ≡ None → LeavesSound r → Goes e (after_call e object args r)
after_call_goes e object h args r sound there none leaves =
    let first = with_bound e object (binds_object r.after) in
    let first_goes = object_set e object h r.after sound there (leaves.after none) in
    let second = source_set first (source_place e args) r.source in
    let second_goes = source_goes e first args (source_place e args) r.source refl first_goes (leaves.source none) in
    goes_then e second (variable_set second args r.variable) second_goes (variable_goes second args r.variable second_goes.sound)

waits_goes : (e : State) (target : Option ℕ) (object : ℕ) (args : List ResolvedArg) (r : Reply Held) (stalls : Bool) → r.stalls ≡ stalls →
    ObjectsSound e → Assignable e target r.answer → Goes e (after_call e object args r) → Goes e (waits_or_goes e target object args r).after
waits_goes e target object args r true s sound ok g = rw s (goes_same e sound)
waits_goes e target object args r false s sound ok g =
    let now = after_call e object args r in
    rw s
    (unless_goes e now r.answer (assigned now target r.answer) (assigned now target r.answer).reason refl sound g
    (assigned_goes now target r.answer g.sound (assignable_on e now target r.answer g.same ok)))

replied_goes : (e : State) (target : Option ℕ) (object : ℕ) (h : Held) (args : List ResolvedArg) (r : Reply Held) (reason : Option Reason) →
    r.reason ≡ reason → ObjectsSound e → object_at e object ≡ Some h → LeavesSound r → (r.reason ≡ None → Assignable e target r.answer) →
    Goes e (replied e target object args r).after
replied_goes e target object h args r None f sound there leaves ok =
    rw f (waits_goes e target object args r r.stalls refl sound (ok f) (after_call_goes e object h args r sound there f leaves))
replied_goes e target object h args r (Some reason) f sound there leaves ok = rw f (goes_same e sound)

source_sound : (e : State) (place : Option ℕ) (s : Held) → ObjectsSound e → source_of e place ≡ Some s → IsSound s
source_sound e None s sound f = none_some s f
source_sound e (Some place) s sound f = sound_at e place s sound f

pub call_goes : (e : State) (target : Option ℕ) (object : ℕ) (operation : Operation) (args : List ResolvedArg) (found : Option Held) →
    object_at e object ≡ found → ObjectsSound e →
    ((h : Held) → found ≡ Some h → let r = reply_of h (source_of e (source_place e args)) operation (arguments e args) in
    r.reason ≡ None → Assignable e target r.answer) → Goes e (call_on e target object operation args found).after
call_goes e target object operation args None f sound ok = goes_same e sound
call_goes e target object operation args (Some h) f sound ok =
    let r = reply_of h (source_of e (source_place e args)) operation (arguments e args) in
    replied_goes e target object h args r r.reason refl sound f
    (reply_sound h (source_of e (source_place e args)) operation (arguments e args) (sound_at e object h sound f)
    (λ s g. source_sound e (source_place e args) s sound g))
    (ok h refl)

-- Other commands

pub from_goes : (e : State) (target : ℕ) (answer : Answer) → ObjectsSound e → Assignable e (Some target) answer → Goes e (assigned_from e target answer).after
from_goes e target answer sound ok =
    let a = assigned e (Some target) answer in
    unless_goes e e answer a a.reason refl sound (goes_same e sound) (assigned_goes e (Some target) answer sound ok)

pub sum_goes : (e : State) (target : ℕ) (n : ℤ) (b : Bool) → is_integer n ≡ b → ObjectsSound e → Assignable e (Some target) (answers_integer n) →
    Goes e (sum_assigned e target n).after
sum_goes e target n true f sound ok = rw (f, sum_assigned) (from_goes e target (answers_integer n) sound ok)
sum_goes e target n false f sound ok = rw (f, sum_assigned) (goes_same e sound)
