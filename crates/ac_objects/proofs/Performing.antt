-- A command, step by step.
use Rattle.std.proofs.Common.{◌≡◌, ◌⊎◌, inl, inr, ℕ, ℤ, zero, suc, Bool, true, false, List, [], ◌∷◌, slice_get, slice_set, refl, sym, ap, subst, ◌∙◌, Option, Some, None, Result, Ok, Err, if◌then◌else◌}
use Rattle.std.proofs.lemmas.Option.{same_Some}
use Rattle.ac_base.specs.declared.fault.Fault.{Fault}
use Rattle.ac_base.specs.declared.fault.Fault.TheVariants as fault
use Rattle.ac_base.specs.declared.reason.Reason.{Reason}
use Rattle.ac_base.specs.declared.value.Value.{Value}
use Rattle.ac_base.specs.declared.value.Value.TheVariants.{Int}
use Rattle.ac_model.specs.Calls.{Done}
use Rattle.ac_model.specs.Letters.{Mark}
use Rattle.ac_syntax.specs.declared.operation.Operation.{Operation}
use Rattle.ac_rules.specs.declared.resolved.ResolvedArg.{ResolvedArg}
use Rattle.ac_rules.specs.Resolved.{calls_at}
use Rattle.ac_calls.specs.Answers as meant
use Rattle.ac_meaning.specs.Commands.{Performed, says, Assigned, assigned_to, assigned, unless_refused, waits_or_goes, replied, call_on, called, after_call, arguments, source_of, source_place, source_set, place_in, mark_set, variable_to, variable_set, assigned_from, is_integer, sum_assigned}
use Rattle.ac_meaning.specs.Environment.{Bound, binds_type, binds_object, binds_cursor, binds_value, binds_element, State, bound_in, bound_at, object_in, object_at, with_bound}
use Rattle.ac_calls.specs.Holdings.{Held}
use Rattle.ac_calls.specs.Replies as replies
use Rattle.ac_meaning.specs.Stays.{StateStays}
use Rattle.ac_meaning.proofs.CallsStay.{none_some}
use Rattle.ac_meaning.proofs.CommandsStay.{command_stays}
use Rattle.ac_calls.specs.declared.reply.Said.{Said}
use Rattle.ac_calls.specs.declared.reply.Said.TheVariants as said
use Rattle.ac_calls.specs.declared.reply.Reply.{Reply}
use Rattle.ac_objects.specs.Called.{NotRaised}
use Rattle.ac_objects.specs.Performs.{Performs, Untouched, answered}
use Rattle.ac_calls.specs.Replied.{Stalls}
use Rattle.ac_objects.specs.Shown.{Shows}
use Rattle.ac_objects.specs.Standing.{ElementsStand}
use Rattle.ac_objects.specs.Steps.{AssignsTo, SaidKnown, placed_of, PlacedKnown, CalledAt, IsPerformed, PerformsAt, reply_in, if_integer, sum_given}
use Rattle.ac_objects.specs.World.{World, state_of, Persists}
use Rattle.ac_objects.proofs.Lasting.{elements_last}
use Rattle.ac_meaning.proofs.Places.{set_same}
use Rattle.ac_meaning.proofs.Sources.{IsInteger, Looks, values_look}

-- the steps of the definition

unless_none : (e : State) (answer : meant.Answer) (a : Assigned) → a.reason ≡ None → unless_refused e answer a ≡ says answer a.after
unless_none e answer a f = rw f refl

unless_some : (e : State) (answer : meant.Answer) (a : Assigned) (reason : Reason) → a.reason ≡ Some reason →
    unless_refused e answer a ≡ says (meant.answers_raised reason) e
unless_some e answer a reason f = rw f refl

goes : (e : State) (target : Option ℕ) (object : ℕ) (args : List ResolvedArg) (r : replies.Reply Held) → r.stalls ≡ false →
    waits_or_goes e target object args r ≡ unless_refused e r.answer (assigned (after_call e object args r) target r.answer)
goes e target object args r f = rw f refl

waits : (e : State) (target : Option ℕ) (object : ℕ) (args : List ResolvedArg) (r : replies.Reply Held) → r.stalls ≡ true →
    waits_or_goes e target object args r ≡ says meant.answers_stalled e
waits e target object args r f = rw f refl

made : (e : State) (target : Option ℕ) (object : ℕ) (args : List ResolvedArg) (r : replies.Reply Held) → r.reason ≡ None →
    replied e target object args r ≡ waits_or_goes e target object args r
made e target object args r f = rw f refl

refused : (e : State) (target : Option ℕ) (object : ℕ) (args : List ResolvedArg) (r : replies.Reply Held) (reason : Reason) → r.reason ≡ Some reason →
    replied e target object args r ≡ says (meant.answers_raised reason) e
refused e target object args r reason f = rw f refl

called_by : (e : State) (target : Option ℕ) (object : ℕ) (op : Operation) (args : List ResolvedArg) (h : Held) → object_at e object ≡ Some h →
    called e target object op args ≡ replied e target object args (reply_in e h op args)
called_by e target object op args h there = ap (call_on e target object op args) there

called_made : (e : State) (target : Option ℕ) (object : ℕ) (op : Operation) (args : List ResolvedArg) (h : Held) → object_at e object ≡ Some h →
    (reply_in e h op args).reason ≡ None → (reply_in e h op args).stalls ≡ false →
    (assigned (after_call e object args (reply_in e h op args)) target (reply_in e h op args).answer).reason ≡ None →
    called e target object op args
    ≡ says (reply_in e h op args).answer (assigned (after_call e object args (reply_in e h op args)) target (reply_in e h op args).answer).after
called_made e target object op args h there reason stalls given =
    let r = reply_in e h op args in
    called_by e target object op args h there
    ∙ (made e target object args r reason
    ∙ (goes e target object args r stalls
    ∙ unless_none e r.answer (assigned (after_call e object args r) target r.answer) given))

-- a call whose answer is refused by its target

called_unassigned : (e : State) (target : Option ℕ) (object : ℕ) (op : Operation) (args : List ResolvedArg) (h : Held) (reason : Reason) →
    object_at e object ≡ Some h → (reply_in e h op args).reason ≡ None → (reply_in e h op args).stalls ≡ false →
    (assigned (after_call e object args (reply_in e h op args)) target (reply_in e h op args).answer).reason ≡ Some reason →
    called e target object op args ≡ says (meant.answers_raised reason) e
called_unassigned e target object op args h reason there none stalls given =
    let r = reply_in e h op args in
    called_by e target object op args h there
    ∙ (made e target object args r none
    ∙ (goes e target object args r stalls
    ∙ unless_some e r.answer (assigned (after_call e object args r) target r.answer) reason given))

-- what is refused is a value
refused_value : (e : State) (target : Option ℕ) (answer : meant.Answer) (reason : Reason) → (assigned e target answer).reason ≡ Some reason →
    (v : Value) × (answer ≡ meant.answers_value v)
refused_value e None answer reason f = none_some reason f
refused_value e (Some place) meant.answers_ok reason f = none_some reason f
refused_value e (Some place) (meant.answers_value v) reason f = (v, refl)
refused_value e (Some place) (meant.answers_truth b) reason f = none_some reason f
refused_value e (Some place) (meant.answers_place mark) reason f = none_some reason f
refused_value e (Some place) (meant.answers_list text) reason f = none_some reason f
refused_value e (Some place) (meant.answers_raised other) reason f = none_some reason f
refused_value e (Some place) meant.answers_stalled reason f = none_some reason f

-- a call that answers one leaves all as it was

object_found : (found : Option Bound) (h : Held) → object_in (bound_in found) ≡ Some h → found ≡ Some (binds_object h)
object_found None h e = none_some h e
object_found (Some binds_type) h e = none_some h e
object_found (Some (binds_object k)) h e = ap (λ x. Some (binds_object x)) (same_Some k h e)
object_found (Some (binds_cursor mark)) h e = none_some h e
object_found (Some (binds_value v)) h e = none_some h e
object_found (Some (binds_element object at)) h e = none_some h e

object_same : (e : State) (object : ℕ) (h : Held) → object_at e object ≡ Some h → with_bound e object (binds_object h) ≡ e
object_same e object h there =
    ap (λ bounds. record e { bounds = bounds })
    (set_same e.bounds object (binds_object h) (object_found (slice_get e.bounds object) h there))

source_same : (e : State) (place : Option ℕ) → source_set e place None ≡ e
source_same e None = refl
source_same e (Some place) = refl

looks_only : (e : State) (object : ℕ) (args : List ResolvedArg) (h : Held) (r : replies.Reply Held) → object_at e object ≡ Some h → Looks h r →
    after_call e object args r ≡ e
looks_only e object args h r there l =
    ap (λ v. variable_set (source_set (with_bound e object (binds_object r.after)) (source_place e args) r.source) args v) l.variable
    ∙ (ap (λ s. source_set (with_bound e object (binds_object r.after)) (source_place e args) s) l.source
    ∙ (source_same (with_bound e object (binds_object r.after)) (source_place e args)
    ∙ (ap (λ a. with_bound e object (binds_object a)) l.after ∙ object_same e object h there)))

-- what stays through a call, but for its target
call_stays : (e : State) (object : ℕ) (op : Operation) (args : List ResolvedArg) (h : Held) → object_at e object ≡ Some h →
    (reply_in e h op args).reason ≡ None → (reply_in e h op args).stalls ≡ false → StateStays e (after_call e object args (reply_in e h op args))
call_stays e object op args h there reason stalls =
    subst (λ (p : Performed). StateStays e p.after) (called_made e None object op args h there reason stalls refl)
    (command_stays e (calls_at 0 None object op args))

-- a cursor variable that is set is no object

objects_set : (bs : List Bound) (i place : ℕ) (old mark : Mark) → bound_in (slice_get bs i) ≡ binds_cursor old →
    object_in (bound_in (slice_get (slice_set bs i (binds_cursor mark)) place)) ≡ object_in (bound_in (slice_get bs place))
objects_set [] i place old mark is = refl
objects_set (b ∷ bs) zero zero old mark is = sym (ap object_in is)
objects_set (b ∷ bs) zero (suc place) old mark is = refl
objects_set (b ∷ bs) (suc i) zero old mark is = refl
objects_set (b ∷ bs) (suc i) (suc place) old mark is = objects_set bs i place old mark is

mark_objects : (e : State) (i place : ℕ) (mark : Mark) (b : Bound) → bound_at e i ≡ b → object_at (mark_set e i mark b) place ≡ object_at e place
mark_objects e i place mark binds_type is = refl
mark_objects e i place mark (binds_object h) is = refl
mark_objects e i place mark (binds_cursor old) is = objects_set e.bounds i place old mark is
mark_objects e i place mark (binds_value v) is = refl
mark_objects e i place mark (binds_element object at) is = refl

to_objects : (e : State) (mark : Mark) (name : Option ℕ) (place : ℕ) → object_at (variable_to e mark name) place ≡ object_at e place
to_objects e mark None place = refl
to_objects e mark (Some i) place = mark_objects e i place mark (bound_at e i) refl

variable_objects : (e : State) (args : List ResolvedArg) (p : Option replies.Placed) (place : ℕ) →
    object_at (variable_set e args p) place ≡ object_at e place
variable_objects e args None place = refl
variable_objects e args (Some p) place = to_objects e p.mark (place_in (slice_get args p.place)) place

says_still : (e now : State) (object : ℕ) (s : Said) (answer : meant.Answer) → object_at now object ≡ object_at e object → Shows e object s answer →
    Shows now object s answer
says_still e now object said.Done answer same h = h
says_still e now object (said.Value v) answer same h = h
says_still e now object (said.Truth is_true) answer same h = h
says_still e now object (said.Place c) answer same h = h
says_still e now object said.Listing answer same h = (h.0, same ∙ h.1, h.2)
says_still e now object said.Stalled answer same h = h

known_still : (old new : World) (s : Said) → Persists old new → SaidKnown old s → SaidKnown new s
known_still old new said.Done p k = tt
known_still old new (said.Value v) p k = tt
known_still old new (said.Truth is_true) p k = tt
known_still old new (said.Place c) p k = p c k
known_still old new said.Listing p k = tt
known_still old new said.Stalled p k = tt

-- a call with its variable

pub is_performed : (r : replies.Reply Held) (object : ℕ) (source : Option ℕ) (args : List ResolvedArg) (old mid new : World) (m : Reply) →
    source ≡ source_place (state_of old) args → CalledAt r object source old mid (Ok m) →
    state_of new ≡ variable_set (state_of mid) args (placed_of m.variable) → Persists mid new → PerformsAt r object args old new (Ok m.said)
is_performed r object source args old mid new m is (inr c) set p = inr (record {
  waits = c.stalls.waits;
  reason = c.stalls.reason;
  same = set ∙ (ap (λ v. variable_set (state_of mid) args (placed_of v)) c.none_set ∙ ap state_of c.stalls.same);
  says = c.stalls.says;
})
is_performed r object source args old mid new m is (inl c) set p = inl (record {
  goes = c.goes;
  reason = c.reason;
  after =
      set
      ∙ (ap (λ v. variable_set (state_of mid) args v) (sym c.variable)
      ∙ (ap (λ e. variable_set e args r.variable) c.after
      ∙ ap (λ s. variable_set (source_set (with_bound (state_of old) object (binds_object r.after)) s r.source) args r.variable) is));
  says = says_still (state_of mid) (state_of new) object m.said r.answer
      (ap (λ e. object_at e object) set ∙ variable_objects (state_of mid) args (placed_of m.variable) object) c.says;
  known = known_still mid new m.said p c.said_known;
})

-- the variable that a call sets is known, where it sets one
pub sets_known : (r : replies.Reply Held) (object : ℕ) (source : Option ℕ) (old mid : World) (m : Reply) → CalledAt r object source old mid (Ok m) →
    PlacedKnown mid m.variable
sets_known r object source old mid m (inl c) = c.placed_known
sets_known r object source old mid m (inr c) = subst (PlacedKnown mid) (sym c.none_set) tt

-- so is the cursor that it answers, and nothing refused it
pub answer_known : (r : replies.Reply Held) (object : ℕ) (args : List ResolvedArg) (old new : World) (s : Said) → PerformsAt r object args old new (Ok s) →
    SaidKnown new s
answer_known r object args old new s (inl k) = k.known
answer_known r object args old new s (inr k) = subst (SaidKnown new) (sym k.says) tt

pub none_refused : (r : replies.Reply Held) (object : ℕ) (args : List ResolvedArg) (old new : World) (s : Said) → PerformsAt r object args old new (Ok s) →
    r.reason ≡ None
none_refused r object args old new s (inl k) = k.reason
none_refused r object args old new s (inr k) = k.reason

pub is_refused : (r : replies.Reply Held) (object : ℕ) (source : Option ℕ) (args : List ResolvedArg) (old new : World) (f : Fault) →
    CalledAt r object source old new (Err f) → PerformsAt r object args old new (Err f)
is_refused r object source args old new (fault.Raised reason) h = h
is_refused r object source args old new fault.NoMemory h = tt

-- a command

pub stand_after : (object : ℕ) (op : Operation) (args : List ResolvedArg) (h : Held) (old mid : World) (s : Said) → object_at (state_of old) object ≡ Some h →
    PerformsAt (reply_in (state_of old) h op args) object args old mid (Ok s) → ElementsStand (state_of old) → ElementsStand (state_of mid)
stand_after object op args h old mid s there (inr k) stand = subst ElementsStand (sym k.same) stand
stand_after object op args h old mid s there (inl k) stand =
    subst ElementsStand (sym k.after)
    (elements_last (state_of old) _ (call_stays (state_of old) object op args h there k.reason k.goes) stand)

-- what was said is shown still, once it was given to a target: a listing is given to none
shown_after : (e : State) (target : Option ℕ) (object : ℕ) (s : Said) (answer : meant.Answer) → Shows e object s answer →
    Shows (assigned e target answer).after object s answer
shown_after e None object s answer h = h
shown_after e (Some place) object said.Done answer h = h
shown_after e (Some place) object (said.Value v) answer h = h
shown_after e (Some place) object (said.Truth is_true) answer h = h
shown_after e (Some place) object (said.Place c) answer h = h
shown_after e (Some place) object said.Stalled answer h = h
shown_after e (Some place) object said.Listing answer h =
    let there : object_at (assigned e (Some place) answer).after object ≡ object_at e object = ap (λ a. object_at (assigned e (Some place) a).after object) h.2 in
    (h.0, there ∙ h.1, h.2)

same_value : (a b : Value) → meant.answers_value b ≡ meant.answers_value a → a ≡ b
same_value a b e = cc

-- what says a value is that value
said_value : (e : State) (object : ℕ) (s : Said) (v : Value) → Shows e object s (meant.answers_value v) → s ≡ said.Value v
said_value e object said.Done v h = absurd (cc)
said_value e object (said.Value x) v h = ap said.Value (same_value x v h)
said_value e object (said.Truth b) v h = absurd (cc)
said_value e object (said.Place c) v h = absurd (cc)
said_value e object said.Listing v h = absurd (cc h.2)
said_value e object said.Stalled v h = absurd (cc)

-- a target refuses what it is given
module _ (target : Option ℕ) (object : ℕ) (op : Operation) (args : List ResolvedArg) (h : Held) (old mid new : World) (s : Said) (reason : Reason)
    (there : object_at (state_of old) object ≡ Some h) (k : IsPerformed (reply_in (state_of old) h op args) object args old mid s) where
  -- no integer, which a queue might answer whose item has left
  is_unchanged : (v : Value) → (reply_in (state_of old) h op args).answer ≡ meant.answers_value v →
      (s ≡ said.Value v → IsInteger v → ⊥) → Looks h (reply_in (state_of old) h op args) ⊎ IsInteger v →
      after_call (state_of old) object args (reply_in (state_of old) h op args) ≡ state_of old
  is_unchanged v answer fits (inl l) = looks_only (state_of old) object args h (reply_in (state_of old) h op args) there l
  is_unchanged v answer fits (inr n) =
      absurd (fits (said_value (state_of mid) object s v (subst (λ a. Shows (state_of mid) object s a) answer k.says)) n)

  refused_given : (assigned (state_of mid) target (reply_in (state_of old) h op args).answer).reason ≡ Some reason → new ≡ mid →
      ((n : ℤ) → s ≡ said.Value (Int n) → ⊥) → Performs (called (state_of old) target object op args) object old new (Err (fault.Raised reason))
  refused_given given left fits =
      let e = state_of old in
      let r = reply_in e h op args in
      let refused : (assigned (after_call e object args r) target r.answer).reason ≡ Some reason =
      sym (ap (λ m. (assigned m target r.answer).reason) k.after) ∙ given in
      let value = refused_value (after_call e object args r) target r.answer reason refused in
      let looks = values_look h (source_of e (source_place e args)) op (arguments e args) value.0 value.1 in
      let still = is_unchanged value.0 value.1 (λ is n. fits n.0 (is ∙ ap said.Value n.1)) looks in
      let same : state_of new ≡ e = ap state_of left ∙ (k.after ∙ still) in
      subst (λ p. Performs p object old new (Err (fault.Raised reason)))
      (sym (called_unassigned e target object op args h reason there k.reason k.goes refused)) (refl, same, same)

-- a call whose answer was given to its target
made_given : (target : Option ℕ) (object : ℕ) (op : Operation) (args : List ResolvedArg) (h : Held) (old mid new : World) (s : Said) (result : Result Done Fault) →
    object_at (state_of old) object ≡ Some h → IsPerformed (reply_in (state_of old) h op args) object args old mid s →
    AssignsTo (assigned (state_of mid) target (reply_in (state_of old) h op args).answer) mid new result →
    ((n : ℤ) → s ≡ said.Value (Int n) → NotRaised result) → Performs (called (state_of old) target object op args) object old new (answered s result)
made_given target object op args h old mid new s (Ok done) there k g fits =
    let e = state_of old in
    let r = reply_in e h op args in
    let given = assigned (after_call e object args r) target r.answer in
    let same : assigned (state_of mid) target r.answer ≡ given = ap (λ m. assigned m target r.answer) k.after in
    let shown = subst (λ m. Shows m object s r.answer) k.after k.says in
    subst (λ p. Performs p object old new (Ok s)) (sym (called_made e target object op args h there k.reason k.goes (sym (ap (λ (a : Assigned). a.reason) same) ∙ g.0)))
    (g.1 ∙ ap (λ (a : Assigned). a.after) same, shown_after (after_call e object args r) target object s r.answer shown)
made_given target object op args h old mid new s (Err (fault.Raised reason)) there k g fits =
    refused_given target object op args h old mid new s reason there k g.0 g.1 fits
made_given target object op args h old mid new s (Err fault.NoMemory) there k g fits = tt

-- a call that would wait leaves all, and its target too

stalled_gives : (e : State) (target : Option ℕ) → assigned e target meant.answers_stalled ≡ assigned_to None e
stalled_gives e None = refl
stalled_gives e (Some place) = refl

called_stalled : (e : State) (target : Option ℕ) (object : ℕ) (op : Operation) (args : List ResolvedArg) (h : Held) → object_at e object ≡ Some h →
    (reply_in e h op args).reason ≡ None → (reply_in e h op args).stalls ≡ true → called e target object op args ≡ says meant.answers_stalled e
called_stalled e target object op args h there none stalls =
    let r = reply_in e h op args in
    called_by e target object op args h there ∙ (made e target object args r none ∙ waits e target object args r stalls)

stalled_given : (target : Option ℕ) (object : ℕ) (op : Operation) (args : List ResolvedArg) (h : Held) (old mid new : World) (s : Said) (result : Result Done Fault) →
    object_at (state_of old) object ≡ Some h → Stalls (reply_in (state_of old) h op args) (state_of old) (state_of mid) s →
    AssignsTo (assigned_to None (state_of mid)) mid new result → Performs (called (state_of old) target object op args) object old new (answered s result)
stalled_given target object op args h old mid new s (Ok done) there k g =
    let e = state_of old in
    subst (λ p. Performs p object old new (Ok s)) (sym (called_stalled e target object op args h there k.reason k.waits))
    (g.1 ∙ k.same, subst (λ x. Shows e object x meant.answers_stalled) (sym k.says) refl)
stalled_given target object op args h old mid new s (Err (fault.Raised reason)) there k g = none_some reason g.0
stalled_given target object op args h old mid new s (Err fault.NoMemory) there k g = tt

pub call_given : (target : Option ℕ) (object : ℕ) (op : Operation) (args : List ResolvedArg) (h : Held) (old mid new : World) (s : Said) (result : Result Done Fault) →
    object_at (state_of old) object ≡ Some h → PerformsAt (reply_in (state_of old) h op args) object args old mid (Ok s) →
    ((place : ℕ) (answer : meant.Answer) → Shows (state_of mid) place s answer → AssignsTo (assigned (state_of mid) target answer) mid new result) →
    ((n : ℤ) → s ≡ said.Value (Int n) → NotRaised result) → Performs (called (state_of old) target object op args) object old new (answered s result)
call_given target object op args h old mid new s result there (inl k) given fits =
    made_given target object op args h old mid new s result there k (given object (reply_in (state_of old) h op args).answer k.says) fits
call_given target object op args h old mid new s result there (inr k) given fits =
    stalled_given target object op args h old mid new s result there k
    (subst (λ a. AssignsTo a mid new result) (stalled_gives (state_of mid) target)
    (given object meant.answers_stalled (subst (λ x. Shows (state_of mid) object x meant.answers_stalled) (sym k.says) refl)))

-- a call that wasn't made
pub call_refused : (target : Option ℕ) (object : ℕ) (op : Operation) (args : List ResolvedArg) (h : Held) (old new : World) (f : Fault) →
    object_at (state_of old) object ≡ Some h → PerformsAt (reply_in (state_of old) h op args) object args old new (Err f) →
    Performs (called (state_of old) target object op args) object old new (Err f)
call_refused target object op args h old new (fault.Raised reason) there k =
    let e = state_of old in
    subst (λ p. Performs p object old new (Err (fault.Raised reason)))
    (sym (called_by e target object op args h there ∙ refused e target object args (reply_in e h op args) reason k.0))
    (refl, ap state_of k.1, ap state_of k.1)
call_refused target object op args h old new fault.NoMemory there k = tt

pub sets_given : (target : ℕ) (s : Said) (answer : meant.Answer) (old new : World) (result : Result Done Fault) →
    Shows (state_of old) target s answer → AssignsTo (assigned (state_of old) (Some target) answer) old new result →
    Performs (assigned_from (state_of old) target answer) target old new (answered s result)
sets_given target s answer old new (Ok done) shows g =
    let e = state_of old in
    subst (λ p. Performs p target old new (Ok s)) (sym (unless_none e answer (assigned e (Some target) answer) g.0))
    (g.1, shown_after e (Some target) target s answer shows)
sets_given target s answer old new (Err (fault.Raised reason)) shows g =
    let e = state_of old in
    subst (λ p. Performs p target old new (Err (fault.Raised reason))) (sym (unless_some e answer (assigned e (Some target) answer) reason g.0))
    (refl, ap state_of g.1, ap state_of g.1)
sets_given target s answer old new (Err fault.NoMemory) shows g = tt

-- where the target or the call itself refuses, all is as it was

pub given_untouched : (a : Assigned) (old new : World) (result : Result Done Fault) → AssignsTo a old new result → Untouched old new result
given_untouched a old new (Ok done) g = tt
given_untouched a old new (Err (fault.Raised reason)) g = g.1
given_untouched a old new (Err fault.NoMemory) g = tt

pub refused_untouched : (r : replies.Reply Held) (object : ℕ) (args : List ResolvedArg) (old new : World) (f : Fault) →
    PerformsAt r object args old new (Err f) → Untouched old new (Err f)
refused_untouched r object args old new (fault.Raised reason) k = k.1
refused_untouched r object args old new fault.NoMemory k = tt

sum_by : (e : State) (target : ℕ) (n : ℤ) (b : Bool) → is_integer n ≡ b → sum_given e target (if b then Some n else None) ≡ sum_assigned e target n
sum_by e target n true f = rw (f, sum_assigned) refl
sum_by e target n false f = rw (f, sum_assigned) refl

pub sum_is : (e : State) (target : ℕ) (n : ℤ) → sum_given e target (if_integer n) ≡ sum_assigned e target n
sum_is e target n = sum_by e target n (is_integer n) refl
