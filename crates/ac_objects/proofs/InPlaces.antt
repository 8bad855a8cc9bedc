-- A call on the objects in their places.
use Rattle.std.proofs.Common.{◌≡◌, inl, inr, ℕ, List, get_or, slice_get, slice_set, refl, sym, ap, subst, ◌∙◌, Option, Some, None, Result, Ok, Err}
use Rattle.std.specs.Prelude.{⊤}
use Rattle.ac_base.specs.declared.fault.Fault.{Fault}
use Rattle.ac_base.specs.declared.fault.Fault.TheVariants as fault
use Rattle.ac_syntax.specs.declared.operation.Operation.{Operation}
use Rattle.ac_calls.specs.Answers as meant
use Rattle.ac_meaning.specs.Commands.{source_of, source_set}
use Rattle.ac_meaning.specs.Environment.{State, binds_object, object_at, with_bound}
use Rattle.ac_calls.specs.Holdings.{Held, number_of, reply_of}
use Rattle.ac_calls.specs.Replies as replies
use Rattle.ac_meaning.proofs.NumbersApart.{numbers_tell}
use Rattle.ac_calls.specs.declared.argument.Arguments.{Arguments}
use Rattle.ac_objects.specs.declared.bound.Bound.{Bound}
use Rattle.ac_objects.specs.declared.bound.Bound.TheVariants as bound
use Rattle.ac_objects.specs.declared.object.Object.{Object}
use Rattle.ac_calls.specs.declared.reply.Said.{Said}
use Rattle.ac_calls.specs.declared.reply.Said.TheVariants as said
use Rattle.ac_calls.specs.declared.reply.Placed.{Placed}
use Rattle.ac_calls.specs.declared.reply.Reply.{Reply}
use Rattle.ac_calls.specs.Arguments.{arguments_of}
use Rattle.ac_objects.specs.Called.{AgreesWith, Tells, Places, HeldAfter, Called, CalledWith, Lasts}
use Rattle.ac_calls.specs.Replied.{IsStalled}
use Rattle.ac_objects.specs.Shown.{Shows}
use Rattle.ac_objects.specs.Steps.{AllKnown, Advances, CalledIn, CalledInBoth, SaidKnown, placed_of, PlacedKnown, CalledAt, CallsIn, CanCall, CalledBounds, CanCallIn}
use Rattle.ac_objects.specs.World.{World, Counters, world, state_of, held_of, IsSound, memory_of}
use Rattle.ac_objects.proofs.Memory.{all_agree_in}
use Rattle.ac_meaning.proofs.Places.{same_some, get_own, get_other, set_same, set_around, found_or}
use Rattle.ac_meaning.proofs.Sources.{itself_alone}
use Rattle.ac_objects.proofs.Worlds.{stands_in, object_there_in, state_set, set_advances, advances_then, object_replaces, none_known, known_agrees, found_known}

-- the arguments agree with each object
pub agrees_with : (bs : List Bound) (n : Counters) (i : ℕ) (o : Object) (args : Arguments) → AllKnown (world bs n) args → slice_get bs i ≡ Some (bound.Object o) →
    AgreesWith o args
agrees_with bs n i o args k there =
    all_agree_in (memory_of o) args (known_agrees bs n i o _ k.first there) (known_agrees bs n i o _ k.second there)
    (known_agrees bs n i o _ k.third there) (known_agrees bs n i o _ k.fourth there)

pub object_ready : (bs : List Bound) (i : ℕ) (source : Option ℕ) (args : Arguments) → CanCallIn bs i source args →
    (o : Object) × (slice_get bs i ≡ Some (bound.Object o)) × AgreesWith o args
object_ready bs i source args c =
    let s = stands_in bs c.counters i c.object_there.held c.object_there.there in
    (s.object, s.there, agrees_with bs c.counters i s.object args c.known s.there)

pub source_ready : (bs : List Bound) (i j : ℕ) (args : Arguments) → CanCallIn bs i (Some j) args →
    (o : Object) × (slice_get bs j ≡ Some (bound.Object o)) × AgreesWith o args
source_ready bs i j args c =
    let s = stands_in bs c.counters j (c.source_there j refl).held (c.source_there j refl).there in
    (s.object, s.there, agrees_with bs c.counters j s.object args c.known s.there)

pub numbers_apart : (bs : List Bound) (i j : ℕ) (source : Option ℕ) (args : Arguments) → CanCallIn bs i source args → (j ≡ i → ⊥) →
    (o s : Object) → slice_get bs i ≡ Some (bound.Object o) → slice_get bs j ≡ Some (bound.Object s) → number_of (held_of o) ≡ number_of (held_of s) → ⊥
numbers_apart bs i j source args c apart o s here there same =
    apart (sym (numbers_tell (state_of (world bs c.counters)) i j (held_of o) (held_of s) c.sound.numbers_differ (object_there_in bs c.counters i o here)
    (object_there_in bs c.counters j s there) same))

-- what is answered and set

says_in : (bs : List Bound) (n : Counters) (i : ℕ) (o : Object) → slice_get bs i ≡ Some (bound.Object o) → (s : Said) (answer : meant.Answer) → Tells o s answer →
    Shows (state_of (world bs n)) i s answer
says_in bs n i o there said.Done answer h = h
says_in bs n i o there (said.Value v) answer h = h
says_in bs n i o there (said.Truth is_true) answer h = h
says_in bs n i o there (said.Place c) answer h = h.0
says_in bs n i o there said.Listing answer h = (held_of o, object_there_in bs n i o there, h)
says_in bs n i o there said.Stalled answer h = absurd h

said_known : (bs : List Bound) (n : Counters) (i : ℕ) (o : Object) → IsSound (world bs n) → slice_get bs i ≡ Some (bound.Object o) → (s : Said) (answer : meant.Answer) →
    Tells o s answer → SaidKnown (world bs n) s
said_known bs n i o sound there said.Done answer h = tt
said_known bs n i o sound there (said.Value v) answer h = tt
said_known bs n i o sound there (said.Truth is_true) answer h = tt
said_known bs n i o sound there (said.Place c) answer h = found_known bs n i o c sound there h.1
said_known bs n i o sound there said.Listing answer h = tt
said_known bs n i o sound there said.Stalled answer h = tt

placed_in : (o : Object) (p : Option Placed) (variable : Option replies.Placed) → Places o p variable → variable ≡ placed_of p
placed_in o None variable h = h
placed_in o (Some p) variable h = h.0

placed_known : (bs : List Bound) (n : Counters) (i : ℕ) (o : Object) → IsSound (world bs n) → slice_get bs i ≡ Some (bound.Object o) → (p : Option Placed)
    (variable : Option replies.Placed) → Places o p variable → PlacedKnown (world bs n) p
placed_known bs n i o sound there None variable h = tt
placed_known bs n i o sound there (Some p) variable h = found_known bs n i o p.cursor sound there h.1

-- an object without another one

source_none : (e : State) (source : Option ℕ) (found : Option Held) → found ≡ None → source_set e source found ≡ e
source_none e None found h = refl
source_none e (Some place) None h = refl
source_none e (Some place) (Some k) h = absurd (cc)

advances_alone : (bs now : List Bound) (n : Counters) (i : ℕ) (o : Object) (r : replies.Reply Held) (result : Result Reply Fault) → IsSound (world bs n) →
    slice_get bs i ≡ Some (bound.Object o) → CalledIn r i o bs now result → Advances (world bs n) (world now n)
advances_alone bs now n i o r result sound there c =
    subst (λ ys. Advances (world bs n) (world ys n)) (sym c.bounds)
    (set_advances bs n i (bound.Object o) (bound.Object c.now) sound there (object_replaces o c.now c.lasts) (none_known (world bs n)))

-- a call that would wait leaves them all
stalled_in : {X Y : Type 0} (old new : X) (o k : Y) (r : replies.Reply Held) (made : Reply) → (k ≡ o → new ≡ old) → IsStalled r o k made →
    IsStalled r old new made
stalled_in old new o k r made same h = record {
  stalls = record { waits = h.stalls.waits; reason = h.stalls.reason; same = same h.stalls.same; says = h.stalls.says };
  none_set = h.none_set;
}

called_alone : (bs now : List Bound) (n : Counters) (i : ℕ) (source : Option ℕ) (o k : Object) (r : replies.Reply Held) (result : Result Reply Fault) →
    IsSound (world now n) → slice_get bs i ≡ Some (bound.Object o) → now ≡ slice_set bs i (bound.Object k) → Called r o k result →
    CalledAt r i source (world bs n) (world now n) result
called_alone bs now n i source o k r (Ok made) sound there is (inr h) =
    inr (stalled_in (world bs n) (world now n) o k r made
    (λ e. ap (λ ys. world ys n) (is ∙ (ap (λ x. slice_set bs i (bound.Object x)) e ∙ set_same bs i (bound.Object o) there))) h)
called_alone bs now n i source o k r (Ok made) sound there is (inl h) =
    let e = state_of (world bs n) in
    let own : slice_get now i ≡ Some (bound.Object k) = ap (λ ys. slice_get ys i) is ∙ get_own bs i (bound.Object o) (bound.Object k) there in
    let m = h.0 in
    inl (record {
      goes = m.goes;
      reason = m.reason;
      after =
          ap (λ ys. state_of (world ys n)) is
          ∙ (state_set bs n i (bound.Object k)
          ∙ (ap (λ x. with_bound e i (binds_object x)) m.after
          ∙ sym (source_none (with_bound e i (binds_object r.after)) source r.source h.1)));
      says = says_in now n i k own made.said r.answer m.tells;
      variable = placed_in k made.variable r.variable m.variable;
      said_known = said_known now n i k sound own made.said r.answer m.tells;
      placed_known = placed_known now n i k sound own made.variable r.variable m.variable;
    })
called_alone bs now n i source o k r (Err (fault.Raised reason)) sound there is h =
    (h.0, ap (λ ys. world ys n) (is ∙ (ap (λ x. slice_set bs i (bound.Object x)) h.1 ∙ set_same bs i (bound.Object o) there)))
called_alone bs now n i source o k r (Err fault.NoMemory) sound there is h = tt

-- the object of the call is the source, if there is one
abbrev IsSelf : ℕ → Option ℕ → Type 0
IsSelf i None = ⊤
IsSelf i (Some j) = j ≡ i

self_reply : (e : State) (i : ℕ) (source : Option ℕ) (h : Held) (op : Operation) (a : replies.Arguments) → IsSelf i source → object_at e i ≡ Some h →
    reply_of h (source_of e source) op a ≡ reply_of h None op a
self_reply e i None h op a self there = refl
self_reply e i (Some j) h op a self there =
    ap (λ s. reply_of h s op a) (ap (object_at e) self ∙ there) ∙ itself_alone h op a

calls_alone : (op : Operation) (args : Arguments) (bs now : List Bound) (i : ℕ) (source : Option ℕ) (o : Object) (result : Result Reply Fault) →
    IsSelf i source → slice_get bs i ≡ Some (bound.Object o) → CalledIn (reply_of (held_of o) None op (arguments_of args)) i o bs now result →
    CallsIn op args i source bs now result
calls_alone op args bs now i source o result self there c =
    let a = arguments_of args in
    record {
      advances = λ n sound known. advances_alone bs now n i o (reply_of (held_of o) None op a) result sound there c;
      called = λ n sound known h seen.
          let e = state_of (world bs n) in
          let is : held_of o ≡ h = same_some (held_of o) h (sym (object_there_in bs n i o there) ∙ seen) in
          let advance = advances_alone bs now n i o (reply_of (held_of o) None op a) result sound there c in
          subst (λ r. CalledAt r i source (world bs n) (world now n) result) (sym (self_reply e i source h op a self seen))
          (subst (λ x. CalledAt (reply_of x None op a) i source (world bs n) (world now n) result) is
          (called_alone bs now n i source o c.now (reply_of (held_of o) None op a) result advance.sound there c.bounds c.called));
    }

pub calls_without : (op : Operation) (args : Arguments) (bs now : List Bound) (i : ℕ) (result : Result Reply Fault) → CanCallIn bs i None args →
    ((o : Object) → slice_get bs i ≡ Some (bound.Object o) → CalledIn (reply_of (held_of o) None op (arguments_of args)) i o bs now result) →
    CallsIn op args i None bs now result
calls_without op args bs now i result ready f =
    let o = object_ready bs i None args ready in calls_alone op args bs now i None o.0 result tt o.1 (f o.0 o.1)

pub calls_self : (op : Operation) (args : Arguments) (bs now : List Bound) (i j : ℕ) (result : Result Reply Fault) → CanCallIn bs i (Some j) args → j ≡ i →
    ((o : Object) → slice_get bs i ≡ Some (bound.Object o) → CalledIn (reply_of (held_of o) None op (arguments_of args)) i o bs now result) →
    CallsIn op args i (Some j) bs now result
calls_self op args bs now i j result ready same f =
    let o = object_ready bs i (Some j) args ready in calls_alone op args bs now i (Some j) o.0 result same o.1 (f o.0 o.1)

-- with another one

module _ (bs : List Bound) (i j : ℕ) (o s k t : Object) (apart : i ≡ j → ⊥) (here : slice_get bs i ≡ Some (bound.Object o))
    (there : slice_get bs j ≡ Some (bound.Object s)) where
  source_there : slice_get (slice_set bs i (bound.Object k)) j ≡ Some (bound.Object s)
  source_there = get_other bs i j (bound.Object k) apart ∙ there

  target_there : (now : List Bound) → now ≡ slice_set (slice_set bs i (bound.Object k)) j (bound.Object t) → slice_get now i ≡ Some (bound.Object k)
  target_there now is =
      ap (λ ys. slice_get ys i) is
      ∙ (get_other (slice_set bs i (bound.Object k)) j i (bound.Object t) (λ e. apart (sym e)) ∙ get_own bs i (bound.Object o) (bound.Object k) here)

  both_advance : (n : Counters) → IsSound (world bs n) → Lasts o k → Lasts s t →
      Advances (world bs n) (world (slice_set (slice_set bs i (bound.Object k)) j (bound.Object t)) n)
  both_advance n sound l m =
      let first = set_advances bs n i (bound.Object o) (bound.Object k) sound here (object_replaces o k l) (none_known (world bs n)) in
      let middle = slice_set bs i (bound.Object k) in
      let second = set_advances middle n j (bound.Object s) (bound.Object t) first.sound source_there (object_replaces s t m) (none_known (world middle n)) in
      advances_then (world bs n) (world middle n) (world (slice_set middle j (bound.Object t)) n) first second

  source_held : (n : Counters) (after : Held) (found : Option Held) → held_of k ≡ after → HeldAfter s t found →
      state_of (world (slice_set (slice_set bs i (bound.Object k)) j (bound.Object t)) n)
      ≡ source_set (with_bound (state_of (world bs n)) i (binds_object after)) (Some j) found
  source_held n after None is h =
      ap (λ ys. state_of (world ys n))
      (ap (λ x. slice_set (slice_set bs i (bound.Object k)) j (bound.Object x)) h ∙ set_same (slice_set bs i (bound.Object k)) j (bound.Object s) source_there)
      ∙ (state_set bs n i (bound.Object k) ∙ ap (λ x. with_bound (state_of (world bs n)) i (binds_object x)) is)
  source_held n after (Some x) is h =
      state_set (slice_set bs i (bound.Object k)) n j (bound.Object t)
      ∙ (ap (λ e. with_bound e j (binds_object (held_of t))) (state_set bs n i (bound.Object k) ∙ ap (λ x. with_bound (state_of (world bs n)) i (binds_object x)) is)
      ∙ ap (λ y. with_bound (with_bound (state_of (world bs n)) i (binds_object after)) j (binds_object y)) h)

  both_same : (now : List Bound) (n : Counters) → now ≡ slice_set (slice_set bs i (bound.Object k)) j (bound.Object t) → k ≡ o → t ≡ s →
      world now n ≡ world bs n
  both_same now n is same source_same =
      ap (λ ys. world ys n)
      (is
      ∙ (ap (λ x. slice_set (slice_set bs i (bound.Object x)) j (bound.Object t)) same
      ∙ (ap (λ x. slice_set x j (bound.Object t)) (set_same bs i (bound.Object o) here)
      ∙ (ap (λ x. slice_set bs j (bound.Object x)) source_same ∙ set_same bs j (bound.Object s) there))))

  called_both : (now : List Bound) (n : Counters) (r : replies.Reply Held) (result : Result Reply Fault) → IsSound (world now n) →
      now ≡ slice_set (slice_set bs i (bound.Object k)) j (bound.Object t) → CalledWith r o s k t result →
      CalledAt r i (Some j) (world bs n) (world now n) result
  called_both now n r (Ok made) sound is (inr h) =
      inr (stalled_in (world bs n) (world now n) o k r made (λ e. both_same now n is e h.1) h.0)
  called_both now n r (Ok made) sound is (inl h) =
      let own = target_there now is in
      let m = h.0 in
      inl (record {
        goes = m.goes;
        reason = m.reason;
        after = ap (λ ys. state_of (world ys n)) is ∙ source_held n r.after r.source m.after h.1;
        says = says_in now n i k own made.said r.answer m.tells;
        variable = placed_in k made.variable r.variable m.variable;
        said_known = said_known now n i k sound own made.said r.answer m.tells;
        placed_known = placed_known now n i k sound own made.variable r.variable m.variable;
      })
  called_both now n r (Err (fault.Raised reason)) sound is h = (h.0, both_same now n is h.1 h.2)
  called_both now n r (Err fault.NoMemory) sound is h = tt

pub calls_with : (op : Operation) (args : Arguments) (bs now : List Bound) (i j : ℕ) (result : Result Reply Fault) → CanCallIn bs i (Some j) args →
    (j ≡ i → ⊥) →
    ((o s : Object) → slice_get bs i ≡ Some (bound.Object o) → slice_get bs j ≡ Some (bound.Object s) →
    CalledInBoth (reply_of (held_of o) (Some (held_of s)) op (arguments_of args)) i j o s bs now result) →
    CallsIn op args i (Some j) bs now result
calls_with op args bs now i j result ready apart f =
    let a = arguments_of args in
    let x = object_ready bs i (Some j) args ready in
    let y = source_ready bs i j args ready in
    let o = x.0 in
    let s = y.0 in
    let c = f o s x.1 y.1 in
    let other : i ≡ j → ⊥ = λ e. apart (sym e) in
    let advances : (n : Counters) → IsSound (world bs n) → Advances (world bs n) (world now n) =
    λ n sound. subst (λ ys. Advances (world bs n) (world ys n)) (sym c.bounds)
    (both_advance bs i j o s c.now c.source_now other x.1 y.1 n sound c.lasts c.source_lasts) in
    record {
      advances = λ n sound known. advances n sound;
      called = λ n sound known h seen.
          let is : held_of o ≡ h = same_some (held_of o) h (sym (object_there_in bs n i o x.1) ∙ seen) in
          subst (λ q. CalledAt (reply_of q (object_at (state_of (world bs n)) j) op a) i (Some j) (world bs n) (world now n) result) is
          (subst (λ q. CalledAt (reply_of (held_of o) q op a) i (Some j) (world bs n) (world now n) result) (sym (object_there_in bs n j s y.1))
          (called_both bs i j o s c.now c.source_now other x.1 y.1 now n (reply_of (held_of o) (Some (held_of s)) op a) result (advances n sound).sound c.bounds c.called));
    }

-- the two objects, one of them taken from its place

pub taken_is : (bs : List Bound) (i : ℕ) (b c : Bound) (o : Object) → b ≡ c → c ≡ get_or bs i c → slice_get bs i ≡ Some (bound.Object o) → b ≡ bound.Object o
taken_is bs i b c o e f here = e ∙ (f ∙ found_or bs i (bound.Object o) c here)

pub left_is : (bs : List Bound) (i j : ℕ) (d c : Bound) (s : Object) → (i ≡ j → ⊥) → c ≡ get_or (slice_set bs i d) j c →
    slice_get bs j ≡ Some (bound.Object s) → c ≡ bound.Object s
left_is bs i j d c s apart f there = f ∙ found_or (slice_set bs i d) j (bound.Object s) c (get_other bs i j d apart ∙ there)

pub both_ready : (bs : List Bound) (i j : ℕ) (b c : Bound) (args : Arguments) →
    ((o s : Object) → slice_get bs i ≡ Some (bound.Object o) → slice_get bs j ≡ Some (bound.Object s) → number_of (held_of o) ≡ number_of (held_of s) → ⊥) →
    ((o : Object) → slice_get bs i ≡ Some (bound.Object o) → b ≡ bound.Object o) → ((s : Object) → slice_get bs j ≡ Some (bound.Object s) → c ≡ bound.Object s) →
    (o : Object) × (slice_get bs i ≡ Some (bound.Object o)) × AgreesWith o args →
    (s : Object) × (slice_get bs j ≡ Some (bound.Object s)) × AgreesWith s args → CanCall b c args
both_ready bs i j b c args apart f g x y = record {
  object = x.0;
  other = y.0;
  target_is = f x.0 x.1;
  source_is = g y.0 y.1;
  apart = apart x.0 y.0 x.1 y.1;
  agree = x.2;
  agree_with_source = y.2;
}

pub put_back : (op : Operation) (args : Arguments) (bs : List Bound) (i j : ℕ) (b c d new source_new : Bound) (o s : Object) (result : Result Reply Fault) →
    (i ≡ j → ⊥) → b ≡ bound.Object o → c ≡ bound.Object s → CalledBounds op args b c new source_new result →
    CalledInBoth (reply_of (held_of o) (Some (held_of s)) op (arguments_of args)) i j o s bs (slice_set (slice_set (slice_set bs i d) j source_new) i new) result
put_back op args bs i j b c d new source_new o s result apart f g k =
    let called = k.called o s f g in
    record {
      now = k.now;
      source_now = k.other_now;
      bounds =
          set_around bs i j d source_new new apart
          ∙ (ap (λ x. slice_set (slice_set bs i x) j source_new) k.new_is ∙ ap (λ x. slice_set (slice_set bs i (bound.Object k.now)) j x) k.source_is);
      called = called.0;
      lasts = called.1;
      source_lasts = called.2;
    }

-- so it is in the world that they are of
pub calls_advance : (op : Operation) (args : Arguments) (i : ℕ) (source : Option ℕ) (w : World) (bs now : List Bound) (n : Counters) (result : Result Reply Fault) →
    world bs n ≡ w → IsSound (world bs n) → AllKnown w args → CallsIn op args i source bs now result → Advances w (world now n)
calls_advance op args i source w bs now n result view sound known c =
    subst (λ v. Advances v (world now n)) view (c.advances n sound (subst (λ v. AllKnown v args) (sym view) known))
