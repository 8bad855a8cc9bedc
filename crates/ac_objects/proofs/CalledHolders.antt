-- A call on a holder as a call on an object.
use Rattle.std.proofs.Common.{◌≡◌, inl, inr, ◌==◌, ◌++◌, ℕ, ℤ, Bool, true, false, List, [], ◌∷◌, refl, sym, ap, subst, ◌∙◌, ne_eqb, Option, Some, None, Result, Ok, Err, option_map}
use Rattle.std.specs.Prelude.{IfSome}
use Rattle.ac_base.specs.declared.cursor.Cursor.{Cursor}
use Rattle.ac_base.specs.declared.fault.Fault.{Fault}
use Rattle.ac_base.specs.declared.fault.Fault.TheVariants as fault
use Rattle.ac_base.specs.declared.reason.Reason.{Reason}
use Rattle.ac_base.specs.declared.value.Value.{Value}
use Rattle.ac_model.specs.Calls.{Done}
use Rattle.ac_model.specs.Cursors.{plain_mark}
use Rattle.ac_model.specs.Holders.{Holder}
use Rattle.ac_syntax.specs.declared.kind.ElemKind.{ElemKind}
use Rattle.ac_syntax.specs.declared.kind.ElemKind.TheVariants.{Integer, Str}
use Rattle.ac_syntax.specs.declared.operation.Operation.{Operation}
use Rattle.ac_calls.specs.Answers.{answers_list}
use Rattle.ac_calls.specs.Elements.{ElementOf, tools_of, Text}
use Rattle.ac_calls.specs.HolderReplies.{holder_source, holder_reply, holder_write}
use Rattle.ac_calls.specs.Holdings.{Held, of_holder, number_of, holder_in, listing_of, Written, written, write, reply_of}
use Rattle.ac_calls.specs.Replies.{without, itself, another, carried}
use Rattle.ac_calls.specs.Replies as replies
use Rattle.ac_meaning.specs.Stays.{HolderStays}
use Rattle.ac_meaning.proofs.HoldersStay.{holder_stays, holder_write_stays}
use Rattle.ac_objects.specs.declared.object.Object.{Object}
use Rattle.ac_objects.specs.declared.object.Object.TheVariants.{IntegerHolder, TextHolder}
use Rattle.ac_calls.specs.declared.reply.Reply.{Reply}
use Rattle.ac_calls.specs.declared.reply.Said.{Said}
use Rattle.ac_calls.specs.declared.reply.Said.TheVariants as said
use Rattle.ac_calls.specs.declared.reply.Placed.{Placed}
use Rattle.ac_objects.specs.Called.{Tells, Places, HeldAfter, Called, CalledWith, Lasts, WritesTo}
use Rattle.ac_holder_calls.specs.HolderCalls.{ChangesHolder, HolderSays, HolderAfter, HolderReplied, HolderRepliedWith}
use Rattle.ac_objects.specs.Standing.{held_counts}
use Rattle.ac_objects.specs.World.{in_holder, memory_of, held_in, held_of, AgreesIn}
use Rattle.ac_meaning.proofs.Sources.{holder_own, if_false}

-- what each variant is in memory

pub integer_holder : (h : Holder ℤ) → memory_of (IntegerHolder h) ≡ in_holder Integer h
unfolding memory_of
integer_holder h = refl

pub text_holder : (h : Holder Text) → memory_of (TextHolder h) ≡ in_holder Str h
unfolding memory_of
text_holder h = refl

module _ (e : ElemKind) where
  held_is : (h : Holder (ElementOf e)) (w : Object) → memory_of w ≡ in_holder e h → held_of w ≡ of_holder e h
  held_is h w is = ap held_in is

  held_after : (h after : Holder (ElementOf e)) (w : Object) → memory_of w ≡ in_holder e h → h ≡ after → held_of w ≡ of_holder e after
  held_after h after w is same = held_is h w is ∙ ap (of_holder e) same

  tells : (new : Holder (ElementOf e)) (w : Object) (answer : _) → memory_of w ≡ in_holder e new → (s : Said) → HolderSays (tools_of e) new s answer →
      Tells w s answer
  tells new w answer is said.Done h = h
  tells new w answer is (said.Value v) h = h
  tells new w answer is (said.Truth is_true) h = h
  tells new w answer is (said.Place c) h = absurd h
  tells new w answer is said.Stalled h = absurd h
  tells new w answer is said.Listing h = h ∙ ap answers_list (ap listing_of (sym (held_is new w is)))

  places : (w : Object) (p : Option Placed) (variable : Option replies.Placed) → p ≡ None → variable ≡ None → Places w p variable
  places w p variable none unset = subst (λ x. Places w x variable) (sym none) unset

  called : (old new : Holder (ElementOf e)) (w v : Object) (r : replies.Reply (Holder (ElementOf e))) (result : Result Reply Fault) →
      memory_of v ≡ in_holder e new → (new ≡ old → v ≡ w) → HolderReplied (tools_of e) r old new result → Called (carried (of_holder e) r) w v result
  called old new w v r (Ok made) is same h = inl (
    record {
      goes = h.0.goes;
      reason = h.0.reason;
      after = held_after new r.after v is h.0.after;
      tells = tells new v r.answer is made.said h.0.says;
      variable = places v made.variable r.variable h.0.none_set h.0.variable;
    },
    ap (option_map (of_holder e)) h.1,
  )
  called old new w v r (Err (fault.Raised reason)) is same h = (h.0, same h.1)
  called old new w v r (Err fault.NoMemory) is same h = same h

  source_after : (source now : Holder (ElementOf e)) (s t : Object) (after : Option (Holder (ElementOf e))) → memory_of t ≡ in_holder e now →
      (now ≡ source → t ≡ s) → HolderAfter (tools_of e) source now after → HeldAfter s t (option_map (of_holder e) after)
  source_after source now s t None is same h = same h
  source_after source now s t (Some after) is same h = held_after now after t is h

  called_with : (old new source now : Holder (ElementOf e)) (w v s t : Object) (r : replies.Reply (Holder (ElementOf e))) (result : Result Reply Fault) →
      memory_of v ≡ in_holder e new → (new ≡ old → v ≡ w) → memory_of t ≡ in_holder e now → (now ≡ source → t ≡ s) →
      HolderRepliedWith (tools_of e) r old source new now result → CalledWith (carried (of_holder e) r) w s v t result
  called_with old new source now w v s t r (Ok made) is same now_is same_source h = inl (
    record {
      goes = h.0.goes;
      reason = h.0.reason;
      after = held_after new r.after v is h.0.after;
      tells = tells new v r.answer is made.said h.0.says;
      variable = places v made.variable r.variable h.0.none_set h.0.variable;
    },
    source_after source now s t r.source now_is same_source h.1,
  )
  called_with old new source now w v s t r (Err (fault.Raised reason)) is same now_is same_source h = (h.0, same h.1, same_source h.2)
  called_with old new source now w v s t r (Err fault.NoMemory) is same now_is same_source h = (same h.0, same_source h.1)

  -- what stays of a holder stays of the object
  lasts_in : (old new : Holder (ElementOf e)) (w v : Object) (reason : Option Reason) → memory_of w ≡ in_holder e old → memory_of v ≡ in_holder e new →
      HolderStays old reason new → Lasts w v
  lasts_in old new w v reason is now s = record {
    cursors = λ c agrees. subst (λ m. AgreesIn m c) (sym now) tt;
    counts =
        ap (λ m. held_counts (held_in m)) now
        ∙ ((λ i. record {
          guards = record { number = s.number i; cursor_guards = s.cursor_guards i; element_guards = s.element_guards i };
          takes = true;
        })
        ∙ ap (λ m. held_counts (held_in m)) (sym is));
  }

  same_lasts : (old new : Holder (ElementOf e)) (w v : Object) → memory_of w ≡ in_holder e old → memory_of v ≡ in_holder e new → new ≡ old → Lasts w v
  same_lasts old new w v is now same = record {
    cursors = λ c agrees. subst (λ m. AgreesIn m c) (sym now) tt;
    counts = ap (λ m. held_counts (held_in m)) (now ∙ (ap (in_holder e) same ∙ sym is));
  }

  stays_to : (old new after : Holder (ElementOf e)) (w v : Object) (reason : Option Reason) → memory_of w ≡ in_holder e old → memory_of v ≡ in_holder e new →
      new ≡ after → HolderStays old reason after → Lasts w v
  stays_to old new after w v reason is now same s = lasts_in old new w v reason is now (subst (λ x. HolderStays old reason x) (sym same) s)

  -- without a source, or with itself

  abbrev pub OwnReply : Holder (ElementOf e) → Operation → replies.Arguments → replies.Reply (Holder (ElementOf e))
  OwnReply old op a = holder_reply (tools_of e) old without a op

  pub own_called : (old new : Holder (ElementOf e)) (w v : Object) (op : Operation) (a : replies.Arguments) (result : Result Reply Fault) →
      memory_of w ≡ in_holder e old → memory_of v ≡ in_holder e new → (new ≡ old → v ≡ w) →
      HolderReplied (tools_of e) (OwnReply old op a) old new result → Called (reply_of (held_of w) None op a) w v result
  own_called old new w v op a result is now same h =
      subst (λ r. Called r w v result) (sym (ap (λ m. reply_of (held_in m) None op a) is)) (called old new w v (OwnReply old op a) result now same h)

  pub own_lasts : (old new : Holder (ElementOf e)) (w v : Object) (op : Operation) (a : replies.Arguments) (result : Result Reply Fault) →
      memory_of w ≡ in_holder e old → memory_of v ≡ in_holder e new → HolderReplied (tools_of e) (OwnReply old op a) old new result → Lasts w v
  own_lasts old new w v op a (Ok made) is now h =
      let r = OwnReply old op a in
      stays_to old new r.after w v r.reason is now h.0.after (holder_stays (tools_of e) old without a op).target
  own_lasts old new w v op a (Err (fault.Raised reason)) is now h = same_lasts old new w v is now h.1
  own_lasts old new w v op a (Err fault.NoMemory) is now h = same_lasts old new w v is now h

  -- with another one

  abbrev pub PairReply : (old source : Holder (ElementOf e)) → Operation → replies.Arguments → replies.Reply (Holder (ElementOf e))
  PairReply old source op a = holder_reply (tools_of e) old (another source a) a op

  pair_reply : (o s : Holder (ElementOf e)) (op : Operation) (a : replies.Arguments) → (o.number ≡ s.number → ⊥) →
      reply_of (of_holder e o) (Some (of_holder e s)) op a ≡ carried (of_holder e) (PairReply o s op a)
  pair_reply o s op a differ =
      ap (λ x. carried (of_holder e) (holder_reply (tools_of e) o (holder_source o x a) a op)) (holder_own e s)
      ∙ ap (λ x. carried (of_holder e) (holder_reply (tools_of e) o x a op))
      (if_false itself (another s a) (o.number == s.number) (ne_eqb o.number s.number differ))

  pub pair_called : (old new source now : Holder (ElementOf e)) (w v s t : Object) (op : Operation) (a : replies.Arguments) (result : Result Reply Fault) →
      memory_of w ≡ in_holder e old → memory_of v ≡ in_holder e new → (new ≡ old → v ≡ w) → memory_of s ≡ in_holder e source →
      memory_of t ≡ in_holder e now → (now ≡ source → t ≡ s) → (number_of (held_of w) ≡ number_of (held_of s) → ⊥) →
      HolderRepliedWith (tools_of e) (PairReply old source op a) old source new now result →
      CalledWith (reply_of (held_of w) (Some (held_of s)) op a) w s v t result
  pair_called old new source now w v s t op a result is new_is same source_is now_is same_source differ h =
      let numbers : old.number ≡ source.number → ⊥ =
      λ x. differ (ap (λ m. number_of (held_in m)) is ∙ (x ∙ ap (λ m. number_of (held_in m)) (sym source_is))) in
      let reply : reply_of (held_of w) (Some (held_of s)) op a ≡ carried (of_holder e) (PairReply old source op a) =
      (λ i. reply_of (held_in (is i)) (Some (held_in (source_is i))) op a) ∙ pair_reply old source op a numbers in
      subst (λ r. CalledWith r w s v t result) (sym reply)
      (called_with old new source now w v s t (PairReply old source op a) result new_is same now_is same_source h)

  some_stays : (source now : Holder (ElementOf e)) (s t : Object) (reason : Option Reason) (found : Option (Holder (ElementOf e))) →
      memory_of s ≡ in_holder e source → memory_of t ≡ in_holder e now → IfSome found (λ x. HolderStays source reason x) →
      HolderAfter (tools_of e) source now found → Lasts s t
  some_stays source now s t reason None is now_is stays h = same_lasts source now s t is now_is h
  some_stays source now s t reason (Some x) is now_is stays h = stays_to source now x s t reason is now_is h stays

  pub pair_lasts : (old new source now : Holder (ElementOf e)) (w v s t : Object) (op : Operation) (a : replies.Arguments) (result : Result Reply Fault) →
      memory_of w ≡ in_holder e old → memory_of v ≡ in_holder e new → memory_of s ≡ in_holder e source → memory_of t ≡ in_holder e now →
      HolderRepliedWith (tools_of e) (PairReply old source op a) old source new now result → Lasts w v × Lasts s t
  pair_lasts old new source now w v s t op a (Ok made) is new_is source_is now_is h =
      let r = PairReply old source op a in
      let stays = holder_stays (tools_of e) old (another source a) a op in (
        stays_to old new r.after w v r.reason is new_is h.0.after stays.target,
        some_stays source now s t r.reason r.source source_is now_is stays.source_stays h.1,
      )
  pair_lasts old new source now w v s t op a (Err (fault.Raised reason)) is new_is source_is now_is h =
      (same_lasts old new w v is new_is h.1, same_lasts source now s t source_is now_is h.2)
  pair_lasts old new source now w v s t op a (Err fault.NoMemory) is new_is source_is now_is h =
      (same_lasts old new w v is new_is h.0, same_lasts source now s t source_is now_is h.1)

  -- a source of another kind is none

  with_none : (r q : replies.Reply Held) (w v s : Object) (result : Result Reply Fault) → q ≡ r → Called r w v result → CalledWith q w s v s result
  with_none r q w v s (Ok made) same (inl h) =
      subst (λ x. CalledWith x w s v s (Ok made)) (sym same) (inl (h.0, subst (λ x. HeldAfter s s x) (sym h.1) refl))
  with_none r q w v s (Ok made) same (inr h) = subst (λ x. CalledWith x w s v s (Ok made)) (sym same) (inr (h, refl))
  with_none r q w v s (Err (fault.Raised reason)) same h = subst (λ x. CalledWith x w s v s (Err (fault.Raised reason))) (sym same) (h.0, h.1, refl)
  with_none r q w v s (Err fault.NoMemory) same h = (h, refl)

  pub unlike_alone : (old : Holder (ElementOf e)) (w v s : Object) (op : Operation) (a : replies.Arguments) (result : Result Reply Fault) →
      memory_of w ≡ in_holder e old → holder_in e (Some (held_of s)) ≡ None → Called (reply_of (held_of w) None op a) w v result →
      CalledWith (reply_of (held_of w) (Some (held_of s)) op a) w s v s result
  unlike_alone old w v s op a result is none h =
      let reply : reply_of (held_of w) (Some (held_of s)) op a ≡ reply_of (held_of w) None op a =
      ap (λ m. reply_of (held_in m) (Some (held_of s)) op a) is
      ∙ (ap (λ x. carried (of_holder e) (holder_reply (tools_of e) old (holder_source old x a) a op)) none
      ∙ ap (λ m. reply_of (held_in m) None op a) (sym is)) in
      with_none (reply_of (held_of w) None op a) _ w v s result reply h

  -- a write

  pub wrote_to : (old new : Holder (ElementOf e)) (w v : Object) (at : Cursor) (x : Value) (result : Result Done Fault) →
      memory_of w ≡ in_holder e old → memory_of v ≡ in_holder e new → (new ≡ old → v ≡ w) →
      ChangesHolder (holder_write (tools_of e) old x) old new result → WritesTo (write (held_of w) (plain_mark at) x) w v result
  wrote_to old new w v at x result is new_is same h = to result h
    where
      is_write : write (held_of w) (plain_mark at) x ≡ written (of_holder e) (holder_write (tools_of e) old x)
      is_write = ap (λ m. write (held_in m) (plain_mark at) x) is

      to : (result : Result Done Fault) → ChangesHolder (holder_write (tools_of e) old x) old new result → WritesTo (write (held_of w) (plain_mark at) x) w v result
      to (Ok done) h = (
        ap (λ (r : Written). r.reason) is_write ∙ h.0,
        held_after new (holder_write (tools_of e) old x).after v new_is h.1 ∙ sym (ap (λ (r : Written). r.after) is_write),
      )
      to (Err (fault.Raised reason)) h = (ap (λ (r : Written). r.reason) is_write ∙ h.0, same h.1)
      to (Err fault.NoMemory) h = same h

  pub wrote_lasts : (old new : Holder (ElementOf e)) (w v : Object) (x : Value) (result : Result Done Fault) →
      memory_of w ≡ in_holder e old → memory_of v ≡ in_holder e new → ChangesHolder (holder_write (tools_of e) old x) old new result → Lasts w v
  wrote_lasts old new w v x (Ok done) is new_is h =
      let call = holder_write (tools_of e) old x in stays_to old new call.after w v None is new_is h.1 (holder_write_stays (tools_of e) old x h.0)
  wrote_lasts old new w v x (Err (fault.Raised reason)) is new_is h = same_lasts old new w v is new_is h.1
  wrote_lasts old new w v x (Err fault.NoMemory) is new_is h = same_lasts old new w v is new_is h
