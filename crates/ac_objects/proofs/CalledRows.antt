-- A call on rows of any kind as a call on an object.
use Rattle.std.proofs.Common.{◌≡◌, ◌⊎◌, inl, inr, ◌==◌, ◌&&◌, ◌||◌, ◌+◌, ◌≤◌, ◌<◌, ℕ, Bool, true, false, List, [], ◌∷◌, map, refl, sym, ap, subst, ◌∙◌, arith, eq-eqb, ne_eqb, Option, Some, None, Result, Ok, Err, option_map, if◌then◌else◌}
use Rattle.std.specs.Prelude.{IfSome}
use Rattle.std.proofs.lemmas.Bool.{eqb-true}
use Rattle.std.proofs.lemmas.Option.{none-some}
use Rattle.ac_base.specs.declared.cursor.Cursor.{Cursor}
use Rattle.ac_base.specs.declared.cursor.Cursor.TheVariants.{NoElement, At}
use Rattle.ac_base.specs.declared.fault.Fault.{Fault}
use Rattle.ac_base.specs.declared.fault.Fault.TheVariants as fault
use Rattle.ac_base.specs.declared.name.Name.{Name}
use Rattle.ac_base.specs.declared.reason.Reason.{Reason}
use Rattle.ac_base.specs.declared.value.Value.{Value}
use Rattle.ac_base.specs.Rows.{Row, names}
use Rattle.ac_model.specs.Letters.{Mark, is_among, is_same_name}
use Rattle.ac_model.specs.Objects.{Object, IsValid, plain, plain_row, times}
use Rattle.ac_model.specs.Calls.{Done, IsAfter}
use Rattle.ac_model.specs.Containers.{Container}
use Rattle.ac_model.specs.Cursors.{IsNamed, plain_mark}
use Rattle.ac_model.specs.Trees.{root_name}
use Rattle.ac_model.proofs.Unslotted.{tree_agreement_kept}
use Rattle.ac_syntax.specs.declared.operation.Operation.{Operation}
use Rattle.ac_calls.specs.Answers.{answers_list}
use Rattle.ac_calls.specs.Holdings.{RowKind, RowOf, Held, of_rows, of_holder, of_queue, number_of, rows_in, have_root, seen_in, own_calls, listing_of, Written, written, write, rows_reply, reply_of}
use Rattle.ac_calls.specs.Replies.{itself, another, arguments_seen, source_in, carried}
use Rattle.ac_calls.specs.Replies as replies
use Rattle.ac_meaning.specs.Stays.{Stays}
use Rattle.ac_meaning.proofs.CommandsStay.{own_write_stays, rows_stay, rows_found}
use Rattle.ac_meaning.proofs.RowKinds.{rows_own}
use Rattle.ac_objects.specs.declared.object.Object.{Object as AnyObject}
use Rattle.ac_calls.specs.declared.reply.Said.{Said}
use Rattle.ac_calls.specs.declared.reply.Said.TheVariants as said
use Rattle.ac_calls.specs.declared.reply.Placed.{Placed}
use Rattle.ac_calls.specs.declared.reply.Reply.{Reply}
use Rattle.ac_calls.specs.Arguments.{SlotAgrees, mark_in}
use Rattle.ac_objects.specs.Called.{IsFound, Tells, Places, HeldAfter, Called, CalledWith, Lasts, RowsLast, WritesTo}
use Rattle.ac_calls.specs.RowWrites.{WritesIn}
use Rattle.ac_calls.specs.Replied.{AreValid, IsOwnName, IsOwnCursor, Says, SetsVariable, SourceAfter, Replied, RepliedWith}
use Rattle.ac_objects.specs.Standing.{held_counts}
use Rattle.ac_objects.specs.World.{in_rows, memory_of, held_in, held_of, AgreesIn, ObjectAgrees}
use Rattle.ac_calls.proofs.NoRoot.{no_root}
use Rattle.ac_calls.proofs.Made.{seen_marks_by}
use Rattle.ac_meaning.proofs.Sources.{rows_alone, if_false, listed}

-- what lasts of rows through a call that was made
made_lasts : {V : Type 0} (old new : Container V) (after : Object ℕ V) (reason : Option Reason) → IsValid (plain old.object) →
    IsAfter old.object new.object after → Stays (plain old.object) reason after → RowsLast old new
made_lasts old new after reason valid is stays = record {
  cursors = λ c agrees. tree_agreement_kept old.object new.object after c valid agrees is stays.number stays.next;
  counts = λ i. record {
    number = (ap (λ (o : Object ℕ _). o.number) is.plainly ∙ stays.number) i;
    cursor_guards = (ap (λ (o : Object ℕ _). o.cursor_guards) is.plainly ∙ stays.cursor_guards) i;
    element_guards = (ap (λ (o : Object ℕ _). o.element_guards) is.plainly ∙ stays.element_guards) i;
  };
}

same_lasts : {V : Type 0} (old new : Container V) → new ≡ old → RowsLast old new
same_lasts old new e = subst (λ x. RowsLast old x) (sym e) (record { cursors = λ c agrees. agrees; counts = refl })

replied_lasts : {V : Type 0} (old new : Container V) (r : replies.Reply (Object ℕ V)) (result : Result Reply Fault) → IsValid (plain old.object) →
    Stays (plain old.object) r.reason r.after → Replied r old new result → RowsLast old new
replied_lasts old new r (Ok made) valid stays h = made_lasts old new r.after r.reason valid h.after stays
replied_lasts old new r (Err (fault.Raised reason)) valid stays h = same_lasts old new h.1
replied_lasts old new r (Err fault.NoMemory) valid stays h = same_lasts old new h

-- the object's own cursors have the slots that it would find

and_right : (a b : Bool) → (a && b) ≡ true → b ≡ true
and_right true b h = h
and_right false b h = absurd (cc)

among_step : (same more here : Bool) (count : ℕ) → (same ≡ true → here ≡ true) → (more ≡ true → 1 ≤ count) → (same || more) ≡ true →
    1 ≤ (if here then 1 else 0) + count
among_step true more here count f g h = rw (f refl) (omega arith)
among_step false more here count f g h = omega (arith, g h)

among_counts : {V : Type 0} (a : Name) (rows : List (Row Name V)) → is_among (names rows) a ≡ true → 1 ≤ times a.serial (map plain_row rows)
among_counts a [] h = absurd (cc)
among_counts a (r ∷ rows) h =
    among_step (is_same_name a r.name) (is_among (names rows) a) (r.name.serial == a.serial) (times a.serial (map plain_row rows))
    (λ e. eq-eqb r.name.serial a.serial (sym (eqb-true a.serial r.name.serial (and_right (a.slot == r.name.slot) (a.serial == r.name.serial) e))))
    (among_counts a rows) h

below_next : (next serial count : ℕ) → 1 ≤ count → (next ≤ serial → count ≡ 0) → serial < next
below_next next serial count h k = grind (arith)

named_agrees : {V : Type 0} (l : Container V) (object : ℕ) (name : Name) → IsValid (plain l.object) → IsNamed l.object name →
    SlotAgrees l.object (At object name)
named_agrees l object name valid named e =
    let counts = among_counts name l.object.rows named in (
      λ zero. absurd (omega (arith, subst (λ n. 1 ≤ times n (plain l.object).rows) zero counts, valid.names_from_one)),
      record {
        given = below_next l.object.next name.serial (times name.serial (plain l.object).rows) counts (valid.names_below_next name.serial);
        slot = λ _. named;
      },
    )

root_agrees : {V : Type 0} (l : Container V) (object : ℕ) → IsValid (plain l.object) → SlotAgrees l.object (At object root_name)
root_agrees l object valid e = (
  λ _. refl,
  record {
    given = omega (arith, valid.next_from_one);
    slot = λ named. absurd (no_root (plain l.object) 0 valid named refl);
  },
)

own_agrees : {V : Type 0} (l : Container V) (object : ℕ) (name : Name) → IsValid (plain l.object) → IsOwnName l.object name →
    SlotAgrees l.object (At object name)
own_agrees l object name valid (inl named) = named_agrees l object name valid named
own_agrees l object name valid (inr is) = subst (λ n. SlotAgrees l.object (At object n)) (sym is) (root_agrees l object valid)

-- what is told of an object is told of what it is

pub called_as : (o w v s : AnyObject) (op : Operation) (a : replies.Arguments) (result : Result Reply Fault) → w ≡ o →
    CalledWith (reply_of (held_of o) (Some (held_of s)) op a) o s v s result → CalledWith (reply_of (held_of w) (Some (held_of s)) op a) w s v s result
called_as o w v s op a result is h = subst (λ x. CalledWith (reply_of (held_of x) (Some (held_of s)) op a) x s v s result) (sym is) h

pub lasts_as : (o w v : AnyObject) → w ≡ o → Lasts o v → Lasts w v
lasts_as o w v is h = subst (λ x. Lasts x v) (sym is) h

-- rows of a kind, as an object of a script
module _ (kind : RowKind) where
  found : (l : Container (RowOf kind)) (w : AnyObject) (c : Cursor) → memory_of w ≡ in_rows kind l → IsValid (plain l.object) →
      IsOwnCursor l.object c → IsFound w c
  found l w NoElement is valid own = tt
  found l w (At object name) is valid own =
      subst (λ m. (object ≡ number_of (held_in m)) × AgreesIn m (At object name)) (sym is) (own.0, own_agrees l object name valid own.1)

  held_is : (l : Container (RowOf kind)) (w : AnyObject) → memory_of w ≡ in_rows kind l → held_of w ≡ of_rows kind (plain l.object)
  held_is l w is = ap held_in is

  held_after : (l : Container (RowOf kind)) (w : AnyObject) (after : Object ℕ (RowOf kind)) → memory_of w ≡ in_rows kind l →
      plain l.object ≡ after → held_of w ≡ of_rows kind after
  held_after l w after is e = held_is l w is ∙ ap (of_rows kind) e

  -- a text that is answered is the listing
  abbrev IsListing : replies.Reply (Object ℕ (RowOf kind)) → Type 0
  IsListing r = (answered : List ℕ) → r.answer ≡ answers_list answered → answered ≡ (own_calls kind r.after).listing

  tells : (new : Container (RowOf kind)) (w : AnyObject) (r : replies.Reply (Object ℕ (RowOf kind))) → memory_of w ≡ in_rows kind new →
      IsValid (plain new.object) → plain new.object ≡ r.after → IsListing r → (s : Said) → Says new.object s r.answer → Tells w s r.answer
  tells new w r is valid after lists said.Done h = h
  tells new w r is valid after lists (said.Value v) h = h
  tells new w r is valid after lists (said.Truth is_true) h = h
  tells new w r is valid after lists (said.Place c) h = (h.0, found new w c is valid h.1)
  tells new w r is valid after lists said.Stalled h = absurd h
  tells new w r is valid after lists said.Listing h =
      h.1 ∙ ap answers_list (lists h.0 h.1 ∙ (ap (λ a. (own_calls kind a).listing) (sym after) ∙ ap listing_of (sym (held_is new w is))))

  places : (new : Container (RowOf kind)) (w : AnyObject) (variable : Option replies.Placed) → memory_of w ≡ in_rows kind new →
      IsValid (plain new.object) → (p : Option Placed) → SetsVariable new.object p variable → Places w p variable
  places new w variable is valid None h = h
  places new w variable is valid (Some p) h = (h.0, found new w p.cursor is valid h.1)

  called : (old new : Container (RowOf kind)) (w v : AnyObject) (r : replies.Reply (Object ℕ (RowOf kind))) (result : Result Reply Fault) →
      memory_of v ≡ in_rows kind new → (new ≡ old → v ≡ w) → IsValid (plain new.object) → IsListing r → Replied r old new result →
      Called (carried (of_rows kind) r) w v result
  called old new w v r (Ok made) is same valid lists h = inl (
    record {
      goes = h.goes;
      reason = h.reason;
      after = held_after new v r.after is h.after.plainly;
      tells = tells new v r is valid h.after.plainly lists made.said h.says;
      variable = places new v r.variable is valid made.variable h.variable;
    },
    ap (option_map (of_rows kind)) h.source,
  )
  called old new w v r (Err (fault.Raised reason)) is same valid lists h = (h.0, same h.1)
  called old new w v r (Err fault.NoMemory) is same valid lists h = same h

  source_after : (source now : Container (RowOf kind)) (s t : AnyObject) (after : Option (Object ℕ (RowOf kind))) → memory_of t ≡ in_rows kind now →
      (now ≡ source → t ≡ s) → SourceAfter source now after → HeldAfter s t (option_map (of_rows kind) after)
  source_after source now s t None is same h = same h
  source_after source now s t (Some after) is same h = held_after now t after is h.plainly

  called_with : (old new source now : Container (RowOf kind)) (w v s t : AnyObject) (r : replies.Reply (Object ℕ (RowOf kind))) (result : Result Reply Fault) →
      memory_of v ≡ in_rows kind new → (new ≡ old → v ≡ w) → memory_of t ≡ in_rows kind now → (now ≡ source → t ≡ s) → IsValid (plain new.object) →
      IsListing r → RepliedWith r old source new now result → CalledWith (carried (of_rows kind) r) w s v t result
  called_with old new source now w v s t r (Ok made) is same is_source same_source valid lists h = inl (
    record {
      goes = h.goes;
      reason = h.reason;
      after = held_after new v r.after is h.after.plainly;
      tells = tells new v r is valid h.after.plainly lists made.said h.says;
      variable = places new v r.variable is valid made.variable h.variable;
    },
    source_after source now s t r.source is_source same_source h.source_after,
  )
  called_with old new source now w v s t r (Err (fault.Raised reason)) is same is_source same_source valid lists h = (h.0, same h.1, same_source h.2)
  called_with old new source now w v s t r (Err fault.NoMemory) is same is_source same_source valid lists h = (same h.0, same_source h.1)

  -- what lasts of rows lasts of the object
  lasts_in : (old new : Container (RowOf kind)) (w v : AnyObject) → memory_of w ≡ in_rows kind old → memory_of v ≡ in_rows kind new → RowsLast old new →
      Lasts w v
  lasts_in old new w v is now l = record {
    cursors = λ c agrees. subst (λ m. AgreesIn m c) (sym now) (l.cursors c (subst (λ m. AgreesIn m c) is agrees));
    counts =
        ap (λ m. held_counts (held_in m)) now
        ∙ ((λ i. record { guards = l.counts i; takes = true }) ∙ ap (λ m. held_counts (held_in m)) (sym is));
  }

  is_listing : (o : Object ℕ (RowOf kind)) (source : replies.Source (Object ℕ (RowOf kind))) (args : replies.Arguments) (op : Operation) →
      IsListing (rows_reply kind o source args op)
  is_listing o source args op text e = let l = listed kind o source args op text e in l.0 ∙ ap (λ x. (own_calls kind x).listing) (sym l.1)

  -- without a source, or with itself

  abbrev pub OwnReply : Container (RowOf kind) → Operation → replies.Arguments → replies.Reply (Object ℕ (RowOf kind))
  OwnReply old op a = let o = plain old.object in rows_reply kind o itself (arguments_seen (seen_in kind o) a) op

  own_reply : (o : Object ℕ (RowOf kind)) (op : Operation) (a : replies.Arguments) →
      reply_of (of_rows kind o) None op a ≡ carried (of_rows kind) (rows_reply kind o itself (arguments_seen (seen_in kind o) a) op)
  own_reply o op a = ap (carried (of_rows kind)) (rows_alone kind o op (arguments_seen (seen_in kind o) a))

  pub own_called : (old new : Container (RowOf kind)) (w v : AnyObject) (op : Operation) (a : replies.Arguments) (result : Result Reply Fault) →
      memory_of w ≡ in_rows kind old → memory_of v ≡ in_rows kind new → (new ≡ old → v ≡ w) → AreValid old new →
      Replied (OwnReply old op a) old new result → Called (reply_of (held_of w) None op a) w v result
  own_called old new w v op a result is now same valid h =
      subst (λ r. Called r w v result) (sym (ap (λ m. reply_of (held_in m) None op a) is ∙ own_reply (plain old.object) op a))
      (called old new w v (OwnReply old op a) result now same valid.1 (is_listing (plain old.object) itself (arguments_seen (seen_in kind (plain old.object)) a) op) h)

  own_rows_last : (old new : Container (RowOf kind)) (op : Operation) (a : replies.Arguments) (result : Result Reply Fault) → AreValid old new →
      Replied (OwnReply old op a) old new result → RowsLast old new
  own_rows_last old new op a result valid h =
      let o = plain old.object in
      replied_lasts old new (OwnReply old op a) result valid.0 (rows_stay kind o itself (arguments_seen (seen_in kind o) a) op).target h

  pub own_lasts : (old new : Container (RowOf kind)) (w v : AnyObject) (op : Operation) (a : replies.Arguments) (result : Result Reply Fault) →
      memory_of w ≡ in_rows kind old → memory_of v ≡ in_rows kind new → AreValid old new → Replied (OwnReply old op a) old new result → Lasts w v
  own_lasts old new w v op a result is now valid h = lasts_in old new w v is now (own_rows_last old new op a result valid h)

  -- with another one

  abbrev pub PairReply : (old source : Container (RowOf kind)) → Operation → replies.Arguments → replies.Reply (Object ℕ (RowOf kind))
  PairReply old source op a =
      let o = plain old.object in let s = plain source.object in rows_reply kind o (another s (arguments_seen (seen_in kind s) a)) (arguments_seen (seen_in kind o) a) op

  apart : (o s : Object ℕ (RowOf kind)) (a : replies.Arguments) → (o.number ≡ s.number → ⊥) → source_in (seen_in kind) o (Some s) a ≡ another s (arguments_seen (seen_in kind s) a)
  apart o s a differ = if_false itself (another s (arguments_seen (seen_in kind s) a)) (o.number == s.number) (ne_eqb o.number s.number differ)

  pair_reply : (o s : Object ℕ (RowOf kind)) (op : Operation) (a : replies.Arguments) → (o.number ≡ s.number → ⊥) →
      reply_of (of_rows kind o) (Some (of_rows kind s)) op a ≡ carried (of_rows kind) (rows_reply kind o (another s (arguments_seen (seen_in kind s) a)) (arguments_seen (seen_in kind o) a) op)
  pair_reply o s op a differ =
      ap (λ x. carried (of_rows kind) (rows_reply kind o x (arguments_seen (seen_in kind o) a) op))
      (ap (λ x. source_in (seen_in kind) o x a) (rows_own kind s) ∙ apart o s a differ)

  pub pair_called : (old new source now : Container (RowOf kind)) (w v s t : AnyObject) (op : Operation) (a : replies.Arguments) (result : Result Reply Fault) →
      memory_of w ≡ in_rows kind old → memory_of v ≡ in_rows kind new → (new ≡ old → v ≡ w) → memory_of s ≡ in_rows kind source →
      memory_of t ≡ in_rows kind now → (now ≡ source → t ≡ s) → (number_of (held_of w) ≡ number_of (held_of s) → ⊥) → AreValid old new →
      RepliedWith (PairReply old source op a) old source new now result →
      CalledWith (reply_of (held_of w) (Some (held_of s)) op a) w s v t result
  pair_called old new source now w v s t op a result is new_is same source_is now_is same_source differ valid h =
      let o = plain old.object in
      let p = plain source.object in
      let numbers : o.number ≡ p.number → ⊥ =
      λ e. differ (ap (λ m. number_of (held_in m)) is ∙ (e ∙ ap (λ m. number_of (held_in m)) (sym source_is))) in
      let reply : reply_of (held_of w) (Some (held_of s)) op a ≡ carried (of_rows kind) (PairReply old source op a) =
      (λ i. reply_of (held_in (is i)) (Some (held_in (source_is i))) op a) ∙ pair_reply o p op a numbers in
      subst (λ r. CalledWith r w s v t result) (sym reply)
      (called_with old new source now w v s t (PairReply old source op a) result new_is same now_is same_source valid.1
      (is_listing o (another p (arguments_seen (seen_in kind p) a)) (arguments_seen (seen_in kind o) a) op) h)

  some_stays : (source now : Container (RowOf kind)) (reason : Option Reason) (found : Option (Object ℕ (RowOf kind))) → IsValid (plain source.object) →
      IfSome found (λ t. Stays (plain source.object) reason t) → SourceAfter source now found → RowsLast source now
  some_stays source now reason None valid stays h = same_lasts source now h
  some_stays source now reason (Some t) valid stays h = made_lasts source now t reason valid h stays

  pair_rows_last : (old new source now : Container (RowOf kind)) (op : Operation) (a : replies.Arguments) (result : Result Reply Fault) →
      AreValid old new → AreValid source now → RepliedWith (PairReply old source op a) old source new now result → RowsLast old new × RowsLast source now
  pair_rows_last old new source now op a (Ok made) valid source_valid h =
      let o = plain old.object in
      let s = plain source.object in
      let r = PairReply old source op a in
      let stays = rows_stay kind o (another s (arguments_seen (seen_in kind s) a)) (arguments_seen (seen_in kind o) a) op in (
        made_lasts old new r.after r.reason valid.0 h.after stays.target,
        some_stays source now r.reason r.source source_valid.0 stays.source_stays h.source_after,
      )
  pair_rows_last old new source now op a (Err (fault.Raised reason)) valid source_valid h = (same_lasts old new h.1, same_lasts source now h.2)
  pair_rows_last old new source now op a (Err fault.NoMemory) valid source_valid h = (same_lasts old new h.0, same_lasts source now h.1)

  pub pair_lasts : (old new source now : Container (RowOf kind)) (w v s t : AnyObject) (op : Operation) (a : replies.Arguments) (result : Result Reply Fault) →
      memory_of w ≡ in_rows kind old → memory_of v ≡ in_rows kind new → memory_of s ≡ in_rows kind source → memory_of t ≡ in_rows kind now →
      AreValid old new → AreValid source now → RepliedWith (PairReply old source op a) old source new now result → Lasts w v × Lasts s t
  pair_lasts old new source now w v s t op a result is new_is source_is now_is valid source_valid h =
      let l = pair_rows_last old new source now op a result valid source_valid h in
      (lasts_in old new w v is new_is l.0, lasts_in source now s t source_is now_is l.1)

  -- a source of another kind is none

  pub unlike_reply : (o : Object ℕ (RowOf kind)) (h : Held) (op : Operation) (a : replies.Arguments) → rows_in kind (Some h) ≡ None →
      reply_of (of_rows kind o) (Some h) op a ≡ reply_of (of_rows kind o) None op a
  unlike_reply o h op a none = ap (λ x. carried (of_rows kind) (rows_reply kind o (source_in (seen_in kind) o x a) (arguments_seen (seen_in kind o) a) op)) none

  with_none : (r q : replies.Reply Held) (w v s : AnyObject) (result : Result Reply Fault) → q ≡ r → Called r w v result → CalledWith q w s v s result
  with_none r q w v s (Ok made) e (inl h) =
      subst (λ x. CalledWith x w s v s (Ok made)) (sym e) (inl (h.0, subst (λ x. HeldAfter s s x) (sym h.1) refl))
  with_none r q w v s (Ok made) e (inr h) = subst (λ x. CalledWith x w s v s (Ok made)) (sym e) (inr (h, refl))
  with_none r q w v s (Err (fault.Raised reason)) e h = subst (λ x. CalledWith x w s v s (Err (fault.Raised reason))) (sym e) (h.0, h.1, refl)
  with_none r q w v s (Err fault.NoMemory) e h = (h, refl)

  pub unlike_alone : (old : Container (RowOf kind)) (w v s : AnyObject) (op : Operation) (a : replies.Arguments) (result : Result Reply Fault) →
      memory_of w ≡ in_rows kind old → rows_in kind (Some (held_of s)) ≡ None → Called (reply_of (held_of w) None op a) w v result →
      CalledWith (reply_of (held_of w) (Some (held_of s)) op a) w s v s result
  unlike_alone old w v s op a result is none h =
      let reply : reply_of (held_of w) (Some (held_of s)) op a ≡ reply_of (held_of w) None op a =
      ap (λ m. reply_of (held_in m) (Some (held_of s)) op a) is
      ∙ (unlike_reply (plain old.object) (held_of s) op a none ∙ ap (λ m. reply_of (held_in m) None op a) (sym is)) in
      with_none (reply_of (held_of w) None op a) _ w v s result reply h

  -- a kind is this one, or none of its objects is found as one of this
  pub like_or_none : (other : RowKind) (o : Object ℕ (RowOf kind)) (p : Object ℕ (RowOf other)) →
      ((rows_in kind (Some (of_rows other p)) ≡ None) × (other ≡ kind → ⊥)) ⊎ (other ≡ kind)
  like_or_none other o p = go (rows_in kind (Some (of_rows other p))) refl
    where
      kind_in : Option Held → RowKind
      kind_in None = kind
      kind_in (Some (of_rows k _)) = k
      kind_in (Some (of_holder _ _)) = kind
      kind_in (Some (of_queue _ _)) = kind

      own_found : (other : RowKind) (p : Object ℕ (RowOf other)) → other ≡ kind → rows_in kind (Some (of_rows other p)) ≡ None → ⊥
      own_found other p e none =
          let q : Object ℕ (RowOf kind) = coe 0 1 (i. Object ℕ (RowOf (e i))) p in
          let is : of_rows other p ≡ of_rows kind q = λ i. of_rows (e i) (coe 0 i (j. Object ℕ (RowOf (e j))) p) in
          none-some q (sym none ∙ (ap (λ h. rows_in kind (Some h)) is ∙ rows_own kind q))

      go : (x : Option (Object ℕ (RowOf kind))) → rows_in kind (Some (of_rows other p)) ≡ x →
          ((rows_in kind (Some (of_rows other p)) ≡ None) × (other ≡ kind → ⊥)) ⊎ (other ≡ kind)
      go None e = inl (e, λ same. own_found other p same e)
      go (Some q) e = inr (ap kind_in (rows_found kind (Some (of_rows other p)) q e))

  -- a source of the same type, of this kind or another
  module _ (other : RowKind) (q : Object ℕ (RowOf other)) (old new source now : Container (RowOf kind)) (w v s t : AnyObject) (op : Operation)
      (a : replies.Arguments) (result : Result Reply Fault) (is : memory_of w ≡ in_rows kind old) (new_is : memory_of v ≡ in_rows kind new)
      (held_is : held_of s ≡ of_rows other q) (source_is : other ≡ kind → memory_of s ≡ in_rows kind source)
      (now_is : other ≡ kind → memory_of t ≡ in_rows kind now) (valid : AreValid old new)
      (alike : other ≡ kind → RepliedWith (PairReply old source op a) old source new now result)
      (unlike : (other ≡ kind → ⊥) → Replied (OwnReply old op a) old new result × (t ≡ s)) where
    two_called : (new ≡ old → v ≡ w) → (now ≡ source → t ≡ s) → (number_of (held_of w) ≡ number_of (held_of s) → ⊥) →
        CalledWith (reply_of (held_of w) (Some (held_of s)) op a) w s v t result
    two_called same same_source differ = elim (like_or_none other (plain old.object) q) [
      | inl n ↦
          let u = unlike n.1 in
          subst (λ x. CalledWith (reply_of (held_of w) (Some (held_of s)) op a) w s v x result) (sym u.1)
          (unlike_alone old w v s op a result is (ap (λ h. rows_in kind (Some h)) held_is ∙ n.0) (own_called old new w v op a result is new_is same valid u.0))
      | inr e ↦ pair_called old new source now w v s t op a result is new_is same (source_is e) (now_is e) same_source differ valid (alike e)
    ]

    two_lasts : AreValid source now → Lasts w v × Lasts s t
    two_lasts source_valid = elim (like_or_none other (plain old.object) q) [
      | inl n ↦
          let u = unlike n.1 in
          (own_lasts old new w v op a result is new_is valid u.0, subst (λ x. Lasts s x) (sym u.1) (record { cursors = λ c agrees. agrees; counts = refl }))
      | inr e ↦ pair_lasts old new source now w v s t op a result is new_is (source_is e) (now_is e) valid source_valid (alike e)
    ]

    pub two : (new ≡ old → v ≡ w) → (now ≡ source → t ≡ s) → (number_of (held_of w) ≡ number_of (held_of s) → ⊥) → AreValid source now →
        CalledWith (reply_of (held_of w) (Some (held_of s)) op a) w s v t result × Lasts w v × Lasts s t
    two same same_source differ source_valid =
        let last = two_lasts source_valid in (two_called same same_source differ, last.0, last.1)

  -- a write

  wrote : (old new : Container (RowOf kind)) (m : Mark) (x : Value) (result : Result Done Fault) → AreValid old new →
      WritesIn (λ o. (own_calls kind o).write m x) old new result → RowsLast old new
  wrote old new m x (Ok done) valid h =
      made_lasts old new ((own_calls kind (plain old.object)).write m x).after None valid.0 h.1 (own_write_stays kind (plain old.object) m x)
  wrote old new m x (Err (fault.Raised reason)) valid h = same_lasts old new h.1
  wrote old new m x (Err fault.NoMemory) valid h = same_lasts old new h

  pub wrote_lasts : (old new : Container (RowOf kind)) (w v : AnyObject) (m : Mark) (x : Value) (result : Result Done Fault) →
      memory_of w ≡ in_rows kind old → memory_of v ≡ in_rows kind new → AreValid old new → WritesIn (λ o. (own_calls kind o).write m x) old new result → Lasts w v
  wrote_lasts old new w v m x result is new_is valid h = lasts_in old new w v is new_is (wrote old new m x result valid h)

  pub wrote_to : (old new : Container (RowOf kind)) (w v : AnyObject) (at : Cursor) (x : Value) (result : Result Done Fault) →
      memory_of w ≡ in_rows kind old → memory_of v ≡ in_rows kind new → (new ≡ old → v ≡ w) → ObjectAgrees w at →
      WritesIn (λ o. (own_calls kind o).write (mark_in kind old.object at) x) old new result → WritesTo (write (held_of w) (plain_mark at) x) w v result
  wrote_to old new w v at x result is new_is same agrees h = to result h
    where
      e : write (held_of w) (plain_mark at) x ≡ written (of_rows kind) ((own_calls kind (plain old.object)).write (mark_in kind old.object at) x)
      e =
          ap (λ m. write (held_in m) (plain_mark at) x) is
          ∙ ap (λ c. written (of_rows kind) ((own_calls kind (plain old.object)).write c x))
          (sym (seen_marks_by (have_root kind) old.object at (subst (λ m. AgreesIn m at) is agrees)))

      to : (result : Result Done Fault) → WritesIn (λ o. (own_calls kind o).write (mark_in kind old.object at) x) old new result →
          WritesTo (write (held_of w) (plain_mark at) x) w v result
      to (Ok done) h = (
        ap (λ (r : Written). r.reason) e ∙ h.0,
        held_after new v _ new_is h.1.plainly ∙ sym (ap (λ (r : Written). r.after) e),
      )
      to (Err (fault.Raised reason)) h = (ap (λ (r : Written). r.reason) e ∙ h.0, same h.1)
      to (Err fault.NoMemory) h = same h
