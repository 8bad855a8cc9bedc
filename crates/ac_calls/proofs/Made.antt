-- What a call of the library comes to, as what a script's call comes to.
use Rattle.std.proofs.Common.{◌≡◌, ◌<◌, ◌||◌, ℕ, zero, suc, Bool, true, false, List, [], ◌∷◌, refl, sym, ap, subst, arith, eq-eqb, None}
use Rattle.std.specs.Prelude.{All, IsTrue, Result, Ok, Err}
use Rattle.ac_base.specs.declared.fault.Fault.{Fault}
use Rattle.ac_base.specs.declared.fault.Fault.TheVariants as fault
use Rattle.ac_base.specs.declared.name.Name.{Name}
use Rattle.ac_base.specs.declared.cursor.Cursor.{Cursor}
use Rattle.ac_base.specs.declared.cursor.Cursor.TheVariants.{NoElement, At}
use Rattle.ac_base.specs.Rows.{names}
use Rattle.ac_model.specs.Objects.{Object, plain}
use Rattle.ac_model.specs.Letters.{Mark, is_among, is_same_name}
use Rattle.ac_model.specs.Calls.{Call, Changing, IsAfter, Marks}
use Rattle.ac_calls.specs.Replies as replies
use Rattle.ac_calls.specs.declared.argument.Argument.{Argument}
use Rattle.ac_calls.specs.declared.argument.Arguments.{Arguments}
use Rattle.ac_calls.specs.declared.argument.Argument.TheVariants.{Absent, Place, Value}
use Rattle.ac_calls.specs.Holdings.{seen_by_root}
use Rattle.ac_calls.specs.Arguments.{AllAgree, SlotAgrees, argument_of, arguments_of, argument_marked, arguments_marked, mark_by_root, cursor_in, marked}
use Rattle.ac_calls.specs.Replied.{IsAnswer}
use Rattle.ac_calls.proofs.Own.{IsOwnMark, own_cursor}
use Rattle.ac_model.proofs.Unslotted.{seen_marks, seen_tree_marks}
use Rattle.ac_model.specs.Cursors.{Agrees, plain_mark}

or_left : (a b : Bool) → a ≡ true → (a || b) ≡ true
or_left true b h = refl
or_left false b h = absurd (cc h)

or_right : (a b : Bool) → b ≡ true → (a || b) ≡ true
or_right true b h = refl
or_right false b h = h

same_itself : (a : Name) → is_same_name a a ≡ true
same_itself a = rw (eq-eqb a.slot a.slot refl, eq-eqb a.serial a.serial refl) refl

all_among : (P : Name → Type 0) (live : List Name) → ((a : Name) → is_among live a ≡ true → P a) → All P live
all_among P [] h i d lt = absurd (omega arith)
all_among P (n ∷ live) h zero d lt = h n (or_left (is_same_name n n) (is_among live n) (same_itself n))
all_among P (n ∷ live) h (suc i) d lt = all_among P live (λ a t. h a (or_right (is_same_name a n) (is_among live a) t)) i d (omega arith)

module _ {V : Type 0} where
  -- a call that only looks leaves the object
  pub unchanged : (o : Object Name V) → IsAfter o o (plain o)
  unchanged o = record { plainly = refl; slots = all_among (λ name. name.serial < o.next → IsTrue (is_among (names o.rows) name)) (names o.rows) (λ a t _. t) }

  -- a cursor variable that a call sets
  pub own_change : (old new : Object Name V) (c : Call (Object ℕ V) Mark) (q : Cursor) → (c.reason ≡ None → IsOwnMark c.after.number c.answer)
      → (c.reason ≡ None) × IsAfter old new c.after × Marks new q c.answer → Changing (λ x m. IsAnswer new x m) c old new (Ok q)
  own_change old new c q own h =
      let number : c.after.number ≡ new.number = ap (λ (p : Object ℕ V). p.number) (sym h.1.plainly) in
      (h.0, h.1, own_cursor new q c.answer (subst (λ n. IsOwnMark n c.answer) number (own h.0)) h.2)

  -- a cursor whose slot agrees, as an object with a root sees it and as one without
  pub slot_agrees : (o : Object Name V) (c : Cursor) → SlotAgrees o c → Agrees o c
  slot_agrees o NoElement agrees = tt
  slot_agrees o (At object name) agrees = λ own. (agrees own).1

  pub seen_marks_by : (rooted : Bool) (o : Object Name V) (c : Cursor) → SlotAgrees o c →
      mark_by_root rooted o c ≡ seen_by_root rooted (plain o) (plain_mark c)
  seen_marks_by false o c agrees = seen_marks o c (slot_agrees o c agrees)
  seen_marks_by true o c agrees = seen_tree_marks o c agrees

  seen_argument : (rooted : Bool) (o : Object Name V) (a : Argument) → SlotAgrees o (cursor_in a) →
      replies.argument_seen (seen_by_root rooted (plain o)) (argument_of a) ≡ argument_marked (mark_by_root rooted o) a
  seen_argument rooted o Absent agrees =
      λ i. record (argument_of Absent) { cursor = sym (seen_marks_by rooted o NoElement agrees) i }
  seen_argument rooted o (Place c) agrees =
      λ i. record (argument_of (Place c)) { cursor = sym (seen_marks_by rooted o c agrees) i }
  seen_argument rooted o (Value v) agrees =
      λ i. record (argument_of (Value v)) { cursor = sym (seen_marks_by rooted o NoElement agrees) i }

  pub seen_arguments_by : (rooted : Bool) (o : Object Name V) (args : Arguments) → AllAgree o args →
      replies.arguments_seen (seen_by_root rooted (plain o)) (arguments_of args) ≡ arguments_marked (mark_by_root rooted o) args
  seen_arguments_by rooted o args agree =
      let first = seen_argument rooted o args.first agree.first in
      let second = seen_argument rooted o args.second agree.second in
      let third = seen_argument rooted o args.third agree.third in
      let fourth = seen_argument rooted o args.fourth agree.fourth in
      λ i. record { first = first i; second = second i; third = third i; fourth = fourth i; fifth = args.fifth }

  pub seen_arguments : (o : Object Name V) (args : Arguments) → AllAgree o args → replies.seen_by (plain o) (arguments_of args) ≡ marked o args
  seen_arguments o args agree = seen_arguments_by false o args agree
