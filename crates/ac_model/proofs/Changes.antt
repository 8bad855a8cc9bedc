-- What calls mean together: a call whose answer is let go or told by a variable, copies that are put, and a container that is made.
use Rattle.ac_base.proofs.Powers.{pow8-rises}
use Rattle.ac_base.specs.FirstReason.{first_reason}
use Rattle.ac_base.specs.Growth.{pow8}
use Rattle.ac_base.specs.Limits.{is_past, numbers_end}
use Rattle.ac_base.specs.Rows.{Row}
use Rattle.ac_base.specs.declared.cursor.Cursor.{Cursor}
use Rattle.ac_base.specs.declared.fault.Fault.{Fault}
use Rattle.ac_base.specs.declared.limit.Limit.{Limit}
use Rattle.ac_base.specs.declared.limit.Limit.TheVariants.{Bounded, Unbounded}
use Rattle.ac_base.specs.declared.limit.TheConstants.{GREATEST_LENGTH}
use Rattle.ac_base.specs.declared.name.Name.{Name}
use Rattle.ac_base.specs.declared.reason.Reason.{Reason}
use Rattle.ac_base.specs.declared.reason.Reason.TheVariants.{CapacityFull, LengthRange, NamesSpent}
use Rattle.ac_model.specs.Putting.{Takes, done, put_call}
use Rattle.ac_model.proofs.Lengths.{length-fresh}
use Rattle.ac_model.proofs.Reasons.{after_two, none_first, none_others, room_none}
use Rattle.ac_model.specs.Calls.{Call, Changing, Done, IsAfter, Marks, Same, call}
use Rattle.ac_model.specs.Common.{assign_call, copy_call, limit_of_copy}
use Rattle.ac_model.specs.Containers.{Container, Grows, first_spare, slots_of}
use Rattle.ac_model.specs.Cursors.{spot}
use Rattle.ac_model.specs.Forms.{Makes}
use Rattle.ac_model.specs.Letters.{count_of, in_range, no_mark, reason_if, room, tampers_cursors}
use Rattle.ac_model.specs.Objects.{Object, capacity_after, contents, empty_object, length_of, plain, plain_row}
use Rattle.ac_model.specs.Sequences.{copies_take_memory, first_new, room_for_copies, with_copies}
use Rattle.std.proofs.Common.{Err, None, Ok, Option, Result, Some, ap, arith, false, inl, inr, length, lt-ltb, map, refl, subst, suc, sym, true, zero, ℕ, ◌&&◌, ◌+◌, ◌∙◌, ◌∷◌, ◌≡◌, ◌≤◌, []}
use Rattle.std.proofs.Math.Nat.{le-max_left, max-le}
use Rattle.std.proofs.lemmas.Bool.{cases_lt, le-ltb}
use Rattle.std.proofs.lemmas.List.{length-map}
use Rattle.std.specs.Prelude.{max, nat_lt}
use Rattle.ac_base.specs.declared.fault.Fault.TheVariants as fault

pub accepted : {V X A : Type 0} (Answers : X → A → Type 0) (memory : _) (reason : Option Reason) (after : Object ℕ V) (answer : A) (old new : Object Name V) (r : Result X Fault) → reason ≡ None
    → Changing Answers (call memory None after answer) old new r → Changing Answers (call memory reason after answer) old new r
accepted Answers memory reason after answer old new (Ok x) e h = (e, h.1, h.2)
accepted Answers memory reason after answer old new (Err (fault.Raised q)) e h = absurd (let k : None ≡ Some q = h.0 in cc)
accepted Answers memory reason after answer old new (Err fault.NoMemory) e h = (h.0, e, h.2)

-- of a call that answers by a variable, without the variable
pub unanswered : {V A : Type 0} (Answers : Done → A → Type 0) (c : Call (Object ℕ V) A) (old new : Object Name V) (r : Result Done Fault) → Changing Answers c old new r → Changing Same (call c.memory c.reason c.after tt) old new r
unanswered Answers c old new (Ok x) h = (h.0, h.1, refl)
unanswered Answers c old new (Err (fault.Raised q)) h = h
unanswered Answers c old new (Err fault.NoMemory) h = h

pub no_capacity : (l : Limit) (n : ℕ) → capacity_after l None n ≡ None
no_capacity Unbounded n = refl
no_capacity (Bounded most) n = refl

module _ {X : Type 0} where
  pub place_none : (o : Object Name X) (place : Option Reason) (n : _) → first_reason (tampers_cursors (plain o) ∷ place ∷ room_for_copies (plain o) n) ≡ None → place ≡ None
  place_none o place n h = none_first place (room_for_copies (plain o) n) (none_others (tampers_cursors (plain o)) (place ∷ room_for_copies (plain o) n) h)

-- a capacity that isn't too small
pub fits : (l : Limit) (capacity len : ℕ) → reason_if (nat_lt 0 capacity && nat_lt capacity len) CapacityFull ≡ None → is_past (limit_of_copy l capacity len) len ≡ false
fits Unbounded capacity len h = refl
fits (Bounded most) zero len h = le-ltb len len (omega arith)
fits (Bounded most) (suc capacity) len h = elim (cases_lt (suc capacity) len) [
  | inl less ↦
      let some : nat_lt 0 (suc capacity) ≡ true = lt-ltb 0 (suc capacity) (omega arith) in
      let small : nat_lt (suc capacity) len ≡ true = lt-ltb (suc capacity) len less in
      let both : reason_if (nat_lt 0 (suc capacity) && nat_lt (suc capacity) len) CapacityFull ≡ Some CapacityFull = λ i. reason_if (some i && small i) CapacityFull in
      absurd (let k : Some CapacityFull ≡ None = sym both ∙ h in cc)
  | inr le ↦ le-ltb (suc capacity) len le
]

module _ {X : Type 0} where
  -- an empty list takes the elements of any other, where it may hold so many
  pub empty_takes : (o : Object Name X) (number : ℕ) (m : Limit) → length_of (plain o) ≤ GREATEST_LENGTH → is_past m (length_of (plain o)) ≡ false → (assign_call (plain (empty_object {N = Name} {V = X} false number m)) (plain o)).reason ≡ None
  empty_takes o number m few within =
      let len = length_of (plain o) in
      let short : nat_lt GREATEST_LENGTH len ≡ false = le-ltb GREATEST_LENGTH len few in
      let left : nat_lt numbers_end (1 + len) ≡ false = le-ltb numbers_end (1 + len) (omega arith) in
      λ i. first_reason (None ∷ reason_if (short i) LengthRange ∷ reason_if (within i) CapacityFull ∷ reason_if (left i) NamesSpent ∷ [])

-- the answer is let go
pub done_changes : {V X A : Type 0} (Answers : X → A → Type 0) (memory : _) (reason : Option Reason) (after : Object ℕ V) (answer : A) (old new : Object Name V) (r : Result X Fault)
    → Changing Answers (call memory reason after answer) old new r → Changing Same (call memory reason after tt) old new (done r)
done_changes Answers memory reason after answer old new (Ok x) h = (h.0, h.1, refl)
done_changes Answers memory reason after answer old new (Err (fault.Raised q)) h = h
done_changes Answers memory reason after answer old new (Err fault.NoMemory) h = h

pub done_grows : {V A : Type 0} (r : Result A Fault) (old new : Container V) → Grows r old new → Grows (done r) old new
done_grows (Ok x) old new h = h
done_grows (Err e) old new h = h

pub done_slots : {V A : Type 0} (r : Result A Fault) (d : Result Done Fault) (old new : Container V) → d ≡ done r → Grows r old new → Grows d old new
done_slots r d old new e h = subst (λ q. Grows q old new) (sym e) (done_grows r old new h)

module _ {X : Type 0} where
  pub takes_from : (o : Object Name X) (place : Option Reason) (n : _) → None ≡ first_reason (tampers_cursors (plain o) ∷ place ∷ room_for_copies (plain o) n) → Takes o (count_of n)
  takes_from o place n h =
      let rest = after_two (tampers_cursors (plain o)) place (room_for_copies (plain o) n) (sym h) in
      let has = room_none (plain o) (length_of (plain o) + count_of n) (count_of n) (none_others (in_range n) (room (plain o) (length_of (plain o) + count_of n) (count_of n)) rest) in
      subst (λ m. (m + count_of n ≤ GREATEST_LENGTH) → (is_past o.limit (m + count_of n) ≡ false) → Takes o (count_of n)) (sym (length-map o.rows plain_row)) (λ few within. record { few = few; within = within; unspent = has.within_names }) has.within_greatest has.within_limit

  pub copies_changed : (o new : Object Name X) (place : Option Name) (at m : ℕ) (n : _) (e : X) (r : Result Cursor Fault) (reason : Option Reason) → spot o place ≡ at → m ≡ count_of n → reason ≡ None
      → Changing (Marks new) (put_call o place e m) o new r → Changing (Marks new) (call (copies_take_memory (plain o) n) reason (with_copies (plain o) at e n) (first_new (plain o) no_mark (count_of n))) o new r
  copies_changed o new place at m n e r reason spot_at count none h =
      accepted (Marks new) (copies_take_memory (plain o) n) reason (with_copies (plain o) at e n) (first_new (plain o) no_mark (count_of n)) o new r none
      (subst (λ a. Changing (Marks new) (call (copies_take_memory (plain o) n) None (with_copies (plain o) a e n) (first_new (plain o) no_mark (count_of n))) o new r) spot_at
      (subst (λ q. Changing (Marks new) (put_call o place e q) o new r) count h))

  pub copies_done : (o new : Object Name X) (place : Option Name) (at m : ℕ) (n : _) (e : X) (r : Result Cursor Fault) (d : Result Done Fault) (reason : Option Reason) → spot o place ≡ at → m ≡ count_of n → reason ≡ None
      → Changing (Marks new) (put_call o place e m) o new r → d ≡ done r → Changing Same (call (copies_take_memory (plain o) n) reason (with_copies (plain o) at e n) tt) o new d
  copies_done o new place at m n e r d reason spot_at count none h is =
      subst (λ q. Changing Same (call (copies_take_memory (plain o) n) reason (with_copies (plain o) at e n) tt) o new q) (sym is)
      (done_changes (Marks new) (copies_take_memory (plain o) n) reason (with_copies (plain o) at e n) (first_new (plain o) no_mark (count_of n)) o new r
      (copies_changed o new place at m n e r reason spot_at count none h))

  pub copy_wants : (o : Object Name X) (made new : Object Name X) (number capacity len : ℕ) (m : Limit) (r : Result Done Fault) (q : Fault) (t : Result (Container X) Fault) → length_of (plain o) ≤ GREATEST_LENGTH → len ≡ length_of (plain o)
      → reason_if (nat_lt 0 capacity && nat_lt capacity len) CapacityFull ≡ None → m ≡ limit_of_copy o.limit capacity len → made ≡ empty_object false number m
      → Changing Same (assign_call (plain made) (plain o)) made new r → r ≡ Err q → t ≡ Err q → Makes (copy_call (plain o) number capacity) t
  copy_wants o made new number capacity len m r q t few count enough limit empty h is back =
      subst (λ u. Makes (copy_call (plain o) number capacity) u) (sym back) (by q (subst (λ u. Changing Same (assign_call (plain made) (plain o)) made new u) is h))
    where
      large : reason_if (nat_lt 0 capacity && nat_lt capacity (length_of (plain o))) CapacityFull ≡ None
      large = ap (λ n. reason_if (nat_lt 0 capacity && nat_lt capacity n) CapacityFull) (sym count) ∙ enough

      none : (assign_call (plain made) (plain o)).reason ≡ None
      none =
          ap (λ (p : Object Name X). (assign_call (plain p) (plain o)).reason) empty
          ∙ empty_takes o number m few (ap (λ l. is_past l (length_of (plain o))) (limit ∙ ap (limit_of_copy o.limit capacity) count) ∙ fits o.limit capacity (length_of (plain o)) large)

      by : (q : Fault) → Changing Same (assign_call (plain made) (plain o)) made new (Err q) → Makes (copy_call (plain o) number capacity) (Err q)
      by (fault.Raised x) h = absurd (let k : None ≡ Some x = sym none ∙ h.0 in cc)
      by fault.NoMemory h = (refl, ap (λ a. first_reason (a ∷ [])) large)

  pub copy_slots : (o : Object Name X) (made new : Container X) (number capacity len : ℕ) (m : Limit) → o.limit ≡ Unbounded → m ≡ limit_of_copy o.limit capacity len → made.object ≡ empty_object false number m → made.spare ≡ first_spare m
      → IsAfter made.object new.object (assign_call (plain made.object) (plain o)).after → slots_of new ≤ max (slots_of made) (pow8 (length_of new.object)) → slots_of new ≤ pow8 (max (length_of o) capacity)
  copy_slots o made new number capacity len m unbounded limit empty spare after few =
      let none : made.spare ≡ 0 = spare ∙ ap first_spare (limit ∙ ap (λ l. limit_of_copy l capacity len) unbounded) in
      let no_rows : length_of made.object ≡ 0 = ap (λ (p : Object Name X). length p.rows) empty in
      let count : length_of new.object ≡ length_of o = sym (length-map new.object.rows plain_row) ∙ ap (λ (p : Object ℕ X). length p.rows) after.plainly
      ∙ length-fresh made.object.next (contents (plain o)) ∙ length-map (map plain_row o.rows) (λ (r : Row ℕ X). r.value) ∙ length-map o.rows plain_row in
      let rises = pow8-rises (length_of o) (max (length_of o) capacity) (le-max_left (length_of o) capacity) in
      let slots : slots_of made ≡ 0 = omega arith in
      let bound = subst (λ n. slots_of new ≤ max (slots_of made) (pow8 n)) count few in
      let most : max (slots_of made) (pow8 (length_of o)) ≤ pow8 (length_of o) = max-le (omega arith) (omega arith) in
      omega arith
