-- A vector's Capacity that is asked for, and its length.
use Rattle.std.proofs.Common.{◌≡◌, ℕ, ◌+◌, ◌-◌, ◌<◌, ◌≤◌, ℤ, true, false, [], ◌∷◌, ◌++◌, length, take, drop, replicate, Option, Some, None, Result, Ok, Err, IsTrue, refl, sym, ap, ◌∙◌, subst, inl, inr, arith, append-nil, le-leb, lt-ltb}
use Rattle.std.specs.Prelude.{All, IsOk, OnOk, OnErr, max, nat_le}
use Rattle.std.proofs.Math.ListN.{drop_of_length-le}
use Rattle.std.proofs.Math.Nat.{le-max_left}
use Rattle.std.proofs.lemmas.Bool.{cases_lt, lt-leb}
use Rattle.std.proofs.lemmas.Bool.Decides.{nat_tests}
use Rattle.ac_base.specs.declared.cursor.Cursor.{Cursor}
use Rattle.ac_base.specs.declared.guard.Class.TheVariants as class
use Rattle.ac_base.specs.declared.reason.Reason.{Reason}
use Rattle.ac_base.specs.FirstReason.{first_reason, earlier}
use Rattle.ac_base.specs.Tampering.{forbids}
use Rattle.ac_base.proofs.Earlier.{with_none_later}
use Rattle.ac_model.proofs.Plains.{length-plains}
use Rattle.ac_model.proofs.Reasons.{after_two, room_none}
use Rattle.std.proofs.lemmas.List.{length-map}
use Rattle.ac_base.specs.declared.fault.Fault.{Fault}
use Rattle.ac_base.specs.declared.fault.Fault.TheVariants as fault
use Rattle.ac_base.specs.declared.fault.NoMemory.{NoMemory}
use Rattle.ac_base.specs.declared.limit.Limit.{Limit}
use Rattle.ac_base.specs.declared.limit.Limit.TheVariants.{Unbounded, Bounded}
use Rattle.ac_base.specs.declared.limit.TheConstants.{GREATEST_LENGTH}
use Rattle.ac_base.specs.declared.name.Name.{Name}
use Rattle.ac_base.specs.Growth.{pow8}
use Rattle.ac_base.specs.Guards.{GuardCounts}
use Rattle.ac_base.specs.Limits.{is_past, numbers_end}
use Rattle.ac_base.specs.Rows.{names}
use Rattle.ac_chain.specs.Rows.{Chained, IsSound, reserved, slots_in}
use Rattle.ac_chain.specs.Sequence.{object_of, IsSequence}
use Rattle.ac_chain.proofs.Grows.{all_from}
use Rattle.ac_chain.proofs.Marks.{has_among}
use Rattle.ac_chain.proofs.Puts.{reserved_enough, reserved_kept, reserved_slots}
use Rattle.ac_model.specs.Calls.{Changing, Done, IsAfter, Marks, Same}
use Rattle.ac_model.specs.Common.{asks_for_memory, reserve_capacity_call}
use Rattle.ac_model.specs.Containers.{Container}
use Rattle.ac_model.specs.Forms.{as_fault}
use Rattle.ac_model.specs.Letters.{count_of, in_range, is_among, room, room_in, tampers_cursors}
use Rattle.ac_model.specs.Objects.{Object, grown_unless, plain, plain_row, plains, with_rows}
use Rattle.ac_model.specs.Putting.{Takes, done, put_call}
use Rattle.ac_model.specs.Rows.{cut, fresh, put}
use Rattle.ac_model.specs.Sequences.{with_new}
use Rattle.ac_model.specs.Vectors.{set_length_call}
use Rattle.ac_model.specs.Capacities.{widened}
use Rattle.ac_vector.specs.Parts.{blanks_call}
use Rattle.ac_vector.proofs.Capacities.{widens}

module _ {X : Type 0} where
  pub reserve_sequence : (r : Result Done NoMemory) (l : Limit) (k now : Chained X) (need n : ℕ) → n ≡ need - length k.rows → IsSequence l k → is_past l need ≡ false → OnOk r (now ≡ reserved k n) → OnErr r (now ≡ k) → IsSound now → IsSequence l now
  reserve_sequence (Err e) l k now need n count s within ok err sound = subst (λ (d : Chained X). IsSequence l d) (sym err) s
  reserve_sequence (Ok x) Unbounded k now need n count s within ok err sound =
      let rows = ap length (reserved_enough k now n ok).rows in let most = s.within_greatest in
      record { sound = sound; within_greatest = omega arith; is_limit = tt; has_slots = tt }
  reserve_sequence (Ok x) (Bounded most) k now need n count s within ok err sound =
      let sum = s.has_slots in
      let le : need ≤ most = grind (arith, nat_tests) in
      subst (λ (d : Chained X). IsSequence (Bounded most) d) (sym (ok ∙ reserved_kept k n (omega arith))) s

  widened_after : (g : GuardCounts) (l : Limit) (k now : Chained X) (need n : ℕ) → n ≡ need - length k.rows → IsSequence l k → is_past l need ≡ false → now ≡ reserved k n
      → IsAfter (object_of g l (Some (slots_in k)) k) (object_of g l (Some (slots_in now)) now) (widened (plain (object_of g l (Some (slots_in k)) k)) need)
  widened_after g l k now need n count s within is =
      let e = reserved_enough k now n is in
      let slots : Some (slots_in now) ≡ _ = ap (λ (d : Chained X). Some (slots_in d)) is ∙ ap (λ m. Some (slots_in (reserved k m))) count ∙ sym (widens l k need s within) in
      record {
        plainly = λ i. record { number = g.number; limit = l; capacity = slots i; next = e.next i; rows = plains (e.rows i); cursor_guards = g.cursor_guards; element_guards = g.element_guards };
        slots = subst (λ rows. All (λ (name : Name). name.serial < k.next_serial → IsTrue (is_among (names k.rows) name)) (names rows)) (sym e.rows) (all_from (λ name. name.serial < k.next_serial → IsTrue (is_among (names k.rows) name)) k.rows (λ a t lt. has_among a k.rows t));
      }

  pub widen_after : (r : Result Done NoMemory) (g : GuardCounts) (l : Limit) (k now : Chained X) (o : Object Name X) → object_of g l (Some (slots_in k)) k ≡ o → (need n : ℕ) → n ≡ need - length k.rows → IsSequence l k → is_past l need ≡ false → OnOk r (now ≡ reserved k n)
      → OnOk r (IsAfter o (object_of g l (Some (slots_in now)) now) (widened (plain o) need))
  widen_after (Err e) g l k now o view need n count s within ok = tt
  widen_after (Ok x) g l k now o view need n count s within ok =
      subst (λ (p : Object Name X). IsAfter p (object_of g l (Some (slots_in now)) now) (widened (plain p) need)) view (widened_after g l k now need n count s within ok)

  pub widen_slots : (r : Result Done NoMemory) (k now : Chained X) (need n : ℕ) → n ≡ need - length k.rows → OnOk r (now ≡ reserved k n) → OnErr r (now ≡ k) → slots_in now ≤ max (slots_in k) (pow8 need)
  widen_slots (Err e) k now need n count ok err = subst (λ m. m ≤ max (slots_in k) (pow8 need)) (ap slots_in (sym err)) (le-max_left (slots_in k) (pow8 need))
  widen_slots (Ok x) k now need n count ok err = elim (cases_lt (length k.rows) need) [
    | inl more ↦ let sum : length k.rows + n ≡ need = omega arith in subst (λ m. slots_in now ≤ max (slots_in k) (pow8 m)) sum (reserved_slots k now n ok)
    | inr fewer ↦ subst (λ m. m ≤ max (slots_in k) (pow8 need)) (ap slots_in (sym (ok ∙ reserved_kept k n (omega arith)))) (le-max_left (slots_in k) (pow8 need))
  ]

  pub widen_wants : (r : Result Done NoMemory) (g : GuardCounts) (l : Limit) (k : Chained X) (o : Object Name X) → object_of g l (Some (slots_in k)) k ≡ o → (need n : ℕ) → n ≡ need - length k.rows → IsSequence l k → is_past l need ≡ false
      → (n ≤ k.spare → IsOk r) → OnErr r (IsTrue (asks_for_memory o.limit o.capacity need))
  widen_wants (Ok x) g l k o view need n count s within room = tt
  widen_wants (Err e) g l k o view need n count s within room = subst (λ (p : Object Name X). IsTrue (asks_for_memory p.limit p.capacity need)) view (asked l s within)
    where
      more : slots_in k < need
      more = elim (cases_lt (slots_in k) need) [ inl lt ↦ lt | inr le ↦ absurd (let t : false ≡ true = room (omega arith) in cc) ]

      asked : (l : Limit) → IsSequence l k → is_past l need ≡ false → IsTrue (asks_for_memory l (Some (slots_in k)) need)
      asked Unbounded s within = lt-ltb (slots_in k) need more
      asked (Bounded most) s within = absurd (let sum = s.has_slots in let lt = more in let le : need ≤ most = grind (arith, nat_tests) in omega arith)

  -- Reserve_Capacity
  pub reserve_changes : (r : Result Done NoMemory) (o new : Object Name X) (n : ℤ) → (reserve_capacity_call (plain o) n).reason ≡ None → OnOk r (IsAfter o new (widened (plain o) (count_of n))) → OnErr r (new ≡ o)
      → OnErr r (IsTrue (asks_for_memory o.limit o.capacity (count_of n))) → Changing Same (reserve_capacity_call (plain o) n) o new (as_fault r)
  reserve_changes (Ok x) o new n none ok err wants = (none, ok, refl)
  reserve_changes (Err e) o new n none ok err wants = (wants, none, err)

  pub same_object : (r : Result Done NoMemory) (old new : Container X) → OnErr r (new ≡ old) → OnErr r (new.object ≡ old.object)
  same_object (Ok x) old new err = tt
  same_object (Err e) old new err = ap (λ (x : Container X). x.object) err

  pub fault_same : (r : Result Done NoMemory) (old new : Container X) → OnErr r (new ≡ old) → OnErr (as_fault r) (new ≡ old)
  fault_same (Ok x) old new err = tt
  fault_same (Err e) old new err = err

  -- Set_Length
  pub set_shorter : (o : Object ℕ X) (blank : X) (n : ℤ) → count_of n ≤ length o.rows → with_rows o (cut o.rows (count_of n) (length o.rows - count_of n)) ≡ (set_length_call o blank n).after
  set_shorter o blank n le =
      let m = count_of n in
      let more = m - length o.rows in
      let test : nat_le m (length o.rows) ≡ true = le-leb m (length o.rows) le in
      let none : drop (m + (length o.rows - m)) o.rows ≡ [] = drop_of_length-le o.rows (omega arith) in
      ap (with_rows o) (ap (λ zs. take m o.rows ++ zs) none ∙ append-nil (take m o.rows))
      ∙ ap (λ b. grown_unless b o (take m o.rows) (put o.rows (length o.rows) (fresh o.next (replicate more blank))) more) (sym test)

  pub set_longer : (o : Object ℕ X) (blank : X) (n : ℤ) → length o.rows < count_of n
      → with_new o (length o.rows) (replicate (count_of n - length o.rows) blank) (count_of n - length o.rows) ≡ (set_length_call o blank n).after
  set_longer o blank n lt =
      let m = count_of n in
      let more = m - length o.rows in
      let test : nat_le m (length o.rows) ≡ false = lt-leb m (length o.rows) lt in
      ap (λ b. grown_unless b o (take m o.rows) (put o.rows (length o.rows) (fresh o.next (replicate more blank))) more) (sym test)

  blanks_put : (o new : Object Name X) (blank : X) (more : ℕ) (r : Result Cursor Fault) → Changing (Marks new) (put_call o None blank more) o new r → Changing Same (blanks_call (plain o) blank more) o new (done r)
  blanks_put o new blank more (Ok c) h = (refl, h.1, refl)
  blanks_put o new blank more (Err (fault.Raised q)) h = h
  blanks_put o new blank more (Err fault.NoMemory) h = (refl, h.1, h.2)

  pub blanks_done : (o new : Object Name X) (blank empty : X) (more : ℕ) (r : Result Cursor Fault) (d : Result Done Fault) → blank ≡ empty → Changing (Marks new) (put_call o None blank more) o new r → d ≡ done r → Changing Same (blanks_call (plain o) empty more) o new d
  blanks_done o new blank empty more r d same h is =
      subst (λ q. Changing Same (blanks_call (plain o) empty more) o new q) (sym is) (subst (λ v. Changing Same (blanks_call (plain o) v more) o new (done r)) same (blanks_put o new blank more r h))

  -- the reasons that were looked for are the definition's
  pub length_refused : (g : GuardCounts) (l : Limit) (capacity : Option ℕ) (k : Chained X) (o : Object Name X) → object_of g l capacity k ≡ o → (blank : X) (n : ℤ) (count more len next : ℕ) (result t a r : Option Reason)
      → count ≡ count_of n → more ≡ count - len → len ≡ length k.rows → next ≡ k.next_serial → t ≡ forbids class.Cursors g.cursor_guards g.element_guards → a ≡ in_range n → r ≡ first_reason (room_in l next count more)
      → result ≡ first_reason (t ∷ a ∷ r ∷ []) → result ≡ (set_length_call (plain o) blank n).reason
  length_refused g l capacity k o view blank n count more len next result t a r ec em el en et ea er e =
      let left : more ≡ count_of n - length (plains k.rows) = em ∙ (λ i. ec i - (el ∙ sym (length-plains k.rows)) i) in
      e ∙ (λ i. earlier (et i) (earlier (ea i) ((with_none_later r ∙ er ∙ (λ j. first_reason (room_in l (en j) (ec j) (left j)))) i)))
      ∙ ap (λ (p : Object Name X). (set_length_call (plain p) blank n).reason) view

  -- a vector that isn't refused takes the blank elements
  pub length_takes : (o : Object Name X) (blank : X) (n : ℤ) (more : ℕ) → (set_length_call (plain o) blank n).reason ≡ None → length (plain o).rows < count_of n → more ≡ count_of n - length (plain o).rows → Takes o more
  length_takes o blank n more none lt count =
      let len = length (plain o).rows in
      let has = room_none (plain o) (count_of n) (count_of n - len) (after_two (tampers_cursors (plain o)) (in_range n) (room (plain o) (count_of n) (count_of n - len)) none) in
      let rows = length-map o.rows plain_row in
      let sum : length o.rows + more ≡ count_of n = omega arith in
      let names = has.within_names in
      record { few = subst (λ m. m ≤ GREATEST_LENGTH) (sym sum) has.within_greatest; within = ap (is_past o.limit) sum ∙ has.within_limit; unspent = subst (λ m. o.next + m ≤ numbers_end) (sym count) names }
