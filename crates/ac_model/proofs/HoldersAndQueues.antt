-- The calls of holders and queues keep them valid.
use Rattle.std.proofs.Common.{◌≡◌, ◌==◌, ◌+◌, ◌≤◌, ℕ, ℤ, Bool, cond, true, false, not, ◌&&◌, List, ◌∷◌, ◌++◌, length, take, drop, refl, ap, arith, Option, Some, None, one-add, max, if◌then◌else◌, []}
use Rattle.std.specs.Prelude.{int_lt, is_none}
use Rattle.std.specs.List.{prefix_len}
use Rattle.std.proofs.lemmas.Bool.Decides.{nat_tests}
use Rattle.std.proofs.lemmas.Int.{ints}
use Rattle.std.proofs.lemmas.List.{length-append, length-drop, take-append-drop}
use Rattle.ac_base.specs.declared.limit.Limit.{Limit}
use Rattle.ac_base.specs.declared.limit.Limit.TheVariants.{Unbounded, Bounded}
use Rattle.ac_base.specs.declared.reason.Reason.TheVariants.{Empty, TooLarge, LengthRange}
use Rattle.ac_base.specs.Limits.{is_past}
use Rattle.ac_base.specs.declared.limit.TheConstants.{GREATEST_LENGTH}
use Rattle.ac_model.specs.Letters.{reason_if}
use Rattle.ac_model.specs.Holders as holder
use Rattle.ac_model.specs.Holders.{Holder, KeepsHolder, KeepsBothHolders, is_too_large, fits, tampers}
use Rattle.ac_model.specs.Queues as queue
use Rattle.ac_model.specs.Queues.{Queue, Discipline, by_arrival, by_priority, IsValidQueue, KeepsQueue, LimitInRange, are_in_line, are_in_line_by, comes_before, priority, lined_up, is_too_long, has_at_least}
use Rattle.ac_model.proofs.Reasons.{none_first, none_others, after_two, not_if}

fits_none : {T : Type 0} (size : T → ℕ) (h : Holder T) (element : Option T) → fits size h element ≡ None → is_too_large size h.limit element ≡ false
fits_none size h element e = not_if (is_too_large size h.limit element) TooLarge e

pub replace_element_keeps : {T : Type 0} (size : T → ℕ) (h : Holder T) (element : T) → KeepsHolder size h (holder.replace_element_call size h element)
replace_element_keeps size h element valid none = record { within_limit = fits_none size h (Some element) (none_first (fits size h (Some element)) [] (none_others (tampers h) (fits size h (Some element) ∷ []) none)) }

pub write_keeps : {T : Type 0} (size : T → ℕ) (h : Holder T) (element : T) → KeepsHolder size h (holder.write_call size h element)
write_keeps size h element valid none =
    let empty = reason_if (is_none h.element) Empty in
    record { within_limit = fits_none size h (Some element) (none_first (fits size h (Some element)) [] (none_others empty (fits size h (Some element) ∷ []) none)) }

pub clear_keeps : {T : Type 0} (size : T → ℕ) (h : Holder T) → KeepsHolder size h (holder.clear_call h)
clear_keeps size h valid none = record { within_limit = refl }

pub assign_keeps : {T : Type 0} (size : T → ℕ) (target source : Holder T) → KeepsHolder size target (holder.assign_call size target source)
assign_keeps size target source valid none =
    record { within_limit = fits_none size target source.element (none_first (fits size target source.element) [] (none_others (tampers target) (fits size target source.element ∷ []) none)) }

pub move_from_keeps : {T : Type 0} (size : T → ℕ) (target source : Holder T) → KeepsBothHolders size target source (holder.move_from_call size target source)
move_from_keeps size target source valid source_valid none = (
  record { within_limit = fits_none size target source.element (none_first (fits size target source.element) [] (after_two (tampers target) (tampers source) (fits size target source.element ∷ []) none)) },
  record { within_limit = refl },
)

pub swap_keeps : {T : Type 0} (size : T → ℕ) (target source : Holder T) → KeepsBothHolders size target source (holder.swap_call size target source)
swap_keeps size target source valid source_valid none =
    let first = fits size target source.element in
    let second = fits size source target.element in
    let own = after_two (tampers target) (tampers source) (first ∷ second ∷ []) none in (
      record { within_limit = fits_none size target source.element (none_first first (second ∷ []) own) },
      record { within_limit = fits_none size source target.element (none_first second [] (none_others first (second ∷ []) own)) },
    )

less_asymmetric : (a b : ℤ) → int_lt a b ≡ true → int_lt b a ≡ false
less_asymmetric a b h = grind (arith, ints)

before_asymmetric : (x y : ℤ) → comes_before x y ≡ true → comes_before y x ≡ false
before_asymmetric x y h = less_asymmetric (priority y) (priority x) h

and_left : (a b : Bool) → (a && b) ≡ true → a ≡ true
and_left true b h = refl
and_left false b h = cc

and_right : (a b : Bool) → (a && b) ≡ true → b ≡ true
and_right true b h = h
and_right false b h = cc

both_true : (a b : Bool) → a ≡ true → b ≡ true → (a && b) ≡ true
both_true a b h k = rw h k

not_true : (a : Bool) → a ≡ false → not a ≡ true
not_true a h = rw h

line_tail : (x : ℤ) (xs : List ℤ) → are_in_line (x ∷ xs) ≡ true → are_in_line xs ≡ true
line_tail x [] h = refl
line_tail x (y ∷ xs) h = and_right (not (comes_before y x)) (are_in_line (y ∷ xs)) h

-- an item put before the first that it comes before
put_line : ℤ → List ℤ → List ℤ
put_line item items = take (prefix_len (λ x. not (comes_before item x)) items) items ++ item ∷ drop (prefix_len (λ x. not (comes_before item x)) items) items

after_case : (item y x : ℤ) (xs : List ℤ) (b : Bool) → comes_before item x ≡ b → not (comes_before item y) ≡ true → are_in_line (y ∷ x ∷ xs) ≡ true →
    are_in_line (take (cond (not b) (1 + prefix_len (λ z. not (comes_before item z)) xs) 0) (x ∷ xs) ++ item ∷ drop (cond (not b) (1 + prefix_len (λ z. not (comes_before item z)) xs) 0) (x ∷ xs)) ≡ true →
    are_in_line (y ∷ (take (cond (not b) (1 + prefix_len (λ z. not (comes_before item z)) xs) 0) (x ∷ xs) ++ item ∷ drop (cond (not b) (1 + prefix_len (λ z. not (comes_before item z)) xs) 0) (x ∷ xs))) ≡ true
after_case item y x xs true e own h k = both_true (not (comes_before item y)) (are_in_line (item ∷ x ∷ xs)) own k
after_case item y x xs false e own h k =
    let n = prefix_len (λ z. not (comes_before item z)) xs in
    rw (one-add n) (both_true (not (comes_before x y)) (are_in_line (x ∷ take n xs ++ item ∷ drop n xs)) (and_left (not (comes_before x y)) (are_in_line (x ∷ xs)) h) (rw (one-add n) at k))

line_after : (item y : ℤ) (xs : List ℤ) → not (comes_before item y) ≡ true → are_in_line (y ∷ xs) ≡ true → are_in_line (put_line item xs) ≡ true → are_in_line (y ∷ put_line item xs) ≡ true
unfolding put_line
line_after item y [] own h k = both_true (not (comes_before item y)) true own refl
line_after item y (x ∷ xs) own h k = after_case item y x xs (comes_before item x) refl own h k

line_case : (item x : ℤ) (xs : List ℤ) (b : Bool) → comes_before item x ≡ b → are_in_line (x ∷ xs) ≡ true → are_in_line (put_line item xs) ≡ true →
    are_in_line (take (cond (not b) (1 + prefix_len (λ z. not (comes_before item z)) xs) 0) (x ∷ xs) ++ item ∷ drop (cond (not b) (1 + prefix_len (λ z. not (comes_before item z)) xs) 0) (x ∷ xs)) ≡ true
unfolding put_line
line_case item x xs true e h k = both_true (not (comes_before x item)) (are_in_line (x ∷ xs)) (not_true (comes_before x item) (before_asymmetric item x e)) h
line_case item x xs false e h k = rw (one-add (prefix_len (λ z. not (comes_before item z)) xs)) (line_after item x xs (not_true (comes_before item x) e) h k)

line_put : (item : ℤ) (items : List ℤ) → are_in_line items ≡ true → are_in_line (put_line item items) ≡ true
unfolding put_line
line_put item [] h = refl
line_put item (x ∷ xs) h = line_case item x xs (comes_before item x) refl h (line_put item xs (line_tail x xs h))

lined_up_length : (discipline : Discipline) (items : List ℤ) (item : ℤ) → length (lined_up discipline items item) ≡ length items + 1
lined_up_length by_arrival items item = omega (arith, length-append items (item ∷ []))
lined_up_length by_priority items item =
    let n = prefix_len (λ x. not (comes_before item x)) items in
    omega (arith, length-append (take n items) (item ∷ drop n items), ap length (take-append-drop n items), length-append (take n items) (drop n items))

lined_up_line : (discipline : Discipline) (items : List ℤ) (item : ℤ) → are_in_line_by discipline items ≡ true → are_in_line_by discipline (lined_up discipline items item) ≡ true
unfolding put_line
lined_up_line by_arrival items item h = refl
lined_up_line by_priority items item h = line_put item items h

line_drop : (discipline : Discipline) (items : List ℤ) → are_in_line_by discipline items ≡ true → are_in_line_by discipline (drop 1 items) ≡ true
line_drop by_arrival items h = refl
line_drop by_priority [] h = refl
line_drop by_priority (x ∷ xs) h = line_tail x xs h

-- room for one more
record Fits (limit : Limit) (n : ℕ) : Type 0 where
  within : is_past limit (n + 1) ≡ false
  most : n + 1 ≤ GREATEST_LENGTH

fits_more : (limit : Limit) (n : ℕ) → LimitInRange limit → is_past limit n ≡ false → n ≤ GREATEST_LENGTH → (elim limit [ Unbounded ↦ false | Bounded most ↦ most == n ]) ≡ false →
    (elim limit [ Unbounded ↦ GREATEST_LENGTH == n | Bounded most ↦ false ]) ≡ false → Fits limit n
fits_more Unbounded n range past le full long = record { within = refl; most = grind (arith, nat_tests) }
fits_more (Bounded most) n range past le full long =
    let below : n + 1 ≤ most = grind (arith, nat_tests) in record { within = grind (arith, nat_tests); most = omega arith }

-- of two numbers within the limit the greater is within it
past_greater : (limit : Limit) (m n : ℕ) → is_past limit m ≡ false → is_past limit n ≡ false → is_past limit (max m n) ≡ false
past_greater Unbounded m n h k = refl
past_greater (Bounded most) m n h k = grind (arith, nat_tests)

pub enqueue_keeps : (discipline : Discipline) (q : Queue) (item : ℤ) → KeepsQueue discipline q (queue.enqueue_call discipline q item)
enqueue_keeps discipline q item valid goes none =
    let long = not_if (is_too_long q) LengthRange (none_first (reason_if (is_too_long q) LengthRange) [] none) in
    let room = fits_more q.limit (length q.items) valid.limit_in_range valid.within_limit valid.within_greatest goes long in
    let len : length (lined_up discipline q.items item) ≡ length q.items + 1 = lined_up_length discipline q.items item in
    record {
      limit_in_range = valid.limit_in_range;
      within_limit = rw len room.within;
      within_greatest = rw len room.most;
      within_peak = rw len (omega arith);
      peak_within = past_greater q.limit q.peak (length q.items + 1) valid.peak_within room.within;
      in_line = lined_up_line discipline q.items item valid.in_line;
    }

past_less : (limit : Limit) (m n : ℕ) → is_past limit n ≡ false → m ≤ n → is_past limit m ≡ false
past_less Unbounded m n h le = refl
past_less (Bounded most) m n h le = grind (arith, nat_tests)

dropped : (discipline : Discipline) (q : Queue) → IsValidQueue discipline q → IsValidQueue discipline (record q { items = drop 1 q.items })
dropped discipline q valid =
    let len = length-drop 1 q.items in
    record {
      limit_in_range = valid.limit_in_range;
      within_limit = past_less q.limit (length (drop 1 q.items)) (length q.items) valid.within_limit (omega (arith, len));
      within_greatest = let le = valid.within_greatest in omega (arith, len, le);
      within_peak = let le = valid.within_peak in omega (arith, len, le);
      peak_within = valid.peak_within;
      in_line = line_drop discipline q.items valid.in_line;
    }

pub dequeue_keeps : (discipline : Discipline) (q : Queue) → KeepsQueue discipline q (queue.dequeue_call q)
dequeue_keeps discipline q valid goes none = dropped discipline q valid

high_case : (discipline : Discipline) (q : Queue) (b : Bool) → IsValidQueue discipline q → IsValidQueue discipline (if b then record q { items = drop 1 q.items } else q)
high_case discipline q true valid = dropped discipline q valid
high_case discipline q false valid = valid

pub high_only_keeps : (discipline : Discipline) (q : Queue) (at_least : ℤ) → KeepsQueue discipline q (queue.high_only_call q at_least)
high_only_keeps discipline q at_least valid goes none = high_case discipline q (has_at_least at_least q.items) valid
