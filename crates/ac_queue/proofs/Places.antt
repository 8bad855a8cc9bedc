-- In a line by priority, the place behind the items that aren't of lower priority parts it in two.
use Rattle.std.proofs.Common.{◌≡◌, ◌<◌, ◌≤◌, ℕ, ℤ, zero, suc, Bool, true, false, not, ◌&&◌, List, [], ◌∷◌, ◌++◌, take, drop, length, get_or, refl, sym, arith, pos}
use Rattle.std.specs.Prelude.{int_lt}
use Rattle.std.specs.List.{prefix_len}
use Rattle.std.specs.List.Sorted.{IsPartitionedBy, IsPartitionPoint}
use Rattle.std.proofs.lemmas.Int.{ints}
use Rattle.std.proofs.lemmas.List.Sums.{prefix_len_is}
use Rattle.ac_model.specs.Queues.{by_priority, priority, comes_before, are_in_line, is_full, is_too_long}
use Rattle.ac_model.proofs.HoldersAndQueues.{enqueue_keeps}
use Rattle.ac_queue.specs.QueueStates.{QueueState, IsQueueState}

-- an item that may stand before this one, or beside it
abbrev pub stays_before : ℤ → ℤ → Bool
stays_before item = λ x. not (comes_before item x)

none_below : (a b c : ℤ) → int_lt a b ≡ false → int_lt b c ≡ false → int_lt a c ≡ false
none_below a b c h k = grind (arith, ints)

not_below_itself : (a : ℤ) → int_lt a a ≡ false
not_below_itself a = grind (arith, ints)

of_not : (a : Bool) → not a ≡ true → a ≡ false
of_not true h = cc
of_not false h = refl

not_of : (a : Bool) → a ≡ false → not a ≡ true
not_of a h = rw h

and_left : (a b : Bool) → (a && b) ≡ true → a ≡ true
and_left true b h = refl
and_left false b h = cc

and_right : (a b : Bool) → (a && b) ≡ true → b ≡ true
and_right true b h = h
and_right false b h = cc

tail_in_line : (x : ℤ) (xs : List ℤ) → are_in_line (x ∷ xs) ≡ true → are_in_line xs ≡ true
tail_in_line x [] h = refl
tail_in_line x (y ∷ xs) h = and_right (not (comes_before y x)) (are_in_line (y ∷ xs)) h

-- no item is of greater priority than the first
first_is_highest : (x : ℤ) (xs : List ℤ) (j : ℕ) (d : ℤ) → are_in_line (x ∷ xs) ≡ true → j < length (x ∷ xs) → int_lt (priority x) (priority (get_or (x ∷ xs) j d)) ≡ false
first_is_highest x xs zero d h k = not_below_itself (priority x)
first_is_highest x [] (suc j) d h k = absurd (omega arith)
first_is_highest x (y ∷ xs) (suc j) d h k =
    none_below (priority x) (priority y) (priority (get_or (y ∷ xs) j d))
    (of_not (comes_before y x) (and_left (not (comes_before y x)) (are_in_line (y ∷ xs)) h))
    (first_is_highest y xs j d (and_right (not (comes_before y x)) (are_in_line (y ∷ xs)) h) (omega arith))

pub parted : (item : ℤ) (xs : List ℤ) → are_in_line xs ≡ true → IsPartitionedBy (stays_before item) xs
parted item [] h i j d le within stays = absurd (omega arith)
parted item (x ∷ xs) h zero j d le within stays =
    not_of (comes_before item x)
    (none_below (priority x) (priority (get_or (x ∷ xs) j d)) (priority item) (first_is_highest x xs j d h within) (of_not (comes_before item (get_or (x ∷ xs) j d)) stays))
parted item (x ∷ xs) h (suc i) zero d le within stays = absurd (omega arith)
parted item (x ∷ xs) h (suc i) (suc j) d le within stays = parted item xs (tail_in_line x xs h) i j d (omega arith) (omega arith) stays

pub place_is : (p : ℤ → Bool) (xs : List ℤ) (n : ℕ) → n ≤ length xs → IsPartitionPoint (λ y. p y ≡ true) (λ y. p y ≡ false) xs n → n ≡ prefix_len p xs
place_is p xs n bound both = sym (prefix_len_is p xs n (pos 0) bound (λ k below. both.0 k (pos 0) (omega arith) below) (λ below. both.1 n (pos 0) (omega arith) below))

-- an item that is put at its place leaves the line in order
pub put_in_line : (s : QueueState) (item : ℤ) → IsQueueState by_priority s → is_full s.queue ≡ false → is_too_long s.queue ≡ false → (place : ℕ) → place ≡ prefix_len (stays_before item) s.queue.items
    → are_in_line (take place s.queue.items ++ item ∷ drop place s.queue.items) ≡ true
put_in_line s item holds not_full not_long place is = rw is (enqueue_keeps by_priority s.queue item holds.valid not_full (rw not_long refl)).in_line
