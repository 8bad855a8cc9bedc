-- The calls of synchronized queues (A.18.27 to A.18.31): numbers in a line, with a limit or none, and the greatest number held so far. A call may have to wait, and then nothing of it has happened.
use Rattle.std.specs.Prelude.{⊤, ◌≡◌, ◌==◌, ◌+◌, ℕ, ℤ, pos, int_lt, int_div, Bool, true, false, not, ◌&&◌, ◌≤◌, max, List, [], ◌∷◌, ◌++◌, length, take, drop, Option, Some, None, if◌then◌else◌}
use Rattle.std.specs.List.{prefix_len}
use Rattle.ac_base.specs.declared.limit.Limit.{Limit}
use Rattle.ac_base.specs.declared.limit.Limit.TheVariants.{Unbounded, Bounded}
use Rattle.ac_base.specs.declared.reason.Reason.{Reason}
use Rattle.ac_base.specs.declared.reason.Reason.TheVariants.{LengthRange}
use Rattle.ac_base.specs.FirstReason.{first_reason}
use Rattle.ac_base.specs.Limits.{is_past}
use Rattle.ac_base.specs.declared.limit.TheConstants.{GREATEST_LENGTH}
use Rattle.ac_model.specs.Letters.{reason_if}

pub record Queue : Type 0 where
  pub limit : Limit
  -- front first
  pub items : List ℤ
  -- the greatest number of items held so far
  pub peak : ℕ

abbrev pub empty_queue : Limit → Queue
empty_queue limit = record { limit = limit; items = []; peak = 0 }

-- a plain queue, or a priority queue
pub data Discipline : Type 0 where
  by_arrival : Discipline
  by_priority : Discipline

-- a queue with its discipline, as tasks share it
pub record TaskQueue : Type 0 where
  pub discipline : Discipline
  pub queue : Queue

-- Get_Priority: rounded toward zero
abbrev pub priority : ℤ → ℤ
priority item = int_div item (pos 100)

-- Before: of the greater priority
abbrev pub comes_before : ℤ → ℤ → Bool
comes_before left right = int_lt (priority right) (priority left)

-- no item comes before the one before it
abbrev pub are_in_line : List ℤ → Bool
are_in_line [] = true
are_in_line (x ∷ []) = true
are_in_line (x ∷ y ∷ xs) = not (comes_before y x) && are_in_line (y ∷ xs)

abbrev pub are_in_line_by : Discipline → List ℤ → Bool
are_in_line_by by_arrival items = true
are_in_line_by by_priority items = are_in_line items

-- a limit is at most the greatest length
abbrev pub LimitInRange : Limit → Type 0
LimitInRange Unbounded = ⊤
LimitInRange (Bounded most) = most ≤ GREATEST_LENGTH

pub record IsValidQueue (discipline : Discipline) (q : Queue) : Type 0 where
  pub limit_in_range : LimitInRange q.limit
  pub within_limit : is_past q.limit (length q.items) ≡ false
  pub within_greatest : length q.items ≤ GREATEST_LENGTH
  pub within_peak : length q.items ≤ q.peak
  pub peak_within : is_past q.limit q.peak ≡ false
  pub in_line : are_in_line_by discipline q.items ≡ true

-- the queue's call would wait; where it doesn't, the first reason to refuse it, and where there is none, what it leaves and answers
pub record QueueCall (A : Type 0) : Type 0 where
  pub waits : Bool
  pub reason : Option Reason
  pub after : Queue
  pub answer : A

-- as many items as the limit, and as many as an unbounded queue may have
abbrev pub is_full : Queue → Bool
is_full q = elim q.limit [ Unbounded ↦ false | Bounded most ↦ most == length q.items ]

abbrev pub is_too_long : Queue → Bool
is_too_long q = elim q.limit [ Unbounded ↦ GREATEST_LENGTH == length q.items | Bounded most ↦ false ]

-- at the back, or after all items that aren't of lower priority
abbrev pub lined_up : Discipline → List ℤ → ℤ → List ℤ
lined_up by_arrival items item = items ++ item ∷ []
lined_up by_priority items item =
    let place = prefix_len (λ x. not (comes_before item x)) items in
    take place items ++ item ∷ drop place items

abbrev pub with_item : Discipline → Queue → ℤ → Queue
with_item discipline q item =
    record q { items = lined_up discipline q.items item; peak = max q.peak (length q.items + 1) }

-- Enqueue (A.18.27)
abbrev pub enqueue_call : Discipline → Queue → ℤ → QueueCall (Unit {0})
enqueue_call discipline q item = record {
  waits = is_full q;
  reason = first_reason (reason_if (is_too_long q) LengthRange ∷ []);
  after = with_item discipline q item;
  answer = tt;
}

abbrev pub front : List ℤ → Option ℤ
front [] = None
front (x ∷ xs) = Some x

abbrev pub is_without_items : Queue → Bool
is_without_items q = length q.items == 0

-- Dequeue (A.18.27)
abbrev pub dequeue_call : Queue → QueueCall (Option ℤ)
dequeue_call q = record {
  waits = is_without_items q;
  reason = None;
  after = record q { items = drop 1 q.items };
  answer = front q.items;
}

-- the head's priority isn't below this one
abbrev pub has_at_least : ℤ → List ℤ → Bool
has_at_least at_least [] = false
has_at_least at_least (x ∷ xs) = not (int_lt (priority x) at_least)

-- Dequeue_Only_High_Priority (A.18.30): nothing, where there is no item of that priority
abbrev pub high_only_call : Queue → ℤ → QueueCall (Option ℤ)
high_only_call q at_least =
    let high = has_at_least at_least q.items in
    record {
      waits = false;
      reason = None;
      after = (if high then record q { items = drop 1 q.items } else q);
      answer = (if high then front q.items else None);
    }

-- Current_Use, Peak_Use (A.18.27)
abbrev pub current_use_call : Queue → ℤ
current_use_call q = pos (length q.items)

abbrev pub peak_use_call : Queue → ℤ
peak_use_call q = pos q.peak

-- a call keeps a queue valid
abbrev pub KeepsQueue : {A : Type 0} → Discipline → Queue → QueueCall A → Type 0
KeepsQueue discipline q c = IsValidQueue discipline q → c.waits ≡ false → c.reason ≡ None → IsValidQueue discipline c.after
