-- The greatest use that a queue is given.
use Rattle.std.specs.Prelude.{◌≡◌, ◌≤◌, ⊤, ℕ, false, List, length, Option, Some, None, slice_get, slice_set}
use Rattle.ac_base.specs.declared.limit.TheConstants.{GREATEST_LENGTH}
use Rattle.ac_base.specs.Limits.{is_past}
use Rattle.ac_queue.specs.declared.any_queue.AnyQueue.{AnyQueue}
use Rattle.ac_queue.specs.declared.any_queue.AnyQueue.TheVariants.{Plain, Ranked}
use Rattle.ac_queue.specs.QueueStates.{with_peak}
use Rattle.ac_calls.specs.Holdings.{Held, of_rows, of_holder, of_queue}
use Rattle.ac_meaning.specs.Environment as meant
use Rattle.ac_meaning.specs.Environment.{binds_type, binds_object, binds_cursor, binds_value, binds_element}
use Rattle.ac_objects.specs.declared.bound.Bound.{Bound}
use Rattle.ac_objects.specs.declared.bound.Bound.TheVariants as bound
use Rattle.ac_objects.specs.declared.object.Object.TheVariants.{Queue}

-- of a queue: no less than it holds, and within its limit
abbrev pub HeldFits : ℕ → Held → Type 0
HeldFits peak (of_rows kind o) = ⊤
HeldFits peak (of_holder e h) = ⊤
HeldFits peak (of_queue number q) = (length q.queue.items ≤ peak) × (is_past q.queue.limit peak ≡ false) × (peak ≤ GREATEST_LENGTH)

abbrev pub PeakFits : ℕ → meant.Bound → Type 0
PeakFits peak binds_type = ⊤
PeakFits peak (binds_object h) = HeldFits peak h
PeakFits peak (binds_cursor mark) = ⊤
PeakFits peak (binds_value v) = ⊤
PeakFits peak (binds_element object at) = ⊤

abbrev pub held_peaked : ℕ → Held → Held
held_peaked peak (of_rows kind o) = of_rows kind o
held_peaked peak (of_holder e h) = of_holder e h
held_peaked peak (of_queue number q) = of_queue number (record q { queue = record q.queue { peak = peak } })

abbrev pub peaked : ℕ → meant.Bound → meant.Bound
peaked peak b = meant.bound_by (held_peaked peak) b

-- in memory

abbrev pub queue_with_peak : ℕ → AnyQueue → AnyQueue
queue_with_peak peak (Plain q) = Plain (with_peak q peak)
queue_with_peak peak (Ranked q) = Ranked (with_peak q peak)

abbrev pub bound_with_peak : ℕ → Bound → Bound
bound_with_peak peak (bound.Object (Queue q)) = bound.Object (Queue (record q { queue = queue_with_peak peak q.queue }))
bound_with_peak peak b = b

abbrev pub set_in_place : List Bound → ℕ → ℕ → Option Bound → List Bound
set_in_place bs place peak None = bs
set_in_place bs place peak (Some b) = slice_set bs place (bound_with_peak peak b)

abbrev pub bounds_with_peak : (place peak : ℕ) → List Bound → List Bound
bounds_with_peak place peak bs = set_in_place bs place peak (slice_get bs place)
