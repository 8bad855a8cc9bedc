-- A task block: the queues that it began with, its tasks, and the history of what was done.
use Rattle.std.specs.Prelude.{◌≡◌, ◌<◌, ℕ, false, List, [], ◌∷◌, ◌++◌, length}
use Rattle.std.specs.List.{sum_by}
use Rattle.std.specs.Coded.{Coded, codes}
use Rattle.ac_history.specs.declared.code.TaskCode.{TaskCode}
use Rattle.ac_history.specs.declared.entry.Entry.{Entry}
use Rattle.ac_history.specs.Histories.{entries_of, is_able, outcome, replay}
use Rattle.ac_history.specs.States.{State, opening_state}
use Rattle.ac_model.specs.Queues.{TaskQueue}

pub record Block : Type 0 where
  pub queues : List TaskQueue
  pub code : List TaskCode
  pub history : List Entry

pub coded_block : Coded Block
coded_block = hlevel codes

abbrev pub opening : Block → State
opening b = opening_state b.queues b.code

-- the queues, locals and places after the history
abbrev pub present : Block → State
present b = replay (opening b) b.history

abbrev pub with_entries : Block → List Entry → Block
with_entries b more = record { queues = b.queues; code = b.code; history = b.history ++ more }

-- nothing was done yet
abbrev pub new_block : List TaskQueue → List TaskCode → Block
new_block queues code = record { queues = queues; code = code; history = [] }

-- the block after turns of these tasks, one after another
abbrev pub after_turns : Block → List ℕ → Block
after_turns b [] = b
after_turns b (task ∷ tasks) = after_turns (with_entries b (entries_of (outcome (present b) task))) tasks

-- they began with the same queues, and have the same code
pub record SameStart (b other : Block) : Type 0 where
  pub queues : b.queues ≡ other.queues
  pub code : b.code ≡ other.code

-- the steps of all tasks together
abbrev pub commands_in : List TaskCode → ℕ
commands_in code = sum_by (λ t. length t.steps) code

-- each task has no next step, or one that would wait
abbrev pub IsComplete : Block → Type 0
IsComplete b = (task : ℕ) → task < length b.code → is_able (present b) task ≡ false
