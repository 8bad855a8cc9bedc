-- Blocks that began alike.
use Rattle.std.proofs.Common.{ℕ, List, [], ◌∷◌, refl, sym, ◌∙◌}
use Rattle.ac_history.specs.Blocks.{Block, SameStart, after_turns, present, with_entries}
use Rattle.ac_history.specs.Histories.{outcome, entries_of}

pub with_itself : (b : Block) → SameStart b b
with_itself b = record { queues = refl; code = refl }

pub turned_round : (b other : Block) → SameStart b other → SameStart other b
turned_round b other same = record { queues = sym same.queues; code = sym same.code }

pub passed_on : (b other third : Block) → SameStart b other → SameStart other third → SameStart b third
passed_on b other third first second = record { queues = first.queues ∙ second.queues; code = first.code ∙ second.code }

pub turns_keep_start : (tasks : List ℕ) (b : Block) → SameStart (after_turns b tasks) b
turns_keep_start [] b = with_itself b
turns_keep_start (task ∷ tasks) b =
    let first = turns_keep_start tasks (with_entries b (entries_of (outcome (present b) task))) in
    record { queues = first.queues; code = first.code }
