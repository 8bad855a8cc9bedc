-- Each turn of a task that is able brings the end nearer.
use Rattle.std.proofs.Common.{◌≡◌, ◌<◌, ℕ, true, List, ◌++◌, ap, ◌∙◌, arith, append_assoc}
use Rattle.ac_history.specs.declared.entry.Entry.{Entry}
use Rattle.ac_history.specs.Blocks.{Block, present, with_entries}
use Rattle.ac_history.specs.Histories.{is_able, outcome, entries_of, state_after}
use Rattle.ac_history.specs.States.{State, left, one_each}
use Rattle.ac_history.proofs.LegalHistories.{present_after}
use Rattle.ac_history.proofs.Left.{turn_falls}

pub nearer : (b now : Block) (task : ℕ) → now ≡ with_entries b (entries_of (outcome (present b) task)) → is_able (present b) task ≡ true → left one_each (present now).tasks < left one_each (present b).tasks
nearer b now task is able =
    let falls = turn_falls (present b) task able in
    let same : left one_each (present now).tasks ≡ left one_each (state_after (present b) (outcome (present b) task)).tasks = ap (λ (x : Block). left one_each (present x).tasks) is ∙ ap (λ (s : State). left one_each s.tasks) (present_after b task) in
    omega (arith, falls, same)

pub longer : (first b now : Block) (more next : List Entry) → b ≡ with_entries first more → now ≡ with_entries b next → (all : List Entry) × (now ≡ with_entries first all)
longer first b now more next is then_is = (more ++ next, then_is ∙ ap (λ x. with_entries x next) is ∙ (λ j. record { queues = first.queues; code = first.code; history = (append_assoc first.history more next) j }))
