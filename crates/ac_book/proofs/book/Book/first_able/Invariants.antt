use Rattle.std.proofs.Common.{◌≡◌, ◌<◌, ℕ, false}
use Rattle.ac_history.specs.Blocks.{present}
use Rattle.ac_history.specs.Histories.{is_able}
use Rattle.ac_book.proofs.book.Book.first_able.Given as goal

abbrev pub invariant-loop-task : goal.invariant-loop-task
invariant-loop-task l = (k : ℕ) → k < l.task → is_able (present l.self) k ≡ false
