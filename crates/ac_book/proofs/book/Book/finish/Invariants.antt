use Rattle.std.proofs.Common.{◌≡◌, List}
use Rattle.ac_history.specs.declared.entry.Entry.{Entry}
use Rattle.ac_history.specs.Blocks.{present, with_entries}
use Rattle.ac_history.specs.States.{left, one_each}
use Rattle.ac_book.proofs.book.Book.finish.Given as goal

abbrev pub invariant-loop-task : goal.invariant-loop-task
invariant-loop-task l = (more : List Entry) × (l.self ≡ with_entries l.initial.self more)

abbrev pub decreases-loop-task : goal.decreases-loop-task
decreases-loop-task l = left one_each (present l.self).tasks
