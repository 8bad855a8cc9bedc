use Rattle.std.proofs.Common.{◌≡◌, ◌++◌, replicate}
use Rattle.ac_snapshot.proofs.writing.tree_texts.close.Given as goal

abbrev pub invariant-loop : goal.invariant-loop
invariant-loop l = l.text.items ≡ l.initial.text.items ++ replicate l.counter 93
