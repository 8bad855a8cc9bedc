use Rattle.std.proofs.Common.{◌≡◌, ◌++◌, replicate}
use Rattle.ac_printer.proofs.page.append_line_feeds.Given as goal

abbrev pub invariant-loop : goal.invariant-loop
invariant-loop l = l.text.items ≡ l.initial.text.items ++ replicate l.counter 10
