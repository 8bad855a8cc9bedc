use Rattle.std.proofs.Common.{◌≡◌, map, take}
use Rattle.ac_book.specs.Tasks.{code_of}
use Rattle.ac_book.proofs.same.same_code.Given as goal

abbrev pub invariant-loop-i : goal.invariant-loop-i
invariant-loop-i l = map code_of (take l.i l.tasks) ≡ map code_of (take l.i l.others)
