use Rattle.std.proofs.Common.{◌≡◌, ◌++◌, map}
use Rattle.ac_syntax.specs.Keywords.{reserved_placed}
use Rattle.ac_script.proofs.cut_text.reserved.Given as goal

abbrev pub invariant-loop-one : goal.invariant-loop-one
invariant-loop-one l = l.made.items ++ map reserved_placed l.one-iterator.rest.items ≡ map reserved_placed l.fn.placed.items
