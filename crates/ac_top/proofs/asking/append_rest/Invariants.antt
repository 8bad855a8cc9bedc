use Rattle.std.proofs.Common.{◌≡◌, ◌++◌, take, flat_map}
use Rattle.ac_top.specs.Asks.{next_text}
use Rattle.ac_top.proofs.asking.append_rest.Given as goal

abbrev pub invariant-loop-value : goal.invariant-loop-value
invariant-loop-value l = l.text.items ≡ l.initial.text.items ++ flat_map next_text (take l.value-index l.values)
