use Rattle.std.proofs.Common.{◌≡◌, true, take}
use Rattle.std.specs.List.{list_all}
use Rattle.ac_snapshot.specs.Representable.{is_entry_representable}
use Rattle.ac_snapshot.proofs.memory.values_in_memory.Given as goal

abbrev pub invariant-loop-entry : goal.invariant-loop-entry
invariant-loop-entry l = list_all is_entry_representable (take l.entry-index l.entry-items) ≡ true
