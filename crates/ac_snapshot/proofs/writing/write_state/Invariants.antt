use Rattle.std.proofs.Common.{◌≡◌, take}
use Rattle.ac_snapshot.specs.StateTexts.{state_text}
use Rattle.ac_snapshot.proofs.writing.write_state.Given as goal

abbrev pub invariant-loop-entry : goal.invariant-loop-entry
invariant-loop-entry l = l.text.items ≡ state_text (take l.entry-index l.entry-items)
