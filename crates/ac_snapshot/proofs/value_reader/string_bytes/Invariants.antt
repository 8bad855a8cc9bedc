use Rattle.std.proofs.Common.{◌≡◌, ◌-◌}
use Rattle.ac_snapshot.specs.Outcomes.{behind}
use Rattle.ac_snapshot.specs.ValueReaders.{string_by}
use Rattle.ac_snapshot.proofs.value_reader.string_bytes.Given as goal

abbrev pub invariant-loop : goal.invariant-loop
invariant-loop l = string_by 1001 l.fn.text ≡ behind l.bytes.items (string_by (1001 - l.counter) l.left)
