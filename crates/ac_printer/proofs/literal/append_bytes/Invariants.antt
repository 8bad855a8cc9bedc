use Rattle.std.proofs.Common.{◌≡◌, ◌++◌, take, flat_map}
use Rattle.ac_syntax.specs.Canonical.{quoted_byte}
use Rattle.ac_printer.proofs.literal.append_bytes.Given as goal

abbrev pub invariant-loop-byte : goal.invariant-loop-byte
invariant-loop-byte l = l.text.items ≡ l.initial.text.items ++ flat_map quoted_byte (take l.byte-index l.bytes)
