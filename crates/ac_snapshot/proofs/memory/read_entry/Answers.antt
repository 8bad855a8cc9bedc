use Rattle.std.proofs.Common.{FitsSigned, w64, rules}
use Rattle.ac_snapshot.proofs.Decided.{integer_decided, text_decided}
use Rattle.ac_snapshot.proofs.memory.read_entry.Goals as goal

pub returns-in-Int : goal.returns-in-Int
returns-in-Int c = let fits : FitsSigned w64 c.in-Int.value = search rules in rw c.in-Int.is ((integer_decided c.in-Int.value).1 fits)

pub returns-in-Str : goal.returns-in-Str
returns-in-Str c = rw c.in-Str.is ((text_decided c.in-Str.value).1 c.bytes-bytes.ensures.valid)
