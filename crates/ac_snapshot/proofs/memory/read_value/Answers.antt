use Rattle.std.proofs.Common.{FitsSigned, w64, rules}
use Rattle.ac_snapshot.proofs.Decided.{integer_decided, text_decided}
use Rattle.ac_snapshot.proofs.memory.read_value.Goals as goal

pub returns-in-Int : goal.returns-in-Int
returns-in-Int c = let fits : FitsSigned w64 c.in-Int.number = search rules in rw c.in-Int.is ((integer_decided c.in-Int.number).1 fits)

pub returns-in-Text : goal.returns-in-Text
returns-in-Text c = rw c.in-Text.is ((text_decided c.in-Text.text).1 c.bytes-bytes.ensures.valid)
