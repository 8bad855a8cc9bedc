-- Texts that are read as states, worked out by hand.
use Rattle.std.specs.Prelude.{codes, [], ◌∷◌, Ok}
use Rattle.ac_snapshot.specs.StateReading.{IsReading}
use Rattle.ac_snapshot.specs.TextExamples.{line, bounded_list, list_and_integer, list_and_integer_text}

abbrev pub ReadsNothing : Type 0
ReadsNothing = IsReading [] (Ok [])

abbrev pub ReadsBoundedList : Type 0
ReadsBoundedList = IsReading (line (codes "object a bounded list (integer) limit 3 [4, 4]")) (Ok (bounded_list ∷ []))

abbrev pub ReadsListAndInteger : Type 0
ReadsListAndInteger = IsReading list_and_integer_text (Ok list_and_integer)
