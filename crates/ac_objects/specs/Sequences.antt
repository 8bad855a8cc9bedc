-- A list or a vector of a script: the rows that it has, and which of the two it is.
use Rattle.ac_model.specs.Containers.{Container}
use Rattle.ac_calls.specs.Holdings.{SequenceKind}
use Rattle.ac_sequence_calls.specs.Sequences as sequences
use Rattle.ac_sequence_calls.specs.declared.sequence.Sequence as declared

abbrev pub Sequence : Type 0 → Type 0
Sequence T = declared.Sequence (Container T) (Container T)

abbrev pub rows_of : {T : Type 0} → Sequence T → Container T
rows_of s = sequences.by_kind (λ l. l) (λ v. v) s

abbrev pub kind_of : {T : Type 0} → Sequence T → SequenceKind
kind_of s = sequences.kind_of s
