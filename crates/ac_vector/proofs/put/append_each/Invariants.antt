use Rattle.ac_vector.proofs.Appends.{Appending}
use Rattle.ac_vector.proofs.put.append_each.Given as goal

abbrev pub invariant-loop-value : goal.invariant-loop-value
invariant-loop-value g l = Appending l.fn.array l.fn.values.items l.value-iterator.rest.items l.array
