use Rattle.std.proofs.Common.{◌≡◌, map, drop}
use Rattle.ac_calls.specs.declared.plains.PlainRow.{PlainRow}
use Rattle.ac_aggregate.specs.Values.{folded}
use Rattle.ac_aggregate.proofs.valuing.fold_all.Given as goal

abbrev pub invariant-loop-row : goal.invariant-loop-row
invariant-loop-row l =
    folded l.fold.by l.made (map (λ (r : PlainRow). r.value) (drop l.row-index l.rows)) ≡ folded l.fold.by l.fold.from (map (λ (r : PlainRow). r.value) l.rows)
