use Rattle.std.proofs.Common.{◌≡◌, List, map, drop}
use Rattle.ac_calls.specs.declared.plains.PlainRow.{PlainRow}
use Rattle.ac_aggregate.specs.Answers.{bounds_view}
use Rattle.ac_aggregate.specs.Values.{element_of}
use Rattle.ac_aggregate.specs.Views.{asked}
use Rattle.ac_aggregate.proofs.Folds.{goes_on}
use Rattle.ac_aggregate.proofs.valuing.+values.Given as goal

abbrev pub invariant-fold_each-loop-row : goal.invariant-fold_each-loop-row
invariant-fold_each-loop-row l =
    let given_of = λ (rows : List PlainRow).
    map (λ v. element_of l.fn.plains (asked l.fn.source) (bounds_view l.fn.generators) v) (map (λ (r : PlainRow). r.value) rows) in
    goes_on l.fn.fold.by l.made (given_of (drop l.row-index l.all)) ≡ goes_on l.fn.fold.by l.fn.fold.from (given_of l.all)
