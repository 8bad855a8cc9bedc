use Rattle.std.proofs.Common.{◌≡◌, List, [], map, drop}
use Rattle.ac_calls.specs.declared.plains.PlainRow.{PlainRow}
use Rattle.ac_aggregate.specs.Answers.{givens_view}
use Rattle.ac_aggregate.specs.Values.{element_of, all_kept}
use Rattle.ac_aggregate.specs.Views.{asked}
use Rattle.ac_aggregate.proofs.Folds.{appended}
use Rattle.ac_aggregate.proofs.answering.listing.Given as goal

abbrev pub invariant-loop-row : goal.invariant-loop-row
invariant-loop-row l =
    let given_of = λ (rows : List PlainRow). map (λ v. element_of l.plains (asked l.source) [] v) (map (λ (r : PlainRow). r.value) rows) in
    appended (givens_view l.made.items) (given_of (drop l.row-index l.all)) ≡ all_kept (given_of l.all)
