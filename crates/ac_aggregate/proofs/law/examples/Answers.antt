use Rattle.std.proofs.Common.{refl}
use Rattle.ac_aggregate.specs.Values.{value_of, truth_of, values_of}
use Rattle.ac_aggregate.proofs.law.examples.Goals as goal

pub returns-clause-doubles : goal.returns-clause-doubles
unfolding value_of truth_of values_of
returns-clause-doubles c = refl

pub returns-clause-sums : goal.returns-clause-sums
unfolding value_of truth_of values_of
returns-clause-sums c = refl

pub returns-clause-takes_away : goal.returns-clause-takes_away
unfolding value_of truth_of values_of
returns-clause-takes_away c = refl

pub returns-clause-compares_texts : goal.returns-clause-compares_texts
unfolding value_of truth_of values_of
returns-clause-compares_texts c = refl

pub returns-clause-compares_integers : goal.returns-clause-compares_integers
unfolding value_of truth_of values_of
returns-clause-compares_integers c = refl

pub returns-clause-evaluates_second : goal.returns-clause-evaluates_second
unfolding value_of truth_of values_of
returns-clause-evaluates_second c = refl

pub returns-clause-evaluates_first : goal.returns-clause-evaluates_first
unfolding value_of truth_of values_of
returns-clause-evaluates_first c = refl

pub returns-clause-passes_over : goal.returns-clause-passes_over
unfolding value_of truth_of values_of
returns-clause-passes_over c = refl

pub returns-clause-gives_too_much : goal.returns-clause-gives_too_much
unfolding value_of truth_of values_of
returns-clause-gives_too_much c = refl

pub returns-clause-least_of_none : goal.returns-clause-least_of_none
unfolding value_of truth_of values_of
returns-clause-least_of_none c = refl

pub returns-clause-nests : goal.returns-clause-nests
unfolding value_of truth_of values_of
returns-clause-nests c = refl

pub returns-clause-nests_by_generator : goal.returns-clause-nests_by_generator
unfolding value_of truth_of values_of
returns-clause-nests_by_generator c = refl

pub returns-clause-folds_past : goal.returns-clause-folds_past
unfolding value_of truth_of values_of
returns-clause-folds_past c = refl

pub returns-clause-multiplies_past : goal.returns-clause-multiplies_past
unfolding value_of truth_of values_of
returns-clause-multiplies_past c = refl
