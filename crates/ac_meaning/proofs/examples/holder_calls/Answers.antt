use Rattle.std.proofs.Common.{refl}
use Rattle.std.specs.Fmt.{digits}
use Rattle.ac_rules.specs.Table.{rows_of, holder_rows}
use Rattle.ac_rules.specs.Resolved.{resolve_simple}
use Rattle.ac_meaning.specs.Execution.{run, run_with, text_of}
use Rattle.ac_meaning.proofs.examples.holder_calls.Goals as goal

pub returns-clause-holders_are_compared : goal.returns-clause-holders_are_compared
unfolding digits rows_of holder_rows resolve_simple run run_with text_of
returns-clause-holders_are_compared c = refl

pub returns-clause-holders_give_and_take : goal.returns-clause-holders_give_and_take
unfolding digits rows_of holder_rows resolve_simple run run_with text_of
returns-clause-holders_give_and_take c = refl

pub returns-clause-limits_are_of_both : goal.returns-clause-limits_are_of_both
unfolding digits rows_of holder_rows resolve_simple run run_with text_of
returns-clause-limits_are_of_both c = refl

pub returns-clause-holders_meet_themselves : goal.returns-clause-holders_meet_themselves
unfolding digits rows_of holder_rows resolve_simple run run_with text_of
returns-clause-holders_meet_themselves c = refl

pub returns-clause-guards_are_of_both : goal.returns-clause-guards_are_of_both
unfolding digits rows_of holder_rows resolve_simple run run_with text_of
returns-clause-guards_are_of_both c = refl
