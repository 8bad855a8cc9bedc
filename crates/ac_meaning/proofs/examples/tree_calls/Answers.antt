use Rattle.std.proofs.Common.{refl}
use Rattle.std.specs.Fmt.{digits}
use Rattle.ac_rules.specs.Table.{rows_of, common_rows, tree_rows, tree_change_rows}
use Rattle.ac_rules.specs.Resolved.{resolve_simple}
use Rattle.ac_meaning.specs.Execution.{run, run_with, text_of}
use Rattle.ac_meaning.proofs.examples.tree_calls.Goals as goal

pub returns-clause-nodes_are_asked : goal.returns-clause-nodes_are_asked
unfolding digits rows_of common_rows tree_rows tree_change_rows resolve_simple run run_with text_of
returns-clause-nodes_are_asked c = refl

pub returns-clause-ways_lead_on : goal.returns-clause-ways_lead_on
unfolding digits rows_of common_rows tree_rows tree_change_rows resolve_simple run run_with text_of
returns-clause-ways_lead_on c = refl

pub returns-clause-nodes_are_changed : goal.returns-clause-nodes_are_changed
unfolding digits rows_of common_rows tree_rows tree_change_rows resolve_simple run run_with text_of
returns-clause-nodes_are_changed c = refl

pub returns-clause-subtrees_move : goal.returns-clause-subtrees_move
unfolding digits rows_of common_rows tree_rows tree_change_rows resolve_simple run run_with text_of
returns-clause-subtrees_move c = refl

pub returns-clause-trees_give_and_take : goal.returns-clause-trees_give_and_take
unfolding digits rows_of common_rows tree_rows tree_change_rows resolve_simple run run_with text_of
returns-clause-trees_give_and_take c = refl
