use Rattle.std.proofs.Common.{refl}
use Rattle.std.specs.Fmt.{digits}
use Rattle.ac_rules.specs.Table.{rows_of, common_rows, tree_rows, tree_change_rows}
use Rattle.ac_rules.specs.Resolved.{resolve_simple}
use Rattle.ac_meaning.specs.Execution.{run, run_with, text_of}
use Rattle.ac_meaning.proofs.examples.tree_scripts.Goals as goal

pub returns-clause-nodes_come_and_go : goal.returns-clause-nodes_come_and_go
unfolding digits rows_of common_rows tree_rows tree_change_rows resolve_simple run run_with text_of
returns-clause-nodes_come_and_go c = refl

pub returns-clause-subtrees_are_copied : goal.returns-clause-subtrees_are_copied
unfolding digits rows_of common_rows tree_rows tree_change_rows resolve_simple run run_with text_of
returns-clause-subtrees_are_copied c = refl

pub returns-clause-depths_are_compared : goal.returns-clause-depths_are_compared
unfolding digits rows_of common_rows tree_rows tree_change_rows resolve_simple run run_with text_of
returns-clause-depths_are_compared c = refl

pub returns-clause-tree_loops_hold_their_guards : goal.returns-clause-tree_loops_hold_their_guards
unfolding digits rows_of common_rows tree_rows tree_change_rows resolve_simple run run_with text_of
returns-clause-tree_loops_hold_their_guards c = refl

pub returns-clause-bounded_trees_are_full : goal.returns-clause-bounded_trees_are_full
unfolding digits rows_of common_rows tree_rows tree_change_rows resolve_simple run run_with text_of
returns-clause-bounded_trees_are_full c = refl

pub returns-clause-roots_are_no_nodes : goal.returns-clause-roots_are_no_nodes
unfolding digits rows_of common_rows tree_rows tree_change_rows resolve_simple run run_with text_of
returns-clause-roots_are_no_nodes c = refl
