use Rattle.std.proofs.Common.{true, false}
use Rattle.ac_syntax.specs.declared.kind.Kind.TheVariants as kind
use Rattle.ac_rules.specs.Table.{common_rows, counted_rows, sequence_rows, vector_rows, capacity_rows, list_rows, keyed_walk_rows, map_rows, ordered_rows, ordered_map_rows, set_rows, keyed_rows, ordered_set_rows, ordered_keyed_rows, tree_rows, tree_change_rows, holder_rows, queue_rows, priority_queue_rows}
use Rattle.ac_check.proofs.RowsOf.{of_kind, of_set}
use Rattle.ac_check.proofs.table.rows_of.Goals as goal

pub returns-in-Vector-default : goal.returns-in-Vector-default
unfolding common_rows counted_rows sequence_rows vector_rows capacity_rows
returns-in-Vector-default c = of_kind c.args.def.now kind.Vector c.in-Vector-default.is-0

pub returns-in-List-default : goal.returns-in-List-default
unfolding common_rows counted_rows sequence_rows list_rows
returns-in-List-default c = of_kind c.args.def.now kind.List c.in-List-default.is-0

pub returns-in-HashedMap-default : goal.returns-in-HashedMap-default
unfolding common_rows counted_rows keyed_walk_rows map_rows capacity_rows
returns-in-HashedMap-default c = of_kind c.args.def.now kind.HashedMap c.in-HashedMap-default.is-0

pub returns-in-OrderedMap-default : goal.returns-in-OrderedMap-default
unfolding common_rows counted_rows keyed_walk_rows map_rows ordered_rows ordered_map_rows
returns-in-OrderedMap-default c = of_kind c.args.def.now kind.OrderedMap c.in-OrderedMap-default.is-0

pub returns-in-HashedSet-false : goal.returns-in-HashedSet-false
unfolding common_rows counted_rows keyed_walk_rows set_rows keyed_rows capacity_rows
returns-in-HashedSet-false c = of_set c.args.def.now kind.HashedSet false c.in-HashedSet-false.is-0 c.in-HashedSet-false.is-1

pub returns-in-HashedSet-true : goal.returns-in-HashedSet-true
unfolding common_rows counted_rows keyed_walk_rows set_rows keyed_rows capacity_rows
returns-in-HashedSet-true c = of_set c.args.def.now kind.HashedSet true c.in-HashedSet-true.is-0 c.in-HashedSet-true.is-1

pub returns-in-OrderedSet-false : goal.returns-in-OrderedSet-false
unfolding common_rows counted_rows keyed_walk_rows set_rows ordered_rows ordered_set_rows keyed_rows ordered_keyed_rows
returns-in-OrderedSet-false c = of_set c.args.def.now kind.OrderedSet false c.in-OrderedSet-false.is-0 c.in-OrderedSet-false.is-1

pub returns-in-OrderedSet-true : goal.returns-in-OrderedSet-true
unfolding common_rows counted_rows keyed_walk_rows set_rows ordered_rows ordered_set_rows keyed_rows ordered_keyed_rows
returns-in-OrderedSet-true c = of_set c.args.def.now kind.OrderedSet true c.in-OrderedSet-true.is-0 c.in-OrderedSet-true.is-1

pub returns-in-Tree-default : goal.returns-in-Tree-default
unfolding common_rows tree_rows tree_change_rows
returns-in-Tree-default c = of_kind c.args.def.now kind.Tree c.in-Tree-default.is-0

pub returns-in-Holder-default : goal.returns-in-Holder-default
unfolding holder_rows
returns-in-Holder-default c = of_kind c.args.def.now kind.Holder c.in-Holder-default.is-0

pub returns-in-Queue-default : goal.returns-in-Queue-default
unfolding queue_rows
returns-in-Queue-default c = of_kind c.args.def.now kind.Queue c.in-Queue-default.is-0

pub returns-in-PriorityQueue-default : goal.returns-in-PriorityQueue-default
unfolding queue_rows priority_queue_rows
returns-in-PriorityQueue-default c = of_kind c.args.def.now kind.PriorityQueue c.in-PriorityQueue-default.is-0
