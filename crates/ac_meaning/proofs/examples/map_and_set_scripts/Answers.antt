use Rattle.std.proofs.Common.{refl}
use Rattle.std.specs.Fmt.{digits}
use Rattle.ac_base.specs.Growth.{pow8}
use Rattle.ac_rules.specs.Table.{rows_of, common_rows, counted_rows, capacity_rows, keyed_walk_rows, map_rows, set_rows, ordered_rows, ordered_map_rows, ordered_set_rows}
use Rattle.ac_rules.specs.Resolved.{resolve_simple}
use Rattle.ac_meaning.specs.Execution.{run, run_with, text_of}
use Rattle.ac_meaning.proofs.examples.map_and_set_scripts.Goals as goal

pub returns-clause-maps_keep_arrival : goal.returns-clause-maps_keep_arrival
unfolding digits pow8 rows_of common_rows counted_rows capacity_rows keyed_walk_rows map_rows resolve_simple run run_with text_of
returns-clause-maps_keep_arrival c = refl

pub returns-clause-sets_stand_ascending : goal.returns-clause-sets_stand_ascending
unfolding digits rows_of common_rows counted_rows keyed_walk_rows set_rows ordered_rows ordered_set_rows resolve_simple run run_with text_of
returns-clause-sets_stand_ascending c = refl

pub returns-clause-ordered_maps_have_ends : goal.returns-clause-ordered_maps_have_ends
unfolding digits rows_of common_rows counted_rows keyed_walk_rows map_rows ordered_rows ordered_map_rows resolve_simple run run_with text_of
returns-clause-ordered_maps_have_ends c = refl

pub returns-clause-sets_are_guarded_whole : goal.returns-clause-sets_are_guarded_whole
unfolding digits pow8 rows_of common_rows counted_rows capacity_rows keyed_walk_rows set_rows resolve_simple run run_with text_of
returns-clause-sets_are_guarded_whole c = refl

pub returns-clause-sets_are_joined : goal.returns-clause-sets_are_joined
unfolding digits pow8 rows_of common_rows counted_rows capacity_rows keyed_walk_rows set_rows resolve_simple run run_with text_of
returns-clause-sets_are_joined c = refl

pub returns-clause-sets_meet_themselves : goal.returns-clause-sets_meet_themselves
unfolding digits rows_of common_rows counted_rows keyed_walk_rows set_rows ordered_rows ordered_set_rows resolve_simple run run_with text_of
returns-clause-sets_meet_themselves c = refl
