use Rattle.std.proofs.Common.{ap, ◌∙◌}
use Rattle.ac_calls.specs.Holdings.{is_hashed}
use Rattle.ac_keyed_calls.proofs.map_rows.capacities.MapRowsWithCapacity.reserve_capacity.Goals as goal

pub reserve_capacity-requires : goal.reserve_capacity-requires
reserve_capacity-requires g c = g.met.M.MapKind.capacity_is ∙ ap is_hashed g.met.M.HashedMapKind.is_hashed
