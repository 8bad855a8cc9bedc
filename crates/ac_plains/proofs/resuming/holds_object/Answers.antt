use Rattle.std.proofs.Common.{ap}
use Rattle.ac_objects.specs.World.{bound_of, held_of}
use Rattle.ac_plains.proofs.AtPlaces.{object_decided}
use Rattle.ac_plains.proofs.resuming.holds_object.Goals as goal

pub returns-then-is_same_type : goal.returns-then-is_same_type
returns-then-is_same_type c =
    object_decided (bound_of c.args.bound.now) (held_of c.in-Object.object) c.args.def.now c.args.limit c.told_of-told.result c.is_same_limit.result
    (ap bound_of c.in-Object.is) c.told_of-told.ensures (c.is_same_type.ensures.0 c.if-is_same_type.true) c.is_same_limit.ensures
