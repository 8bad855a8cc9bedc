use Rattle.ac_objects.specs.World.{state_of}
use Rattle.ac_plains.proofs.AtPlaces.{declared_there}
use Rattle.ac_plains.proofs.resuming.fill_at.Goals as goal

pub fill_object-requires : goal.fill_object-requires
fill_object-requires c =
    let o = c.in-Object in
    declared_there c.args.entry.now (state_of c.args.objects.now) c.args.place o.name o.def o.limit o.capacity o.peak o.rows c.items.result.now o.is c.items.ensures
    c.requires.valid c.requires.fresh c.requires.matched
