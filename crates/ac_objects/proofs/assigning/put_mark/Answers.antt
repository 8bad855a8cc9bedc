use Rattle.std.proofs.Common.{refl}
use Rattle.ac_objects.proofs.Names.{sets_mark}
use Rattle.ac_meaning.proofs.Places.{seen_there}
use Rattle.ac_objects.proofs.assigning.put_mark.Goals as goal

pub returns-in-Some : goal.returns-in-Some
returns-in-Some c =
    let here = c.in-Some in
    let bs = c.args.bounds.now.items in
    sets_mark bs c.args.place c.args.cursor here.bound.now c.mark.new.bound
    (seen_there bs bs c.args.place here.bound.now here.bound.now refl here.ensures.item.3.0 here.ensures.value refl) c.mark.ensures
