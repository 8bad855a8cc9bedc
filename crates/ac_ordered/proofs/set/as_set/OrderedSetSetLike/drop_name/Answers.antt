use Rattle.std.proofs.Common.{subst}
use Rattle.ac_model.specs.Calls.{IsAfter}
use Rattle.ac_model.specs.Containers.{Container}
use Rattle.ac_model.specs.Objects.{plain, with_rows}
use Rattle.ac_model.specs.Rows.{cut, place_of}
use Rattle.ac_ordered.proofs.set.as_set.OrderedSetSetLike.drop_name.Goals as goal

pub returns-clause-dropped : goal.returns-clause-dropped
returns-clause-dropped g c =
    subst (λ (x : Container g.row.T.Denot). IsAfter x.object c.drop_name.new.self.object (with_rows (plain x.object) (cut (plain x.object).rows (place_of (plain x.object).rows c.args.name.serial) 1))) c.self.view_is
    c.drop_name.ensures.dropped
