use Rattle.std.proofs.Common.{subst}
use Rattle.ac_model.specs.Calls.{Changing, Same}
use Rattle.ac_model.specs.Containers.{Container}
use Rattle.ac_model.specs.Objects.{plain}
use Rattle.ac_setwork.specs.SetSeen.{room_call}
use Rattle.ac_hashed.proofs.set.as_set.HashedSetSetLike.room.Goals as goal

pub returns-clause-changed : goal.returns-clause-changed
returns-clause-changed g c =
    subst (λ (x : Container g.row.T.Denot). Changing Same (room_call c.args.gone c.args.more (plain x.object)) x.object c.room.new.self.object c.room.result) c.self.view_is c.room.ensures.changed
