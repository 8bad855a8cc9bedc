use Rattle.ac_objects.specs.World.{state_of}
use Rattle.ac_objects.proofs.ByHeads.{update_ended}
use Rattle.ac_objects.proofs.objects.Objects.leave_view.Goals as goal

pub returns-in-Update-clause-ended : goal.returns-in-Update-clause-ended
returns-in-Update-clause-ended c =
    update_ended c.args.key c.in-Update.update (state_of c.args.self.now) (state_of c.close_update.new.self) c.close_update.result c.allowed.result c.in-Update.is
    c.allowed.ensures c.close_update.ensures.ended
