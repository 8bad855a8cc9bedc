use Rattle.std.proofs.Common.{ap, ◌∙◌}
use Rattle.ac_queue.specs.Shared.{shared}
use Rattle.ac_objects.specs.World.{held_in}
use Rattle.ac_objects.proofs.CalledQueues.{queue_memory}
use Rattle.ac_objects.proofs.NewObjects.{of_queue_type}
use Rattle.ac_objects.proofs.new_objects.new_queue_object.Goals as goal

pub returns : goal.returns
returns c =
    let made = c.in_ok-queue in
    ap held_in (queue_memory (record { tag = c.args.tag; queue = made.queue })) ∙
    of_queue_type (shared made.queue) c.args.def.now c.args.tag c.args.limit c.requires.kind made.ensures
