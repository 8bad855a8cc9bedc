use Rattle.std.proofs.Common.{◌∙◌}
use Rattle.ac_meaning.specs.TaskBlocks as meant
use Rattle.ac_host.proofs.Gathering.{same_first, same_call}
use Rattle.ac_host.proofs.task_code.step_of_call.Goals as goal

pub returns : goal.returns
returns c =
    let places = c.args.places.now in
    let first = c.args.first in
    c.call_step.ensures
    ∙ (same_call places first c.args.line c.in_ok-queue.queue c.in_ok-into.into c.in_ok-item.item c.args.operation
    ∙ (λ i. meant.call_step places first c.args.line (c.in_ok-queue.ensures i) (c.in_ok-into.ensures i)
    ((c.in_ok-item.ensures ∙ same_first places first c.args.args.now) i) c.args.operation))
