use Rattle.std.proofs.Common.{map, ap, ◌∙◌}
use Rattle.std.specs.List.{list_all}
use Rattle.ac_queue.specs.Shared.{shared}
use Rattle.ac_meaning.specs.TaskBlocks.{code_fits, is_ranked}
use Rattle.ac_host.proofs.StepsFit.{code_is_fit}
use Rattle.ac_host.proofs.prepared.prepared.Goals as goal

pub prepare-requires-clause-fits : goal.prepare-requires-clause-fits
prepare-requires-clause-fits c =
    let queues = map shared c.args.queues.items in
    code_is_fit queues c.in_ok-code.code.items
    (ap (list_all (code_fits (map is_ranked queues))) c.in_ok-code.ensures ∙ c.requires)
