use Rattle.std.proofs.Common.{ap, sym, ◌∙◌}
use Rattle.ac_meaning.specs.TaskBlocks.{is_ranked, queue_in}
use Rattle.ac_objects.proofs.InScope.{object_there}
use Rattle.ac_objects.proofs.objects.Objects.is_ranked.Goals as goal

pub returns-in-Some : goal.returns-in-Some
returns-in-Some c =
    let w = c.args.self.now in
    c.is_ranked.ensures
    ∙ ap (λ o. is_ranked (queue_in o)) (sym (object_there w.bounds w.counters c.args.place c.in-Some.object.now c.in-Some.ensures))

pub returns-in-None : goal.returns-in-None
returns-in-None c = ap (λ o. is_ranked (queue_in o)) (sym c.in-None.ensures)
