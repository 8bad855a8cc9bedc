use Rattle.std.proofs.Common.{ap, subst}
use Rattle.std.specs.Prelude.{IfOk, ◌≡◌, Some}
use Rattle.ac_model.specs.Calls.{Look}
use Rattle.ac_objects.specs.World.{memory_of}
use Rattle.ac_objects.proofs.Visited.{can_copy, element_told}
use Rattle.ac_objects.proofs.held.element_of.Goals as goal

pub visit-requires : goal.visit-requires
visit-requires c = can_copy (memory_of c.args.object.now) c.args.at c.requires.agree c.requires.stands

pub returns : goal.returns
returns c =
    subst (λ look. IfOk c.visit.result (λ value. look.answer ≡ Some value)) (element_told (memory_of c.args.object.now) c.args.at) c.visit.ensures
