use Rattle.std.proofs.Common.{ap, ◌∙◌}
use Rattle.std.specs.Prelude.{Option}
use Rattle.ac_base.specs.declared.value.Value.{Value}
use Rattle.ac_model.specs.Calls.{Look}
use Rattle.ac_objects.specs.World.{memory_of}
use Rattle.ac_objects.proofs.Visited.{agrees_there, element_told}
use Rattle.ac_objects.proofs.object.Object.refused_view.Goals as goal

pub visit-requires : goal.visit-requires
visit-requires c = agrees_there (memory_of c.args.self.now) c.args.at c.requires

pub returns : goal.returns
returns c = c.visit.ensures ∙ ap (λ (l : Look (Option Value)). l.reason) (element_told (memory_of c.args.self.now) c.args.at)
