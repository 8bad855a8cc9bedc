use Rattle.ac_objects.specs.World.{memory_of}
use Rattle.ac_objects.proofs.Visited.{agrees_there, next_number, next_agrees, next_steps}
use Rattle.ac_objects.proofs.object.Object.next_apart.Goals as goal

pub visit-requires : goal.visit-requires
visit-requires c = agrees_there (memory_of c.args.self.now) c.args.at c.requires

pub returns-clause-given : goal.returns-clause-given
returns-clause-given c = record {
  number = next_number c.args.backward c.args.at c.visit.result (memory_of c.args.self.now) c.visit.ensures;
  agrees = next_agrees c.args.backward c.args.at c.visit.result (memory_of c.args.self.now) c.visit.ensures;
}

pub returns-clause-next : goal.returns-clause-next
returns-clause-next c = next_steps c.args.backward c.args.at c.visit.result (memory_of c.args.self.now) c.visit.ensures
