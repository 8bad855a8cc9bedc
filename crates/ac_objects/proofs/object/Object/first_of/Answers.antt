use Rattle.ac_objects.specs.World.{memory_of}
use Rattle.ac_objects.proofs.Visited.{first_number, first_agrees, first_named, first_marked}
use Rattle.ac_objects.proofs.object.Object.first_of.Goals as goal

pub returns-clause-given : goal.returns-clause-given
returns-clause-given c = record {
  number = first_number c.args.backward c.visit.result (memory_of c.args.self.now) c.visit.ensures;
  agrees = first_agrees c.args.backward c.visit.result (memory_of c.args.self.now) c.visit.ensures;
}

pub returns-clause-named : goal.returns-clause-named
returns-clause-named c = first_named c.args.backward c.visit.result (memory_of c.args.self.now) c.visit.ensures

pub returns-clause-first : goal.returns-clause-first
returns-clause-first c = first_marked c.args.backward c.visit.result (memory_of c.args.self.now) c.visit.ensures
