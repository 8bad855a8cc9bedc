use Rattle.ac_objects.specs.World.{memory_of}
use Rattle.ac_objects.proofs.Visited.{count_told}
use Rattle.ac_objects.proofs.object.Object.live_nodes.Goals as goal

pub returns : goal.returns
returns c = count_told (memory_of c.args.self.now) c.visit.result c.visit.ensures
