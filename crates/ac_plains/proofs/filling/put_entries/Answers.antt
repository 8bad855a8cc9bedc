use Rattle.ac_objects.specs.World.{state_of}
use Rattle.ac_plains.proofs.FillingRows.{of_tree}
use Rattle.ac_plains.proofs.filling.put_entries.Goals as goal

pub returns-in-Tree : goal.returns-in-Tree
returns-in-Tree c =
    of_tree c.args.kind c.args.rows.now (state_of c.args.objects.now) c.args.place c.put_nodes.result (state_of c.put_nodes.new.objects) c.in-Tree.is
    c.put_nodes.ensures
