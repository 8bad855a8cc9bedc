use Rattle.ac_objects.specs.World.{memory_of}
use Rattle.ac_objects.proofs.Edited.{edit_wrote, edit_wrote_lasts}
use Rattle.ac_objects.proofs.Visited.{agrees_there}
use Rattle.ac_objects.proofs.held.write_element.Goals as goal

pub edit-requires : goal.edit-requires
edit-requires c = agrees_there (memory_of c.args.object.now) c.args.at c.requires.agree

pub returns-clause-written : goal.returns-clause-written
returns-clause-written c = edit_wrote c.args.object.now c.edit.new.object c.args.at c.args.value c.edit.result c.requires.agree c.edit.ensures

pub returns-clause-lasts : goal.returns-clause-lasts
returns-clause-lasts c = edit_wrote_lasts c.args.object.now c.edit.new.object c.args.at c.args.value c.edit.result c.edit.ensures
