use Rattle.ac_calls.specs.Arguments.{arguments_of}
use Rattle.ac_calls.specs.Replied.{told}
use Rattle.ac_objects.specs.World.{memory_of}
use Rattle.ac_objects.proofs.Edited.{all_agree_there, edit_called, edit_lasts}
use Rattle.ac_objects.proofs.held.call_object.Goals as goal

pub edit-requires : goal.edit-requires
edit-requires c = all_agree_there (memory_of c.args.object.now) c.args.frame.now.arguments c.requires.agree

pub returns-clause-called : goal.returns-clause-called
returns-clause-called c =
    edit_called c.args.object.now c.edit.new.object c.args.operation (arguments_of c.args.frame.now.arguments) (told c.edit.new.state.reply c.edit.result) c.edit.ensures

pub returns-clause-lasts : goal.returns-clause-lasts
returns-clause-lasts c =
    edit_lasts c.args.object.now c.edit.new.object c.args.operation (arguments_of c.args.frame.now.arguments) (told c.edit.new.state.reply c.edit.result) c.edit.ensures
