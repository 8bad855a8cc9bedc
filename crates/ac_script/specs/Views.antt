-- Items that were read as contracts see them.
use Rattle.std.specs.Prelude.{[]}
use Rattle.ac_syntax.specs.Code as code
use Rattle.ac_syntax.specs.Items as items
use Rattle.ac_syntax.specs.Order as order
use Rattle.ac_script.specs.declared.stage.Stage.{Stage}
use Rattle.ac_script.specs.declared.stage.Stage.TheVariants.{Fronting, Listing, Heading, Running, Tasking, Tasked, Preparing, Stepping, Catching}
use Rattle.ac_script.specs.declared.item.Command.{Command}
use Rattle.ac_script.specs.declared.item.Command.TheVariants.{Call, Set, Sum}
use Rattle.ac_script.specs.declared.item.Head.{Head}
use Rattle.ac_script.specs.declared.item.Head.TheVariants.{Loop, View, Stable, Declare, Tasks, Task}
use Rattle.ac_script.specs.declared.item.Item.{Item}
use Rattle.ac_script.specs.declared.item.Item.TheVariants.{Declares, Commands, Opens, Begins, Closes, Propagates, Tries, Catches}
use Rattle.ac_script.specs.Arguments.{argument_view}

abbrev pub command_view : Command → code.Simple
command_view (Call line target object op args) = code.call_at line target object op args
command_view (Set line target from) = code.set_at line target (argument_view from)
command_view (Sum line target from minus number) = code.sum_at line target from minus number

abbrev pub head_view : Head → code.Head
head_view (Loop line name elements backward object) = code.loop_at line name elements backward object
head_view (View line kind object at name) = code.view_at line kind object at name
head_view (Stable line object) = code.stable_at line object
head_view (Declare line) = code.declare_at line []
head_view (Tasks line) = code.tasks_at line
head_view (Task line name) = code.task_at line name []

abbrev pub item_view : Item → items.Item
item_view (Declares decl) = items.declares decl
item_view (Commands command) = items.commands (command_view command)
item_view (Opens head) = items.opens (head_view head)
item_view Begins = items.begins
item_view (Closes closing) = items.closes closing
item_view (Propagates line) = items.propagates line
item_view (Tries line) = items.tries line
item_view (Catches line exception) = items.catches line exception

abbrev pub stage_view : Stage → order.Stage
stage_view Fronting = order.fronting
stage_view Listing = order.listing
stage_view Heading = order.heading
stage_view Running = order.running
stage_view Tasking = order.tasking
stage_view Tasked = order.tasked
stage_view Preparing = order.preparing
stage_view Stepping = order.stepping
stage_view Catching = order.catching
