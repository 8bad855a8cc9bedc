use Rattle.ac_script.proofs.Readings.{opens_on}
use Rattle.ac_script.proofs.reading.after.Goals as goal

pub returns-in-Opens : goal.returns-in-Opens
returns-in-Opens c = rw c.in-Opens.is (opens_on c.enter.result c.args.open_blocks.now.items c.enter.new.open_blocks.items c.args.stage _ c.enter.ensures.block c.enter.ensures.task)
