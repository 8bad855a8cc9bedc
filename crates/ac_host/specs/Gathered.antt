-- The tasks of a block in memory.
use Rattle.std.specs.Prelude.{List, map}
use Rattle.std.specs.Coded.{Coded, codes}
use Rattle.ac_history.specs.declared.code.TaskCode.{TaskCode}
use Rattle.ac_meaning.specs.TaskBlocks.{Task}

pub coded_task : Coded Task
coded_task = hlevel codes

abbrev pub code_of : List Task → List TaskCode
code_of tasks = map (λ (t : Task). t.code) tasks
