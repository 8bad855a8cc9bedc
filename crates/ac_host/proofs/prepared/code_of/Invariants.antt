use Rattle.std.proofs.Common.{◌≡◌, take}
use Rattle.ac_host.specs.Gathered.{code_of}
use Rattle.ac_host.proofs.prepared.code_of.Given as goal

abbrev pub invariant-loop-task : goal.invariant-loop-task
invariant-loop-task l = l.made.items ≡ code_of (take l.task-index l.tasks)
