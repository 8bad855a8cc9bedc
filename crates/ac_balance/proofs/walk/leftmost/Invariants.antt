use Rattle.std.proofs.Common.{Some}
use Rattle.ac_balance.specs.Trees.{Tree}
use Rattle.ac_balance.specs.TreeFields.{high}
use Rattle.ac_balance.specs.Seeking.{Stood}
use Rattle.ac_balance.specs.Walking.{first_name}
use Rattle.ac_balance.proofs.Walks.{Leans}
use Rattle.ac_balance.proofs.walk.leftmost.Given as goal

abbrev pub invariant-loop-next : goal.invariant-loop-next
invariant-loop-next g l = (t : Tree _) → Stood l.nodes (Some l.fn.top) t → Leans l.nodes first_name t l.name

abbrev pub decreases-loop-next : goal.decreases-loop-next
decreases-loop-next g l = high l.nodes (Some l.name)
