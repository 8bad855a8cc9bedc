use Rattle.ac_balance.specs.Trees.{Tree}
use Rattle.ac_balance.specs.TreeFields.{high}
use Rattle.ac_balance.specs.Seeking.{Stood}
use Rattle.ac_balance.specs.Trails.{spot_at}
use Rattle.ac_balance.proofs.Lowering.{Descends}
use Rattle.ac_balance.proofs.search.seek.Given as goal

abbrev pub invariant-loop-node : goal.invariant-loop-node
invariant-loop-node g l = (t : Tree _) → Stood l.nodes l.fn.root t → Descends l.nodes t (λ e. g.P.Probe.is_before l.probe e.key) (λ e. g.P.Probe.is_behind l.probe e.key) (spot_at l.nodes l.trail) l.fn.steps l.steps

abbrev pub decreases-loop-node : goal.decreases-loop-node
decreases-loop-node g l = high l.nodes (spot_at l.nodes l.trail).part
