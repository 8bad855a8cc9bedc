use Rattle.std.proofs.Common.{sym, ◌∙◌}
use Rattle.ac_balance.specs.Walking.{first_name}
use Rattle.ac_balance.proofs.Walks.{leans_whole, leans_left, leans_first, lower_left}
use Rattle.ac_balance.proofs.walk.leftmost.Goals as goal

pub loop-next-init : goal.loop-next-init
loop-next-init g c = λ t h. leans_whole _ first_name t _ h

pub loop-next-smaller : goal.loop-next-smaller
loop-next-smaller g c = lower_left _ _ _ _ (c.loop-next.invariant c.requires.tree c.requires.stood) (sym c.left.ensures ∙ c.in-Some.is)

pub loop-next-preserved : goal.loop-next-preserved
loop-next-preserved g c = λ t h. leans_left _ t _ _ (c.loop-next.invariant t h) (sym c.left.ensures ∙ c.in-Some.is)

pub returns : goal.returns
returns g c = λ t h. leans_first _ t _ (c.loop-next.invariant t h) (sym c.left.ensures ∙ c.in_default.is)
