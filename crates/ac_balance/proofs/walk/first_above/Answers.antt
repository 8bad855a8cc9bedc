use Rattle.std.proofs.Common.{refl, sym, ◌∙◌}
use Rattle.ac_balance.specs.Trees.{after}
use Rattle.ac_balance.specs.Walking.{first_name}
use Rattle.ac_balance.proofs.Walks.{rises_from, rises_falls, rises_out, meets_after, passes_after}
use Rattle.ac_balance.proofs.walk.first_above.Goals as goal

pub loop-above-init : goal.loop-above-init
loop-above-init g c = λ steps t p. rises_from _ after first_name _ steps t p

pub loop-above-smaller : goal.loop-above-smaller
loop-above-smaller g c = let n = c.requires in rises_falls _ _ _ _ _ _ (c.loop-above.invariant n.steps n.part n.placed) (sym c.parent.ensures ∙ c.in-Some.is)

pub loop-above-preserved : goal.loop-above-preserved
loop-above-preserved g c = λ steps t p. passes_after _ _ _ _ (c.loop-above.invariant steps t p) (sym c.parent.ensures ∙ c.in-Some.is) (sym c.is_on_left.ensures ∙ c.if-is_on_left.false)

pub returns-then-is_on_left : goal.returns-then-is_on_left
returns-then-is_on_left g c = λ steps t p. meets_after _ _ _ _ (c.loop-above.invariant steps t p) (sym c.parent.ensures ∙ c.in-Some.is) (sym c.is_on_left.ensures ∙ c.if-is_on_left.true)

pub returns : goal.returns
returns g c = λ steps t p. rises_out _ after first_name _ _ refl (c.loop-above.invariant steps t p) (sym c.parent.ensures ∙ c.in_default.is)
