use Rattle.std.proofs.Common.{◌<◌, sym, subst, ◌∙◌}
use Rattle.ac_tree.proofs.Counting.{node_depth}
use Rattle.ac_tree.proofs.Following.{climbs_end}
use Rattle.ac_tree.proofs.Levels.{Climbs_at, level_start, level_hit, level_sibling, level_low, level_more, level_less}
use Rattle.ac_tree.proofs.copying.past_level.Goals as goal

pub loop-place-init : goal.loop-place-init
loop-place-init g c = level_start c.args.links.now c.args.name c.requires.live c.args.depth.now c.requires.depth

pub returns-then-is_some-clause-passes : goal.returns-then-is_some-clause-passes
returns-then-is_some-clause-passes g c =
    let l = c.args.links.now in let k = subst (λ p. Climbs_at l c.args.name p c.loop-place.depth) c.in-Some.is c.loop-place.invariant in
    level_hit l c.requires.forest c.args.name c.in-Some.here c.loop-place.depth k c.next-sibling.result c.next-sibling.ensures (sym c.is_some.ensures ∙ c.if-is_some.true)

pub returns-then-is_some-clause-level : goal.returns-then-is_some-clause-level
returns-then-is_some-clause-level g c =
    let l = c.args.links.now in let k = subst (λ p. Climbs_at l c.args.name p c.loop-place.depth) c.in-Some.is c.loop-place.invariant in
    level_sibling l c.requires.forest c.args.name c.in-Some.here c.loop-place.depth k c.next-sibling.result c.next-sibling.ensures

pub overflow_sub-depth : goal.overflow_sub-depth
overflow_sub-depth g c =
    let l = c.args.links.now in let k = subst (λ p. Climbs_at l c.args.name p c.loop-place.depth) c.in-Some.is c.loop-place.invariant in
    level_low l c.requires.forest c.args.name c.in-Some.here c.loop-place.depth k c.next-sibling.result c.next-sibling.ensures

pub loop-place-smaller : goal.loop-place-smaller
loop-place-smaller g c =
    let l = c.args.links.now in let k = subst (λ p. Climbs_at l c.args.name p c.loop-place.depth) c.in-Some.is c.loop-place.invariant in
    subst (λ p. node_depth l c.parent-place.result < node_depth l p) (sym c.in-Some.is)
    (level_less l c.requires.forest c.args.name c.in-Some.here c.loop-place.depth k c.next-sibling.result c.next-sibling.ensures c.parent-place.result c.parent-place.ensures)

pub loop-place-preserved : goal.loop-place-preserved
loop-place-preserved g c =
    let l = c.args.links.now in let k = subst (λ p. Climbs_at l c.args.name p c.loop-place.depth) c.in-Some.is c.loop-place.invariant in
    level_more l c.requires.forest c.args.name c.in-Some.here c.loop-place.depth k c.next-sibling.result c.next-sibling.ensures (sym c.is_some.ensures ∙ c.if-is_some.false) c.parent-place.result c.parent-place.ensures

pub returns-clause-passes : goal.returns-clause-passes
returns-clause-passes g c =
    let l = c.args.links.now in climbs_end l _ c.args.name (subst (λ p. Climbs_at l c.args.name p c.loop-place.depth) c.in_default.is c.loop-place.invariant).climbs
