use Rattle.std.proofs.Common.{◌<◌, refl, sym, ap, subst, ◌∙◌}
use Rattle.ac_pool.specs.Link.{name_in}
use Rattle.ac_tree.specs.Walking.{Passes}
use Rattle.ac_tree.proofs.Counting.{node_depth}
use Rattle.ac_tree.proofs.Following.{Climbs, climbs_start, climbs_hit, climbs_more, climbs_end, climb_less, no_link}
use Rattle.ac_tree.proofs.preorder.past.Goals as goal

pub loop-place-init : goal.loop-place-init
loop-place-init g c = climbs_start c.args.links.now c.args.top c.args.name c.requires.live

pub returns-then-leads : goal.returns-then-leads
returns-then-leads g c =
    let l = c.args.links.now in let k = subst (λ p. Climbs l c.args.top c.args.name p) c.in-Some.is c.loop-place.invariant in
    climbs_hit l c.args.top c.args.name c.in-Some.here (name_in l.nodes c.next_link-sibling.result) k (ap (name_in l.nodes) c.next_link-sibling.ensures) (sym c.leads.ensures ∙ c.if-leads.true)

pub loop-place-smaller : goal.loop-place-smaller
loop-place-smaller g c =
    let l = c.args.links.now in let k = subst (λ p. Climbs l c.args.top c.args.name p) c.in-Some.is c.loop-place.invariant in
    subst (λ p. node_depth l c.above-place.result < node_depth l p) (sym c.in-Some.is) (climb_less l c.requires.forest c.in-Some.here (k.live c.in-Some.here refl) c.above-place.result c.above-place.ensures.parent)

pub loop-place-preserved : goal.loop-place-preserved
loop-place-preserved g c =
    let l = c.args.links.now in let k = subst (λ p. Climbs l c.args.top c.args.name p) c.in-Some.is c.loop-place.invariant in
    climbs_more l c.requires.forest c.args.top c.args.name c.in-Some.here (name_in l.nodes c.next_link-sibling.result) c.above-place.result k
    (ap (name_in l.nodes) c.next_link-sibling.ensures) (sym c.leads.ensures ∙ c.if-leads.false)
    c.above-place.ensures.top c.above-place.ensures.within c.above-place.ensures.parent

pub returns : goal.returns
returns g c =
    let l = c.args.links.now in
    subst (λ p. Passes l c.args.top c.args.name p) (sym (no_link l c.requires.forest))
    (climbs_end l c.args.top c.args.name (subst (λ p. Climbs l c.args.top c.args.name p) c.in_default.is c.loop-place.invariant))
