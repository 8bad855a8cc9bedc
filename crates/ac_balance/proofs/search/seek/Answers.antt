use Rattle.std.proofs.Common.{option_copied, sym, ap, ◌∙◌}
use Rattle.ac_balance.specs.Trails.{spot_at}
use Rattle.ac_balance.proofs.Lowering.{starts_at, lies, goes_left, goes_right, meets, misses, shrinks_left, shrinks_right, few_left}
use Rattle.ac_balance.proofs.Probing.{before, behind, level}
use Rattle.ac_balance.proofs.Trails.{starts_from, met, unmet, answers_at, lowers_left, lowers_right}
use Rattle.ac_balance.proofs.search.seek.Goals as goal

pub loop-node-init : goal.loop-node-init
loop-node-init g c = λ t h. starts_at _ _ _ _ _ _ _ (ap (spot_at _) c.start-trail.ensures ∙ starts_from _ _ _ h) h

pub loop-node-smaller-in-Greater : goal.loop-node-smaller-in-Greater
loop-node-smaller-in-Greater g c =
    let m = met _ _ _ (sym c.node_in.ensures ∙ ap option_copied c.in-Some.is) in let k = lies _ _ _ _ _ _ _ _ m.leads (c.loop-node.invariant c.requires.tree c.requires.stood) in
    shrinks_left _ c.requires.stood.sound _ _ _ _ _ _ _ _ k (lowers_left _ c.loop-node.trail c.lower-trail.result _ m c.lower-trail.ensures)

pub loop-node-preserved-in-Greater : goal.loop-node-preserved-in-Greater
loop-node-preserved-in-Greater g c = λ t h.
    let m = met _ _ _ (sym c.node_in.ensures ∙ ap option_copied c.in-Some.is) in let k = lies _ _ _ _ _ _ _ _ m.leads (c.loop-node.invariant t h) in
    goes_left _ h.sound _ _ _ _ _ _ _ _ _ k (ap (λ n. g.P.Probe.is_behind c.args.probe n.value.key) (answers_at _ _ _ m k.node k.found) ∙ behind _ _ _ c.standing.ensures.standing c.in-Greater.is) c.standing.ensures.counted c.standing.ensures.few
    (lowers_left _ c.loop-node.trail c.lower-trail.result _ m c.lower-trail.ensures)

pub loop-node-smaller : goal.loop-node-smaller
loop-node-smaller g c =
    let m = met _ _ _ (sym c.node_in.ensures ∙ ap option_copied c.in-Some.is) in let k = lies _ _ _ _ _ _ _ _ m.leads (c.loop-node.invariant c.requires.tree c.requires.stood) in
    shrinks_right _ c.requires.stood.sound _ _ _ _ _ _ _ _ k (lowers_right _ c.loop-node.trail c.lower-trail-in-Less.result _ m c.lower-trail-in-Less.ensures)

pub loop-node-preserved : goal.loop-node-preserved
loop-node-preserved g c = λ t h.
    let m = met _ _ _ (sym c.node_in.ensures ∙ ap option_copied c.in-Some.is) in let k = lies _ _ _ _ _ _ _ _ m.leads (c.loop-node.invariant t h) in
    goes_right _ h.sound _ _ _ _ _ _ _ _ _ k (ap (λ n. g.P.Probe.is_before c.args.probe n.value.key) (answers_at _ _ _ m k.node k.found) ∙ before _ _ _ c.standing.ensures.standing c.in-Less.is) c.standing.ensures.counted c.standing.ensures.few
    (lowers_right _ c.loop-node.trail c.lower-trail-in-Less.result _ m c.lower-trail-in-Less.ensures)

pub returns-in-Equal-clause-found : goal.returns-in-Equal-clause-found
returns-in-Equal-clause-found g c = λ t h.
    let m = met _ _ _ (sym c.node_in.ensures ∙ ap option_copied c.in-Some.is) in let k = lies _ _ _ _ _ _ _ _ m.leads (c.loop-node.invariant t h) in
    let same = answers_at _ _ _ m k.node k.found in let both = level _ _ _ c.standing.ensures.standing c.in-Equal.is in
    meets _ _ _ _ _ _ _ _ k (ap (λ n. g.P.Probe.is_before c.args.probe n.value.key) same ∙ both.0) (ap (λ n. g.P.Probe.is_behind c.args.probe n.value.key) same ∙ both.1)

pub returns-in-Equal-clause-few : goal.returns-in-Equal-clause-few
returns-in-Equal-clause-few g c = λ t h.
    let m = met _ _ _ (sym c.node_in.ensures ∙ ap option_copied c.in-Some.is) in
    few_left _ _ _ _ _ _ _ _ _ (lies _ _ _ _ _ _ _ _ m.leads (c.loop-node.invariant t h)) c.standing.ensures.few

pub returns-clause-found : goal.returns-clause-found
returns-clause-found g c = λ t h.
    let d = c.loop-node.invariant t h in
    misses _ _ _ _ _ _ _ (unmet _ _ _ _ c.loop-node.trail _ _ d (sym c.node_in.ensures ∙ ap option_copied c.in_default.is)) d
