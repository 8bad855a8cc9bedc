use Rattle.std.proofs.Common.{◌≡◌, not, length, ◌∙◌, subst}
use Rattle.ac_balance.specs.Indexed.{last_where, FewSteps}
use Rattle.ac_balance.specs.Trails.{spot_at}
use Rattle.ac_balance.proofs.Indexes.{stood_root}
use Rattle.ac_balance.proofs.Searched.{sought, few_sought}
use Rattle.ac_balance.proofs.index.OrderIndex.floor_by.Goals as goal

pub seek-place-requires : goal.seek-place-requires
seek-place-requires g c = record { tree = c.self.invariant.closed.tree; stood = stood_root g.K.Rank.is_less c.self.inside.links c.self.invariant }

pub returns-clause-name : goal.returns-clause-name
returns-clause-name g c =
    let s = c.self.invariant in let l = c.self.inside.links in
    subst (λ x. c.either.result ≡ last_where (λ y. not (g.P.Probe.is_behind c.args.probe y)) x) c.self.view_is
    (c.either.ensures ∙ (sought g.K.Rank.is_less l s _ _ (g.met.P.Probe.sided c.args.probe) (spot_at l.nodes c.seek-place.result) (c.seek-place.ensures.found s.closed.tree (stood_root g.K.Rank.is_less l s))).floor)

pub returns-clause-few : goal.returns-clause-few
returns-clause-few g c =
    let s = c.self.invariant in let l = c.self.inside.links in
    subst (λ x. FewSteps (length x.rows) c.args.steps.now c.seek-place.new.steps) c.self.view_is
    (few_sought g.K.Rank.is_less l s _ _ c.seek-place.ensures.counted (c.seek-place.ensures.few s.closed.tree (stood_root g.K.Rank.is_less l s)))
