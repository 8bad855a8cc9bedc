use Rattle.std.proofs.Common.{◌≡◌, not, ◌&&◌, length, ◌∙◌, subst}
use Rattle.ac_balance.specs.Indexed.{first_where, FewSteps}
use Rattle.ac_balance.specs.Trails.{spot_at}
use Rattle.ac_balance.proofs.Indexes.{stood_root}
use Rattle.ac_balance.proofs.Searched.{sought, few_sought}
use Rattle.ac_balance.proofs.index.OrderIndex.find_by.Goals as goal

pub seek-found-requires : goal.seek-found-requires
seek-found-requires g c = record { tree = c.self.invariant.closed.tree; stood = stood_root g.K.Rank.is_less c.self.inside.links c.self.invariant }

pub returns-clause-name : goal.returns-clause-name
returns-clause-name g c =
    let s = c.self.invariant in let l = c.self.inside.links in
    subst (λ x. c.name_in.result ≡ first_where (λ y. not (g.P.Probe.is_before c.args.probe y) && not (g.P.Probe.is_behind c.args.probe y)) x) c.self.view_is
    (c.name_in.ensures ∙ (sought g.K.Rank.is_less l s _ _ (g.met.P.Probe.sided c.args.probe) (spot_at l.nodes c.seek-found.result) (c.seek-found.ensures.found s.closed.tree (stood_root g.K.Rank.is_less l s))).found)

pub returns-clause-few : goal.returns-clause-few
returns-clause-few g c =
    let s = c.self.invariant in let l = c.self.inside.links in
    subst (λ x. FewSteps (length x.rows) c.args.steps.now c.seek-found.new.steps) c.self.view_is
    (few_sought g.K.Rank.is_less l s _ _ c.seek-found.ensures.counted (c.seek-found.ensures.few s.closed.tree (stood_root g.K.Rank.is_less l s)))
