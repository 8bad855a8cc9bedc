use Rattle.std.proofs.Common.{◌≡◌, sym, ◌∙◌, subst}
use Rattle.ac_balance.specs.Indexed.{IsThere, next_name}
use Rattle.ac_balance.specs.IndexFields.{rows_in}
use Rattle.ac_pool.proofs.Cuts.{live_has}
use Rattle.ac_balance.proofs.Indexes.{located, at_node, next_located}
use Rattle.ac_balance.proofs.index.OrderIndex.after.Goals as goal

pub successor-requires : goal.successor-requires
successor-requires g c =
    let l = c.self.inside.links in let a = c.args.name in
    at_node l (rows_in l) c.self.invariant.closed a (live_has a (rows_in l) (subst (λ x. IsThere x a) (sym c.self.view_is) c.requires))

pub returns : goal.returns
returns g c =
    let l = c.self.inside.links in let a = c.args.name in let k = c.self.invariant.closed in
    let p = located l (rows_in l) k a (live_has a (rows_in l) (subst (λ x. IsThere x a) (sym c.self.view_is) c.requires)) in
    subst (λ x. c.successor.result ≡ next_name x a) c.self.view_is (c.successor.ensures p.steps p.left p.row p.right p.placed ∙ sym (next_located l k.tree a (rows_in l) p))
