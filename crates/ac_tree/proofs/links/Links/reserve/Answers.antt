use Rattle.std.proofs.Common.{◌≡◌}
use Rattle.ac_pool.specs.Contents.{reserved}
use Rattle.ac_chain.proofs.Chains.{on_ok}
use Rattle.ac_tree.specs.Inserting.{Reserves}
use Rattle.ac_tree.specs.TreeFields.{links}
use Rattle.ac_tree.proofs.Inserting.{reserved_is}
use Rattle.ac_tree.proofs.links.Links.reserve.Goals as goal

pub returns-clause-ok : goal.returns-clause-ok
returns-clause-ok g c =
    let l = c.args.self.now in let d = c.reserve.new.self in
    on_ok c.reserve.result (d ≡ reserved l.nodes c.args.n) (Reserves l c.args.n (links d l.first l.last)) (λ is t s. reserved_is l d c.args.n is c.reserve.ensures.sound t s) c.reserve.ensures.ok
