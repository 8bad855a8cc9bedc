use Rattle.std.proofs.Common.{◌≡◌, Some, sym, ap, ◌∙◌, subst, is_some}
use Rattle.std.specs.Option.{option_copied}
use Rattle.ac_pool.specs.Contents as pool
use Rattle.ac_chain.specs.Rows.{IsLive, value_of}
use Rattle.ac_chain.specs.ChainFields.{rows_in}
use Rattle.ac_chain.proofs.Chains.{value_at, live_in, copied_some}
use Rattle.ac_chain.proofs.chain.Chain.at.Goals as goal

pub unwrap-requires : goal.unwrap-requires
unwrap-requires g c =
    let l = c.self.inside.links in let a = c.args.name in
    sym (copied_some c.get.result) ∙ ap is_some c.get.ensures ∙ live_in l c.self.invariant a (subst (λ x. IsLive x a) (sym c.self.view_is) c.requires)

pub returns : goal.returns
returns g c =
    let l = c.self.inside.links in let a = c.args.name in
    let is : pool.value_of l.nodes a ≡ Some c.unwrap.result.now = sym c.get.ensures ∙ ap option_copied c.unwrap.ensures in
    record { value = subst (λ x. Some c.unwrap.result.now.value ≡ value_of x a) c.self.view_is (value_at l (rows_in l) l.nodes.next_serial l.nodes.spare c.self.invariant a c.unwrap.result.now is) }
