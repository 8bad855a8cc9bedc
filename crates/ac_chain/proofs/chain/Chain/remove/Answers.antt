use Rattle.std.proofs.Common.{◌≡◌, Some, is_some, sym, ap, ◌∙◌, subst}
use Rattle.ac_pool.specs.Contents as pool
use Rattle.ac_chain.specs.declared.links.Links.{Links}
use Rattle.ac_chain.specs.Rows.{IsLive, removed, value_of}
use Rattle.ac_chain.specs.ChainFields.{rows_in, IsChain}
use Rattle.ac_chain.proofs.Chains.{view_of, live_in, value_at, chain_sound}
use Rattle.ac_chain.proofs.TakenOut.{closed_chain}
use Rattle.ac_chain.proofs.chain.Chain.remove.Goals as goal

pub unwrap-value-requires : goal.unwrap-value-requires
unwrap-value-requires g c =
    let l = c.self.inside.links in let a = c.args.name in
    ap is_some c.take.ensures.value ∙ live_in l c.self.invariant a (subst (λ x. IsLive x a) (sym c.self.view_is) c.requires)

pub invariant_of-self : goal.invariant_of-self
invariant_of-self g c =
    let l = c.self.inside.links in let a = c.args.name in let n = c.unwrap-value.result in
    let h = subst (λ x. IsLive x a) (sym c.self.view_is) c.requires in
    let at : pool.value_of l.nodes a ≡ Some n = sym c.take.ensures.value ∙ c.unwrap-value.ensures in
    subst (λ (m : Links _). IsChain m) (sym c.close.ensures) (closed_chain l c.self.invariant a h n at c.take.new.self c.take.ensures.taken c.take.ensures.sound).0

pub returns-clause-value : goal.returns-clause-value
returns-clause-value g c =
    let l = c.self.inside.links in let a = c.args.name in let n = c.unwrap-value.result in
    let at : pool.value_of l.nodes a ≡ Some n = sym c.take.ensures.value ∙ c.unwrap-value.ensures in
    subst (λ x. Some n.value ≡ value_of x a) c.self.view_is (value_at l (rows_in l) l.nodes.next_serial l.nodes.spare c.self.invariant a n at)

pub returns-clause-removed : goal.returns-clause-removed
returns-clause-removed g c =
    let l = c.self.inside.links in let a = c.args.name in let n = c.unwrap-value.result in
    let h = subst (λ x. IsLive x a) (sym c.self.view_is) c.requires in
    let at : pool.value_of l.nodes a ≡ Some n = sym c.take.ensures.value ∙ c.unwrap-value.ensures in
    subst (λ x. view_of c.close.new.self ≡ removed x a) c.self.view_is
    (ap (λ (m : Links _). view_of m) c.close.ensures ∙ (closed_chain l c.self.invariant a h n at c.take.new.self c.take.ensures.taken c.take.ensures.sound).1)

pub returns-clause-sound : goal.returns-clause-sound
returns-clause-sound g c =
    let l = c.self.inside.links in let a = c.args.name in let n = c.unwrap-value.result in
    let h = subst (λ x. IsLive x a) (sym c.self.view_is) c.requires in
    let at : pool.value_of l.nodes a ≡ Some n = sym c.take.ensures.value ∙ c.unwrap-value.ensures in
    chain_sound c.close.new.self (subst (λ (m : Links _). IsChain m) (sym c.close.ensures) (closed_chain l c.self.invariant a h n at c.take.new.self c.take.ensures.taken c.take.ensures.sound).0)
