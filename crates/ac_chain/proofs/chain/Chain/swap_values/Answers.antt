use Rattle.std.proofs.Common.{◌≡◌, sym, ap, ◌∙◌, subst}
use Rattle.ac_chain.specs.declared.links.Links.{Links}
use Rattle.ac_chain.specs.Rows.{IsLive, values_swapped}
use Rattle.ac_chain.specs.ChainFields.{IsChain}
use Rattle.ac_chain.proofs.Chains.{view_of, chain_sound}
use Rattle.ac_chain.proofs.Values.{exchanged_chain, exchanged_itself}
use Rattle.ac_chain.proofs.chain.Chain.swap_values.Goals as goal

pub invariant_of-self : goal.invariant_of-self
invariant_of-self g c =
    let l = c.self.inside.links in let a = c.args.a in let b = c.args.b in
    let ha = subst (λ x. IsLive x a) (sym c.self.view_is) c.requires.a in let hb = subst (λ x. IsLive x b) (sym c.self.view_is) c.requires.b in
    subst (λ (x : Links _). IsChain x) (sym c.exchange.ensures) (exchanged_chain l c.self.invariant a b ha hb).0

pub returns-clause-swapped : goal.returns-clause-swapped
returns-clause-swapped g c =
    let l = c.self.inside.links in let a = c.args.a in let b = c.args.b in
    let ha = subst (λ x. IsLive x a) (sym c.self.view_is) c.requires.a in let hb = subst (λ x. IsLive x b) (sym c.self.view_is) c.requires.b in
    subst (λ x. view_of c.exchange.new.self ≡ values_swapped x a b) c.self.view_is (ap (λ (x : Links _). view_of x) c.exchange.ensures ∙ (exchanged_chain l c.self.invariant a b ha hb).1)

pub returns-clause-itself : goal.returns-clause-itself
returns-clause-itself g c = λ same.
    let l = c.self.inside.links in let a = c.args.a in let b = c.args.b in
    let ha = subst (λ x. IsLive x a) (sym c.self.view_is) c.requires.a in
    ap (λ (x : Links _). view_of x) (c.exchange.ensures ∙ exchanged_itself l c.self.invariant a b ha same) ∙ c.self.view_is

pub returns-clause-sound : goal.returns-clause-sound
returns-clause-sound g c =
    let l = c.self.inside.links in let a = c.args.a in let b = c.args.b in
    let ha = subst (λ x. IsLive x a) (sym c.self.view_is) c.requires.a in let hb = subst (λ x. IsLive x b) (sym c.self.view_is) c.requires.b in
    chain_sound c.exchange.new.self (subst (λ (x : Links _). IsChain x) (sym c.exchange.ensures) (exchanged_chain l c.self.invariant a b ha hb).0)
