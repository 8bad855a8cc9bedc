use Rattle.std.proofs.Common.{◌≡◌, sym, ap, ◌∙◌, subst}
use Rattle.std.specs.Option.{ForSome}
use Rattle.ac_pool.specs.Contents.{added}
use Rattle.ac_chain.specs.declared.links.Links.{Links}
use Rattle.ac_base.specs.Rows.{row}
use Rattle.ac_pool.specs.Link.{link_of}
use Rattle.ac_chain.specs.Rows.{IsLive, inserted, IsFresh}
use Rattle.ac_chain.specs.ChainFields.{node_with, links, link_before, attached, IsChain}
use Rattle.ac_chain.proofs.Chains.{view_of, inserted_chain, fresh_name, chain_sound}
use Rattle.ac_chain.proofs.chain.Chain.insert_before.Goals as goal

pub invariant_of-self : goal.invariant_of-self
invariant_of-self g c =
    let l = c.self.inside.links in let put = c.put_reserved-name in let place = c.args.place in let a = put.result in
    let h = subst (λ x. ForSome place (IsLive x)) (sym c.self.view_is) c.requires.place in
    let is : put.new.self ≡ added l.nodes a (node_with c.args.v (link_before l place) (link_of place)) = put.ensures.added ∙ (λ i. added l.nodes a (node_with c.args.v (c.link_before-before.ensures i) (c.link_to.ensures i))) in
    let whole : c.attach.new.self ≡ attached (links put.new.self l.first l.last) (link_before l place) place a = c.attach.ensures ∙ ap (λ k. attached (links put.new.self l.first l.last) k place a) c.link_before-before.ensures in
    subst (λ (x : Links _). IsChain x) (sym whole) (inserted_chain l c.self.invariant place h a c.args.v put.new.self put.ensures.fresh is put.ensures.sound).0

pub returns-clause-fresh : goal.returns-clause-fresh
returns-clause-fresh g c =
    let l = c.self.inside.links in let put = c.put_reserved-name in
    subst (λ x. IsFresh x put.result) c.self.view_is (fresh_name l c.self.invariant put.result (node_with c.args.v c.link_before-before.result c.link_to.result) put.new.self put.ensures.fresh put.ensures.added put.ensures.sound)

pub returns-clause-inserted : goal.returns-clause-inserted
returns-clause-inserted g c =
    let l = c.self.inside.links in let put = c.put_reserved-name in let place = c.args.place in let a = put.result in
    let h = subst (λ x. ForSome place (IsLive x)) (sym c.self.view_is) c.requires.place in
    let is : put.new.self ≡ added l.nodes a (node_with c.args.v (link_before l place) (link_of place)) = put.ensures.added ∙ (λ i. added l.nodes a (node_with c.args.v (c.link_before-before.ensures i) (c.link_to.ensures i))) in
    let whole : c.attach.new.self ≡ attached (links put.new.self l.first l.last) (link_before l place) place a = c.attach.ensures ∙ ap (λ k. attached (links put.new.self l.first l.last) k place a) c.link_before-before.ensures in
    subst (λ x. view_of c.attach.new.self ≡ inserted x place (row a c.args.v)) c.self.view_is
    (ap (λ (m : Links _). view_of m) whole ∙ (inserted_chain l c.self.invariant place h a c.args.v put.new.self put.ensures.fresh is put.ensures.sound).1)

pub returns-clause-sound : goal.returns-clause-sound
returns-clause-sound g c =
    let l = c.self.inside.links in let put = c.put_reserved-name in let place = c.args.place in let a = put.result in
    let h = subst (λ x. ForSome place (IsLive x)) (sym c.self.view_is) c.requires.place in
    let is : put.new.self ≡ added l.nodes a (node_with c.args.v (link_before l place) (link_of place)) = put.ensures.added ∙ (λ i. added l.nodes a (node_with c.args.v (c.link_before-before.ensures i) (c.link_to.ensures i))) in
    let whole : c.attach.new.self ≡ attached (links put.new.self l.first l.last) (link_before l place) place a = c.attach.ensures ∙ ap (λ k. attached (links put.new.self l.first l.last) k place a) c.link_before-before.ensures in
    chain_sound c.attach.new.self (subst (λ (x : Links _). IsChain x) (sym whole) (inserted_chain l c.self.invariant place h a c.args.v put.new.self put.ensures.fresh is put.ensures.sound).0)
