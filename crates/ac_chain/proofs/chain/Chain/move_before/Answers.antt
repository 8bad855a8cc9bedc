use Rattle.std.proofs.Common.{◌≡◌, true, sym, ap, ◌∙◌, subst}
use Rattle.std.specs.Option.{ForSome}
use Rattle.ac_chain.specs.declared.links.Links.{Links}
use Rattle.ac_chain.specs.Rows.{IsLive, moved}
use Rattle.ac_chain.specs.ChainFields.{IsChain, linked_before, unlinked}
use Rattle.ac_chain.proofs.Chains.{view_of, chain_sound}
use Rattle.ac_chain.proofs.Moves.{moved_chain, moved_itself, moved_before_next, once_from}
use Rattle.ac_chain.proofs.chain.Chain.move_before.Goals as goal
use Rattle.ac_chain.proofs.chain.Chain.move_before.Goals.{then-is_same-via-then-is_same, then-is_same-via-else-is_same+then-is_same-2}

pub returns-then-is_same-clause-moved : goal.returns-then-is_same-clause-moved
returns-then-is_same-clause-moved g c =
    let now = c.args.self.now in let place = c.args.place in let a = c.args.name in
    elim c.then-is_same.branch [
      | then-is_same-via-then-is_same w ↦ sym (moved_itself now place a c.requires.name (c.is_same.ensures.0 w.if-is_same.true))
      | then-is_same-via-else-is_same+then-is_same-2 w ↦
          sym (moved_before_next now place a (once_from now.rows c.next-next.ensures.sound.once) c.requires.name (w.is_same-else-is_same.ensures.0 w.if-is_same-2.true ∙ c.next-next.ensures.name))
    ]

pub invariant_of-self : goal.invariant_of-self
invariant_of-self g c =
    let l = c.self.inside.links in let place = c.args.place in let a = c.args.name in
    let hp = subst (λ x. ForSome place (IsLive x)) (sym c.self.view_is) c.requires.place in
    let ha = subst (λ x. IsLive x a) (sym c.self.view_is) c.requires.name in
    let is : c.link.new.self ≡ linked_before (unlinked l a) place a = c.link.ensures ∙ ap (λ (u : Links _). linked_before u place a) c.unlink.ensures in
    subst (λ (x : Links _). IsChain x) (sym is) (moved_chain l c.self.invariant place a hp ha (λ e. let no : c.is_same.result ≡ true = c.is_same.ensures.1 e in let yes = c.if-is_same.false in cc)).0

pub returns-clause-moved : goal.returns-clause-moved
returns-clause-moved g c =
    let l = c.self.inside.links in let place = c.args.place in let a = c.args.name in
    let hp = subst (λ x. ForSome place (IsLive x)) (sym c.self.view_is) c.requires.place in
    let ha = subst (λ x. IsLive x a) (sym c.self.view_is) c.requires.name in
    let is : c.link.new.self ≡ linked_before (unlinked l a) place a = c.link.ensures ∙ ap (λ (u : Links _). linked_before u place a) c.unlink.ensures in
    subst (λ x. view_of c.link.new.self ≡ moved x place a) c.self.view_is
    (ap (λ (x : Links _). view_of x) is ∙ (moved_chain l c.self.invariant place a hp ha (λ e. let no : c.is_same.result ≡ true = c.is_same.ensures.1 e in let yes = c.if-is_same.false in cc)).1)

pub returns-clause-sound : goal.returns-clause-sound
returns-clause-sound g c =
    let l = c.self.inside.links in let place = c.args.place in let a = c.args.name in
    let hp = subst (λ x. ForSome place (IsLive x)) (sym c.self.view_is) c.requires.place in
    let ha = subst (λ x. IsLive x a) (sym c.self.view_is) c.requires.name in
    let is : c.link.new.self ≡ linked_before (unlinked l a) place a = c.link.ensures ∙ ap (λ (u : Links _). linked_before u place a) c.unlink.ensures in
    chain_sound c.link.new.self (subst (λ (x : Links _). IsChain x) (sym is) (moved_chain l c.self.invariant place a hp ha (λ e. let no : c.is_same.result ≡ true = c.is_same.ensures.1 e in let yes = c.if-is_same.false in cc)).0)
