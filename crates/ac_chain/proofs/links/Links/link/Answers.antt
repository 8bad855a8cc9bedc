use Rattle.std.proofs.Common.{Some, ◌∙◌}
use Rattle.ac_chain.specs.ChainFields.{with_prev, with_links}
use Rattle.ac_chain.proofs.Writes.{linked_before-is}
use Rattle.ac_chain.proofs.links.Links.link.Goals as goal

pub returns : goal.returns
returns g c =
    let l = c.args.self.now in let place = c.args.place in let a = c.args.moved in let before = c.before-before.result in
    c.set_prev.ensures
    ∙ (λ i. with_prev ((c.set_links.ensures ∙ (λ j. with_links (c.set_next.ensures j) a (c.link_to.ensures j) (c.link_to-2.ensures j))) i) place (Some a))
    ∙ linked_before-is l place a before c.before-before.ensures
