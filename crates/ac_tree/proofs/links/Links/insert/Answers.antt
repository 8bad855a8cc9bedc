use Rattle.std.proofs.Common.{◌≡◌, None, ap, subst, sym, ◌∙◌}
use Rattle.ac_pool.specs.Contents.{added}
use Rattle.ac_pool.specs.Link.{link_of}
use Rattle.ac_tree.specs.declared.links.Links.{Links}
use Rattle.ac_tree.specs.Inserting.{Inserted}
use Rattle.ac_tree.specs.TreeFields.{links, linked, node_with, prev_before, tied}
use Rattle.ac_tree.proofs.Inserting.{inserted_is}
use Rattle.ac_tree.proofs.links.Links.insert.Goals as goal

pub returns : goal.returns
returns g c = λ h.
    let l = c.args.self.now in let put = c.put_reserved-name in let p = c.args.parent in let b = c.args.before in let v = c.args.value in let a = put.result in
    let prev = c.prev_before-prev.ensures in
    let is : put.new.self ≡ added l.nodes a (linked v p None None (prev_before l p b) b) = put.ensures.added
    ∙ (λ i. added l.nodes a (node_with v (c.link_to.ensures i) (link_of None) (link_of None) ((c.link_to-2.ensures ∙ ap link_of prev) i) (c.link_to-3.ensures i))) in
    let whole : c.tie.new.self ≡ tied (links put.new.self l.first l.last) p (prev_before l p b) b a = c.tie.ensures ∙ ap (λ q. tied (links put.new.self l.first l.last) p q b a) prev in
    subst (λ (m : Links _). Inserted l p b h v m a) (sym whole) (inserted_is l p b h v a put.new.self put.ensures.fresh is put.ensures.sound)
