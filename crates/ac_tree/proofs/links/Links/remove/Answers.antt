use Rattle.std.proofs.Common.{sym, ap, ◌∙◌}
use Rattle.ac_pool.specs.Contents.{taken}
use Rattle.ac_tree.specs.Forests.{bare}
use Rattle.ac_tree.specs.TreeFields.{parent_of, prev_of, next_of}
use Rattle.ac_tree.proofs.Forests.{links_at}
use Rattle.ac_tree.proofs.Leaves.{removed_is}
use Rattle.ac_tree.proofs.links.Links.remove.Goals as goal

pub returns : goal.returns
returns g c = λ steps x rest s e.
    let l = c.args.self.now in let k = links_at l steps x bare rest s in let u = c.close.new.self in let back = sym e in
    removed_is l steps x rest u c.take-node.new.self c.parent-parent.result c.prev-prev.result c.next-next.result s
    (c.parent-parent.ensures ∙ ap (parent_of l) back ∙ k.parent) (c.prev-prev.ensures ∙ ap (prev_of l) back ∙ k.prev) (c.next-next.ensures ∙ ap (next_of l) back ∙ k.next)
    c.close.ensures (c.take-node.ensures.taken ∙ ap (taken u.nodes) back) c.take-node.ensures.sound
