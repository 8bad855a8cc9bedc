use Rattle.ac_tree.proofs.Subtrees.{if_copied, subtree_part, subtree_copied, subtree_is, subtree_forest}
use Rattle.ac_tree.proofs.grafting.copied_subtree.Goals as goal

pub copied_part-requires-clause-part : goal.copied_part-requires-clause-part
copied_part-requires-clause-part g c =
    subtree_part c.args.links.now c.requires.forest c.args.top c.requires.live c.count_subtree-count.result c.depth-level.result c.count_subtree-count.ensures.count c.depth-level.ensures.depth

pub returns-clause-copies : goal.returns-clause-copies
returns-clause-copies g c =
    let l = c.args.links.now in let s = c.requires.forest in let a = c.args.top in let live = c.requires.live in let n = c.count_subtree-count.result in let d = c.depth-level.result in let f = c.args.first in
    let k = subtree_part l s a live n d c.count_subtree-count.ensures.count c.depth-level.ensures.depth in
    if_copied _ _ c.copied_part.result (λ made h. subtree_is l s a live f made.items (subtree_copied l s a live n d f c.count_subtree-count.ensures.count c.depth-level.ensures.depth made.items h)) (c.copied_part.ensures k)

pub returns-clause-forest : goal.returns-clause-forest
returns-clause-forest g c =
    let l = c.args.links.now in let s = c.requires.forest in let a = c.args.top in let live = c.requires.live in let n = c.count_subtree-count.result in let d = c.depth-level.result in let f = c.args.first in
    let k = subtree_part l s a live n d c.count_subtree-count.ensures.count c.depth-level.ensures.depth in
    if_copied _ _ c.copied_part.result (λ made h. subtree_forest l s a live f made.items (subtree_copied l s a live n d f c.count_subtree-count.ensures.count c.depth-level.ensures.depth made.items h)) (c.copied_part.ensures k)
