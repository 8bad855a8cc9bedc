use Rattle.std.proofs.Common.{◌≡◌, ◌+◌, sym, ap, ◌∙◌, arith}
use Rattle.ac_model.specs.Objects.{plains}
use Rattle.ac_model.specs.Outline.{run_of}
use Rattle.std.proofs.Common.{length}
use Rattle.ac_tree.specs.Forests.{outline}
use Rattle.ac_tree.specs.TreeCursors.{serial_in}
use Rattle.ac_tree.specs.TreeFields.{forest_in}
use Rattle.ac_tree.proofs.Subtrees.{if_copied, below_part, below_copied, below_is, below_forest, none_copied}
use Rattle.ac_tree.proofs.grafting.copied_below.Goals as goal

pub returns-in_default-clause-copies : goal.returns-in_default-clause-copies
returns-in_default-clause-copies g c =
    let l = c.args.links.now in let s = c.requires.forest in let p = c.args.parent in let live = c.requires.live in
    below_is l s p live c.args.first c.new.result.items (none_copied l s p live c.args.first c.new.result.items c.new.ensures.items (sym c.first_child.ensures ∙ c.in_default.is))

pub returns-in_default-clause-forest : goal.returns-in_default-clause-forest
returns-in_default-clause-forest g c =
    let l = c.args.links.now in let s = c.requires.forest in let p = c.args.parent in let live = c.requires.live in
    below_forest l s p live c.args.first c.new.result.items (none_copied l s p live c.args.first c.new.result.items c.new.ensures.items (sym c.first_child.ensures ∙ c.in_default.is))

pub copied_part-requires-clause-part : goal.copied_part-requires-clause-part
copied_part-requires-clause-part g c =
    let l = c.args.links.now in let s = c.requires.forest in let p = c.args.parent in let live = c.requires.live in
    let count : c.saturating_sub-count.result ≡ length (run_of (plains (outline 2 (forest_in l))) (serial_in p)) = let a = c.count_subtree.ensures.count in let b = c.saturating_sub-count.ensures in omega (arith, a, b) in
    below_part l s p live c.in-Some.child c.saturating_sub-count.result (c.depth-level.result + 1) (sym c.in-Some.is ∙ c.first_child.ensures) count (ap (λ d. d + 1) c.depth-level.ensures.depth)

pub returns-clause-copies : goal.returns-clause-copies
returns-clause-copies g c =
    let l = c.args.links.now in let s = c.requires.forest in let p = c.args.parent in let live = c.requires.live in let f = c.args.first in let n = c.saturating_sub-count.result in let d = c.depth-level.result + 1 in
    let count : c.saturating_sub-count.result ≡ length (run_of (plains (outline 2 (forest_in l))) (serial_in p)) = let a = c.count_subtree.ensures.count in let b = c.saturating_sub-count.ensures in omega (arith, a, b) in
    let is = sym c.in-Some.is ∙ c.first_child.ensures in let level = ap (λ d. d + 1) c.depth-level.ensures.depth in
    if_copied _ _ c.copied_part.result (λ made h. below_is l s p live f made.items (below_copied l s p live c.in-Some.child n d f is count level made.items h)) (c.copied_part.ensures (below_part l s p live c.in-Some.child n d is count level))

pub returns-clause-forest : goal.returns-clause-forest
returns-clause-forest g c =
    let l = c.args.links.now in let s = c.requires.forest in let p = c.args.parent in let live = c.requires.live in let f = c.args.first in let n = c.saturating_sub-count.result in let d = c.depth-level.result + 1 in
    let count : c.saturating_sub-count.result ≡ length (run_of (plains (outline 2 (forest_in l))) (serial_in p)) = let a = c.count_subtree.ensures.count in let b = c.saturating_sub-count.ensures in omega (arith, a, b) in
    let is = sym c.in-Some.is ∙ c.first_child.ensures in let level = ap (λ d. d + 1) c.depth-level.ensures.depth in
    if_copied _ _ c.copied_part.result (λ made h. below_forest l s p live f made.items (below_copied l s p live c.in-Some.child n d f is count level made.items h)) (c.copied_part.ensures (below_part l s p live c.in-Some.child n d is count level))
