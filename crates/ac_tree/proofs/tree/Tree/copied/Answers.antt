use Rattle.std.proofs.Common.{sym, ap, ◌∙◌, reverse}
use Rattle.ac_base.specs.Rows.{values}
use Rattle.ac_model.specs.Containers.{Container}
use Rattle.ac_tree.specs.Copying.{nodes_in}
use Rattle.ac_tree.proofs.Judging.{both_none}
use Rattle.ac_tree.proofs.Subtrees.{if_copied}
use Rattle.ac_tree.proofs.GraftedRows.{source_none, source_some, copied_none, copied_there}
use Rattle.ac_tree.proofs.tree.Tree.copied.Goals as goal

pub copied_subtree-requires-clause-live : goal.copied_subtree-requires-clause-live
copied_subtree-requires-clause-live g c =
    let i = c.self.inside in let o = c.args.self.now.object in let rows = ap (λ (x : Container _). x.object.rows) (sym c.self.view_is) in
    (source_some i.links c.self.invariant.forest o rows c.args.top c.in-Some.name (both_none _ _ c.requires.source).0 c.in-Some.ensures).live

pub returns-in-None-clause-copies : goal.returns-in-None-clause-copies
returns-in-None-clause-copies g c =
    let i = c.self.inside in let o = c.args.self.now.object in let rows = ap (λ (x : Container _). x.object.rows) (sym c.self.view_is) in
    ap (λ z. nodes_in (reverse z)) c.new.ensures.items
    ∙ sym (ap values (copied_none i.links c.self.invariant.forest o rows c.args.top c.args.first (source_none i.links c.self.invariant.forest o rows c.args.top c.requires.source c.in-None.ensures)))

pub returns-in-Some-clause-copies : goal.returns-in-Some-clause-copies
returns-in-Some-clause-copies g c =
    let i = c.self.inside in let o = c.args.self.now.object in let rows = ap (λ (x : Container _). x.object.rows) (sym c.self.view_is) in
    let at = source_some i.links c.self.invariant.forest o rows c.args.top c.in-Some.name (both_none _ _ c.requires.source).0 c.in-Some.ensures in
    if_copied _ _ c.copied_subtree.result (λ made h. copied_there i.links c.self.invariant.forest o rows c.args.top c.in-Some.name c.args.first made.items at h) c.copied_subtree.ensures.copies
