use Rattle.std.proofs.Common.{sym, ap, subst}
use Rattle.ac_pool.specs.Contents.{IsLive}
use Rattle.ac_model.specs.Containers.{Container}
use Rattle.std.proofs.Common.{length}
use Rattle.ac_tree.proofs.Judging.{both_none}
use Rattle.ac_tree.proofs.Standing.{some_name}
use Rattle.ac_tree.proofs.GraftedRows.{source_none, source_some, copied_none, copied_long}
use Rattle.ac_tree.proofs.tree.Tree.count_copied.Goals as goal

pub count_subtree-requires-clause-live : goal.count_subtree-requires-clause-live
count_subtree-requires-clause-live g c = λ b e.
    let i = c.self.inside in let o = c.args.self.now.object in let rows = ap (λ (x : Container _). x.object.rows) (sym c.self.view_is) in
    subst (λ n. IsLive i.links.nodes n) (some_name c.in-Some.name b e) (source_some i.links c.self.invariant.forest o rows c.args.top c.in-Some.name (both_none _ _ c.requires).0 c.in-Some.ensures).live

pub returns-in-None-clause-count : goal.returns-in-None-clause-count
returns-in-None-clause-count g c = λ depth.
    let i = c.self.inside in let o = c.args.self.now.object in let rows = ap (λ (x : Container _). x.object.rows) (sym c.self.view_is) in
    sym (ap length (copied_none i.links c.self.invariant.forest o rows c.args.top depth (source_none i.links c.self.invariant.forest o rows c.args.top c.requires c.in-None.ensures)))

pub returns-in-Some-clause-count : goal.returns-in-Some-clause-count
returns-in-Some-clause-count g c = λ depth.
    let i = c.self.inside in let o = c.args.self.now.object in let rows = ap (λ (x : Container _). x.object.rows) (sym c.self.view_is) in
    copied_long i.links c.self.invariant.forest o rows c.args.top c.in-Some.name depth c.count_subtree.result
    (source_some i.links c.self.invariant.forest o rows c.args.top c.in-Some.name (both_none _ _ c.requires).0 c.in-Some.ensures) c.count_subtree.ensures.count
