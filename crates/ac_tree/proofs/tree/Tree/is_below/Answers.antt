use Rattle.std.proofs.Common.{sym, ap, ◌∙◌}
use Rattle.ac_model.specs.Containers.{Container}
use Rattle.ac_model.specs.Letters.{name_of}
use Rattle.ac_model.specs.Objects.{plains}
use Rattle.ac_model.specs.Outline.{is_in, run_of}
use Rattle.ac_tree.specs.TreeCursors.{serial_in}
use Rattle.ac_tree.proofs.Judging.{at_node}
use Rattle.ac_tree.proofs.Looking.{node_live}
use Rattle.ac_tree.proofs.tree.Tree.is_below.Goals as goal

pub is_under-requires-clause-top : goal.is_under-requires-clause-top
is_under-requires-clause-top g c =
    let i = c.self.inside in let o = c.args.self.now.object in let rows = ap (λ (x : Container _). x.object.rows) (sym c.self.view_is) in
    node_live i.links c.self.invariant.forest o rows c.args.source_parent c.node_in.result c.requires.source c.node_in.ensures

pub is_under-requires-clause-live : goal.is_under-requires-clause-live
is_under-requires-clause-live g c =
    let i = c.self.inside in let o = c.args.self.now.object in let rows = ap (λ (x : Container _). x.object.rows) (sym c.self.view_is) in
    node_live i.links c.self.invariant.forest o rows c.args.parent c.node_in-2.result c.requires.parent c.node_in-2.ensures

pub returns : goal.returns
returns g c =
    let i = c.self.inside in let o = c.args.self.now.object in let rows = ap (λ (x : Container _). x.object.rows) (sym c.self.view_is) in
    let from = at_node i.links c.self.invariant.forest o rows c.args.source_parent c.requires.source in
    let at = at_node i.links c.self.invariant.forest o rows c.args.parent c.requires.parent in
    let source = ap serial_in c.node_in.ensures ∙ sym (ap name_of from.mark) in
    let node = ap serial_in c.node_in-2.ensures ∙ sym (ap name_of at.mark) in
    c.is_under.ensures ∙ (λ j. is_in (node j) (run_of (plains (sym rows j)) (source j)))
