use Rattle.std.proofs.Common.{◌≡◌, ◌+◌, None, length, sym, ap, subst}
use Rattle.ac_model.specs.Calls.{IsAfter}
use Rattle.ac_model.specs.Containers.{Container}
use Rattle.ac_model.specs.Objects.{Object, plain, length_of}
use Rattle.ac_model.specs.Trees as trees
use Rattle.ac_model.specs.Trees.{needs_element, needs_node, tree_mark}
use Rattle.ac_tree.specs.Forests.{outline}
use Rattle.ac_tree.specs.TreeFields.{forest_in}
use Rattle.ac_tree.specs.TreeRows.{tree_object}
use Rattle.ac_tree.proofs.Looking.{node_live}
use Rattle.ac_tree.proofs.Deleting.{below_gone}
use Rattle.ac_tree.proofs.tree.Tree.take_below.Goals as goal

pub remove_below-requires-clause-live : goal.remove_below-requires-clause-live
remove_below-requires-clause-live g c =
    let i = c.self.inside in let o = c.args.self.now.object in let rows = ap (λ (x : Container _). x.object.rows) (sym c.self.view_is) in
    node_live i.links c.self.invariant.forest o rows c.args.parent c.node_in.result c.requires c.node_in.ensures

pub invariant_of-self : goal.invariant_of-self
invariant_of-self g c =
    let i = c.self.inside in let view = ap (λ (x : Container _). x.object) c.self.view_is in
    let needs = subst (λ (x : Object _ _). needs_node (plain x) (tree_mark x c.args.parent) ≡ None) (sym view) c.requires in
    let r = below_gone i.guards i.limit i.links c.remove_below.new.links c.self.invariant c.args.parent c.node_in.result needs c.node_in.ensures c.remove_below.ensures in
    r.tree

pub returns-clause-gone : goal.returns-clause-gone
returns-clause-gone g c =
    let i = c.self.inside in let view = ap (λ (x : Container _). x.object) c.self.view_is in
    let needs = subst (λ (x : Object _ _). needs_node (plain x) (tree_mark x c.args.parent) ≡ None) (sym view) c.requires in
    let r = below_gone i.guards i.limit i.links c.remove_below.new.links c.self.invariant c.args.parent c.node_in.result needs c.node_in.ensures c.remove_below.ensures in
    subst (λ (x : Object _ _). IsAfter x (tree_object i.guards i.limit c.remove_below.new.links) (trees.delete_children_call (plain x) (tree_mark x c.args.parent)).after) view r.after

pub returns-clause-slots : goal.returns-clause-slots
returns-clause-slots g c =
    let i = c.self.inside in let view = ap (λ (x : Container _). x.object) c.self.view_is in
    let needs = subst (λ (x : Object _ _). needs_node (plain x) (tree_mark x c.args.parent) ≡ None) (sym view) c.requires in
    let r = below_gone i.guards i.limit i.links c.remove_below.new.links c.self.invariant c.args.parent c.node_in.result needs c.node_in.ensures c.remove_below.ensures in
    subst (λ (x : Container _). length (outline 2 (forest_in c.remove_below.new.links)) + c.remove_below.new.links.nodes.spare ≡ length_of x.object + x.spare) c.self.view_is r.slots
