use Rattle.std.proofs.Common.{◌≡◌, None, sym, ap, ◌∙◌, subst}
use Rattle.ac_model.specs.Calls.{IsAfter}
use Rattle.ac_model.specs.Containers.{Container}
use Rattle.ac_model.specs.Objects.{Object, plain}
use Rattle.ac_model.specs.Trees as trees
use Rattle.ac_model.specs.Trees.{tree_mark}
use Rattle.ac_tree.specs.TreeRows.{tree_object}
use Rattle.ac_tree.proofs.ReparentedRows.{live, children_joined, children_unmoved}
use Rattle.ac_tree.proofs.tree.Tree.move_below.Goals as goal

pub returns-then-is_same-clause-moved : goal.returns-then-is_same-clause-moved
returns-then-is_same-clause-moved g c =
    let i = c.self.inside in let view = ap (λ (x : Container _). x.object) c.self.view_is in let p = c.args.parent in let b = c.args.before in let q = c.args.source_parent in
    let none = subst (λ (x : Object _ _). (trees.splice_children_call (plain x) (tree_mark x p) (tree_mark x b) (tree_mark x q)).reason ≡ None) (sym view) c.requires in
    subst (λ (x : Object _ _). IsAfter x x (trees.splice_children_call (plain x) (tree_mark x p) (tree_mark x b) (tree_mark x q)).after) view
    (children_unmoved i.guards i.limit i.links c.self.invariant p b q none c.node_in-to.result c.node_in-from.result c.node_in-to.ensures c.node_in-from.ensures (c.is_same.ensures.0 c.if-is_same.true))

pub move_children-requires-clause-live : goal.move_children-requires-clause-live
move_children-requires-clause-live g c =
    let i = c.self.inside in let view = ap (λ (x : Container _). x.object) c.self.view_is in let p = c.args.parent in let b = c.args.before in let q = c.args.source_parent in
    let none = subst (λ (x : Object _ _). (trees.splice_children_call (plain x) (tree_mark x p) (tree_mark x b) (tree_mark x q)).reason ≡ None) (sym view) c.requires in
    λ a e. live i.guards i.limit i.links c.self.invariant p b q none a (sym c.node_in-from.ensures ∙ e)

pub invariant_of-self : goal.invariant_of-self
invariant_of-self g c =
    let i = c.self.inside in let view = ap (λ (x : Container _). x.object) c.self.view_is in let p = c.args.parent in let b = c.args.before in let q = c.args.source_parent in
    let none = subst (λ (x : Object _ _). (trees.splice_children_call (plain x) (tree_mark x p) (tree_mark x b) (tree_mark x q)).reason ≡ None) (sym view) c.requires in
    (children_joined i.guards i.limit i.links c.self.invariant p b q none c.move_children.new.links c.node_in-to.result c.place_in.result c.node_in-from.result c.node_in-to.ensures c.place_in.ensures c.node_in-from.ensures
    (λ e. let no = c.is_same.ensures.1 e in let miss = c.if-is_same.false in cc) c.move_children.ensures).tree

pub returns-clause-moved : goal.returns-clause-moved
returns-clause-moved g c =
    let i = c.self.inside in let view = ap (λ (x : Container _). x.object) c.self.view_is in let p = c.args.parent in let b = c.args.before in let q = c.args.source_parent in
    let none = subst (λ (x : Object _ _). (trees.splice_children_call (plain x) (tree_mark x p) (tree_mark x b) (tree_mark x q)).reason ≡ None) (sym view) c.requires in
    let r = children_joined i.guards i.limit i.links c.self.invariant p b q none c.move_children.new.links c.node_in-to.result c.place_in.result c.node_in-from.result c.node_in-to.ensures c.place_in.ensures c.node_in-from.ensures
    (λ e. let no = c.is_same.ensures.1 e in let miss = c.if-is_same.false in cc) c.move_children.ensures in
    subst (λ (x : Object _ _). IsAfter x (tree_object i.guards i.limit c.move_children.new.links) (trees.splice_children_call (plain x) (tree_mark x p) (tree_mark x b) (tree_mark x q)).after) view r.after

pub returns-clause-spare : goal.returns-clause-spare
returns-clause-spare g c =
    let i = c.self.inside in let view = ap (λ (x : Container _). x.object) c.self.view_is in let p = c.args.parent in let b = c.args.before in let q = c.args.source_parent in
    let none = subst (λ (x : Object _ _). (trees.splice_children_call (plain x) (tree_mark x p) (tree_mark x b) (tree_mark x q)).reason ≡ None) (sym view) c.requires in
    let r = children_joined i.guards i.limit i.links c.self.invariant p b q none c.move_children.new.links c.node_in-to.result c.place_in.result c.node_in-from.result c.node_in-to.ensures c.place_in.ensures c.node_in-from.ensures
    (λ e. let no = c.is_same.ensures.1 e in let miss = c.if-is_same.false in cc) c.move_children.ensures in
    r.spare ∙ ap (λ (x : Container _). x.spare) c.self.view_is
