use Rattle.std.proofs.Common.{◌≡◌, None, sym, ap, ◌∙◌, subst}
use Rattle.ac_model.specs.Calls.{IsAfter}
use Rattle.ac_model.specs.Containers.{Container}
use Rattle.ac_model.specs.Objects.{Object, plain}
use Rattle.ac_model.specs.Trees as trees
use Rattle.ac_model.specs.Trees.{tree_mark, splice_subtree_reason}
use Rattle.ac_tree.specs.TreeRows.{tree_object}
use Rattle.ac_tree.proofs.SplicedRows.{relocated, unmoved}
use Rattle.ac_tree.proofs.tree.Tree.relocate.Goals as goal

pub returns-then-is_same-clause-moved : goal.returns-then-is_same-clause-moved
returns-then-is_same-clause-moved g c =
    let i = c.self.inside in let view = ap (λ (x : Container _). x.object) c.self.view_is in let p = c.args.parent in let b = c.args.before in let q = c.args.position in
    let none = subst (λ (x : Object _ _). splice_subtree_reason (plain x) (tree_mark x p) (tree_mark x b) (tree_mark x q) ≡ None) (sym view) c.requires in
    subst (λ (x : Object _ _). IsAfter x x (trees.splice_subtree_call (plain x) (tree_mark x p) (tree_mark x b) (tree_mark x q)).after) view
    (unmoved i.guards i.limit i.links c.self.invariant p b q none c.place_in-next.result c.name_in-name.result c.place_in-next.ensures c.name_in-name.ensures (c.is_same.ensures.0 c.if-is_same.true))

pub invariant_of-self : goal.invariant_of-self
invariant_of-self g c =
    let i = c.self.inside in let view = ap (λ (x : Container _). x.object) c.self.view_is in let p = c.args.parent in let b = c.args.before in let q = c.args.position in
    let none = subst (λ (x : Object _ _). splice_subtree_reason (plain x) (tree_mark x p) (tree_mark x b) (tree_mark x q) ≡ None) (sym view) c.requires in
    (relocated i.guards i.limit i.links c.self.invariant p b q none c.move_to.new.self c.node_in.result c.place_in-next.result c.name_in-name.result c.node_in.ensures c.place_in-next.ensures c.name_in-name.ensures
    (λ e. let no = c.is_same.ensures.1 e in let miss = c.if-is_same.false in cc) c.move_to.ensures).tree

pub returns-clause-moved : goal.returns-clause-moved
returns-clause-moved g c =
    let i = c.self.inside in let view = ap (λ (x : Container _). x.object) c.self.view_is in let p = c.args.parent in let b = c.args.before in let q = c.args.position in
    let none = subst (λ (x : Object _ _). splice_subtree_reason (plain x) (tree_mark x p) (tree_mark x b) (tree_mark x q) ≡ None) (sym view) c.requires in
    let r = relocated i.guards i.limit i.links c.self.invariant p b q none c.move_to.new.self c.node_in.result c.place_in-next.result c.name_in-name.result c.node_in.ensures c.place_in-next.ensures c.name_in-name.ensures
    (λ e. let no = c.is_same.ensures.1 e in let miss = c.if-is_same.false in cc) c.move_to.ensures in
    subst (λ (x : Object _ _). IsAfter x (tree_object i.guards i.limit c.move_to.new.self) (trees.splice_subtree_call (plain x) (tree_mark x p) (tree_mark x b) (tree_mark x q)).after) view r.after

pub returns-clause-spare : goal.returns-clause-spare
returns-clause-spare g c =
    let i = c.self.inside in let view = ap (λ (x : Container _). x.object) c.self.view_is in let p = c.args.parent in let b = c.args.before in let q = c.args.position in
    let none = subst (λ (x : Object _ _). splice_subtree_reason (plain x) (tree_mark x p) (tree_mark x b) (tree_mark x q) ≡ None) (sym view) c.requires in
    let r = relocated i.guards i.limit i.links c.self.invariant p b q none c.move_to.new.self c.node_in.result c.place_in-next.result c.name_in-name.result c.node_in.ensures c.place_in-next.ensures c.name_in-name.ensures
    (λ e. let no = c.is_same.ensures.1 e in let miss = c.if-is_same.false in cc) c.move_to.ensures in
    r.spare ∙ ap (λ (x : Container _). x.spare) c.self.view_is

pub returns-clause-kept : goal.returns-clause-kept
returns-clause-kept g c =
    let i = c.self.inside in let view = ap (λ (x : Container _). x.object) c.self.view_is in let p = c.args.parent in let b = c.args.before in let q = c.args.position in
    let none = subst (λ (x : Object _ _). splice_subtree_reason (plain x) (tree_mark x p) (tree_mark x b) (tree_mark x q) ≡ None) (sym view) c.requires in
    let r = relocated i.guards i.limit i.links c.self.invariant p b q none c.move_to.new.self c.node_in.result c.place_in-next.result c.name_in-name.result c.node_in.ensures c.place_in-next.ensures c.name_in-name.ensures
    (λ e. let no = c.is_same.ensures.1 e in let miss = c.if-is_same.false in cc) c.move_to.ensures in
    r.marks q ∙ ap (λ (x : Object _ _). tree_mark x q) view
