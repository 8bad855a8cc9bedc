use Rattle.std.proofs.Common.{◌≡◌, None, Some, sym, ap, ◌∙◌, subst}
use Rattle.ac_model.specs.Calls.{IsAfter}
use Rattle.ac_model.specs.Containers.{Container}
use Rattle.ac_model.specs.Letters.{name_of}
use Rattle.ac_model.specs.Objects.{Object, plain, with_rows}
use Rattle.ac_model.specs.Trees as trees
use Rattle.ac_model.specs.Trees.{needs_element, tree_mark}
use Rattle.ac_tree.specs.declared.links.Links.{Links}
use Rattle.ac_tree.specs.TreeRows.{tree_object, IsTree}
use Rattle.ac_tree.proofs.Replacing.{revalued_after}
use Rattle.ac_tree.proofs.tree.Tree.set_value.Goals as goal

pub invariant_of-self : goal.invariant_of-self
invariant_of-self g c =
    let i = c.self.inside in let view = ap (λ (x : Container _). x.object) c.self.view_is in let q = c.args.c in
    let needs = subst (λ (x : Object _ _). needs_element (plain x) (tree_mark x q) ≡ None) (sym view) c.requires in
    let r = revalued_after i.guards i.limit i.links c.self.invariant c.args.e q needs c.name_in.result c.name_in.ensures in
    let m = c.set_value.ensures in
    subst (λ (z : Links _). IsTree i.limit z) (sym m) r.0

pub returns-clause-written : goal.returns-clause-written
returns-clause-written g c =
    let i = c.self.inside in let view = ap (λ (x : Container _). x.object) c.self.view_is in let q = c.args.c in
    let needs = subst (λ (x : Object _ _). needs_element (plain x) (tree_mark x q) ≡ None) (sym view) c.requires in
    let r = revalued_after i.guards i.limit i.links c.self.invariant c.args.e q needs c.name_in.result c.name_in.ensures in
    let m = c.set_value.ensures in
    let own = tree_object i.guards i.limit i.links in
    subst (λ (x : Object _ _). IsAfter x (tree_object i.guards i.limit c.set_value.new.self) (with_rows (plain x) (trees.with_element (plain x).rows (name_of (tree_mark x q)) (Some c.args.e)))) view
    (subst (λ (z : Links _). IsAfter own (tree_object i.guards i.limit z) (with_rows (plain own) (trees.with_element (plain own).rows (name_of (tree_mark own q)) (Some c.args.e)))) (sym m) r.1)

pub returns-clause-spare : goal.returns-clause-spare
returns-clause-spare g c =
    let i = c.self.inside in let view = ap (λ (x : Container _). x.object) c.self.view_is in let q = c.args.c in
    let needs = subst (λ (x : Object _ _). needs_element (plain x) (tree_mark x q) ≡ None) (sym view) c.requires in
    let r = revalued_after i.guards i.limit i.links c.self.invariant c.args.e q needs c.name_in.result c.name_in.ensures in
    let m = c.set_value.ensures in
    ap (λ (z : Links _). z.nodes.spare) m ∙ r.2 ∙ ap (λ (x : Container _). x.spare) c.self.view_is
