use Rattle.std.proofs.Common.{◌≡◌, None, sym, ap, ◌∙◌, subst}
use Rattle.ac_model.specs.Calls.{IsAfter}
use Rattle.ac_model.specs.Containers.{Container}
use Rattle.ac_model.specs.Objects.{Object, plain}
use Rattle.ac_model.specs.Trees as trees
use Rattle.ac_model.specs.Trees.{needs_element, tree_mark}
use Rattle.ac_tree.specs.declared.links.Links.{Links}
use Rattle.ac_tree.specs.TreeRows.{tree_object, IsTree}
use Rattle.ac_tree.proofs.Swapping.{swapped_after}
use Rattle.ac_tree.proofs.tree.Tree.exchange.Goals as goal

pub invariant_of-self : goal.invariant_of-self
invariant_of-self g c =
    let i = c.self.inside in let view = ap (λ (x : Container _). x.object) c.self.view_is in let p = c.args.first in let q = c.args.second in
    let at_p = subst (λ (x : Object _ _). needs_element (plain x) (tree_mark x p) ≡ None) (sym view) c.requires.first in
    let at_q = subst (λ (x : Object _ _). needs_element (plain x) (tree_mark x q) ≡ None) (sym view) c.requires.second in
    let r = swapped_after i.guards i.limit i.links c.self.invariant p q at_p at_q c.name_in.result c.name_in-2.result c.name_in.ensures c.name_in-2.ensures in
    subst (λ (z : Links _). IsTree i.limit z) (sym c.exchange.ensures) r.tree

pub returns-clause-written : goal.returns-clause-written
returns-clause-written g c =
    let i = c.self.inside in let view = ap (λ (x : Container _). x.object) c.self.view_is in let p = c.args.first in let q = c.args.second in
    let at_p = subst (λ (x : Object _ _). needs_element (plain x) (tree_mark x p) ≡ None) (sym view) c.requires.first in
    let at_q = subst (λ (x : Object _ _). needs_element (plain x) (tree_mark x q) ≡ None) (sym view) c.requires.second in
    let r = swapped_after i.guards i.limit i.links c.self.invariant p q at_p at_q c.name_in.result c.name_in-2.result c.name_in.ensures c.name_in-2.ensures in
    let own = tree_object i.guards i.limit i.links in
    subst (λ (x : Object _ _). IsAfter x (tree_object i.guards i.limit c.exchange.new.self) (trees.swap_call (plain x) (tree_mark x p) (tree_mark x q)).after) view
    (subst (λ (z : Links _). IsAfter own (tree_object i.guards i.limit z) (trees.swap_call (plain own) (tree_mark own p) (tree_mark own q)).after) (sym c.exchange.ensures) r.after)

pub returns-clause-spare : goal.returns-clause-spare
returns-clause-spare g c =
    let i = c.self.inside in let view = ap (λ (x : Container _). x.object) c.self.view_is in let p = c.args.first in let q = c.args.second in
    let at_p = subst (λ (x : Object _ _). needs_element (plain x) (tree_mark x p) ≡ None) (sym view) c.requires.first in
    let at_q = subst (λ (x : Object _ _). needs_element (plain x) (tree_mark x q) ≡ None) (sym view) c.requires.second in
    let r = swapped_after i.guards i.limit i.links c.self.invariant p q at_p at_q c.name_in.result c.name_in-2.result c.name_in.ensures c.name_in-2.ensures in
    ap (λ (z : Links _). z.nodes.spare) c.exchange.ensures ∙ r.spare ∙ ap (λ (x : Container _). x.spare) c.self.view_is
