use Rattle.std.proofs.Common.{length, reverse, ◌+◌, None, ◌≡◌, Ok, sym, ap, ◌∙◌, subst}
use Rattle.std.proofs.lemmas.List.{length-map, length-reverse}
use Rattle.ac_chain.proofs.SequenceGrows.{grown_slots}
use Rattle.ac_model.specs.Objects.{Object}
use Rattle.ac_model.specs.Calls.{Changing, Marks}
use Rattle.ac_model.specs.Containers.{Container}
use Rattle.ac_model.specs.Objects.{plain}
use Rattle.ac_model.specs.Outline.{depth_of}
use Rattle.ac_model.specs.Putting.{Takes}
use Rattle.ac_tree.specs.Children.{IsPlace, nodes_call}
use Rattle.ac_tree.specs.Copying.{in_node, nodes_in}
use Rattle.ac_tree.specs.TreeCursors.{serial_in}
use Rattle.ac_tree.specs.TreeRows.{rows_of, tree_object}
use Rattle.ac_tree.proofs.GraftedRows.{hole_of, planted_tree, planted_done}
use Rattle.ac_tree.proofs.tree.Tree.put_rows.Goals as goal

pub put_nodes-requires-clause-hole : goal.put_nodes-requires-clause-hole
put_nodes-requires-clause-hole g c =
    let i = c.self.inside in let view = ap (λ (x : Container _). x.object) c.self.view_is in let a = c.args in
    let place = subst (λ (q : Object _ _). IsPlace q a.parent a.before) (sym view) c.requires.place in
    let depth = subst (λ (q : Object _ _). a.first ≡ depth_of (plain q).rows (serial_in a.parent) + 1) (sym view) c.requires.depth in
    hole_of i.guards i.limit i.links i.links c.self.invariant a.parent a.before place (nodes_in (reverse a.items.items)) a.first depth

pub invariant_of-self : goal.invariant_of-self
invariant_of-self g c =
    let i = c.self.inside in let view = ap (λ (x : Container _). x.object) c.self.view_is in let a = c.args in
    let place = subst (λ (q : Object _ _). IsPlace q a.parent a.before) (sym view) c.requires.place in
    let depth = subst (λ (q : Object _ _). a.first ≡ depth_of (plain q).rows (serial_in a.parent) + 1) (sym view) c.requires.depth in
    let takes = subst (λ (q : Object _ _). Takes q (length a.items.items)) (sym view) c.requires.room in
    let p = c.put_nodes in let vs = nodes_in (reverse a.items.items) in let now = p.new.links in
    let at = hole_of i.guards i.limit i.links now c.self.invariant a.parent a.before place vs a.first depth in
    planted_tree i.guards i.limit i.links now c.self.invariant a.parent a.before place vs (length a.items.items) (length-map (reverse a.items.items) in_node ∙ length-reverse a.items.items) takes
    p.result (p.ensures.planted at.hole at.deep) p.ensures.refused p.ensures.forest

pub returns-in-Ok-clause-changed : goal.returns-in-Ok-clause-changed
returns-in-Ok-clause-changed g c =
    let i = c.self.inside in let view = ap (λ (x : Container _). x.object) c.self.view_is in let a = c.args in
    let place = subst (λ (q : Object _ _). IsPlace q a.parent a.before) (sym view) c.requires.place in
    let depth = subst (λ (q : Object _ _). a.first ≡ depth_of (plain q).rows (serial_in a.parent) + 1) (sym view) c.requires.depth in
    let vs = nodes_in (reverse a.items.items) in let now = c.put_nodes.new.links in
    let at = hole_of i.guards i.limit i.links now c.self.invariant a.parent a.before place vs a.first depth in
    let new = tree_object i.guards i.limit now in
    subst (λ (q : Object _ _). Changing (Marks new) (nodes_call q a.parent a.before vs) q new (Ok c.named.result)) view
    (planted_done i.guards i.limit i.links now c.self.invariant a.parent a.before place vs c.in-Ok.made c.named.result (c.in-Ok.ensures.planted at.hole at.deep) c.named.ensures)

pub returns-in-Ok-clause-slots : goal.returns-in-Ok-clause-slots
returns-in-Ok-clause-slots g c =
    let i = c.self.inside in let view = ap (λ (x : Container _). x.object) c.self.view_is in let a = c.args in
    let place = subst (λ (q : Object _ _). IsPlace q a.parent a.before) (sym view) c.requires.place in
    let depth = subst (λ (q : Object _ _). a.first ≡ depth_of (plain q).rows (serial_in a.parent) + 1) (sym view) c.requires.depth in
    let now = c.put_nodes.new.links in
    let at = hole_of i.guards i.limit i.links now c.self.invariant a.parent a.before place (nodes_in (reverse a.items.items)) a.first depth in
    grown_slots i.guards i.limit None None (rows_of i.links) (rows_of now) c.args.self.now c.self.view_is (c.in-Ok.ensures.planted at.hole at.deep).grown.most
