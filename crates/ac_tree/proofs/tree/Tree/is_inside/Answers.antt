use Rattle.std.proofs.Common.{sym, ap, ◌∙◌, subst}
use Rattle.std.specs.Option.{ForSome}
use Rattle.ac_base.specs.declared.name.Name.{Name}
use Rattle.ac_pool.specs.Contents.{IsLive}
use Rattle.ac_model.specs.Containers.{Container}
use Rattle.ac_model.specs.Letters.{name_of}
use Rattle.ac_model.specs.Objects.{plains}
use Rattle.ac_model.specs.Outline.{is_in_subtree}
use Rattle.ac_tree.specs.TreeCursors.{serial_in}
use Rattle.ac_tree.proofs.Judging.{at_node, at_element}
use Rattle.ac_tree.proofs.Looking.{live_needed}
use Rattle.ac_tree.proofs.tree.Tree.is_inside.Goals as goal

pub is_within-requires-clause-top : goal.is_within-requires-clause-top
is_within-requires-clause-top g c =
    let i = c.self.inside in let o = c.args.self.now.object in let rows = ap (λ (x : Container _). x.object.rows) (sym c.self.view_is) in
    live_needed i.links c.self.invariant.forest o rows c.args.position c.name_in.result c.name_in.ensures c.requires.position

pub is_within-requires-clause-live : goal.is_within-requires-clause-live
is_within-requires-clause-live g c =
    let i = c.self.inside in let o = c.args.self.now.object in let rows = ap (λ (x : Container _). x.object.rows) (sym c.self.view_is) in
    subst (λ n. ForSome n (IsLive i.links.nodes)) (sym c.node_in.ensures) (at_node i.links c.self.invariant.forest o rows c.args.parent c.requires.parent).live

pub returns : goal.returns
returns g c =
    let i = c.self.inside in let o = c.args.self.now.object in let rows = ap (λ (x : Container _). x.object.rows) (sym c.self.view_is) in
    let top = at_element i.links c.self.invariant.forest o rows c.args.position c.requires.position in
    let at = at_node i.links c.self.invariant.forest o rows c.args.parent c.requires.parent in
    let named = ap (λ (n : Name). n.serial) (c.name_in.ensures ∙ top.is) ∙ sym (ap name_of top.mark) in
    let node = ap serial_in c.node_in.ensures ∙ sym (ap name_of at.mark) in
    c.is_within.ensures ∙ (λ j. is_in_subtree (plains (sym rows j)) (named j) (node j))
