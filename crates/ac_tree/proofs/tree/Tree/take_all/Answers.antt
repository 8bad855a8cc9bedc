use Rattle.std.proofs.Common.{◌≡◌, ◌+◌, length, ap, subst}
use Rattle.std.proofs.lemmas.Option.{none-some}
use Rattle.ac_model.specs.Calls.{IsAfter}
use Rattle.ac_model.specs.Containers.{Container}
use Rattle.ac_model.specs.Objects.{Object, plain, length_of}
use Rattle.ac_model.specs.Common as common
use Rattle.ac_tree.specs.Forests.{outline}
use Rattle.ac_tree.specs.TreeFields.{forest_in}
use Rattle.ac_tree.specs.TreeRows.{tree_object}
use Rattle.ac_tree.proofs.Deleting.{all_gone}
use Rattle.ac_tree.proofs.tree.Tree.take_all.Goals as goal

pub remove_below-requires-clause-live : goal.remove_below-requires-clause-live
remove_below-requires-clause-live g c = λ a e. absurd (none-some a e)

pub invariant_of-self : goal.invariant_of-self
invariant_of-self g c =
    let i = c.self.inside in let view = ap (λ (x : Container _). x.object) c.self.view_is in
    let r = all_gone i.guards i.limit i.links c.remove_below.new.links c.self.invariant c.remove_below.ensures in
    r.tree

pub returns-clause-gone : goal.returns-clause-gone
returns-clause-gone g c =
    let i = c.self.inside in let view = ap (λ (x : Container _). x.object) c.self.view_is in
    let r = all_gone i.guards i.limit i.links c.remove_below.new.links c.self.invariant c.remove_below.ensures in
    subst (λ (x : Object _ _). IsAfter x (tree_object i.guards i.limit c.remove_below.new.links) (common.clear_call (plain x)).after) view r.after

pub returns-clause-slots : goal.returns-clause-slots
returns-clause-slots g c =
    let i = c.self.inside in let view = ap (λ (x : Container _). x.object) c.self.view_is in
    let r = all_gone i.guards i.limit i.links c.remove_below.new.links c.self.invariant c.remove_below.ensures in
    subst (λ (x : Container _). length (outline 2 (forest_in c.remove_below.new.links)) + c.remove_below.new.links.nodes.spare ≡ length_of x.object + x.spare) c.self.view_is r.slots
