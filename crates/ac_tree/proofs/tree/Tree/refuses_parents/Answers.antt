use Rattle.std.proofs.Common.{ap, ◌∙◌, None}
use Rattle.ac_base.specs.declared.guard.Class.TheVariants as class
use Rattle.ac_base.specs.FirstReason.{earlier}
use Rattle.ac_base.specs.Tampering.{forbids}
use Rattle.ac_model.specs.Containers.{Container}
use Rattle.ac_tree.proofs.tree.Tree.refuses_parents.Goals as goal

pub returns : goal.returns
returns g c =
    let guards = c.forbids.ensures ∙ ap (λ (x : Container _). forbids class.Cursors x.object.cursor_guards x.object.element_guards) c.self.view_is in
    c.first_reason.ensures ∙ (λ i. earlier (guards i) (earlier (c.needs_node.ensures i) (earlier (c.may_node.ensures i) (earlier (c.needs_node-2.ensures i) None))))
