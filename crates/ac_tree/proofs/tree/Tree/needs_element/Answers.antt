use Rattle.std.proofs.Common.{ap, ◌∙◌}
use Rattle.ac_base.specs.FirstReason.{earlier}
use Rattle.ac_base.specs.declared.reason.Reason.TheVariants.{RootNode}
use Rattle.ac_model.specs.Letters.{reason_if}
use Rattle.ac_model.specs.Objects.{plain}
use Rattle.ac_model.specs.Trees.{needs_node, tree_mark}
use Rattle.ac_tree.proofs.Judging.{earlier_last, root_needed}
use Rattle.ac_tree.proofs.tree.Tree.needs_element.Goals as goal

pub returns : goal.returns
returns g c =
    let o = c.args.self.now.object in
    c.first_reason.ensures
    ∙ (λ j. earlier (c.needs_node.ensures j) (earlier_last c.reason_if.result j))
    ∙ ap (earlier (needs_node (plain o) (tree_mark o c.args.c))) (c.reason_if.ensures ∙ ap (λ b. reason_if b RootNode) c.is_root.ensures)
    ∙ root_needed o c.args.c
