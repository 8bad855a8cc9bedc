use Rattle.std.proofs.Common.{ap, ◌∙◌}
use Rattle.ac_base.specs.FirstReason.{earlier}
use Rattle.ac_base.specs.declared.reason.Reason.TheVariants.{RootSource}
use Rattle.ac_model.specs.Letters.{reason_if}
use Rattle.ac_model.specs.Objects.{plain}
use Rattle.ac_model.specs.Trees.{may_node, tree_mark}
use Rattle.ac_tree.proofs.Judging.{earlier_last, root_source}
use Rattle.ac_tree.proofs.tree.Tree.may_source.Goals as goal

pub returns : goal.returns
returns g c =
    let o = c.args.self.now.object in
    c.first_reason.ensures
    ∙ (λ j. earlier (c.may_node.ensures j) (earlier_last c.reason_if.result j))
    ∙ ap (earlier (may_node (plain o) (tree_mark o c.args.c))) (c.reason_if.ensures ∙ ap (λ b. reason_if b RootSource) c.is_root.ensures)
    ∙ root_source o c.args.c
