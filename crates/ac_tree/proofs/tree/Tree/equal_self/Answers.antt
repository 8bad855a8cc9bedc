use Rattle.std.proofs.Common.{refl, sym, ap, ◌∙◌, eq-eqb}
use Rattle.std.specs.Prelude.{◌&&◌}
use Rattle.ac_model.specs.Objects.{contents, plain}
use Rattle.ac_model.specs.Rows.{Node}
use Rattle.ac_model.proofs.RowLaws.{equal_to_itself}
use Rattle.ac_tree.specs.Comparing.{same_node}
use Rattle.ac_tree.proofs.tree.Tree.equal_self.Goals as goal

pub returns : goal.returns
returns g c =
    sym (equal_to_itself (same_node g.T.Elem.is_same) (λ (n : Node _). ap (λ b. b && g.T.Elem.is_same n.element n.element) (eq-eqb n.depth n.depth refl) ∙ (g.met.T.Elem.same_is_equality n.element n.element).1 refl)
    (contents (plain c.args.self.now.object)))
