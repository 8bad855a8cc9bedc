use Rattle.std.proofs.Common.{ap, ◌∙◌}
use Rattle.ac_base.specs.Rows.{values}
use Rattle.ac_model.specs.Containers.{Container}
use Rattle.ac_model.specs.Objects.{plain}
use Rattle.ac_model.specs.Sequences.{are_equal}
use Rattle.ac_model.proofs.Plains.{values-plains}
use Rattle.ac_tree.specs.Comparing.{same_node}
use Rattle.ac_tree.specs.TreeRows.{rows_of}
use Rattle.ac_tree.proofs.tree.Tree.equal.Goals as goal

pub returns : goal.returns
returns g c =
    let mine = values-plains (rows_of c.self.inside.links).rows ∙ ap (λ (x : Container _). values (plain x.object).rows) c.self.view_is in
    let theirs = values-plains (rows_of c.other.inside.links).rows ∙ ap (λ (x : Container _). values (plain x.object).rows) c.other.view_is in
    c.same_nodes.ensures ∙ (λ i. are_equal (same_node g.T.Elem.is_same) (mine i) (theirs i))
