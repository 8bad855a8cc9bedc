use Rattle.std.proofs.Common.{None, sym, ap, ◌∙◌}
use Rattle.ac_chain.proofs.SequenceValid.{valid}
use Rattle.ac_model.specs.Containers.{Container}
use Rattle.ac_model.specs.Objects.{plains}
use Rattle.ac_model.specs.Outline.{is_outline}
use Rattle.ac_tree.specs.TreeFields.{forest_in}
use Rattle.ac_tree.specs.TreeRows.{rows_of}
use Rattle.ac_tree.proofs.Outlines.{is_outlined}
use Rattle.ac_tree.proofs.tree.Tree.law.Goals as goal

pub returns-clause-valid : goal.returns-clause-valid
returns-clause-valid g c =
    let i = c.self.inside in let o = c.args.self.now.object in let rows = ap (λ (x : Container _). x.object.rows) (sym c.self.view_is) in
    record {
      as_object = valid i.guards i.limit None (rows_of i.links) o (ap (λ (x : Container _). x.object) c.self.view_is) c.self.invariant.sequence tt;
      outline = ap (λ z. is_outline (plains z)) rows ∙ is_outlined (forest_in i.links);
    }
