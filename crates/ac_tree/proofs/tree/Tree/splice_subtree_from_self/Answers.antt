use Rattle.std.proofs.Common.{refl}
use Rattle.ac_model.proofs.Reasons.{on_err}
use Rattle.ac_tree.proofs.SplicedRows.{variable_kept}
use Rattle.ac_tree.proofs.tree.Tree.splice_subtree_from_self.Goals as goal

pub returns-clause-changed : goal.returns-clause-changed
returns-clause-changed g c = (
  variable_kept c.args.self.now.object c.splice_subtree.new.self.object c.args.parent c.args.before c.args.position.now c.splice_subtree.result c.splice_subtree.ensures.kept c.splice_subtree.ensures.changed,
  on_err c.splice_subtree.result refl,
)
