use Rattle.std.proofs.Common.{subst}
use Rattle.ac_model.specs.Calls.{Same}
use Rattle.ac_model.specs.Forms.{Does}
use Rattle.ac_model.specs.Trees.{write_call}
use Rattle.ac_chain.specs.TreeCursors.{seen_by}
use Rattle.ac_calls.specs.RowWrites.{WritesIn}
use Rattle.ac_tree_calls.proofs.KeptNodes.{writes_by_spare}
use Rattle.ac_tree_calls.proofs.tree_rows.row_object.TreeRowsRowObject.write_value.Goals as goal

pub returns-clause-written : goal.returns-clause-written
returns-clause-written g c =
    let old = g.C.TreeLike.seen c.self.inside.tree in
    let new = g.C.TreeLike.seen c.write.new.self in
    let written = g.T.ScriptElement.tools.from_value c.args.value in
    subst (λ x. WritesIn (λ o. write_call o (seen_by x c.args.c) written) x new c.write.result) c.self.view_is
    (writes_by_spare (λ o. write_call o (seen_by old c.args.c) written) old new c.write.result c.write.ensures.spare
    (subst (λ e. Does Same (λ o. write_call o (seen_by old c.args.c) e) old new c.write.result) c.in_ok-element.ensures c.write.ensures.changed))
