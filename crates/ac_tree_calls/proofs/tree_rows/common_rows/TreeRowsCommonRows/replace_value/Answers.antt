use Rattle.std.proofs.Common.{subst}
use Rattle.ac_model.specs.Calls.{Same}
use Rattle.ac_model.specs.Forms.{Does}
use Rattle.ac_model.specs.Trees.{replace_element_call}
use Rattle.ac_chain.specs.TreeCursors.{seen_by}
use Rattle.ac_calls.specs.RowWrites.{WritesIn}
use Rattle.ac_tree_calls.proofs.KeptNodes.{writes_by_spare}
use Rattle.ac_tree_calls.proofs.tree_rows.common_rows.TreeRowsCommonRows.replace_value.Goals as goal

pub returns-clause-replaced : goal.returns-clause-replaced
returns-clause-replaced g c =
    let old = g.C.TreeLike.seen c.self.inside.tree in
    let new = g.C.TreeLike.seen c.replace_element.new.self in
    let written = g.T.ScriptElement.tools.from_value c.args.value in
    subst (λ x. WritesIn (λ o. replace_element_call o (seen_by x c.args.c) written) x new c.replace_element.result) c.self.view_is
    (writes_by_spare (λ o. replace_element_call o (seen_by old c.args.c) written) old new c.replace_element.result c.replace_element.ensures.spare
    (subst (λ e. Does Same (λ o. replace_element_call o (seen_by old c.args.c) e) old new c.replace_element.result) c.in_ok-element.ensures c.replace_element.ensures.changed))
