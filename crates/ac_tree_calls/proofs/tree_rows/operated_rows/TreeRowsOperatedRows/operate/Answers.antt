use Rattle.std.proofs.Common.{rules, subst, sym, true, refl, Ok}
use Rattle.ac_syntax.specs.declared.operation.Operation.TheVariants.{Common, Tree, TreeChange}
use Rattle.ac_model.specs.Objects.{plain}
use Rattle.ac_calls.specs.TreeReplies.{tree_reply}
use Rattle.ac_calls.specs.Replies.{itself}
use Rattle.ac_calls.specs.Arguments.{arguments_marked}
use Rattle.ac_calls.specs.Replied.{IsMade}
use Rattle.ac_calls.proofs.Made.{unchanged}
use Rattle.ac_calls.proofs.Operations.{replied_by_root}
use Rattle.ac_tree_calls.proofs.TreeOperations.{no_tree_call}
use Rattle.ac_model.specs.Trees.{tree_mark}
use Rattle.ac_tree_calls.proofs.tree_rows.operated_rows.TreeRowsOperatedRows.operate.Goals as goal

pub returns-in-Common-clause-replied : goal.returns-in-Common-clause-replied
returns-in-Common-clause-replied g c =
    let tools = g.T.ScriptElement.tools in
    let old = c.args.self.now in
    replied_by_root true (tree_reply tools (plain old.object)) old _ c.args.args.now c.args.operation (Common c.in-Common.call) _ c.requires.agree c.in-Common.is
    c.common_call.ensures.replied

pub returns-in-Tree-clause-replied : goal.returns-in-Tree-clause-replied
returns-in-Tree-clause-replied g c =
    let tools = g.T.ScriptElement.tools in
    let old = c.args.self.now in
    replied_by_root true (tree_reply tools (plain old.object)) old _ c.args.args.now c.args.operation (Tree c.in-Tree.call) _ c.requires.agree c.in-Tree.is
    c.look.ensures

pub returns-in-TreeChange-clause-replied : goal.returns-in-TreeChange-clause-replied
returns-in-TreeChange-clause-replied g c =
    let tools = g.T.ScriptElement.tools in
    let old = c.args.self.now in
    replied_by_root true (tree_reply tools (plain old.object)) old _ c.args.args.now c.args.operation (TreeChange c.in-TreeChange.call) _ c.requires.agree c.in-TreeChange.is
    c.change.ensures

pub returns-in_default-clause-replied : goal.returns-in_default-clause-replied
returns-in_default-clause-replied g c =
    let tools = g.T.ScriptElement.tools in
    let old = c.args.self.now in
    let none = c.in_default in
    replied_by_root true (tree_reply tools (plain old.object)) old old c.args.args.now c.args.operation c.args.operation (Ok c.says.result) c.requires.agree refl
    (subst (λ r. IsMade r old old c.says.result)
    (sym (no_tree_call tools (plain old.object) itself (arguments_marked (tree_mark old.object) c.args.args.now) c.args.operation none.not-Common none.not-Tree none.not-TreeChange))
    (record {
      goes = search rules;
      reason = search rules;
      after = unchanged old.object;
      source = search rules;
      says = search (rules, c.says.ensures.said);
      variable = search (rules, c.says.ensures.variable);
    }))
