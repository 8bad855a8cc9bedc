use Rattle.std.proofs.Common.{subst, ap, ◌∙◌}
use Rattle.ac_base.specs.declared.cursor.Cursor.{Cursor}
use Rattle.ac_model.specs.Objects.{plain}
use Rattle.ac_model.specs.Trees.{ancestor_find_call}
use Rattle.ac_chain.specs.TreeCursors.{seen_by}
use Rattle.ac_calls.specs.Answers.{answers_place}
use Rattle.ac_calls.specs.Replies.{looks}
use Rattle.ac_calls.specs.Arguments.{argument_of}
use Rattle.ac_calls.specs.Replied.{IsMade}
use Rattle.ac_tree_calls.proofs.TreeLooks.{place_looked}
use Rattle.ac_tree_calls.proofs.tree_calls.looks.ancestor_find.Goals as goal

pub returns : goal.returns
returns g c =
    let tree = g.C.TreeLike.seen c.args.tree.now in
    let tools = g.T.ScriptElement.tools in
    let call = λ (from : Cursor) (element : g.row.T.Denot). ancestor_find_call tools.same (plain tree.object) (seen_by tree from) element in
    let element = c.in_ok-element.ensures ∙ ap tools.from_value c.take_value.ensures in
    subst (λ from. IsMade (looks (plain tree.object) answers_place (call from (tools.from_value (argument_of c.args.args.now.second).value))) tree tree c.tell.new.self) c.cursor-from.ensures
    (subst (λ e. IsMade (looks (plain tree.object) answers_place (call c.cursor-from.result e)) tree tree c.tell.new.self) element
    (place_looked tree (call c.cursor-from.result c.in_ok-element.element) c.tell.new.self c.in_ok-found.found c.in_ok-found.ensures.0 c.in_ok-found.ensures.1
    c.tell.ensures.said c.tell.ensures.variable))
