use Rattle.std.proofs.Common.{◌≡◌, sym, ◌∙◌}
use Rattle.std.proofs.lemmas.Option.{same_Some}
use Rattle.ac_model.specs.Objects.{plain}
use Rattle.ac_model.specs.Trees.{element_call, tree_mark}
use Rattle.ac_calls.specs.PlainRows.{node_row}
use Rattle.ac_tree_calls.proofs.MetNodes.{met_read, met_element, not_refused}
use Rattle.ac_tree_calls.proofs.tree_rows.plain_copies.copy_node.Goals as goal

pub unreachable-requires : goal.unreachable-requires
unreachable-requires g c =
    let o = (g.C.TreeLike.seen c.args.tree.now).object in
    not_refused (element_call (plain o) (tree_mark o c.args.c)) c.in-Err.field-0 (met_read o c.law.ensures.as_object c.args.c c.args.depth c.requires) c.in-Err.ensures

pub returns : goal.returns
returns g c m =
    let o = (g.C.TreeLike.seen c.args.tree.now).object in
    let same : c.in-Ok.element.now ≡ m.at.value.element =
    same_Some _ _ (sym c.in-Ok.ensures.1 ∙ met_element o c.law.ensures.as_object c.args.c c.args.depth m) in
    c.in_ok-row-in-Ok.ensures ∙ (λ i. node_row (m.depth_is i) (g.T.ScriptElement.tools.to_value (same i)))
