use Rattle.std.proofs.Common.{◌∷◌, [], sym, ap, ◌∙◌}
use Rattle.ac_base.specs.declared.reason.Reason.TheVariants.{BelowItself}
use Rattle.ac_base.specs.FirstReason.{first_reason}
use Rattle.ac_base.proofs.FirstReason.{none_found}
use Rattle.ac_model.specs.Letters.{tampers_cursors, reason_if, name_of}
use Rattle.ac_model.specs.Objects.{plain}
use Rattle.ac_model.specs.Outline.{is_in_subtree}
use Rattle.ac_model.specs.Trees.{needs_node, may_node, needs_element, child_or_none}
use Rattle.ac_chain.specs.TreeCursors.{seen_by}
use Rattle.ac_tree.proofs.Steps.{or_else, or_else_some, or_else_none, four_first, tampers_early, needs_early, may_early, element_early, late_splice, none_if}
use Rattle.ac_tree.proofs.tree.Tree.refuses_splice.Goals as goal

pub returns-then-is_some : goal.returns-then-is_some
returns-then-is_some g c =
    let o = plain c.args.self.now.object in
    let p = seen_by c.args.self.now c.args.parent in let b = seen_by c.args.self.now c.args.before in let q = seen_by c.args.self.now c.args.position in
    let late = first_reason (child_or_none o p b ∷ reason_if (is_in_subtree o.rows (name_of q) (name_of p)) BelowItself ∷ []) in
    let whole = four_first (tampers_cursors o) (needs_node o p) (may_node o b) (needs_element o q) late (tampers_early o) (needs_early o p) (may_early o b) (element_early o q) (late_splice _ (is_in_subtree o.rows (name_of q) (name_of p))) in
    or_else_some c.refuses_nodes-nodes.result late (sym c.is_some.ensures ∙ c.if-is_some.true) ∙ ap (λ a. or_else a late) c.refuses_nodes-nodes.ensures ∙ sym whole

pub is_inside-is_inside-requires-clause-parent : goal.is_inside-is_inside-requires-clause-parent
is_inside-is_inside-requires-clause-parent g c =
    let o = plain c.args.self.now.object in
    let p = seen_by c.args.self.now c.args.parent in let b = seen_by c.args.self.now c.args.before in let q = seen_by c.args.self.now c.args.position in
    (none_found (tampers_cursors o ∷ needs_node o p ∷ may_node o b ∷ needs_element o q ∷ []) (sym c.refuses_nodes-nodes.ensures ∙ none_if c.refuses_nodes-nodes.result (sym c.is_some.ensures ∙ c.if-is_some.false))).1.0

pub is_inside-is_inside-requires-clause-position : goal.is_inside-is_inside-requires-clause-position
is_inside-is_inside-requires-clause-position g c =
    let o = plain c.args.self.now.object in
    let p = seen_by c.args.self.now c.args.parent in let b = seen_by c.args.self.now c.args.before in let q = seen_by c.args.self.now c.args.position in
    (none_found (tampers_cursors o ∷ needs_node o p ∷ may_node o b ∷ needs_element o q ∷ []) (sym c.refuses_nodes-nodes.ensures ∙ none_if c.refuses_nodes-nodes.result (sym c.is_some.ensures ∙ c.if-is_some.false))).1.1.1.0

pub refuses_child-requires-clause-parent : goal.refuses_child-requires-clause-parent
refuses_child-requires-clause-parent g c =
    let o = plain c.args.self.now.object in
    let p = seen_by c.args.self.now c.args.parent in let b = seen_by c.args.self.now c.args.before in let q = seen_by c.args.self.now c.args.position in
    (none_found (tampers_cursors o ∷ needs_node o p ∷ may_node o b ∷ needs_element o q ∷ []) (sym c.refuses_nodes-nodes.ensures ∙ none_if c.refuses_nodes-nodes.result (sym c.is_some.ensures ∙ c.if-is_some.false))).1.0

pub refuses_child-requires-clause-before : goal.refuses_child-requires-clause-before
refuses_child-requires-clause-before g c =
    let o = plain c.args.self.now.object in
    let p = seen_by c.args.self.now c.args.parent in let b = seen_by c.args.self.now c.args.before in let q = seen_by c.args.self.now c.args.position in
    (none_found (tampers_cursors o ∷ needs_node o p ∷ may_node o b ∷ needs_element o q ∷ []) (sym c.refuses_nodes-nodes.ensures ∙ none_if c.refuses_nodes-nodes.result (sym c.is_some.ensures ∙ c.if-is_some.false))).1.1.0

pub returns : goal.returns
returns g c =
    let o = plain c.args.self.now.object in
    let p = seen_by c.args.self.now c.args.parent in let b = seen_by c.args.self.now c.args.before in let q = seen_by c.args.self.now c.args.position in
    let late = first_reason (child_or_none o p b ∷ reason_if (is_in_subtree o.rows (name_of q) (name_of p)) BelowItself ∷ []) in
    let whole = four_first (tampers_cursors o) (needs_node o p) (may_node o b) (needs_element o q) late (tampers_early o) (needs_early o p) (may_early o b) (element_early o q) (late_splice _ (is_in_subtree o.rows (name_of q) (name_of p))) in
    let below = c.reason_if.ensures ∙ ap (λ t. reason_if t BelowItself) c.is_inside-is_inside.ensures in
    c.first_reason.ensures ∙ (λ j. first_reason (c.refuses_child.ensures j ∷ below j ∷ []))
    ∙ or_else_none c.refuses_nodes-nodes.result late (sym c.is_some.ensures ∙ c.if-is_some.false) ∙ ap (λ a. or_else a late) c.refuses_nodes-nodes.ensures ∙ sym whole
