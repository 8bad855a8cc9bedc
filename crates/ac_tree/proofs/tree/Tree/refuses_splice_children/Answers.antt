use Rattle.std.proofs.Common.{◌∷◌, [], sym, ap, ◌∙◌}
use Rattle.ac_base.specs.declared.reason.Reason.TheVariants.{BelowItself}
use Rattle.ac_base.specs.FirstReason.{first_reason}
use Rattle.ac_base.proofs.FirstReason.{none_found}
use Rattle.ac_model.specs.Letters.{tampers_cursors, reason_if, name_of}
use Rattle.ac_model.specs.Objects.{plain}
use Rattle.ac_model.specs.Outline.{is_in, run_of}
use Rattle.ac_model.specs.Trees.{needs_node, may_node, child_or_none}
use Rattle.ac_chain.specs.TreeCursors.{seen_by}
use Rattle.ac_tree.proofs.Steps.{or_else, or_else_some, or_else_none, four_first, tampers_early, needs_early, may_early, late_splice, none_if}
use Rattle.ac_tree.proofs.tree.Tree.refuses_splice_children.Goals as goal

pub returns-then-is_some : goal.returns-then-is_some
returns-then-is_some g c =
    let o = plain c.args.self.now.object in
    let p = seen_by c.args.self.now c.args.parent in let b = seen_by c.args.self.now c.args.before in let q = seen_by c.args.self.now c.args.source_parent in
    let late = first_reason (child_or_none o p b ∷ reason_if (is_in (name_of p) (run_of o.rows (name_of q))) BelowItself ∷ []) in
    let whole = four_first (tampers_cursors o) (needs_node o p) (may_node o b) (needs_node o q) late (tampers_early o) (needs_early o p) (may_early o b) (needs_early o q) (late_splice _ (is_in (name_of p) (run_of o.rows (name_of q)))) in
    or_else_some c.refuses_parents-cursors.result late (sym c.is_some.ensures ∙ c.if-is_some.true) ∙ ap (λ a. or_else a late) c.refuses_parents-cursors.ensures ∙ sym whole

pub is_below-is_below-requires-clause-parent : goal.is_below-is_below-requires-clause-parent
is_below-is_below-requires-clause-parent g c =
    let o = plain c.args.self.now.object in
    let p = seen_by c.args.self.now c.args.parent in let b = seen_by c.args.self.now c.args.before in let q = seen_by c.args.self.now c.args.source_parent in
    (none_found (tampers_cursors o ∷ needs_node o p ∷ may_node o b ∷ needs_node o q ∷ []) (sym c.refuses_parents-cursors.ensures ∙ none_if c.refuses_parents-cursors.result (sym c.is_some.ensures ∙ c.if-is_some.false))).1.0

pub is_below-is_below-requires-clause-source : goal.is_below-is_below-requires-clause-source
is_below-is_below-requires-clause-source g c =
    let o = plain c.args.self.now.object in
    let p = seen_by c.args.self.now c.args.parent in let b = seen_by c.args.self.now c.args.before in let q = seen_by c.args.self.now c.args.source_parent in
    (none_found (tampers_cursors o ∷ needs_node o p ∷ may_node o b ∷ needs_node o q ∷ []) (sym c.refuses_parents-cursors.ensures ∙ none_if c.refuses_parents-cursors.result (sym c.is_some.ensures ∙ c.if-is_some.false))).1.1.1.0

pub refuses_child-requires-clause-parent : goal.refuses_child-requires-clause-parent
refuses_child-requires-clause-parent g c =
    let o = plain c.args.self.now.object in
    let p = seen_by c.args.self.now c.args.parent in let b = seen_by c.args.self.now c.args.before in let q = seen_by c.args.self.now c.args.source_parent in
    (none_found (tampers_cursors o ∷ needs_node o p ∷ may_node o b ∷ needs_node o q ∷ []) (sym c.refuses_parents-cursors.ensures ∙ none_if c.refuses_parents-cursors.result (sym c.is_some.ensures ∙ c.if-is_some.false))).1.0

pub refuses_child-requires-clause-before : goal.refuses_child-requires-clause-before
refuses_child-requires-clause-before g c =
    let o = plain c.args.self.now.object in
    let p = seen_by c.args.self.now c.args.parent in let b = seen_by c.args.self.now c.args.before in let q = seen_by c.args.self.now c.args.source_parent in
    (none_found (tampers_cursors o ∷ needs_node o p ∷ may_node o b ∷ needs_node o q ∷ []) (sym c.refuses_parents-cursors.ensures ∙ none_if c.refuses_parents-cursors.result (sym c.is_some.ensures ∙ c.if-is_some.false))).1.1.0

pub returns : goal.returns
returns g c =
    let o = plain c.args.self.now.object in
    let p = seen_by c.args.self.now c.args.parent in let b = seen_by c.args.self.now c.args.before in let q = seen_by c.args.self.now c.args.source_parent in
    let late = first_reason (child_or_none o p b ∷ reason_if (is_in (name_of p) (run_of o.rows (name_of q))) BelowItself ∷ []) in
    let whole = four_first (tampers_cursors o) (needs_node o p) (may_node o b) (needs_node o q) late (tampers_early o) (needs_early o p) (may_early o b) (needs_early o q) (late_splice _ (is_in (name_of p) (run_of o.rows (name_of q)))) in
    let below = c.reason_if.ensures ∙ ap (λ t. reason_if t BelowItself) c.is_below-is_below.ensures in
    c.first_reason.ensures ∙ (λ j. first_reason (c.refuses_child.ensures j ∷ below j ∷ []))
    ∙ or_else_none c.refuses_parents-cursors.result late (sym c.is_some.ensures ∙ c.if-is_some.false) ∙ ap (λ a. or_else a late) c.refuses_parents-cursors.ensures ∙ sym whole
