use Rattle.std.proofs.Common.{◌∷◌, [], ◌+◌, sym, ap, ◌∙◌, length}
use Rattle.ac_base.specs.FirstReason.{first_reason}
use Rattle.ac_base.proofs.FirstReason.{none_found}
use Rattle.ac_model.specs.Letters.{tampers_cursors, room}
use Rattle.ac_model.specs.Objects.{plain, length_of}
use Rattle.ac_model.specs.Trees.{needs_node, may_node, child_or_none, child_depth, run_at_depth, room_for_rows}
use Rattle.ac_chain.specs.TreeCursors.{seen_by}
use Rattle.ac_tree.proofs.Steps.{or_else, or_else_some, or_else_none, five_first, tampers_early, needs_early, may_early, late_rows, none_if}
use Rattle.ac_tree.proofs.tree.Tree.refuses_children_from.Goals as goal

pub returns-then-is_some : goal.returns-then-is_some
returns-then-is_some g c =
    let o = plain c.args.self.now.object in let from = plain c.args.source.now.object in
    let p = seen_by c.args.self.now c.args.parent in let b = seen_by c.args.self.now c.args.before in let q = seen_by c.args.source.now c.args.source_parent in
    let rows = run_at_depth (child_depth o.rows p) from.rows q in
    let late = first_reason (child_or_none o p b ∷ room_for_rows o rows) in
    let whole = five_first (tampers_cursors o) (tampers_cursors from) (needs_node o p) (may_node o b) (needs_node from q) late (tampers_early o) (tampers_early from) (needs_early o p) (may_early o b) (needs_early from q) (late_rows o _ (length_of o + length rows) (length rows)) in
    let cursors = c.refuses_both-cursors.ensures ∙ ap (λ z. first_reason (tampers_cursors o ∷ tampers_cursors from ∷ needs_node o p ∷ may_node o b ∷ z ∷ [])) c.needs_node-from.ensures in
    or_else_some c.refuses_both-cursors.result late (sym c.is_some.ensures ∙ c.if-is_some.true) ∙ ap (λ a. or_else a late) cursors ∙ sym whole

pub count_below-requires : goal.count_below-requires
count_below-requires g c =
    let o = plain c.args.self.now.object in let from = plain c.args.source.now.object in
    let p = seen_by c.args.self.now c.args.parent in let b = seen_by c.args.self.now c.args.before in let q = seen_by c.args.source.now c.args.source_parent in
    let cursors = c.refuses_both-cursors.ensures ∙ ap (λ z. first_reason (tampers_cursors o ∷ tampers_cursors from ∷ needs_node o p ∷ may_node o b ∷ z ∷ [])) c.needs_node-from.ensures in
    (none_found (tampers_cursors o ∷ tampers_cursors from ∷ needs_node o p ∷ may_node o b ∷ needs_node from q ∷ []) (sym cursors ∙ none_if c.refuses_both-cursors.result (sym c.is_some.ensures ∙ c.if-is_some.false))).1.1.1.1.0

pub refuses_rows-requires-clause-parent : goal.refuses_rows-requires-clause-parent
refuses_rows-requires-clause-parent g c =
    let o = plain c.args.self.now.object in let from = plain c.args.source.now.object in
    let p = seen_by c.args.self.now c.args.parent in let b = seen_by c.args.self.now c.args.before in let q = seen_by c.args.source.now c.args.source_parent in
    let cursors = c.refuses_both-cursors.ensures ∙ ap (λ z. first_reason (tampers_cursors o ∷ tampers_cursors from ∷ needs_node o p ∷ may_node o b ∷ z ∷ [])) c.needs_node-from.ensures in
    (none_found (tampers_cursors o ∷ tampers_cursors from ∷ needs_node o p ∷ may_node o b ∷ needs_node from q ∷ []) (sym cursors ∙ none_if c.refuses_both-cursors.result (sym c.is_some.ensures ∙ c.if-is_some.false))).1.1.0

pub refuses_rows-requires-clause-before : goal.refuses_rows-requires-clause-before
refuses_rows-requires-clause-before g c =
    let o = plain c.args.self.now.object in let from = plain c.args.source.now.object in
    let p = seen_by c.args.self.now c.args.parent in let b = seen_by c.args.self.now c.args.before in let q = seen_by c.args.source.now c.args.source_parent in
    let cursors = c.refuses_both-cursors.ensures ∙ ap (λ z. first_reason (tampers_cursors o ∷ tampers_cursors from ∷ needs_node o p ∷ may_node o b ∷ z ∷ [])) c.needs_node-from.ensures in
    (none_found (tampers_cursors o ∷ tampers_cursors from ∷ needs_node o p ∷ may_node o b ∷ needs_node from q ∷ []) (sym cursors ∙ none_if c.refuses_both-cursors.result (sym c.is_some.ensures ∙ c.if-is_some.false))).1.1.1.0

pub returns : goal.returns
returns g c =
    let o = plain c.args.self.now.object in let from = plain c.args.source.now.object in
    let p = seen_by c.args.self.now c.args.parent in let b = seen_by c.args.self.now c.args.before in let q = seen_by c.args.source.now c.args.source_parent in
    let rows = run_at_depth (child_depth o.rows p) from.rows q in
    let late = first_reason (child_or_none o p b ∷ room_for_rows o rows) in
    let whole = five_first (tampers_cursors o) (tampers_cursors from) (needs_node o p) (may_node o b) (needs_node from q) late (tampers_early o) (tampers_early from) (needs_early o p) (may_early o b) (needs_early from q) (late_rows o _ (length_of o + length rows) (length rows)) in
    let cursors = c.refuses_both-cursors.ensures ∙ ap (λ z. first_reason (tampers_cursors o ∷ tampers_cursors from ∷ needs_node o p ∷ may_node o b ∷ z ∷ [])) c.needs_node-from.ensures in
    c.refuses_rows.ensures ∙ ap (λ n. first_reason (child_or_none o p b ∷ room o (length_of o + n) n)) (c.count_below.ensures.count (child_depth o.rows p))
    ∙ or_else_none c.refuses_both-cursors.result late (sym c.is_some.ensures ∙ c.if-is_some.false) ∙ ap (λ a. or_else a late) cursors ∙ sym whole
