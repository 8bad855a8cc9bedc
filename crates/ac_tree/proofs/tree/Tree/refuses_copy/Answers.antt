use Rattle.std.proofs.Common.{◌∷◌, [], ◌+◌, sym, ap, ◌∙◌, length}
use Rattle.ac_base.specs.FirstReason.{first_reason, earlier}
use Rattle.ac_base.proofs.FirstReason.{none_found}
use Rattle.ac_base.specs.declared.reason.Reason.TheVariants.{RootSource}
use Rattle.ac_model.specs.Letters.{tampers_cursors, reason_if, room}
use Rattle.ac_model.specs.Objects.{plain, length_of}
use Rattle.ac_model.specs.Trees.{needs_node, may_node, is_root, child_or_none, child_depth, copied_rows, room_for_rows}
use Rattle.ac_chain.specs.TreeCursors.{seen_by}
use Rattle.ac_tree.proofs.Steps.{or_else, or_else_some, or_else_none, four_first, joined_early, tampers_early, needs_early, may_early, source_early, root_early, late_rows, none_if}
use Rattle.ac_tree.proofs.tree.Tree.refuses_copy.Goals as goal

pub returns-then-is_some : goal.returns-then-is_some
returns-then-is_some g c =
    let o = plain c.args.self.now.object in let from = plain c.args.source.now.object in
    let p = seen_by c.args.self.now c.args.parent in let b = seen_by c.args.self.now c.args.before in let q = seen_by c.args.source.now c.args.top in
    let rows = copied_rows (child_depth o.rows p) from.rows q in
    let late = first_reason (child_or_none o p b ∷ room_for_rows o rows) in
    let mid = earlier (may_node from q) (reason_if (is_root q) RootSource) in
    let end = late_rows o _ (length_of o + length rows) (length rows) in
    let whole = four_first (tampers_cursors o) (needs_node o p) (may_node o b) mid late (tampers_early o) (needs_early o p) (may_early o b) (source_early from q) end in
    let same = joined_early (may_node from q) (reason_if (is_root q) RootSource) late (may_early from q) (root_early q) end in
    or_else_some c.refuses_cursors-cursors.result late (sym c.is_some.ensures ∙ c.if-is_some.true) ∙ ap (λ a. or_else a late) c.refuses_cursors-cursors.ensures ∙ sym whole
    ∙ sym (ap (λ z. earlier (tampers_cursors o) (earlier (needs_node o p) (earlier (may_node o b) z))) same)

pub count_copied-requires : goal.count_copied-requires
count_copied-requires g c =
    let o = plain c.args.self.now.object in let from = plain c.args.source.now.object in
    let p = seen_by c.args.self.now c.args.parent in let b = seen_by c.args.self.now c.args.before in let q = seen_by c.args.source.now c.args.top in
    (none_found (tampers_cursors o ∷ needs_node o p ∷ may_node o b ∷ earlier (may_node from q) (reason_if (is_root q) RootSource) ∷ []) (sym c.refuses_cursors-cursors.ensures ∙ none_if c.refuses_cursors-cursors.result (sym c.is_some.ensures ∙ c.if-is_some.false))).1.1.1.0

pub refuses_rows-requires-clause-parent : goal.refuses_rows-requires-clause-parent
refuses_rows-requires-clause-parent g c =
    let o = plain c.args.self.now.object in let from = plain c.args.source.now.object in
    let p = seen_by c.args.self.now c.args.parent in let b = seen_by c.args.self.now c.args.before in let q = seen_by c.args.source.now c.args.top in
    (none_found (tampers_cursors o ∷ needs_node o p ∷ may_node o b ∷ earlier (may_node from q) (reason_if (is_root q) RootSource) ∷ []) (sym c.refuses_cursors-cursors.ensures ∙ none_if c.refuses_cursors-cursors.result (sym c.is_some.ensures ∙ c.if-is_some.false))).1.0

pub refuses_rows-requires-clause-before : goal.refuses_rows-requires-clause-before
refuses_rows-requires-clause-before g c =
    let o = plain c.args.self.now.object in let from = plain c.args.source.now.object in
    let p = seen_by c.args.self.now c.args.parent in let b = seen_by c.args.self.now c.args.before in let q = seen_by c.args.source.now c.args.top in
    (none_found (tampers_cursors o ∷ needs_node o p ∷ may_node o b ∷ earlier (may_node from q) (reason_if (is_root q) RootSource) ∷ []) (sym c.refuses_cursors-cursors.ensures ∙ none_if c.refuses_cursors-cursors.result (sym c.is_some.ensures ∙ c.if-is_some.false))).1.1.0

pub returns : goal.returns
returns g c =
    let o = plain c.args.self.now.object in let from = plain c.args.source.now.object in
    let p = seen_by c.args.self.now c.args.parent in let b = seen_by c.args.self.now c.args.before in let q = seen_by c.args.source.now c.args.top in
    let rows = copied_rows (child_depth o.rows p) from.rows q in
    let late = first_reason (child_or_none o p b ∷ room_for_rows o rows) in
    let mid = earlier (may_node from q) (reason_if (is_root q) RootSource) in
    let end = late_rows o _ (length_of o + length rows) (length rows) in
    let whole = four_first (tampers_cursors o) (needs_node o p) (may_node o b) mid late (tampers_early o) (needs_early o p) (may_early o b) (source_early from q) end in
    let same = joined_early (may_node from q) (reason_if (is_root q) RootSource) late (may_early from q) (root_early q) end in
    let count = c.count_copied.ensures.count (child_depth o.rows p) in
    c.refuses_rows.ensures ∙ ap (λ n. first_reason (child_or_none o p b ∷ room o (length_of o + n) n)) count
    ∙ or_else_none c.refuses_cursors-cursors.result late (sym c.is_some.ensures ∙ c.if-is_some.false) ∙ ap (λ a. or_else a late) c.refuses_cursors-cursors.ensures ∙ sym whole
    ∙ sym (ap (λ z. earlier (tampers_cursors o) (earlier (needs_node o p) (earlier (may_node o b) z))) same)
