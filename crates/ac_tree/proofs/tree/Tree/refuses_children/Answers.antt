use Rattle.std.proofs.Common.{◌∷◌, sym, ap, ◌∙◌, to_z-of_z, w64}
use Rattle.ac_base.specs.FirstReason.{first_reason, earlier}
use Rattle.ac_base.proofs.Earlier.{with_none_later}
use Rattle.ac_model.specs.Letters.{tampers_cursors}
use Rattle.ac_model.specs.Objects.{plain}
use Rattle.ac_model.specs.Sequences.{room_for_copies}
use Rattle.ac_model.specs.Trees.{needs_node, may_node, child_or_none}
use Rattle.ac_chain.specs.TreeCursors.{seen_by}
use Rattle.ac_tree.proofs.Steps.{or_else, or_else_some, or_else_none, three_first, tampers_early, needs_early, may_early, late_child}
use Rattle.ac_tree.proofs.tree.Tree.refuses_children.Goals as goal

pub returns-then-is_some : goal.returns-then-is_some
returns-then-is_some g c =
    let o = plain c.args.self.now.object in
    let p = seen_by c.args.self.now c.args.parent in let b = seen_by c.args.self.now c.args.before in
    let late = first_reason (child_or_none o p b ∷ room_for_copies o c.args.n) in
    let whole = three_first (tampers_cursors o) (needs_node o p) (may_node o b) late (tampers_early o) (needs_early o p) (may_early o b) (late_child o _ c.args.n) in
    or_else_some c.refuses_place-place.result late (sym c.is_some.ensures ∙ c.if-is_some.true) ∙ ap (λ a. or_else a late) c.refuses_place-place.ensures ∙ sym whole

pub returns : goal.returns
returns g c =
    let o = plain c.args.self.now.object in
    let p = seen_by c.args.self.now c.args.parent in let b = seen_by c.args.self.now c.args.before in
    let late = first_reason (child_or_none o p b ∷ room_for_copies o c.args.n) in
    let whole = three_first (tampers_cursors o) (needs_node o p) (may_node o b) late (tampers_early o) (needs_early o p) (may_early o b) (late_child o _ c.args.n) in
    let same = to_z-of_z {w = w64} {z = c.args.n} c.ranges.n in
    c.first_reason.ensures
    ∙ (λ j. earlier (c.refuses_child.ensures j) ((with_none_later c.refuses_count.result ∙ c.refuses_count.ensures ∙ ap (λ m. first_reason (room_for_copies o m)) same) j))
    ∙ or_else_none c.refuses_place-place.result late (sym c.is_some.ensures ∙ c.if-is_some.false) ∙ ap (λ a. or_else a late) c.refuses_place-place.ensures ∙ sym whole
