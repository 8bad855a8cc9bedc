use Rattle.std.proofs.Common.{◌∷◌, [], None, not, sym, ap, ◌∙◌}
use Rattle.ac_base.specs.declared.guard.Class.TheVariants as class
use Rattle.ac_base.specs.declared.reason.Reason.TheVariants.{NotLeaf}
use Rattle.ac_base.specs.FirstReason.{first_reason, earlier}
use Rattle.ac_base.specs.Tampering.{forbids}
use Rattle.ac_base.proofs.FirstReason.{none_found}
use Rattle.ac_base.proofs.Earlier.{with_none_later}
use Rattle.ac_model.specs.Containers.{Container}
use Rattle.ac_model.specs.Letters.{tampers_cursors, reason_if}
use Rattle.ac_model.specs.Objects.{plain}
use Rattle.ac_model.specs.Trees.{needs_element, is_leaf}
use Rattle.ac_chain.specs.TreeCursors.{seen_by}
use Rattle.ac_tree.proofs.Steps.{or_else, or_else_some, or_else_none, two_first, tampers_early, element_early, late_leaf, none_if}
use Rattle.ac_tree.proofs.tree.Tree.refuses_leaf.Goals as goal

pub returns-then-is_some : goal.returns-then-is_some
returns-then-is_some g c =
    let o = plain c.args.self.now.object in let m = seen_by c.args.self.now c.args.position in
    let late = first_reason (reason_if (not (is_leaf o m)) NotLeaf ∷ []) in
    let whole = two_first (tampers_cursors o) (needs_element o m) late (tampers_early o) (element_early o m) (late_leaf (not (is_leaf o m))) in
    let guards = c.forbids.ensures ∙ ap (λ (x : Container _). forbids class.Cursors x.object.cursor_guards x.object.element_guards) c.self.view_is in
    let place = c.first_reason-place.ensures ∙ (λ j. earlier (guards j) (earlier (c.needs_element.ensures j) None)) in
    or_else_some c.first_reason-place.result late (sym c.is_some.ensures ∙ c.if-is_some.true) ∙ ap (λ a. or_else a late) place ∙ sym whole

pub is_childless-is_leaf-requires : goal.is_childless-is_leaf-requires
is_childless-is_leaf-requires g c =
    let o = plain c.args.self.now.object in let m = seen_by c.args.self.now c.args.position in
    let late = first_reason (reason_if (not (is_leaf o m)) NotLeaf ∷ []) in
    let whole = two_first (tampers_cursors o) (needs_element o m) late (tampers_early o) (element_early o m) (late_leaf (not (is_leaf o m))) in
    let guards = c.forbids.ensures ∙ ap (λ (x : Container _). forbids class.Cursors x.object.cursor_guards x.object.element_guards) c.self.view_is in
    let place = c.first_reason-place.ensures ∙ (λ j. earlier (guards j) (earlier (c.needs_element.ensures j) None)) in
    let none = none_found (tampers_cursors o ∷ needs_element o m ∷ []) (sym place ∙ none_if c.first_reason-place.result (sym c.is_some.ensures ∙ c.if-is_some.false)) in none.1.0

pub returns : goal.returns
returns g c =
    let o = plain c.args.self.now.object in let m = seen_by c.args.self.now c.args.position in
    let late = first_reason (reason_if (not (is_leaf o m)) NotLeaf ∷ []) in
    let whole = two_first (tampers_cursors o) (needs_element o m) late (tampers_early o) (element_early o m) (late_leaf (not (is_leaf o m))) in
    let guards = c.forbids.ensures ∙ ap (λ (x : Container _). forbids class.Cursors x.object.cursor_guards x.object.element_guards) c.self.view_is in
    let place = c.first_reason-place.ensures ∙ (λ j. earlier (guards j) (earlier (c.needs_element.ensures j) None)) in
    c.reason_if.ensures ∙ ap (λ b. reason_if (not b) NotLeaf) c.is_childless-is_leaf.ensures ∙ sym (with_none_later (reason_if (not (is_leaf o m)) NotLeaf))
    ∙ or_else_none c.first_reason-place.result late (sym c.is_some.ensures ∙ c.if-is_some.false) ∙ ap (λ a. or_else a late) place ∙ sym whole
