use Rattle.std.proofs.Common.{◌≡◌, ◌+◌, ◌∷◌, [], None, true, not, length, refl, sym, ap, subst}
use Rattle.ac_base.specs.declared.reason.Reason.TheVariants.{NotLeaf}
use Rattle.ac_base.proofs.FirstReason.{none_found}
use Rattle.ac_model.specs.Calls.{IsAfter}
use Rattle.ac_model.specs.Containers.{Container}
use Rattle.ac_model.specs.Letters.{tampers_cursors, reason_if, name_of}
use Rattle.ac_model.specs.Objects.{Object, plain, with_rows, length_of}
use Rattle.ac_model.specs.Rows.{cut, place_of}
use Rattle.ac_model.specs.Trees.{needs_element, is_leaf, tree_mark}
use Rattle.ac_model.proofs.Reasons.{passed}
use Rattle.ac_tree.specs.Forests.{outline}
use Rattle.ac_tree.specs.TreeFields.{forest_in}
use Rattle.ac_tree.specs.TreeRows.{tree_object}
use Rattle.ac_tree.proofs.Leaves.{leaf, leaf_tree, leaf_after, leaf_slots}
use Rattle.ac_tree.proofs.Steps.{leaf_if}
use Rattle.ac_tree.proofs.tree.Tree.delete_leaf.Goals as goal

pub invariant_of-self : goal.invariant_of-self
invariant_of-self g c =
    let i = c.self.inside in let o = c.args.self.now.object in let view = ap (λ (x : Container _). x.object) c.self.view_is in
    let q = c.args.position.now in let own = tree_object i.guards i.limit i.links in
    let no_reason = passed _ _ c.in_ok-allowed.ensures c.refuses_leaf.ensures in
    let none = none_found (tampers_cursors (plain o) ∷ needs_element (plain o) (tree_mark o q) ∷ reason_if (not (is_leaf (plain o) (tree_mark o q))) NotLeaf ∷ []) (sym no_reason) in
    let needs = subst (λ (x : Object _ _). needs_element (plain x) (tree_mark x q) ≡ None) (sym view) none.1.0 in
    let childless = subst (λ (x : Object _ _). is_leaf (plain x) (tree_mark x q) ≡ true) (sym view) (leaf_if (is_leaf (plain o) (tree_mark o q)) none.1.1.0) in
    let k = leaf i.links c.self.invariant.forest own refl q c.name_in.result needs c.name_in.ensures childless in
    let r = c.remove.ensures k.steps k.at k.rest k.stands k.named in
    leaf_tree i.limit i.links c.remove.new.self k.steps k.at k.rest c.self.invariant k.stands r

pub returns-clause-changed : goal.returns-clause-changed
returns-clause-changed g c =
    let i = c.self.inside in let o = c.args.self.now.object in let view = ap (λ (x : Container _). x.object) c.self.view_is in
    let q = c.args.position.now in let own = tree_object i.guards i.limit i.links in
    let no_reason = passed _ _ c.in_ok-allowed.ensures c.refuses_leaf.ensures in
    let none = none_found (tampers_cursors (plain o) ∷ needs_element (plain o) (tree_mark o q) ∷ reason_if (not (is_leaf (plain o) (tree_mark o q))) NotLeaf ∷ []) (sym no_reason) in
    let needs = subst (λ (x : Object _ _). needs_element (plain x) (tree_mark x q) ≡ None) (sym view) none.1.0 in
    let childless = subst (λ (x : Object _ _). is_leaf (plain x) (tree_mark x q) ≡ true) (sym view) (leaf_if (is_leaf (plain o) (tree_mark o q)) none.1.1.0) in
    let k = leaf i.links c.self.invariant.forest own refl q c.name_in.result needs c.name_in.ensures childless in
    let r = c.remove.ensures k.steps k.at k.rest k.stands k.named in
    let now = tree_object i.guards i.limit c.remove.new.self in (
      (
        sym no_reason,
        subst (λ (x : Object _ _). IsAfter x now (with_rows (plain x) (cut (plain x).rows (place_of (plain x).rows (name_of (tree_mark x q))) 1))) view
            (leaf_after i.guards i.limit i.links c.remove.new.self k.steps k.at k.rest (place_of (plain own).rows (name_of (tree_mark own q))) k.stands r k.place),
        refl,
      ),
      tt,
    )

pub returns-clause-slots : goal.returns-clause-slots
returns-clause-slots g c =
    let i = c.self.inside in let o = c.args.self.now.object in let view = ap (λ (x : Container _). x.object) c.self.view_is in
    let q = c.args.position.now in let own = tree_object i.guards i.limit i.links in
    let no_reason = passed _ _ c.in_ok-allowed.ensures c.refuses_leaf.ensures in
    let none = none_found (tampers_cursors (plain o) ∷ needs_element (plain o) (tree_mark o q) ∷ reason_if (not (is_leaf (plain o) (tree_mark o q))) NotLeaf ∷ []) (sym no_reason) in
    let needs = subst (λ (x : Object _ _). needs_element (plain x) (tree_mark x q) ≡ None) (sym view) none.1.0 in
    let childless = subst (λ (x : Object _ _). is_leaf (plain x) (tree_mark x q) ≡ true) (sym view) (leaf_if (is_leaf (plain o) (tree_mark o q)) none.1.1.0) in
    let k = leaf i.links c.self.invariant.forest own refl q c.name_in.result needs c.name_in.ensures childless in
    let r = c.remove.ensures k.steps k.at k.rest k.stands k.named in
    subst (λ (x : Container _). length (outline 2 (forest_in c.remove.new.self)) + c.remove.new.self.nodes.spare ≡ length_of x.object + x.spare) c.self.view_is (leaf_slots i.links c.remove.new.self k.steps k.at k.rest k.stands r)
