-- The calls of multiway trees on objects of a script.
use Rattle.std.specs.Prelude.{ℕ}
use Rattle.ac_model.specs.Rows.{Node}
use Rattle.ac_model.specs.Objects.{Object, contents}
use Rattle.ac_model.specs.Trees as tree
use Rattle.ac_syntax.specs.Canonical.{literal_text}
use Rattle.ac_syntax.specs.declared.operation.Operation.{Operation}
use Rattle.ac_syntax.specs.declared.operation.Operation.TheVariants as operation
use Rattle.ac_syntax.specs.declared.operation.TreeCall.{TreeCall}
use Rattle.ac_syntax.specs.declared.operation.TreeCall.TheVariants as tree_call
use Rattle.ac_syntax.specs.declared.operation.TreeChangeCall.{TreeChangeCall}
use Rattle.ac_syntax.specs.declared.operation.TreeChangeCall.TheVariants as tree_change_call
use Rattle.ac_calls.specs.Elements.{Tools}
use Rattle.ac_calls.specs.Answers.{answers_ok, answers_integer, answers_truth, answers_place}
use Rattle.ac_calls.specs.Listings.{tree_listing}
use Rattle.ac_calls.specs.Replies.{Arguments, Source, by_source, Reply, changes_ok, changes_variable, changes_both, changes_both_variable, looks, tells, as_value}
use Rattle.ac_calls.specs.SequenceReplies.{OwnCalls, common_reply}

module _ {T : Type 0} (tools : Tools T) (o : Object ℕ (Node T)) where
  -- a row has an element with its depth, and calls on elements leave the depths
  abbrev pub tree_own : OwnCalls (Node T)
  tree_own = record {
    equal = λ s. tree.equal_call tools.same o s;
    element = λ c. as_value tools (tree.element_call o c);
    replace_element = λ c v. tree.replace_element_call o c (tools.from_value v);
    write = λ c v. tree.write_call o c (tools.from_value v);
    listing = tree_listing (λ e. literal_text (tools.to_value e)) (contents o);
  }

  module _ (args : Arguments) where
    -- of those that only look
    abbrev pub tree_look_reply : TreeCall → Reply (Object ℕ (Node T))
    tree_look_reply tree_call.NodeCount = tells o (answers_integer (tree.node_count_call o))
    tree_look_reply tree_call.Root = tells o (answers_place (tree.root_call o))
    tree_look_reply tree_call.IsRoot = looks o answers_truth (tree.is_root_call o args.first.cursor)
    tree_look_reply tree_call.IsLeaf = looks o answers_truth (tree.is_leaf_call o args.first.cursor)
    tree_look_reply tree_call.Depth = looks o answers_integer (tree.depth_call o args.first.cursor)
    tree_look_reply tree_call.SubtreeNodeCount = looks o answers_integer (tree.subtree_node_count_call o args.first.cursor)
    tree_look_reply tree_call.ChildCount = looks o answers_integer (tree.child_count_call o args.first.cursor)
    tree_look_reply tree_call.Parent = looks o answers_place (tree.parent_call o args.first.cursor)
    tree_look_reply tree_call.NextSibling = looks o answers_place (tree.next_sibling_call o args.first.cursor)
    tree_look_reply tree_call.PreviousSibling = looks o answers_place (tree.previous_sibling_call o args.first.cursor)
    tree_look_reply tree_call.FirstChild = looks o answers_place (tree.first_child_call o args.first.cursor)
    tree_look_reply tree_call.LastChild = looks o answers_place (tree.last_child_call o args.first.cursor)
    tree_look_reply tree_call.Find = tells o (answers_place (tree.find_call tools.same o (tools.from_value args.first.value)))
    tree_look_reply tree_call.Contains = tells o (answers_truth (tree.contains_call tools.same o (tools.from_value args.first.value)))
    tree_look_reply tree_call.FindInSubtree =
        looks o answers_place (tree.find_in_subtree_call tools.same o args.first.cursor (tools.from_value args.second.value))
    tree_look_reply tree_call.AncestorFind =
        looks o answers_place (tree.ancestor_find_call tools.same o args.first.cursor (tools.from_value args.second.value))

  module _ (source : Source (Object ℕ (Node T))) (args : Arguments) where
    -- of those that change a tree. A copy of one of its own subtrees is a copy of that as it stands before the call
    abbrev pub tree_change_reply : TreeChangeCall → Reply (Object ℕ (Node T))
    tree_change_reply tree_change_call.InsertChild =
        changes_ok (tree.insert_child_call o args.first.cursor args.second.cursor (tools.from_value args.third.value) args.fourth.count)
    tree_change_reply tree_change_call.InsertChildPos =
        changes_variable 3 (tree.insert_child_pos_call o args.first.cursor args.second.cursor (tools.from_value args.third.value) args.fifth)
    tree_change_reply tree_change_call.AppendChild =
        changes_ok (tree.append_child_call o args.first.cursor (tools.from_value args.second.value) args.third.count)
    tree_change_reply tree_change_call.PrependChild =
        changes_ok (tree.prepend_child_call o args.first.cursor (tools.from_value args.second.value) args.third.count)
    tree_change_reply tree_change_call.DeleteLeaf = changes_variable 0 (tree.delete_leaf_call o args.first.cursor)
    tree_change_reply tree_change_call.DeleteSubtree = changes_variable 0 (tree.delete_subtree_call o args.first.cursor)
    tree_change_reply tree_change_call.DeleteChildren = changes_ok (tree.delete_children_call o args.first.cursor)
    tree_change_reply tree_change_call.Swap = changes_ok (tree.swap_call o args.first.cursor args.second.cursor)
    tree_change_reply tree_change_call.CopySubtree =
        by_source source (changes_ok (tree.copy_subtree_call o args.first.cursor args.second.cursor o args.fourth.cursor))
        (λ s seen_args. changes_ok (tree.copy_subtree_call o args.first.cursor args.second.cursor s seen_args.fourth.cursor))
    tree_change_reply tree_change_call.SpliceSubtreeFrom =
        by_source source
        (changes_variable 3 (tree.splice_subtree_from_self_call o args.first.cursor args.second.cursor args.fourth.cursor))
        (λ s seen_args.
        changes_both_variable 3 (tree.splice_subtree_from_call o args.first.cursor args.second.cursor s seen_args.fourth.cursor))
    tree_change_reply tree_change_call.SpliceSubtree =
        changes_ok (tree.splice_subtree_call o args.first.cursor args.second.cursor args.third.cursor)
    tree_change_reply tree_change_call.SpliceChildrenFrom =
        by_source source (changes_ok (tree.splice_children_call o args.first.cursor args.second.cursor args.fourth.cursor))
        (λ s seen_args. changes_both (tree.splice_children_from_call o args.first.cursor args.second.cursor s seen_args.fourth.cursor))
    tree_change_reply tree_change_call.SpliceChildren =
        changes_ok (tree.splice_children_call o args.first.cursor args.second.cursor args.third.cursor)

    -- an operation of another kind's objects is none of a tree's
    abbrev pub tree_reply : Operation → Reply (Object ℕ (Node T))
    tree_reply (operation.Common c) = common_reply o source args tree_own c
    tree_reply (operation.Tree c) = tree_look_reply args c
    tree_reply (operation.TreeChange c) = tree_change_reply c
    tree_reply _ = tells o answers_ok
