-- What stays of a tree through each call.
use Rattle.std.proofs.Common.{◌≡◌, ℕ, List, [], ◌∷◌, ◌++◌, not, refl, ◌∙◌, Option, Some, None}
use Rattle.ac_base.specs.declared.reason.Reason.TheVariants.{RootSource, NotLeaf, BelowItself}
use Rattle.ac_base.specs.Rows.{Row, names}
use Rattle.ac_model.specs.Rows.{Node, value_at}
use Rattle.ac_model.specs.Objects.{Object}
use Rattle.ac_model.specs.Letters.{Mark, no_mark, name_of, tampers_cursors, reason_if}
use Rattle.ac_model.specs.Outline.{is_in, is_in_subtree, run_of, run_start}
use Rattle.ac_model.specs.Sequences.{room_for_copies}
use Rattle.ac_model.specs.Trees.{needs_node, may_node, needs_element, child_or_none, is_root, is_leaf, child_depth, child_place, copy_subtree_call, subtree_at_depth, run_at_depth, copied_rows, room_for_rows, element_of, with_element}
use Rattle.ac_syntax.specs.declared.operation.Operation.{Operation}
use Rattle.ac_syntax.specs.declared.operation.Operation.TheVariants as operation
use Rattle.ac_syntax.specs.declared.operation.TreeCall.{TreeCall}
use Rattle.ac_syntax.specs.declared.operation.TreeCall.TheVariants as tree_call
use Rattle.ac_syntax.specs.declared.operation.TreeChangeCall.{TreeChangeCall}
use Rattle.ac_syntax.specs.declared.operation.TreeChangeCall.TheVariants as tree_change_call
use Rattle.ac_calls.specs.Elements.{Tools}
use Rattle.ac_calls.specs.TreeReplies.{tree_own, tree_look_reply, tree_change_reply, tree_reply}
use Rattle.ac_calls.specs.Replies.{Arguments, Source, another}
use Rattle.ac_meaning.specs.Stays.{Stays, ReplyStays}
use Rattle.ac_meaning.proofs.CallsStay.{alone, by_source_stays, same, renamed, changed, grows, first_check, second_check, names-with_some_value}
use Rattle.ac_meaning.proofs.RoomsFound.{copies_fit, rows_fit}
use Rattle.ac_meaning.proofs.ListsStay.{common_stays}

pub names-with_element : {T : Type 0} (rows : List (Row ℕ (Node T))) (name : ℕ) (element : Option T) →
    names (with_element rows name element) ≡ names rows
names-with_element rows name None = refl
names-with_element rows name (Some element) = names-with_some_value rows name _

module _ {T : Type 0} (tools : Tools T) (o : Object ℕ (Node T)) (source : Source (Object ℕ (Node T))) (args : Arguments) where
  look_stays : (c : TreeCall) → ReplyStays o source (tree_look_reply tools o args c)
  look_stays tree_call.NodeCount = alone o source _ refl (same o _)
  look_stays tree_call.Root = alone o source _ refl (same o _)
  look_stays tree_call.IsRoot = alone o source _ refl (same o _)
  look_stays tree_call.IsLeaf = alone o source _ refl (same o _)
  look_stays tree_call.Depth = alone o source _ refl (same o _)
  look_stays tree_call.SubtreeNodeCount = alone o source _ refl (same o _)
  look_stays tree_call.ChildCount = alone o source _ refl (same o _)
  look_stays tree_call.Parent = alone o source _ refl (same o _)
  look_stays tree_call.NextSibling = alone o source _ refl (same o _)
  look_stays tree_call.PreviousSibling = alone o source _ refl (same o _)
  look_stays tree_call.FirstChild = alone o source _ refl (same o _)
  look_stays tree_call.LastChild = alone o source _ refl (same o _)
  look_stays tree_call.Find = alone o source _ refl (same o _)
  look_stays tree_call.Contains = alone o source _ refl (same o _)
  look_stays tree_call.FindInSubtree = alone o source _ refl (same o _)
  look_stays tree_call.AncestorFind = alone o source _ refl (same o _)

  -- the copy of a subtree, of this tree or of another
  copy_stays : (parent before : Mark) (s : Object ℕ (Node T)) (top : Mark) →
      Stays o (copy_subtree_call o parent before s top).reason (copy_subtree_call o parent before s top).after
  copy_stays parent before s top =
      let checks = needs_node o parent ∷ may_node o before ∷ may_node s top ∷ reason_if (is_root top) RootSource ∷ child_or_none o parent before ∷ [] in
      let rows = copied_rows (child_depth o.rows parent) s.rows top in
      grows o _ _ _ (first_check o (checks ++ room_for_rows o rows))
      (rows_fit (tampers_cursors o ∷ checks) o (child_place o.rows parent before) rows)

  change_stays : (c : TreeChangeCall) → ReplyStays o source (tree_change_reply tools o source args c)
  change_stays tree_change_call.InsertChild =
      let parent = args.first.cursor in let before = args.second.cursor in
      alone o source _ refl
      (grows o _ _ _
      (first_check o (needs_node o parent ∷ may_node o before ∷ child_or_none o parent before ∷ room_for_copies o args.fourth.count))
      (copies_fit (tampers_cursors o ∷ needs_node o parent ∷ may_node o before ∷ child_or_none o parent before ∷ []) o
      (child_place o.rows parent before) _ args.fourth.count))
  change_stays tree_change_call.InsertChildPos =
      let parent = args.first.cursor in let before = args.second.cursor in
      alone o source _ refl
      (grows o _ _ _
      (first_check o (needs_node o parent ∷ may_node o before ∷ child_or_none o parent before ∷ room_for_copies o args.fifth))
      (copies_fit (tampers_cursors o ∷ needs_node o parent ∷ may_node o before ∷ child_or_none o parent before ∷ []) o
      (child_place o.rows parent before) _ args.fifth))
  change_stays tree_change_call.AppendChild =
      alone o source _ refl
      (grows o _ _ _ (first_check o (needs_node o args.first.cursor ∷ room_for_copies o args.third.count))
      (copies_fit (tampers_cursors o ∷ needs_node o args.first.cursor ∷ []) o (child_place o.rows args.first.cursor no_mark) _ args.third.count))
  change_stays tree_change_call.PrependChild =
      alone o source _ refl
      (grows o _ _ _ (first_check o (needs_node o args.first.cursor ∷ room_for_copies o args.third.count))
      (copies_fit (tampers_cursors o ∷ needs_node o args.first.cursor ∷ []) o (run_start o.rows (name_of args.first.cursor)) _ args.third.count))
  change_stays tree_change_call.DeleteLeaf =
      let position = args.first.cursor in
      alone o source _ refl
      (changed o _ _ (first_check o (needs_element o position ∷ reason_if (not (is_leaf o position)) NotLeaf ∷ [])))
  change_stays tree_change_call.DeleteSubtree =
      alone o source _ refl (changed o _ _ (first_check o (needs_element o args.first.cursor ∷ [])))
  change_stays tree_change_call.DeleteChildren =
      alone o source _ refl (changed o _ _ (first_check o (needs_node o args.first.cursor ∷ [])))
  change_stays tree_change_call.Swap =
      let first = name_of args.first.cursor in let second = name_of args.second.cursor in
      let at_first = element_of (value_at o.rows first) in let at_second = element_of (value_at o.rows second) in
      alone o source _ refl
      (renamed o _ _ (names-with_element (with_element o.rows first at_second) second at_first ∙ names-with_element o.rows first at_second))
  change_stays tree_change_call.CopySubtree =
      let parent = args.first.cursor in let before = args.second.cursor in
      by_source_stays o source _ _ refl (copy_stays parent before o args.fourth.cursor)
      (λ s seen. alone o (another s seen) _ refl (copy_stays parent before s seen.fourth.cursor))
  change_stays tree_change_call.SpliceSubtreeFrom =
      let parent = args.first.cursor in let before = args.second.cursor in
      by_source_stays o source _ _ refl
      (changed o _ _
      (first_check o
      (needs_node o parent ∷ may_node o before ∷ needs_element o args.fourth.cursor ∷ child_or_none o parent before
      ∷ reason_if (is_in_subtree o.rows (name_of args.fourth.cursor) (name_of parent)) BelowItself ∷ [])))
      (λ s seen.
      let checks = needs_node o parent ∷ may_node o before ∷ needs_element s seen.fourth.cursor ∷ child_or_none o parent before ∷ [] in
      let rows = subtree_at_depth (child_depth o.rows parent) s.rows seen.fourth.cursor in
      let others = checks ++ room_for_rows o rows in
      record {
        target = grows o _ _ _ (first_check o (tampers_cursors s ∷ others))
            (rows_fit (tampers_cursors o ∷ tampers_cursors s ∷ checks) o (child_place o.rows parent before) rows);
        source_stays = changed s _ _ (second_check s (tampers_cursors o) others);
      })
  change_stays tree_change_call.SpliceSubtree =
      let parent = args.first.cursor in let before = args.second.cursor in
      alone o source _ refl
      (changed o _ _
      (first_check o
      (needs_node o parent ∷ may_node o before ∷ needs_element o args.third.cursor ∷ child_or_none o parent before
      ∷ reason_if (is_in_subtree o.rows (name_of args.third.cursor) (name_of parent)) BelowItself ∷ [])))
  change_stays tree_change_call.SpliceChildrenFrom =
      let parent = args.first.cursor in let before = args.second.cursor in
      by_source_stays o source _ _ refl
      (changed o _ _
      (first_check o
      (needs_node o parent ∷ may_node o before ∷ needs_node o args.fourth.cursor ∷ child_or_none o parent before
      ∷ reason_if (is_in (name_of parent) (run_of o.rows (name_of args.fourth.cursor))) BelowItself ∷ [])))
      (λ s seen.
      let checks = needs_node o parent ∷ may_node o before ∷ needs_node s seen.fourth.cursor ∷ child_or_none o parent before ∷ [] in
      let rows = run_at_depth (child_depth o.rows parent) s.rows seen.fourth.cursor in
      let others = checks ++ room_for_rows o rows in
      record {
        target = grows o _ _ _ (first_check o (tampers_cursors s ∷ others))
            (rows_fit (tampers_cursors o ∷ tampers_cursors s ∷ checks) o (child_place o.rows parent before) rows);
        source_stays = changed s _ _ (second_check s (tampers_cursors o) others);
      })
  change_stays tree_change_call.SpliceChildren =
      let parent = args.first.cursor in let before = args.second.cursor in
      alone o source _ refl
      (changed o _ _
      (first_check o
      (needs_node o parent ∷ may_node o before ∷ needs_node o args.third.cursor ∷ child_or_none o parent before
      ∷ reason_if (is_in (name_of parent) (run_of o.rows (name_of args.third.cursor))) BelowItself ∷ [])))

  pub tree_stays : (op : Operation) → ReplyStays o source (tree_reply tools o source args op)
  tree_stays (operation.Common c) =
      common_stays o source args (tree_own tools o) (λ at v. renamed o _ _ (names-with_element o.rows (name_of at) (Some (tools.from_value v)))) c
  tree_stays (operation.Tree c) = look_stays c
  tree_stays (operation.TreeChange c) = change_stays c
  tree_stays _ = alone o source _ refl (same o _)
