-- The calls of multiway trees (A.18.10).
use Rattle.std.specs.Prelude.{◌≡◌, ◌==◌, ◌+◌, ⊤, ℕ, ℤ, pos, Bool, false, not, ◌&&◌, ◌||◌, List, [], ◌∷◌, length, reverse, replicate, find, filter, Option, Some, None, option_map, slice_get, if◌then◌else◌}
use Rattle.std.specs.List.{list_any}
use Rattle.ac_base.specs.declared.reason.Reason.{Reason}
use Rattle.ac_base.specs.declared.reason.Reason.TheVariants.{NoElement, RootNode, RootSource, NotLeaf, NotChild, BelowItself}
use Rattle.ac_base.specs.declared.name.Name.{Name}
use Rattle.ac_base.specs.declared.cursor.Cursor.{Cursor}
use Rattle.ac_base.specs.declared.cursor.Cursor.TheVariants as cursor
use Rattle.ac_base.specs.FirstReason.{first_reason, earlier}
use Rattle.ac_base.specs.Rows.{Row, names, values}
use Rattle.ac_model.specs.Rows.{Node, node, cut, put, is_named, value_at, with_some_value, place_of}
use Rattle.ac_model.specs.Objects.{Object, contents, length_of, with_rows}
use Rattle.ac_model.specs.Letters.{Mark, no_mark, mark_at, stale_mark, mark_of, judged_in, name_of, is_no_mark, tampers_cursors, tampers_elements, count_of, room, reason_if}
use Rattle.ac_model.specs.Cursors.{seen_where, IsOwn}
use Rattle.ac_model.specs.Calls.{Call, call, Look, look, Both, both, Done, takes_none, takes_some}
use Rattle.ac_model.specs.Sequences.{with_new, room_for_copies, copies_take_memory, first_new, are_equal}
use Rattle.ac_model.specs.Outline.{IsValidTree, Spot, spot, depth_of, run_of, children_of, parent_of, is_in, is_in_subtree, path_to, siblings_of, next_after, last_before, run_start, run_rows, subtree_length, subtree_start, subtree_rows, moved_to_depth}

-- the name of a tree's root, which has no row
abbrev pub root_name : Name
root_name = record { slot = 0; serial = 0 }

-- what a library cursor means to a tree
abbrev pub tree_mark : {V : Type 0} → Object Name V → Cursor → Mark
tree_mark o cursor = mark_of o.number (root_name ∷ names o.rows) cursor

-- a cursor that must be at a node, the root too (letter W), and one that may be No_Element besides (letter O)
abbrev pub is_node : {V : Type 0} → Object ℕ V → ℕ → Bool
is_node o name = (name == 0) || is_named o.rows name

-- what a cursor without its slot means to a tree: at the root something stands
abbrev pub seen_in_tree : {V : Type 0} → Object ℕ V → Mark → Mark
seen_in_tree o m = seen_where o.number (is_node o) m

-- the cursor's slot is the one that the tree would find: the root's, or that of the element
abbrev pub AgreesInTree : {V : Type 0} → Object Name V → Cursor → Type 0
AgreesInTree o cursor.NoElement = ⊤
AgreesInTree o (cursor.At object name) = object ≡ o.number → (name.serial ≡ 0 → name ≡ root_name) × IsOwn o name

abbrev pub needs_node : {V : Type 0} → Object ℕ V → Mark → Option Reason
needs_node o no_mark = Some NoElement
needs_node o (mark_at object name) = judged_in o.number object (is_node o name)
needs_node o (stale_mark object) = judged_in o.number object false

abbrev pub may_node : {V : Type 0} → Object ℕ V → Mark → Option Reason
may_node o no_mark = None
may_node o (mark_at object name) = judged_in o.number object (is_node o name)
may_node o (stale_mark object) = judged_in o.number object false

abbrev pub is_root : Mark → Bool
is_root no_mark = false
is_root (mark_at object name) = name == 0
is_root (stale_mark object) = false

-- a cursor that must designate an element (letter C, and a cursor variable that is read as C)
abbrev pub needs_element : {V : Type 0} → Object ℕ V → Mark → Option Reason
needs_element o c = earlier (needs_node o c) (reason_if (is_root c) RootNode)

-- the cursor is No_Element, or at a child of the parent
abbrev pub child_or_none : {T : Type 0} → Object ℕ (Node T) → Mark → Mark → Option Reason
child_or_none o parent before =
    reason_if (not (is_no_mark before) && not (is_in (name_of before) (children_of o.rows (name_of parent)))) NotChild

abbrev pub mark_of_spot : {V : Type 0} → Object ℕ V → Option Spot → Mark
mark_of_spot o None = no_mark
mark_of_spot o (Some s) = mark_at o.number s.name

-- an answer for No_Element, and one for a node
abbrev pub unless_none : {A : Type 0} → Mark → A → A → A
unless_none c none answer = if is_no_mark c then none else answer

-- Node_Count (A.18.10): the root counts
abbrev pub node_count_call : {V : Type 0} → Object ℕ V → ℤ
node_count_call o = pos (1 + length_of o)

-- Root (A.18.10)
abbrev pub root_call : {V : Type 0} → Object ℕ V → Mark
root_call o = mark_at o.number 0

-- Is_Root (A.18.10)
abbrev pub is_root_call : {V : Type 0} → Object ℕ V → Mark → Look Bool
is_root_call o c = look (first_reason (may_node o c ∷ [])) (is_root c)

-- nothing is below the node
abbrev pub is_leaf : {T : Type 0} → Object ℕ (Node T) → Mark → Bool
is_leaf o c = length (children_of o.rows (name_of c)) == 0

-- Is_Leaf (A.18.10)
abbrev pub is_leaf_call : {T : Type 0} → Object ℕ (Node T) → Mark → Look Bool
is_leaf_call o c = look (first_reason (may_node o c ∷ [])) (unless_none c false (is_leaf o c))

-- Depth (A.18.10): the root's is 1
abbrev pub depth_call : {T : Type 0} → Object ℕ (Node T) → Mark → Look ℤ
depth_call o c = look (first_reason (may_node o c ∷ [])) (unless_none c (pos 0) (pos (depth_of o.rows (name_of c))))

-- Subtree_Node_Count (A.18.10)
abbrev pub subtree_node_count_call : {T : Type 0} → Object ℕ (Node T) → Mark → Look ℤ
subtree_node_count_call o c = look (first_reason (may_node o c ∷ [])) (unless_none c (pos 0) (pos (subtree_length o.rows (name_of c))))

-- Child_Count (A.18.10)
abbrev pub child_count_call : {T : Type 0} → Object ℕ (Node T) → Mark → Look ℤ
child_count_call o c = look (first_reason (needs_node o c ∷ [])) (pos (length (children_of o.rows (name_of c))))

-- Parent (A.18.10): the root's is No_Element, and that of a node of depth 2 is the root
abbrev pub parent_call : {T : Type 0} → Object ℕ (Node T) → Mark → Look Mark
parent_call o c = look (first_reason (may_node o c ∷ [])) (unless_none c no_mark (mark_of_spot o (parent_of o.rows (name_of c))))

-- Next_Sibling, Previous_Sibling (A.18.10)
abbrev pub next_sibling_call : {T : Type 0} → Object ℕ (Node T) → Mark → Look Mark
next_sibling_call o c =
    look (first_reason (may_node o c ∷ []))
    (unless_none c no_mark (mark_of_spot o (next_after (siblings_of o.rows (name_of c)) (name_of c))))

abbrev pub previous_sibling_call : {T : Type 0} → Object ℕ (Node T) → Mark → Look Mark
previous_sibling_call o c =
    look (first_reason (may_node o c ∷ []))
    (unless_none c no_mark (mark_of_spot o (last_before (siblings_of o.rows (name_of c)) (name_of c))))

-- First_Child, Last_Child (A.18.10)
abbrev pub first_child_call : {T : Type 0} → Object ℕ (Node T) → Mark → Look Mark
first_child_call o c =
    look (first_reason (needs_node o c ∷ [])) (mark_of_spot o (slice_get (children_of o.rows (name_of c)) 0))

abbrev pub last_child_call : {T : Type 0} → Object ℕ (Node T) → Mark → Look Mark
last_child_call o c =
    look (first_reason (needs_node o c ∷ [])) (mark_of_spot o (slice_get (reverse (children_of o.rows (name_of c))) 0))

-- the first of these rows with an equal element
abbrev pub found_among : {T : Type 0} → (T → T → Bool) → Object ℕ (Node T) → T → List (Row ℕ (Node T)) → Mark
found_among same o element rows = mark_of_spot o (option_map spot (find (λ r. same r.value.element element) rows))

-- Find (A.18.10): the first in preorder
abbrev pub find_call : {T : Type 0} → (T → T → Bool) → Object ℕ (Node T) → T → Mark
find_call same o element = found_among same o element o.rows

-- Contains (A.18.10)
abbrev pub contains_call : {T : Type 0} → (T → T → Bool) → Object ℕ (Node T) → T → Bool
contains_call same o element = list_any (λ v. same v.element element) (contents o)

-- the rows from a node on that are in its subtree: all rows for the root, which is none of them
abbrev pub rows_from : {T : Type 0} → List (Row ℕ (Node T)) → ℕ → List (Row ℕ (Node T))
rows_from rows name = if name == 0 then rows else subtree_rows rows name

-- Find_In_Subtree (A.18.10): the first in preorder, the node itself among them
abbrev pub find_in_subtree_call : {T : Type 0} → (T → T → Bool) → Object ℕ (Node T) → Mark → T → Look Mark
find_in_subtree_call same o c element =
    look (first_reason (needs_node o c ∷ [])) (found_among same o element (rows_from o.rows (name_of c)))

-- Ancestor_Find (A.18.10): the nearest upwards, the node itself among them, and never the root
abbrev pub ancestor_find_call : {T : Type 0} → (T → T → Bool) → Object ℕ (Node T) → Mark → T → Look Mark
ancestor_find_call same o c element =
    let path = path_to o.rows (name_of c) in
    look (first_reason (needs_node o c ∷ [])) (found_among same o element (reverse (filter (λ r. is_in r.name path) o.rows)))

abbrev pub element_of : {T : Type 0} → Option (Node T) → Option T
element_of v = option_map (λ n. n.element) v

-- why Element is refused, and the head of a view (query, update, reference)
abbrev pub view_reason : {V : Type 0} → Object ℕ V → Mark → Option Reason
view_reason o c = first_reason (needs_element o c ∷ [])

-- Element (A.18.10)
abbrev pub element_call : {T : Type 0} → Object ℕ (Node T) → Mark → Look (Option T)
element_call o c = look (view_reason o c) (element_of (value_at o.rows (name_of c)))

-- the rows with another element under the name, at the same depth
abbrev pub with_element : {T : Type 0} → List (Row ℕ (Node T)) → ℕ → Option T → List (Row ℕ (Node T))
with_element rows name None = rows
with_element rows name (Some element) = with_some_value rows name (option_map (λ n. node n.depth element) (value_at rows name))

-- Replace_Element (A.18.10)
abbrev pub replace_element_call : {T : Type 0} → Object ℕ (Node T) → Mark → T → Call (Object ℕ (Node T)) Done
replace_element_call o c element =
    call takes_none (first_reason (tampers_elements o ∷ needs_element o c ∷ [])) (with_rows o (with_element o.rows (name_of c) (Some element))) tt

-- a write through a name that a view or a loop gives for the element: no tampering
abbrev pub write_call : {T : Type 0} → Object ℕ (Node T) → Mark → T → Call (Object ℕ (Node T)) Done
write_call o c element =
    call takes_none (first_reason (needs_element o c ∷ [])) (with_rows o (with_element o.rows (name_of c) (Some element))) tt

-- Swap (A.18.10): the elements
abbrev pub swap_call : {T : Type 0} → Object ℕ (Node T) → Mark → Mark → Call (Object ℕ (Node T)) Done
swap_call o first second =
    call takes_none
    (first_reason (tampers_elements o ∷ needs_element o first ∷ needs_element o second ∷ []))
    (let at_first = element_of (value_at o.rows (name_of first)) in
    let at_second = element_of (value_at o.rows (name_of second)) in
    with_rows o (with_element (with_element o.rows (name_of first) at_second) (name_of second) at_first))
    tt

-- "=" (A.18.10): the same depths and equal elements
abbrev pub equal_call : {T : Type 0} → (T → T → Bool) → Object ℕ (Node T) → Object ℕ (Node T) → Bool
equal_call same left right =
    are_equal (λ m n. (m.depth == n.depth) && same m.element n.element) (contents left) (contents right)

-- where children of a node go: before one of them, or after all that is below it
abbrev pub child_place : {T : Type 0} → List (Row ℕ (Node T)) → Mark → Mark → ℕ
child_place rows parent before =
    if is_no_mark before then run_start rows (name_of parent) + length (run_of rows (name_of parent))
    else place_of rows (name_of before)

-- the depth of a node's children
abbrev pub child_depth : {T : Type 0} → List (Row ℕ (Node T)) → Mark → ℕ
child_depth rows parent = depth_of rows (name_of parent) + 1

abbrev pub with_children : {T : Type 0} → Object ℕ (Node T) → Mark → ℕ → T → ℤ → Object ℕ (Node T)
with_children o parent place element count =
    with_new o place (replicate (count_of count) (node (child_depth o.rows parent) element)) (count_of count)

-- Insert_Child (A.18.10)
abbrev pub insert_child_call : {T : Type 0} → Object ℕ (Node T) → Mark → Mark → T → ℤ → Call (Object ℕ (Node T)) Done
insert_child_call o parent before element count =
    call (copies_take_memory o count)
    (first_reason (tampers_cursors o ∷ needs_node o parent ∷ may_node o before ∷ child_or_none o parent before ∷ room_for_copies o count))
    (with_children o parent (child_place o.rows parent before) element count)
    tt

-- Insert_Child with a position (A.18.10): the variable is set to the first new node
abbrev pub insert_child_pos_call : {T : Type 0} → Object ℕ (Node T) → Mark → Mark → T → ℤ → Call (Object ℕ (Node T)) Mark
insert_child_pos_call o parent before element count =
    call (copies_take_memory o count)
    (first_reason (tampers_cursors o ∷ needs_node o parent ∷ may_node o before ∷ child_or_none o parent before ∷ room_for_copies o count))
    (with_children o parent (child_place o.rows parent before) element count)
    (first_new o before (count_of count))

-- Append_Child, Prepend_Child (A.18.10)
abbrev pub append_child_call : {T : Type 0} → Object ℕ (Node T) → Mark → T → ℤ → Call (Object ℕ (Node T)) Done
append_child_call o parent element count =
    call (copies_take_memory o count)
    (first_reason (tampers_cursors o ∷ needs_node o parent ∷ room_for_copies o count))
    (with_children o parent (child_place o.rows parent no_mark) element count)
    tt

abbrev pub prepend_child_call : {T : Type 0} → Object ℕ (Node T) → Mark → T → ℤ → Call (Object ℕ (Node T)) Done
prepend_child_call o parent element count =
    call (copies_take_memory o count)
    (first_reason (tampers_cursors o ∷ needs_node o parent ∷ room_for_copies o count))
    (with_children o parent (run_start o.rows (name_of parent)) element count)
    tt

-- the rows without a subtree, and without all that is below a node
abbrev pub without_subtree : {T : Type 0} → List (Row ℕ (Node T)) → Mark → List (Row ℕ (Node T))
without_subtree rows c = cut rows (subtree_start rows (name_of c)) (subtree_length rows (name_of c))

abbrev pub without_run : {T : Type 0} → List (Row ℕ (Node T)) → Mark → List (Row ℕ (Node T))
without_run rows c = cut rows (run_start rows (name_of c)) (length (run_of rows (name_of c)))

-- Delete_Leaf (A.18.10)
abbrev pub delete_leaf_call : {T : Type 0} → Object ℕ (Node T) → Mark → Call (Object ℕ (Node T)) Mark
delete_leaf_call o position =
    call takes_none
    (first_reason (tampers_cursors o ∷ needs_element o position ∷ reason_if (not (is_leaf o position)) NotLeaf ∷ []))
    (with_rows o (cut o.rows (place_of o.rows (name_of position)) 1))
    no_mark

-- Delete_Subtree (A.18.10)
abbrev pub delete_subtree_call : {T : Type 0} → Object ℕ (Node T) → Mark → Call (Object ℕ (Node T)) Mark
delete_subtree_call o position =
    call takes_none
    (first_reason (tampers_cursors o ∷ needs_element o position ∷ []))
    (with_rows o (without_subtree o.rows position))
    no_mark

-- Delete_Children (A.18.10)
abbrev pub delete_children_call : {T : Type 0} → Object ℕ (Node T) → Mark → Call (Object ℕ (Node T)) Done
delete_children_call o parent =
    call takes_none
    (first_reason (tampers_cursors o ∷ needs_node o parent ∷ []))
    (with_rows o (without_run o.rows parent))
    tt

-- a subtree of a tree, its top at this depth
abbrev pub subtree_at_depth : {T : Type 0} → ℕ → List (Row ℕ (Node T)) → Mark → List (Row ℕ (Node T))
subtree_at_depth depth rows top = moved_to_depth (depth_of rows (name_of top)) depth (subtree_rows rows (name_of top))

-- what is below a node of a tree, its children at this depth
abbrev pub run_at_depth : {T : Type 0} → ℕ → List (Row ℕ (Node T)) → Mark → List (Row ℕ (Node T))
run_at_depth depth rows parent = moved_to_depth (child_depth rows parent) depth (run_rows rows (name_of parent))

-- the object with these rows' values as new nodes in preorder, as children of a node
abbrev pub with_moved : {T : Type 0} → Object ℕ (Node T) → Mark → Mark → List (Row ℕ (Node T)) → Object ℕ (Node T)
with_moved o parent before rows = with_new o (child_place o.rows parent before) (values rows) (length rows)

abbrev pub room_for_rows : {V : Type 0} → Object ℕ V → List (Row ℕ V) → List (Option Reason)
room_for_rows o rows = room o (length_of o + length rows) (length rows)

-- what a copy copies: nothing for No_Element
abbrev pub copied_rows : {T : Type 0} → ℕ → List (Row ℕ (Node T)) → Mark → List (Row ℕ (Node T))
copied_rows depth rows top = if is_no_mark top then [] else subtree_at_depth depth rows top

-- Copy_Subtree (A.18.10): of another tree, or of the tree itself as it stood at entry, with the tree as the source
abbrev pub copy_subtree_call : {T : Type 0} → Object ℕ (Node T) → Mark → Mark → Object ℕ (Node T) → Mark → Call (Object ℕ (Node T)) Done
copy_subtree_call target parent before source top =
    let rows = copied_rows (child_depth target.rows parent) source.rows top in
    call takes_some
    (first_reason (tampers_cursors target ∷ needs_node target parent ∷ may_node target before ∷ may_node source top
    ∷ reason_if (is_root top) RootSource ∷ child_or_none target parent before ∷ room_for_rows target rows))
    (with_moved target parent before rows)
    tt

-- Splice_Subtree from another tree (A.18.10): the variable is set to the new top
abbrev pub splice_subtree_from_call : {T : Type 0} → Object ℕ (Node T) → Mark → Mark → Object ℕ (Node T) → Mark → Call (Both (Object ℕ (Node T))) Mark
splice_subtree_from_call target parent before source top =
    let rows = subtree_at_depth (child_depth target.rows parent) source.rows top in
    call takes_some
    (first_reason (tampers_cursors target ∷ tampers_cursors source ∷ needs_node target parent ∷ may_node target before ∷ needs_element source top
    ∷ child_or_none target parent before ∷ room_for_rows target rows))
    (both (with_moved target parent before rows) (with_rows source (without_subtree source.rows top)))
    (mark_at target.number target.next)

-- the rows with one of its subtrees moved: it is cut first, and its place is found in what is left
abbrev pub with_subtree_moved : {T : Type 0} → List (Row ℕ (Node T)) → Mark → Mark → Mark → List (Row ℕ (Node T))
with_subtree_moved rows parent before top =
    if name_of before == name_of top then rows
    else
    let left = without_subtree rows top in
    put left (child_place left parent before) (subtree_at_depth (child_depth rows parent) rows top)

abbrev pub splice_subtree_reason : {T : Type 0} → Object ℕ (Node T) → Mark → Mark → Mark → Option Reason
splice_subtree_reason o parent before top =
    first_reason (tampers_cursors o ∷ needs_node o parent ∷ may_node o before ∷ needs_element o top
    ∷ child_or_none o parent before ∷ reason_if (is_in_subtree o.rows (name_of top) (name_of parent)) BelowItself ∷ [])

-- Splice_Subtree within the tree (A.18.10): the names are kept
abbrev pub splice_subtree_call : {T : Type 0} → Object ℕ (Node T) → Mark → Mark → Mark → Call (Object ℕ (Node T)) Done
splice_subtree_call o parent before top =
    call takes_none (splice_subtree_reason o parent before top) (with_rows o (with_subtree_moved o.rows parent before top)) tt

-- Splice_Subtree from the tree itself: the variable keeps its value
abbrev pub splice_subtree_from_self_call : {T : Type 0} → Object ℕ (Node T) → Mark → Mark → Mark → Call (Object ℕ (Node T)) Mark
splice_subtree_from_self_call o parent before top =
    call takes_none (splice_subtree_reason o parent before top) (with_rows o (with_subtree_moved o.rows parent before top)) top

-- Splice_Children from another tree (A.18.10)
abbrev pub splice_children_from_call : {T : Type 0} → Object ℕ (Node T) → Mark → Mark → Object ℕ (Node T) → Mark → Call (Both (Object ℕ (Node T))) Done
splice_children_from_call target parent before source source_parent =
    let rows = run_at_depth (child_depth target.rows parent) source.rows source_parent in
    call takes_some
    (first_reason (tampers_cursors target ∷ tampers_cursors source ∷ needs_node target parent ∷ may_node target before ∷ needs_node source source_parent
    ∷ child_or_none target parent before ∷ room_for_rows target rows))
    (both (with_moved target parent before rows) (with_rows source (without_run source.rows source_parent)))
    tt

-- the rows with all that is below one node moved below another
abbrev pub with_children_moved : {T : Type 0} → List (Row ℕ (Node T)) → Mark → Mark → Mark → List (Row ℕ (Node T))
with_children_moved rows parent before source_parent =
    if name_of parent == name_of source_parent then rows
    else
    let left = without_run rows source_parent in
    put left (child_place left parent before) (run_at_depth (child_depth rows parent) rows source_parent)

-- Splice_Children within the tree (A.18.10): the names are kept. From the tree itself it means the same
abbrev pub splice_children_call : {T : Type 0} → Object ℕ (Node T) → Mark → Mark → Mark → Call (Object ℕ (Node T)) Done
splice_children_call o parent before source_parent =
    call takes_none
    (first_reason (tampers_cursors o ∷ needs_node o parent ∷ may_node o before ∷ needs_node o source_parent
    ∷ child_or_none o parent before ∷ reason_if (is_in (name_of parent) (run_of o.rows (name_of source_parent))) BelowItself ∷ []))
    (with_rows o (with_children_moved o.rows parent before source_parent))
    tt

-- a call keeps a tree valid
abbrev pub KeepsTree : {T A : Type 0} → Object ℕ (Node T) → Call (Object ℕ (Node T)) A → Type 0
KeepsTree o c = IsValidTree o → c.reason ≡ None → IsValidTree c.after

abbrev pub KeepsBothTrees : {T A : Type 0} → Object ℕ (Node T) → Object ℕ (Node T) → Call (Both (Object ℕ (Node T))) A → Type 0
KeepsBothTrees target source c = IsValidTree target → IsValidTree source → c.reason ≡ None → IsValidTree c.after.target × IsValidTree c.after.source
