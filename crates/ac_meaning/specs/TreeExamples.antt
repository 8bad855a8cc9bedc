-- Worked rows: what scripts with multiway trees write, to the byte.
use Rattle.std.specs.Prelude.{◌≡◌, List, [], ◌∷◌, Bool, true, false, ℕ, Option, Some, None, codes}
use Rattle.ac_syntax.specs.Code.{set_at, loop_at, view_at, stable_at, Code, stop, one, block}
use Rattle.ac_syntax.specs.declared.arg.Arg.{Arg}
use Rattle.ac_syntax.specs.declared.arg.Arg.TheVariants.{NoElement, Var}
use Rattle.ac_syntax.specs.declared.decl.Decl.{Decl}
use Rattle.ac_syntax.specs.declared.decl.Decl.TheVariants as decl
use Rattle.ac_syntax.specs.declared.kind.Kind.TheVariants as kind
use Rattle.ac_syntax.specs.declared.kind.ElemKind.{ElemKind}
use Rattle.ac_syntax.specs.declared.kind.ElemKind.TheVariants.{Integer, Str}
use Rattle.ac_syntax.specs.declared.view_kind.ViewKind.TheVariants.{Query, Update}
use Rattle.ac_meaning.specs.Environment.{nodes}
use Rattle.ac_meaning.specs.Execution.{run, text_of}
use Rattle.ac_meaning.specs.Examples.{lines, number, string, called, gets, script}
use Rattle.ac_meaning.specs.KeyedExamples.{position}

abbrev pub tree_type : (bounded : Bool) → ElemKind → Decl
tree_type bounded first =
    decl.TypeDecl 1 (codes "t") (record { bounded = bounded; kind = kind.Tree; first = first; second = None; keyed = false })

abbrev pub tree_of : ℕ → List ℕ → (capacity : Option ℕ) → Decl
tree_of line name capacity = decl.Object line name (codes "t") capacity

-- a call, and one whose answer is assigned
abbrev pub does : ℕ → List ℕ → List ℕ → List Arg → Code → Code
does line object word args rest = one (called line object word args) rest

abbrev pub takes : ℕ → List ℕ → List ℕ → List ℕ → List Arg → Code → Code
takes line target object word args rest = one (gets line target object word args) rest

-- children go below a node, a subtree doesn't go below itself, and it leaves whole
abbrev pub NodesComeAndGo : Type 0
NodesComeAndGo =
    text_of (script (tree_type false Integer ∷ tree_of 2 (codes "a") None ∷ position 3 (codes "r") ∷ position 4 (codes "c") ∷ [])
    (does 5 (codes "a") (codes "node_count") []
    (takes 6 (codes "r") (codes "a") (codes "root") []
    (does 7 (codes "a") (codes "depth") (Var (codes "r") ∷ [])
    (does 8 (codes "a") (codes "append_child") (Var (codes "r") ∷ number 1 ∷ [])
    (takes 9 (codes "c") (codes "a") (codes "first_child") (Var (codes "r") ∷ [])
    (does 10 (codes "a") (codes "append_child") (Var (codes "c") ∷ number 2 ∷ [])
    (does 11 (codes "a") (codes "append_child") (Var (codes "c") ∷ number 3 ∷ [])
    (does 12 (codes "a") (codes "append_child") (Var (codes "r") ∷ number 4 ∷ [])
    (does 13 (codes "a") (codes "print") []
    (does 14 (codes "a") (codes "splice_subtree") (Var (codes "c") ∷ NoElement ∷ Var (codes "c") ∷ [])
    (does 15 (codes "a") (codes "element") (Var (codes "r") ∷ [])
    (does 16 (codes "a") (codes "delete_leaf") (Var (codes "c") ∷ [])
    (does 17 (codes "a") (codes "insert_child") (Var (codes "c") ∷ Var (codes "r") ∷ number 9 ∷ [])
    (does 18 (codes "a") (codes "depth") (Var (codes "c") ∷ [])
    (does 19 (codes "a") (codes "delete_subtree") (Var (codes "c") ∷ [])
    (does 20 (codes "a") (codes "print") []
    stop)))))))))))))))))
    ≡ lines (codes "5: 1" ∷ codes "6: cursor" ∷ codes "7: 1" ∷ codes "8: ok" ∷ codes "9: cursor" ∷ codes "10: ok"
    ∷ codes "11: ok" ∷ codes "12: ok" ∷ codes "13: [1 [2, 3], 4]" ∷ codes "14: raised CONSTRAINT_ERROR (below itself)"
    ∷ codes "15: raised PROGRAM_ERROR (root)" ∷ codes "16: raised CONSTRAINT_ERROR (not a leaf)"
    ∷ codes "17: raised CONSTRAINT_ERROR (not a child)" ∷ codes "18: 2" ∷ codes "19: ok" ∷ codes "20: [4]" ∷ [])

-- a subtree's copy is made as it stood, children move with all that is below them, and the root is none
abbrev pub SubtreesAreCopied : Type 0
SubtreesAreCopied =
    text_of (script
    (tree_type false Integer ∷ tree_of 2 (codes "a") None ∷ position 3 (codes "r") ∷ position 4 (codes "c")
    ∷ position 5 (codes "d") ∷ [])
    (takes 6 (codes "r") (codes "a") (codes "root") []
    (does 7 (codes "a") (codes "append_child") (Var (codes "r") ∷ number 1 ∷ [])
    (takes 8 (codes "c") (codes "a") (codes "first_child") (Var (codes "r") ∷ [])
    (does 9 (codes "a") (codes "append_child") (Var (codes "c") ∷ number 2 ∷ [])
    (does 10 (codes "a") (codes "copy_subtree") (Var (codes "r") ∷ Var (codes "c") ∷ Var (codes "a") ∷ Var (codes "c") ∷ [])
    (does 11 (codes "a") (codes "print") []
    (takes 12 (codes "d") (codes "a") (codes "last_child") (Var (codes "r") ∷ [])
    (does 13 (codes "a") (codes "splice_children") (Var (codes "r") ∷ NoElement ∷ Var (codes "d") ∷ [])
    (does 14 (codes "a") (codes "print") []
    (does 15 (codes "a") (codes "copy_subtree") (Var (codes "r") ∷ NoElement ∷ Var (codes "a") ∷ Var (codes "r") ∷ [])
    (does 16 (codes "a") (codes "node_count") []
    stop))))))))))))
    ≡ lines (codes "6: cursor" ∷ codes "7: ok" ∷ codes "8: cursor" ∷ codes "9: ok" ∷ codes "10: ok"
    ∷ codes "11: [1 [2], 1 [2]]" ∷ codes "12: cursor" ∷ codes "13: ok" ∷ codes "14: [1 [2], 1, 2]"
    ∷ codes "15: raised CONSTRAINT_ERROR (root source)" ∷ codes "16: 5" ∷ [])

-- what a tree says of its nodes, of its root and of none
abbrev pub NodesAreAsked : Type 0
NodesAreAsked =
    text_of (script (tree_type false Integer ∷ tree_of 2 (codes "a") None ∷ position 3 (codes "r") ∷ position 4 (codes "c") ∷ [])
    (does 5 (codes "a") (codes "is_leaf") (NoElement ∷ [])
    (takes 6 (codes "r") (codes "a") (codes "root") []
    (does 7 (codes "a") (codes "is_leaf") (Var (codes "r") ∷ [])
    (does 8 (codes "a") (codes "is_root") (Var (codes "r") ∷ [])
    (does 9 (codes "a") (codes "is_root") (NoElement ∷ [])
    (does 10 (codes "a") (codes "append_child") (Var (codes "r") ∷ number 8 ∷ number 2 ∷ [])
    (takes 11 (codes "c") (codes "a") (codes "first_child") (Var (codes "r") ∷ [])
    (does 12 (codes "a") (codes "append_child") (Var (codes "c") ∷ number 5 ∷ [])
    (does 13 (codes "a") (codes "is_root") (Var (codes "c") ∷ [])
    (does 14 (codes "a") (codes "is_leaf") (Var (codes "c") ∷ [])
    (does 15 (codes "a") (codes "subtree_node_count") (Var (codes "c") ∷ [])
    (does 16 (codes "a") (codes "subtree_node_count") (Var (codes "r") ∷ [])
    (does 17 (codes "a") (codes "subtree_node_count") (NoElement ∷ [])
    (does 18 (codes "a") (codes "child_count") (Var (codes "r") ∷ [])
    (does 19 (codes "a") (codes "child_count") (NoElement ∷ [])
    (does 20 (codes "a") (codes "depth") (NoElement ∷ [])
    (does 21 (codes "a") (codes "is_empty") []
    (does 22 (codes "a") (codes "node_count") []
    stop)))))))))))))))))))
    ≡ lines (codes "5: false" ∷ codes "6: cursor" ∷ codes "7: true" ∷ codes "8: true" ∷ codes "9: false" ∷ codes "10: ok"
    ∷ codes "11: cursor" ∷ codes "12: ok" ∷ codes "13: false" ∷ codes "14: false" ∷ codes "15: 2" ∷ codes "16: 4"
    ∷ codes "17: 0" ∷ codes "18: 2" ∷ codes "19: raised CONSTRAINT_ERROR (no element)" ∷ codes "20: 0"
    ∷ codes "21: false" ∷ codes "22: 4" ∷ [])

-- the ways up, down and to the sides, and what is found on them
abbrev pub WaysLeadOn : Type 0
WaysLeadOn =
    text_of (script (tree_type false Integer ∷ tree_of 2 (codes "a") None ∷ position 3 (codes "r") ∷ position 4 (codes "c") ∷ [])
    (takes 5 (codes "r") (codes "a") (codes "root") []
    (does 6 (codes "a") (codes "append_child") (Var (codes "r") ∷ number 8 ∷ number 2 ∷ [])
    (takes 7 (codes "c") (codes "a") (codes "first_child") (Var (codes "r") ∷ [])
    (does 8 (codes "a") (codes "append_child") (Var (codes "c") ∷ number 5 ∷ [])
    (does 9 (codes "a") (codes "first_child") (NoElement ∷ [])
    (does 10 (codes "a") (codes "parent") (Var (codes "r") ∷ [])
    (does 11 (codes "a") (codes "parent") (NoElement ∷ [])
    (does 12 (codes "a") (codes "next_sibling") (Var (codes "r") ∷ [])
    (takes 13 (codes "c") (codes "a") (codes "next_sibling") (Var (codes "c") ∷ [])
    (does 14 (codes "a") (codes "next_sibling") (Var (codes "c") ∷ [])
    (does 15 (codes "a") (codes "last_child") (Var (codes "c") ∷ [])
    (takes 16 (codes "c") (codes "a") (codes "previous_sibling") (Var (codes "c") ∷ [])
    (does 17 (codes "a") (codes "previous_sibling") (Var (codes "c") ∷ [])
    (takes 18 (codes "c") (codes "a") (codes "last_child") (Var (codes "c") ∷ [])
    (does 19 (codes "a") (codes "element") (Var (codes "c") ∷ [])
    (does 20 (codes "a") (codes "depth") (Var (codes "c") ∷ [])
    (does 21 (codes "a") (codes "ancestor_find") (Var (codes "c") ∷ number 8 ∷ [])
    (does 22 (codes "a") (codes "ancestor_find") (Var (codes "c") ∷ number 9 ∷ [])
    (does 23 (codes "a") (codes "find_in_subtree") (Var (codes "c") ∷ number 8 ∷ [])
    (takes 24 (codes "c") (codes "a") (codes "ancestor_find") (Var (codes "c") ∷ number 8 ∷ [])
    (does 25 (codes "a") (codes "find_in_subtree") (Var (codes "c") ∷ number 5 ∷ [])
    (does 26 (codes "a") (codes "find") (number 7 ∷ [])
    (does 27 (codes "a") (codes "contains") (number 5 ∷ [])
    (does 28 (codes "a") (codes "has_element") (Var (codes "r") ∷ [])
    (does 29 (codes "a") (codes "ancestor_find") (Var (codes "r") ∷ number 8 ∷ [])
    (takes 30 (codes "c") (codes "a") (codes "parent") (Var (codes "c") ∷ [])
    (does 31 (codes "a") (codes "is_root") (Var (codes "c") ∷ [])
    (takes 32 (codes "c") (codes "a") (codes "find_in_subtree") (Var (codes "c") ∷ number 8 ∷ [])
    (does 33 (codes "a") (codes "depth") (Var (codes "c") ∷ [])
    stop))))))))))))))))))))))))))))))
    ≡ lines (codes "5: cursor" ∷ codes "6: ok" ∷ codes "7: cursor" ∷ codes "8: ok"
    ∷ codes "9: raised CONSTRAINT_ERROR (no element)" ∷ codes "10: no_element" ∷ codes "11: no_element"
    ∷ codes "12: no_element" ∷ codes "13: cursor" ∷ codes "14: no_element" ∷ codes "15: no_element"
    ∷ codes "16: cursor" ∷ codes "17: no_element" ∷ codes "18: cursor" ∷ codes "19: 5" ∷ codes "20: 3"
    ∷ codes "21: cursor" ∷ codes "22: no_element" ∷ codes "23: no_element" ∷ codes "24: cursor" ∷ codes "25: cursor"
    ∷ codes "26: no_element" ∷ codes "27: true" ∷ codes "28: false" ∷ codes "29: no_element" ∷ codes "30: cursor"
    ∷ codes "31: true" ∷ codes "32: cursor" ∷ codes "33: 2" ∷ [])

-- new nodes before one and in front, with a count and with a position, and elements that are exchanged
abbrev pub NodesAreChanged : Type 0
NodesAreChanged =
    text_of (script
    (tree_type false Str ∷ tree_of 2 (codes "a") None ∷ position 3 (codes "r") ∷ position 4 (codes "c") ∷ position 5 (codes "d") ∷ [])
    (takes 6 (codes "r") (codes "a") (codes "root") []
    (does 7 (codes "a") (codes "insert_child") (Var (codes "r") ∷ NoElement ∷ string (codes "b") ∷ Var (codes "d") ∷ [])
    (does 8 (codes "a") (codes "prepend_child") (Var (codes "r") ∷ string (codes "a") ∷ number 2 ∷ [])
    (does 9 (codes "a") (codes "insert_child") (Var (codes "r") ∷ Var (codes "d") ∷ string (codes "c") ∷ Var (codes "c") ∷ number 2 ∷ [])
    (does 10 (codes "a") (codes "print") []
    (does 11 (codes "a") (codes "insert_child") (Var (codes "d") ∷ NoElement ∷ string (codes "d") ∷ [])
    (does 12 (codes "a") (codes "append_child") (Var (codes "c") ∷ string (codes "e") ∷ number 3 ∷ [])
    (does 13 (codes "a") (codes "swap") (Var (codes "c") ∷ Var (codes "d") ∷ [])
    (does 14 (codes "a") (codes "print") []
    (does 15 (codes "a") (codes "replace_element") (Var (codes "d") ∷ string (codes "f") ∷ [])
    (does 16 (codes "a") (codes "swap") (Var (codes "c") ∷ Var (codes "r") ∷ [])
    (does 17 (codes "a") (codes "replace_element") (Var (codes "r") ∷ string (codes "f") ∷ [])
    (does 18 (codes "a") (codes "insert_child") (Var (codes "r") ∷ Var (codes "d") ∷ string (codes "g") ∷ Var (codes "c") ∷ number 0 ∷ [])
    (does 19 (codes "a") (codes "element") (Var (codes "c") ∷ [])
    (does 20 (codes "a") (codes "insert_child") (Var (codes "d") ∷ Var (codes "d") ∷ string (codes "g") ∷ Var (codes "c") ∷ [])
    (does 21 (codes "a") (codes "delete_children") (Var (codes "c") ∷ [])
    (takes 22 (codes "c") (codes "a") (codes "first_child") (Var (codes "r") ∷ [])
    (does 23 (codes "a") (codes "delete_subtree") (Var (codes "c") ∷ [])
    (does 24 (codes "a") (codes "element") (Var (codes "c") ∷ [])
    (does 25 (codes "a") (codes "delete_leaf") (Var (codes "c") ∷ [])
    (does 26 (codes "a") (codes "insert_child") (Var (codes "c") ∷ NoElement ∷ string (codes "g") ∷ [])
    (does 27 (codes "a") (codes "delete_leaf") (Var (codes "r") ∷ [])
    (does 28 (codes "a") (codes "print") []
    (does 29 (codes "a") (codes "delete_children") (Var (codes "r") ∷ [])
    (does 30 (codes "a") (codes "print") []
    (does 31 (codes "a") (codes "is_leaf") (Var (codes "r") ∷ [])
    (does 32 (codes "a") (codes "element") (Var (codes "d") ∷ [])
    (does 33 (codes "a") (codes "depth") (Var (codes "d") ∷ [])
    stop)))))))))))))))))))))))))))))
    ≡ lines (codes "6: cursor" ∷ codes "7: ok" ∷ codes "8: ok" ∷ codes "9: ok"
    ∷ codes "10: [\"a\", \"a\", \"c\", \"c\", \"b\"]" ∷ codes "11: ok" ∷ codes "12: ok" ∷ codes "13: ok"
    ∷ codes "14: [\"a\", \"a\", \"b\" [\"e\", \"e\", \"e\"], \"c\", \"c\" [\"d\"]]" ∷ codes "15: ok"
    ∷ codes "16: raised PROGRAM_ERROR (root)" ∷ codes "17: raised PROGRAM_ERROR (root)" ∷ codes "18: ok"
    ∷ codes "19: \"f\"" ∷ codes "20: raised CONSTRAINT_ERROR (not a child)" ∷ codes "21: ok" ∷ codes "22: cursor"
    ∷ codes "23: ok" ∷ codes "24: raised CONSTRAINT_ERROR (no element)"
    ∷ codes "25: raised CONSTRAINT_ERROR (no element)" ∷ codes "26: raised CONSTRAINT_ERROR (no element)"
    ∷ codes "27: raised PROGRAM_ERROR (root)" ∷ codes "28: [\"a\", \"b\" [\"e\", \"e\", \"e\"], \"c\", \"f\"]"
    ∷ codes "29: ok" ∷ codes "30: []" ∷ codes "31: true" ∷ codes "32: raised PROGRAM_ERROR (dead cursor)"
    ∷ codes "33: raised PROGRAM_ERROR (dead cursor)" ∷ [])

-- within a tree nodes move with their names, and no node moves below itself
abbrev pub SubtreesMove : Type 0
SubtreesMove =
    text_of (script
    (tree_type false Integer ∷ tree_of 2 (codes "a") None ∷ position 3 (codes "r") ∷ position 4 (codes "c")
    ∷ position 5 (codes "d") ∷ [])
    (takes 6 (codes "r") (codes "a") (codes "root") []
    (does 7 (codes "a") (codes "append_child") (Var (codes "r") ∷ number 1 ∷ [])
    (takes 8 (codes "c") (codes "a") (codes "first_child") (Var (codes "r") ∷ [])
    (does 9 (codes "a") (codes "append_child") (Var (codes "c") ∷ number 2 ∷ number 2 ∷ [])
    (does 10 (codes "a") (codes "insert_child") (Var (codes "r") ∷ NoElement ∷ number 4 ∷ Var (codes "d") ∷ [])
    (does 11 (codes "a") (codes "append_child") (Var (codes "d") ∷ number 5 ∷ [])
    (does 12 (codes "a") (codes "splice_subtree") (Var (codes "c") ∷ NoElement ∷ Var (codes "d") ∷ [])
    (does 13 (codes "a") (codes "print") []
    (does 14 (codes "a") (codes "depth") (Var (codes "d") ∷ [])
    (does 15 (codes "a") (codes "splice_children") (Var (codes "d") ∷ NoElement ∷ Var (codes "c") ∷ [])
    (does 16 (codes "a") (codes "splice_children") (Var (codes "r") ∷ Var (codes "c") ∷ Var (codes "d") ∷ [])
    (does 17 (codes "a") (codes "print") []
    (does 18 (codes "a") (codes "splice_children") (Var (codes "r") ∷ NoElement ∷ Var (codes "r") ∷ [])
    (does 19 (codes "a") (codes "splice_subtree") (Var (codes "d") ∷ NoElement ∷ Var (codes "d") ∷ [])
    (does 20 (codes "a") (codes "splice_subtree") (Var (codes "r") ∷ Var (codes "c") ∷ Var (codes "c") ∷ [])
    (does 21 (codes "a") (codes "splice_subtree") (Var (codes "r") ∷ Var (codes "c") ∷ Var (codes "a") ∷ Var (codes "d") ∷ [])
    (does 22 (codes "a") (codes "print") []
    (does 23 (codes "a") (codes "element") (Var (codes "d") ∷ [])
    (does 24 (codes "a") (codes "splice_subtree") (Var (codes "d") ∷ Var (codes "c") ∷ Var (codes "c") ∷ [])
    (does 25 (codes "a") (codes "splice_subtree") (Var (codes "r") ∷ NoElement ∷ Var (codes "r") ∷ [])
    (does 26 (codes "a") (codes "splice_children") (Var (codes "r") ∷ NoElement ∷ Var (codes "a") ∷ Var (codes "c") ∷ [])
    (does 27 (codes "a") (codes "splice_children") (Var (codes "c") ∷ NoElement ∷ Var (codes "a") ∷ NoElement ∷ [])
    (does 28 (codes "a") (codes "copy_subtree") (Var (codes "d") ∷ NoElement ∷ Var (codes "a") ∷ Var (codes "c") ∷ [])
    (does 29 (codes "a") (codes "print") []
    (does 30 (codes "a") (codes "copy_subtree") (Var (codes "d") ∷ Var (codes "d") ∷ Var (codes "a") ∷ Var (codes "r") ∷ [])
    (does 31 (codes "a") (codes "copy_subtree") (Var (codes "d") ∷ Var (codes "d") ∷ Var (codes "a") ∷ NoElement ∷ [])
    (does 32 (codes "a") (codes "copy_subtree") (Var (codes "d") ∷ NoElement ∷ Var (codes "a") ∷ NoElement ∷ [])
    (does 33 (codes "a") (codes "node_count") []
    stop)))))))))))))))))))))))))))))
    ≡ lines (codes "6: cursor" ∷ codes "7: ok" ∷ codes "8: cursor" ∷ codes "9: ok" ∷ codes "10: ok" ∷ codes "11: ok"
    ∷ codes "12: ok" ∷ codes "13: [1 [2, 2, 4 [5]]]" ∷ codes "14: 3"
    ∷ codes "15: raised CONSTRAINT_ERROR (below itself)" ∷ codes "16: ok" ∷ codes "17: [5, 1 [2, 2, 4]]"
    ∷ codes "18: ok" ∷ codes "19: raised CONSTRAINT_ERROR (below itself)" ∷ codes "20: ok" ∷ codes "21: ok"
    ∷ codes "22: [5, 4, 1 [2, 2]]" ∷ codes "23: 4" ∷ codes "24: raised CONSTRAINT_ERROR (not a child)"
    ∷ codes "25: raised PROGRAM_ERROR (root)" ∷ codes "26: ok" ∷ codes "27: raised CONSTRAINT_ERROR (no element)"
    ∷ codes "28: ok" ∷ codes "29: [5, 4 [1], 1, 2, 2]" ∷ codes "30: raised CONSTRAINT_ERROR (root source)"
    ∷ codes "31: raised CONSTRAINT_ERROR (not a child)" ∷ codes "32: ok" ∷ codes "33: 7" ∷ [])

-- from another tree nodes come under new names, and the cursors of the old ones are dead
abbrev pub TreesGiveAndTake : Type 0
TreesGiveAndTake =
    text_of (script
    (tree_type false Integer ∷ tree_of 2 (codes "a") None ∷ tree_of 3 (codes "b") None ∷ position 4 (codes "c")
    ∷ position 5 (codes "d") ∷ position 6 (codes "r") ∷ [])
    (takes 7 (codes "r") (codes "a") (codes "root") []
    (takes 8 (codes "c") (codes "b") (codes "root") []
    (does 9 (codes "b") (codes "append_child") (Var (codes "c") ∷ number 1 ∷ [])
    (takes 10 (codes "c") (codes "b") (codes "first_child") (Var (codes "c") ∷ [])
    (does 11 (codes "b") (codes "append_child") (Var (codes "c") ∷ number 2 ∷ number 2 ∷ [])
    (does 12 (codes "b") (codes "append_child") (Var (codes "r") ∷ number 9 ∷ [])
    (one (set_at 13 (codes "d") (Var (codes "c")))
    (does 14 (codes "a") (codes "splice_subtree") (Var (codes "r") ∷ NoElement ∷ Var (codes "b") ∷ Var (codes "r") ∷ [])
    (does 15 (codes "a") (codes "copy_subtree") (Var (codes "r") ∷ NoElement ∷ Var (codes "b") ∷ Var (codes "c") ∷ [])
    (does 16 (codes "a") (codes "splice_subtree") (Var (codes "r") ∷ NoElement ∷ Var (codes "b") ∷ Var (codes "c") ∷ [])
    (does 17 (codes "a") (codes "print") []
    (does 18 (codes "b") (codes "print") []
    (does 19 (codes "a") (codes "element") (Var (codes "c") ∷ [])
    (does 20 (codes "b") (codes "element") (Var (codes "d") ∷ [])
    (does 21 (codes "a") (codes "splice_children") (Var (codes "c") ∷ NoElement ∷ Var (codes "a") ∷ Var (codes "r") ∷ [])
    (does 22 (codes "b") (codes "assign") (Var (codes "a") ∷ [])
    (does 23 (codes "b") (codes "equal") (Var (codes "a") ∷ [])
    (does 24 (codes "a") (codes "replace_element") (Var (codes "c") ∷ number 7 ∷ [])
    (does 25 (codes "b") (codes "equal") (Var (codes "a") ∷ [])
    (does 26 (codes "b") (codes "assign") (Var (codes "b") ∷ [])
    (takes 27 (codes "d") (codes "b") (codes "root") []
    (takes 28 (codes "d") (codes "b") (codes "last_child") (Var (codes "d") ∷ [])
    (does 29 (codes "a") (codes "splice_children") (Var (codes "c") ∷ NoElement ∷ Var (codes "b") ∷ Var (codes "d") ∷ [])
    (does 30 (codes "a") (codes "print") []
    (does 31 (codes "b") (codes "print") []
    (does 32 (codes "b") (codes "element") (Var (codes "d") ∷ [])
    (does 33 (codes "b") (codes "move") (Var (codes "a") ∷ [])
    (does 34 (codes "a") (codes "is_empty") []
    (does 35 (codes "b") (codes "print") []
    (does 36 (codes "b") (codes "move") (Var (codes "b") ∷ [])
    (does 37 (codes "a") (codes "element") (Var (codes "c") ∷ [])
    (does 38 (codes "a") (codes "is_root") (Var (codes "r") ∷ [])
    (does 39 (codes "a") (codes "equal") (Var (codes "a") ∷ [])
    (does 40 (codes "b") (codes "clear") []
    (does 41 (codes "a") (codes "equal") (Var (codes "b") ∷ [])
    stop))))))))))))))))))))))))))))))))))))
    ≡ lines (codes "7: cursor" ∷ codes "8: cursor" ∷ codes "9: ok" ∷ codes "10: cursor" ∷ codes "11: ok"
    ∷ codes "12: raised PROGRAM_ERROR (foreign cursor)" ∷ codes "13: cursor"
    ∷ codes "14: raised PROGRAM_ERROR (foreign cursor)" ∷ codes "15: ok" ∷ codes "16: ok"
    ∷ codes "17: [1 [2, 2], 1 [2, 2]]" ∷ codes "18: []" ∷ codes "19: 1"
    ∷ codes "20: raised PROGRAM_ERROR (dead cursor)" ∷ codes "21: raised CONSTRAINT_ERROR (below itself)"
    ∷ codes "22: ok" ∷ codes "23: true" ∷ codes "24: ok" ∷ codes "25: false" ∷ codes "26: ok" ∷ codes "27: cursor"
    ∷ codes "28: cursor" ∷ codes "29: ok" ∷ codes "30: [1 [2, 2], 7 [2, 2, 2, 2]]" ∷ codes "31: [1 [2, 2], 1]"
    ∷ codes "32: 1" ∷ codes "33: ok" ∷ codes "34: true" ∷ codes "35: [1 [2, 2], 7 [2, 2, 2, 2]]" ∷ codes "36: ok"
    ∷ codes "37: raised PROGRAM_ERROR (dead cursor)" ∷ codes "38: true" ∷ codes "39: true" ∷ codes "40: ok"
    ∷ codes "41: true" ∷ [])

-- trees are equal with the same elements at the same depths
abbrev pub DepthsAreCompared : Type 0
DepthsAreCompared =
    text_of (script
    (tree_type false Integer ∷ tree_of 2 (codes "a") None ∷ tree_of 3 (codes "b") None ∷ position 4 (codes "c") ∷ [])
    (takes 5 (codes "c") (codes "a") (codes "root") []
    (does 6 (codes "a") (codes "append_child") (Var (codes "c") ∷ number 1 ∷ [])
    (does 7 (codes "a") (codes "append_child") (Var (codes "c") ∷ number 2 ∷ [])
    (takes 8 (codes "c") (codes "b") (codes "root") []
    (does 9 (codes "b") (codes "append_child") (Var (codes "c") ∷ number 1 ∷ [])
    (takes 10 (codes "c") (codes "b") (codes "first_child") (Var (codes "c") ∷ [])
    (does 11 (codes "b") (codes "append_child") (Var (codes "c") ∷ number 2 ∷ [])
    (does 12 (codes "a") (codes "equal") (Var (codes "b") ∷ [])
    (does 13 (codes "b") (codes "splice_subtree") (Var (codes "c") ∷ NoElement ∷ Var (codes "c") ∷ [])
    (takes 14 (codes "c") (codes "b") (codes "first_child") (Var (codes "c") ∷ [])
    (does 15 (codes "b") (codes "delete_leaf") (Var (codes "c") ∷ [])
    (does 16 (codes "a") (codes "equal") (Var (codes "b") ∷ [])
    (takes 17 (codes "c") (codes "b") (codes "root") []
    (does 18 (codes "b") (codes "append_child") (Var (codes "c") ∷ number 2 ∷ [])
    (does 19 (codes "a") (codes "equal") (Var (codes "b") ∷ [])
    stop))))))))))))))))
    ≡ lines (codes "5: cursor" ∷ codes "6: ok" ∷ codes "7: ok" ∷ codes "8: cursor" ∷ codes "9: ok" ∷ codes "10: cursor"
    ∷ codes "11: ok" ∷ codes "12: false" ∷ codes "13: raised CONSTRAINT_ERROR (below itself)" ∷ codes "14: cursor"
    ∷ codes "15: ok" ∷ codes "16: false" ∷ codes "17: cursor" ∷ codes "18: ok" ∷ codes "19: true" ∷ [])

-- a loop meets the nodes in preorder, which then don't come, go or move, and elements are written
abbrev pub TreeLoopsHoldTheirGuards : Type 0
TreeLoopsHoldTheirGuards =
    text_of (script (tree_type false Integer ∷ tree_of 2 (codes "a") None ∷ position 3 (codes "r") ∷ position 4 (codes "c") ∷ [])
    (takes 5 (codes "r") (codes "a") (codes "root") []
    (does 6 (codes "a") (codes "append_child") (Var (codes "r") ∷ number 1 ∷ number 2 ∷ [])
    (takes 7 (codes "c") (codes "a") (codes "first_child") (Var (codes "r") ∷ [])
    (does 8 (codes "a") (codes "append_child") (Var (codes "c") ∷ number 2 ∷ [])
    (block (loop_at 9 (codes "d") false false (codes "a"))
    (does 10 (codes "a") (codes "depth") (Var (codes "d") ∷ [])
    (does 11 (codes "a") (codes "splice_subtree") (Var (codes "r") ∷ NoElement ∷ Var (codes "d") ∷ [])
    (does 12 (codes "a") (codes "replace_element") (Var (codes "d") ∷ number 3 ∷ [])
    stop)))
    (block (loop_at 14 (codes "e") true false (codes "a"))
    (one (set_at 15 (codes "e") (number 4))
    (does 16 (codes "a") (codes "replace_element") (Var (codes "c") ∷ number 5 ∷ [])
    (does 17 (codes "a") (codes "swap") (Var (codes "c") ∷ Var (codes "r") ∷ [])
    stop)))
    (does 19 (codes "a") (codes "print") []
    (block (stable_at 20 (codes "a"))
    (does 21 (codes "a") (codes "delete_children") (Var (codes "r") ∷ [])
    (does 22 (codes "a") (codes "replace_element") (Var (codes "c") ∷ number 6 ∷ [])
    (block (view_at 23 Update (codes "a") (Some (codes "c")) (codes "x"))
    (one (set_at 24 (codes "x") (number 7))
    stop)
    stop)))
    (block (view_at 27 Query (codes "a") (Some (codes "r")) (codes "x"))
    (does 28 (codes "a") (codes "clear") []
    stop)
    (block (view_at 30 Query (codes "a") (Some (codes "c")) (codes "x"))
    (does 31 (codes "a") (codes "append_child") (Var (codes "c") ∷ number 8 ∷ [])
    (takes 32 (codes "r") (codes "a") (codes "parent") (Var (codes "c") ∷ [])
    stop))
    (does 34 (codes "a") (codes "clear") []
    (does 35 (codes "a") (codes "print") []
    stop)))))))))))))
    ≡ lines (codes "5: cursor" ∷ codes "6: ok" ∷ codes "7: cursor" ∷ codes "8: ok" ∷ codes "10: 2"
    ∷ codes "11: raised PROGRAM_ERROR (cursor tampering)" ∷ codes "12: ok" ∷ codes "10: 3"
    ∷ codes "11: raised PROGRAM_ERROR (cursor tampering)" ∷ codes "12: ok" ∷ codes "10: 2"
    ∷ codes "11: raised PROGRAM_ERROR (cursor tampering)" ∷ codes "12: ok" ∷ codes "15: 4"
    ∷ codes "16: raised PROGRAM_ERROR (element tampering)" ∷ codes "17: raised PROGRAM_ERROR (element tampering)"
    ∷ codes "15: 4" ∷ codes "16: raised PROGRAM_ERROR (element tampering)"
    ∷ codes "17: raised PROGRAM_ERROR (element tampering)" ∷ codes "15: 4"
    ∷ codes "16: raised PROGRAM_ERROR (element tampering)" ∷ codes "17: raised PROGRAM_ERROR (element tampering)"
    ∷ codes "19: [4 [4], 4]" ∷ codes "21: raised PROGRAM_ERROR (element tampering)"
    ∷ codes "22: raised PROGRAM_ERROR (element tampering)" ∷ codes "24: 7" ∷ codes "27: raised PROGRAM_ERROR (root)"
    ∷ codes "31: raised PROGRAM_ERROR (element tampering)" ∷ codes "32: cursor" ∷ codes "34: ok" ∷ codes "35: []" ∷ [])

-- a bounded tree has so many elements at most, and its root isn't one
abbrev pub BoundedTreesAreFull : Type 0
BoundedTreesAreFull =
    text_of (script
    (tree_type true Integer ∷ tree_of 2 (codes "a") (Some 3) ∷ tree_of 3 (codes "b") (Some 2) ∷ position 4 (codes "r")
    ∷ position 5 (codes "c") ∷ [])
    (takes 6 (codes "r") (codes "a") (codes "root") []
    (does 7 (codes "a") (codes "append_child") (Var (codes "r") ∷ number 1 ∷ number 4 ∷ [])
    (does 8 (codes "a") (codes "append_child") (Var (codes "r") ∷ number 1 ∷ number 3 ∷ [])
    (does 9 (codes "a") (codes "node_count") []
    (does 10 (codes "a") (codes "append_child") (Var (codes "r") ∷ number 2 ∷ [])
    (does 11 (codes "a") (codes "append_child") (Var (codes "r") ∷ number 2 ∷ number 0 ∷ [])
    (takes 12 (codes "c") (codes "a") (codes "first_child") (Var (codes "r") ∷ [])
    (does 13 (codes "a") (codes "copy_subtree") (Var (codes "r") ∷ NoElement ∷ Var (codes "a") ∷ Var (codes "c") ∷ [])
    (does 14 (codes "a") (codes "splice_subtree") (Var (codes "c") ∷ NoElement ∷ Var (codes "a") ∷ Var (codes "c") ∷ [])
    (does 15 (codes "b") (codes "assign") (Var (codes "a") ∷ [])
    (takes 16 (codes "r") (codes "b") (codes "root") []
    (does 17 (codes "b") (codes "splice_children") (Var (codes "r") ∷ NoElement ∷ Var (codes "a") ∷ Var (codes "r") ∷ [])
    (does 18 (codes "b") (codes "splice_subtree") (Var (codes "r") ∷ NoElement ∷ Var (codes "a") ∷ Var (codes "c") ∷ [])
    (does 19 (codes "b") (codes "copy_subtree") (Var (codes "r") ∷ NoElement ∷ Var (codes "b") ∷ Var (codes "c") ∷ [])
    (does 20 (codes "b") (codes "splice_subtree") (Var (codes "r") ∷ Var (codes "c") ∷ Var (codes "b") ∷ Var (codes "c") ∷ [])
    (does 21 (codes "a") (codes "print") []
    (does 22 (codes "b") (codes "print") []
    stop))))))))))))))))))
    ≡ lines (codes "6: cursor" ∷ codes "7: raised CAPACITY_ERROR (full)" ∷ codes "8: ok" ∷ codes "9: 4"
    ∷ codes "10: raised CAPACITY_ERROR (full)" ∷ codes "11: ok" ∷ codes "12: cursor"
    ∷ codes "13: raised CAPACITY_ERROR (full)" ∷ codes "14: raised CONSTRAINT_ERROR (below itself)"
    ∷ codes "15: raised CAPACITY_ERROR (full)" ∷ codes "16: cursor" ∷ codes "17: raised PROGRAM_ERROR (foreign cursor)"
    ∷ codes "18: ok" ∷ codes "19: ok" ∷ codes "20: ok" ∷ codes "21: [1, 1]" ∷ codes "22: [1, 1]" ∷ [])

-- a tree's elements are its nodes, without the root
abbrev pub RootsAreNoNodes : Type 0
RootsAreNoNodes =
    nodes (run (script (tree_type false Integer ∷ tree_of 2 (codes "a") None ∷ tree_of 3 (codes "b") None ∷ position 4 (codes "r") ∷ [])
    (takes 5 (codes "r") (codes "a") (codes "root") []
    (does 6 (codes "a") (codes "append_child") (Var (codes "r") ∷ number 4 ∷ number 2 ∷ [])
    stop)))).after
    ≡ 2
