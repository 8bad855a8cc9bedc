-- Worked scripts for the calls of maps and sets that look up, walk and take out: what they write, to the byte.
use Rattle.std.specs.Prelude.{◌≡◌, codes, false, true, [], ◌∷◌, Some, None}
use Rattle.ac_syntax.specs.Code.{set_at, sum_at, loop_at, view_at, stop, one, block}
use Rattle.ac_syntax.specs.declared.arg.Arg.TheVariants.{Var}
use Rattle.ac_syntax.specs.declared.decl.Decl.TheVariants as decl
use Rattle.ac_syntax.specs.declared.kind.Kind.TheVariants as kind
use Rattle.ac_syntax.specs.declared.kind.ElemKind.TheVariants.{Integer, Str}
use Rattle.ac_syntax.specs.declared.view_kind.ViewKind.TheVariants.{Query, Update}
use Rattle.ac_meaning.specs.Examples.{lines, number, string, called, gets, script}
use Rattle.ac_meaning.specs.KeyedExamples.{type_of, object, position}
use Rattle.ac_meaning.specs.Execution.{text_of}

-- a hashed map is walked in order of arrival, and looked up by its keys; a cursor through which an element went is at none
abbrev pub MapsAreWalked : Type 0
MapsAreWalked =
    text_of (script (type_of kind.HashedMap Integer (Some Str) ∷ object 2 (codes "a") ∷ position 3 (codes "c") ∷ [])
    (one (called 4 (codes "a") (codes "first") [])
    (one (called 5 (codes "a") (codes "insert") (number 2 ∷ string (codes "x") ∷ []))
    (one (called 6 (codes "a") (codes "insert") (number 1 ∷ string (codes "y") ∷ []))
    (one (called 7 (codes "a") (codes "insert") (number 3 ∷ string (codes "z") ∷ []))
    (one (gets 8 (codes "c") (codes "a") (codes "first") [])
    (one (called 9 (codes "a") (codes "key") (Var (codes "c") ∷ []))
    (one (gets 10 (codes "c") (codes "a") (codes "next") (Var (codes "c") ∷ []))
    (one (called 11 (codes "a") (codes "key") (Var (codes "c") ∷ []))
    (one (called 12 (codes "a") (codes "delete") (Var (codes "c") ∷ []))
    (one (called 13 (codes "a") (codes "next") (Var (codes "c") ∷ []))
    (one (called 14 (codes "a") (codes "contains") (number 1 ∷ []))
    (one (called 15 (codes "a") (codes "contains") (number 3 ∷ []))
    (one (gets 16 (codes "c") (codes "a") (codes "find") (number 3 ∷ []))
    (one (called 17 (codes "a") (codes "element") (Var (codes "c") ∷ []))
    (one (called 18 (codes "a") (codes "next") (Var (codes "c") ∷ []))
    (one (called 19 (codes "a") (codes "find") (number 1 ∷ []))
    (one (called 20 (codes "a") (codes "print") []) stop))))))))))))))))))
    ≡ lines (codes "4: no_element"
    ∷ codes "5: ok"
    ∷ codes "6: ok"
    ∷ codes "7: ok"
    ∷ codes "8: cursor"
    ∷ codes "9: 2"
    ∷ codes "10: cursor"
    ∷ codes "11: 1"
    ∷ codes "12: ok"
    ∷ codes "13: no_element"
    ∷ codes "14: false"
    ∷ codes "15: true"
    ∷ codes "16: cursor"
    ∷ codes "17: \"z\""
    ∷ codes "18: no_element"
    ∷ codes "19: no_element"
    ∷ codes "20: [2 => \"x\", 3 => \"z\"]" ∷ [])

-- an ordered set is walked ascending; an insertion with a variable says whether it inserted, and sets it to the element that is there
abbrev pub SetsAreWalked : Type 0
SetsAreWalked =
    text_of (script (type_of kind.OrderedSet Integer None ∷ object 2 (codes "a") ∷ position 3 (codes "c") ∷ position 4 (codes "d") ∷ [])
    (one (called 5 (codes "a") (codes "insert") (number 20 ∷ Var (codes "c") ∷ []))
    (one (called 6 (codes "a") (codes "insert") (number 10 ∷ Var (codes "d") ∷ []))
    (one (called 7 (codes "a") (codes "element") (Var (codes "d") ∷ []))
    (one (called 8 (codes "a") (codes "insert") (number 20 ∷ Var (codes "d") ∷ []))
    (one (called 9 (codes "a") (codes "element") (Var (codes "d") ∷ []))
    (one (gets 10 (codes "c") (codes "a") (codes "first") [])
    (one (called 11 (codes "a") (codes "element") (Var (codes "c") ∷ []))
    (one (gets 12 (codes "c") (codes "a") (codes "next") (Var (codes "c") ∷ []))
    (one (called 13 (codes "a") (codes "element") (Var (codes "c") ∷ []))
    (one (called 14 (codes "a") (codes "next") (Var (codes "c") ∷ []))
    (one (called 15 (codes "a") (codes "delete") (Var (codes "d") ∷ []))
    (one (called 16 (codes "a") (codes "has_element") (Var (codes "d") ∷ []))
    (one (called 17 (codes "a") (codes "print") []) stop))))))))))))))
    ≡ lines (codes "5: true"
    ∷ codes "6: true"
    ∷ codes "7: 10"
    ∷ codes "8: false"
    ∷ codes "9: 20"
    ∷ codes "10: cursor"
    ∷ codes "11: 10"
    ∷ codes "12: cursor"
    ∷ codes "13: 20"
    ∷ codes "14: no_element"
    ∷ codes "15: ok"
    ∷ codes "16: false"
    ∷ codes "17: [10]" ∷ [])

-- an element is found and goes by an equivalent one, whose absence an exclusion doesn't mind
abbrev pub ElementsAreFound : Type 0
ElementsAreFound =
    text_of (script (type_of kind.HashedSet Str None ∷ object 2 (codes "a") ∷ position 3 (codes "c") ∷ [])
    (one (called 4 (codes "a") (codes "insert") (string (codes "x") ∷ []))
    (one (called 5 (codes "a") (codes "insert") (string (codes "y") ∷ []))
    (one (called 6 (codes "a") (codes "insert") (string (codes "z") ∷ []))
    (one (gets 7 (codes "c") (codes "a") (codes "find") (string (codes "y") ∷ []))
    (one (called 8 (codes "a") (codes "element") (Var (codes "c") ∷ []))
    (one (called 9 (codes "a") (codes "delete") (string (codes "y") ∷ []))
    (one (called 10 (codes "a") (codes "delete") (string (codes "y") ∷ []))
    (one (called 11 (codes "a") (codes "element") (Var (codes "c") ∷ []))
    (one (called 12 (codes "a") (codes "find") (string (codes "y") ∷ []))
    (one (called 13 (codes "a") (codes "exclude") (string (codes "y") ∷ []))
    (one (called 14 (codes "a") (codes "exclude") (string (codes "x") ∷ []))
    (one (called 15 (codes "a") (codes "print") []) stop)))))))))))))
    ≡ lines (codes "4: ok"
    ∷ codes "5: ok"
    ∷ codes "6: ok"
    ∷ codes "7: cursor"
    ∷ codes "8: \"y\""
    ∷ codes "9: ok"
    ∷ codes "10: raised CONSTRAINT_ERROR (key absent)"
    ∷ codes "11: raised PROGRAM_ERROR (dead cursor)"
    ∷ codes "12: no_element"
    ∷ codes "13: ok"
    ∷ codes "14: ok"
    ∷ codes "15: [\"z\"]" ∷ [])

-- an ordered map has the keys nearest to another, and ends that go
abbrev pub MapsAreSearched : Type 0
MapsAreSearched =
    text_of (script (type_of kind.OrderedMap Str (Some Integer) ∷ object 2 (codes "a") ∷ position 3 (codes "c") ∷ [])
    (one (called 4 (codes "a") (codes "first_key") [])
    (one (called 5 (codes "a") (codes "insert") (string (codes "d") ∷ number 2 ∷ []))
    (one (called 6 (codes "a") (codes "insert") (string (codes "b") ∷ number 1 ∷ []))
    (one (called 7 (codes "a") (codes "insert") (string (codes "f") ∷ number 3 ∷ []))
    (one (called 8 (codes "a") (codes "first_key") [])
    (one (gets 9 (codes "c") (codes "a") (codes "floor") (string (codes "e") ∷ []))
    (one (called 10 (codes "a") (codes "key") (Var (codes "c") ∷ []))
    (one (called 11 (codes "a") (codes "floor") (string (codes "a") ∷ []))
    (one (gets 12 (codes "c") (codes "a") (codes "floor") (string (codes "b") ∷ []))
    (one (called 13 (codes "a") (codes "key") (Var (codes "c") ∷ []))
    (one (gets 14 (codes "c") (codes "a") (codes "ceiling") (string (codes "e") ∷ []))
    (one (called 15 (codes "a") (codes "key") (Var (codes "c") ∷ []))
    (one (called 16 (codes "a") (codes "ceiling") (string (codes "g") ∷ []))
    (one (called 17 (codes "a") (codes "last_element") [])
    (one (called 18 (codes "a") (codes "delete_first") [])
    (one (called 19 (codes "a") (codes "print") [])
    (one (called 20 (codes "a") (codes "contains") (string (codes "b") ∷ [])) stop))))))))))))))))))
    ≡ lines (codes "4: raised CONSTRAINT_ERROR (empty)"
    ∷ codes "5: ok"
    ∷ codes "6: ok"
    ∷ codes "7: ok"
    ∷ codes "8: \"b\""
    ∷ codes "9: cursor"
    ∷ codes "10: \"d\""
    ∷ codes "11: no_element"
    ∷ codes "12: cursor"
    ∷ codes "13: \"b\""
    ∷ codes "14: cursor"
    ∷ codes "15: \"f\""
    ∷ codes "16: no_element"
    ∷ codes "17: 3"
    ∷ codes "18: ok"
    ∷ codes "19: [\"d\" => 2, \"f\" => 3]"
    ∷ codes "20: false" ∷ [])

-- so has an ordered set; where it is empty, none goes and none is answered
abbrev pub OrderedSetsHaveEnds : Type 0
OrderedSetsHaveEnds =
    text_of (script (type_of kind.OrderedSet Integer None ∷ object 2 (codes "a") ∷ [])
    (one (called 3 (codes "a") (codes "delete_first") [])
    (one (called 4 (codes "a") (codes "delete_last") [])
    (one (called 5 (codes "a") (codes "last_element") [])
    (one (called 6 (codes "a") (codes "insert") (number 3 ∷ []))
    (one (called 7 (codes "a") (codes "insert") (number 1 ∷ []))
    (one (called 8 (codes "a") (codes "insert") (number 2 ∷ []))
    (one (called 9 (codes "a") (codes "last_element") [])
    (one (called 10 (codes "a") (codes "first_element") [])
    (one (called 11 (codes "a") (codes "delete_first") [])
    (one (called 12 (codes "a") (codes "print") [])
    (one (called 13 (codes "a") (codes "delete_last") [])
    (one (called 14 (codes "a") (codes "print") []) stop)))))))))))))
    ≡ lines (codes "3: ok"
    ∷ codes "4: ok"
    ∷ codes "5: raised CONSTRAINT_ERROR (empty)"
    ∷ codes "6: ok"
    ∷ codes "7: ok"
    ∷ codes "8: ok"
    ∷ codes "9: 3"
    ∷ codes "10: 1"
    ∷ codes "11: ok"
    ∷ codes "12: [2, 3]"
    ∷ codes "13: ok"
    ∷ codes "14: [2]" ∷ [])

-- a set loses what another has, and a set less itself is empty
abbrev pub SetsAreSubtracted : Type 0
SetsAreSubtracted =
    text_of (script (type_of kind.HashedSet Integer None ∷ object 2 (codes "a") ∷ object 3 (codes "b") ∷ [])
    (one (called 4 (codes "a") (codes "insert") (number 3 ∷ []))
    (one (called 5 (codes "a") (codes "insert") (number 2 ∷ []))
    (one (called 6 (codes "a") (codes "insert") (number 1 ∷ []))
    (one (called 7 (codes "b") (codes "insert") (number 2 ∷ []))
    (one (called 8 (codes "b") (codes "insert") (number 4 ∷ []))
    (one (called 9 (codes "a") (codes "difference") (Var (codes "b") ∷ []))
    (one (called 10 (codes "a") (codes "print") [])
    (one (called 11 (codes "b") (codes "print") [])
    (one (called 12 (codes "b") (codes "difference") (Var (codes "b") ∷ []))
    (one (called 13 (codes "b") (codes "print") []) stop)))))))))))
    ≡ lines (codes "4: ok"
    ∷ codes "5: ok"
    ∷ codes "6: ok"
    ∷ codes "7: ok"
    ∷ codes "8: ok"
    ∷ codes "9: ok"
    ∷ codes "10: [3, 1]"
    ∷ codes "11: [2, 4]"
    ∷ codes "12: ok"
    ∷ codes "13: []" ∷ [])

-- a Capacity begins at 0, grows to eight times a power of two, and stays; that of a bounded container is its limit
abbrev pub HashedHaveCapacity : Type 0
HashedHaveCapacity =
    text_of (script (type_of kind.HashedMap Integer (Some Integer) ∷ object 2 (codes "a") ∷ decl.TypeDecl 3 (codes "u") (record { bounded = true; kind = kind.HashedSet; first = Str; second = None; keyed = false })
    ∷ decl.Object 4 (codes "b") (codes "u") (Some 5) ∷ [])
    (one (called 5 (codes "a") (codes "capacity") [])
    (one (called 6 (codes "a") (codes "insert") (number 1 ∷ number 7 ∷ []))
    (one (called 7 (codes "a") (codes "capacity") [])
    (one (called 8 (codes "a") (codes "reserve_capacity") (number 9 ∷ []))
    (one (called 9 (codes "a") (codes "capacity") [])
    (one (called 10 (codes "a") (codes "clear") [])
    (one (called 11 (codes "a") (codes "reserve_capacity") (number 3 ∷ []))
    (one (called 12 (codes "a") (codes "capacity") [])
    (one (called 13 (codes "b") (codes "capacity") [])
    (one (called 14 (codes "b") (codes "reserve_capacity") (number 6 ∷ []))
    (one (called 15 (codes "b") (codes "reserve_capacity") (number 5 ∷ []))
    (one (called 16 (codes "b") (codes "capacity") []) stop)))))))))))))
    ≡ lines (codes "5: 0"
    ∷ codes "6: ok"
    ∷ codes "7: 8"
    ∷ codes "8: ok"
    ∷ codes "9: 16"
    ∷ codes "10: ok"
    ∷ codes "11: ok"
    ∷ codes "12: 16"
    ∷ codes "13: 5"
    ∷ codes "14: raised CAPACITY_ERROR (full)"
    ∷ codes "15: ok"
    ∷ codes "16: 5" ∷ [])

-- the name of a view and of a loop over elements is a map's element, and not its key
abbrev pub MapsLendElements : Type 0
MapsLendElements =
    text_of (script (type_of kind.OrderedMap Str (Some Integer) ∷ object 2 (codes "a") ∷ position 3 (codes "c") ∷ decl.IntVar 4 (codes "n") ∷ [])
    (one (called 5 (codes "a") (codes "insert") (string (codes "k") ∷ number 1 ∷ Var (codes "c") ∷ []))
    (one (called 6 (codes "a") (codes "insert") (string (codes "j") ∷ number 4 ∷ []))
    (block (view_at 7 Query (codes "a") (Some (codes "c")) (codes "x"))
    (one (set_at 8 (codes "n") (Var (codes "x"))) stop)
    (block (view_at 9 Update (codes "a") (Some (codes "c")) (codes "x"))
    (one (sum_at 10 (codes "x") (codes "x") false 5)
    (one (called 11 (codes "a") (codes "element") (string (codes "k") ∷ []))
    (one (called 12 (codes "a") (codes "replace") (string (codes "k") ∷ number 0 ∷ [])) stop)))
    (block (loop_at 14 (codes "e") true false (codes "a"))
    (one (sum_at 15 (codes "e") (codes "e") false 10) stop)
    (one (called 17 (codes "a") (codes "print") []) stop)))))))
    ≡ lines (codes "5: true"
    ∷ codes "6: ok"
    ∷ codes "8: 1"
    ∷ codes "10: 6"
    ∷ codes "11: 6"
    ∷ codes "12: raised PROGRAM_ERROR (element tampering)"
    ∷ codes "15: 14"
    ∷ codes "15: 16"
    ∷ codes "17: [\"j\" => 14, \"k\" => 16]" ∷ [])
