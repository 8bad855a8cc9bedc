-- Worked scripts over maps and sets, with keys and without: what they write, to the byte.
use Rattle.std.specs.Prelude.{◌≡◌, ℕ, codes, false, true, List, [], ◌∷◌, Option, Some, None}
use Rattle.ac_syntax.specs.Code.{set_at, loop_at, view_at, stable_at, stop, one, block}
use Rattle.ac_syntax.specs.declared.arg.Arg.TheVariants.{Var}
use Rattle.ac_syntax.specs.declared.decl.Decl.{Decl}
use Rattle.ac_syntax.specs.declared.decl.Decl.TheVariants as decl
use Rattle.ac_syntax.specs.declared.kind.Kind.{Kind}
use Rattle.ac_syntax.specs.declared.kind.Kind.TheVariants as kind
use Rattle.ac_syntax.specs.declared.kind.ElemKind.{ElemKind}
use Rattle.ac_syntax.specs.declared.kind.ElemKind.TheVariants.{Integer, Str}
use Rattle.ac_syntax.specs.declared.view_kind.ViewKind.TheVariants.{UpdateKey}
use Rattle.ac_meaning.specs.Examples.{lines, number, string, called, gets, script}
use Rattle.ac_meaning.specs.Execution.{text_of}

abbrev pub type_of : Kind → ElemKind → Option ElemKind → Decl
type_of which first second =
    decl.TypeDecl 1 (codes "t") (record { bounded = false; kind = which; first = first; second = second; keyed = false })

abbrev pub keyed_type_of : Kind → Decl
keyed_type_of which = decl.TypeDecl 1 (codes "t") (record { bounded = false; kind = which; first = Str; second = None; keyed = true })

abbrev pub object : ℕ → List ℕ → Decl
object line name = decl.Object line name (codes "t") None

abbrev pub position : ℕ → List ℕ → Decl
position line name = decl.CursorVar line name (codes "t")

-- a hashed map's rows stand in order of arrival, and Include replaces one in its place
abbrev pub MapsKeepArrival : Type 0
MapsKeepArrival =
    text_of (script (type_of kind.HashedMap Str (Some Integer) ∷ object 2 (codes "a") ∷ position 3 (codes "c") ∷ [])
    (one (called 4 (codes "a") (codes "insert") (string (codes "b") ∷ number 1 ∷ []))
    (one (called 5 (codes "a") (codes "insert") (string (codes "a") ∷ number 2 ∷ []))
    (one (called 6 (codes "a") (codes "insert") (string (codes "b") ∷ number 3 ∷ []))
    (one (called 7 (codes "a") (codes "include") (string (codes "b") ∷ number 4 ∷ []))
    (one (called 8 (codes "a") (codes "insert") (string (codes "a") ∷ number 9 ∷ Var (codes "c") ∷ []))
    (one (called 9 (codes "a") (codes "element") (Var (codes "c") ∷ []))
    (one (called 10 (codes "a") (codes "replace") (string (codes "z") ∷ number 1 ∷ []))
    (one (called 11 (codes "a") (codes "exclude") (string (codes "z") ∷ []))
    (one (called 12 (codes "a") (codes "delete") (string (codes "z") ∷ []))
    (one (called 13 (codes "a") (codes "print") []) stop)))))))))))
    ≡ lines (codes "4: ok" ∷ codes "5: ok" ∷ codes "6: raised CONSTRAINT_ERROR (key present)" ∷ codes "7: ok" ∷ codes "8: false"
    ∷ codes "9: 2" ∷ codes "10: raised CONSTRAINT_ERROR (key absent)" ∷ codes "11: ok"
    ∷ codes "12: raised CONSTRAINT_ERROR (key absent)" ∷ codes "13: [\"b\" => 4, \"a\" => 2]" ∷ [])

-- an ordered set's elements stand ascending, and a replaced one goes to its place under its name
abbrev pub SetsStandAscending : Type 0
SetsStandAscending =
    text_of (script (type_of kind.OrderedSet Integer None ∷ object 2 (codes "a") ∷ position 3 (codes "c") ∷ [])
    (one (called 4 (codes "a") (codes "insert") (number 20 ∷ []))
    (one (called 5 (codes "a") (codes "insert") (number 10 ∷ []))
    (one (gets 6 (codes "c") (codes "a") (codes "floor") (number 9 ∷ []))
    (one (called 7 (codes "a") (codes "has_element") (Var (codes "c") ∷ []))
    (one (gets 8 (codes "c") (codes "a") (codes "ceiling") (number 20 ∷ []))
    (one (called 9 (codes "a") (codes "element") (Var (codes "c") ∷ []))
    (one (gets 10 (codes "c") (codes "a") (codes "floor") (number 19 ∷ []))
    (one (called 11 (codes "a") (codes "replace_element") (Var (codes "c") ∷ number 20 ∷ []))
    (one (called 12 (codes "a") (codes "replace_element") (Var (codes "c") ∷ number 30 ∷ []))
    (one (called 13 (codes "a") (codes "print") [])
    (one (called 14 (codes "a") (codes "element") (Var (codes "c") ∷ [])) stop))))))))))))
    ≡ lines (codes "4: ok" ∷ codes "5: ok" ∷ codes "6: no_element" ∷ codes "7: false" ∷ codes "8: cursor" ∷ codes "9: 20"
    ∷ codes "10: cursor" ∷ codes "11: raised PROGRAM_ERROR (duplicate)" ∷ codes "12: ok" ∷ codes "13: [20, 30]" ∷ codes "14: 30" ∷ [])

-- an ordered map has ends, by its keys
abbrev pub OrderedMapsHaveEnds : Type 0
OrderedMapsHaveEnds =
    text_of (script (type_of kind.OrderedMap Integer (Some Str) ∷ object 2 (codes "a") ∷ object 2 (codes "b") ∷ position 3 (codes "c") ∷ [])
    (one (called 4 (codes "a") (codes "insert") (number 7 ∷ string (codes "x") ∷ []))
    (one (called 5 (codes "a") (codes "insert") (number 3 ∷ string (codes "y") ∷ Var (codes "c") ∷ []))
    (one (called 6 (codes "a") (codes "key") (Var (codes "c") ∷ []))
    (one (called 7 (codes "a") (codes "last_key") [])
    (one (called 8 (codes "a") (codes "first_element") [])
    (one (gets 9 (codes "c") (codes "a") (codes "last") [])
    (one (gets 10 (codes "c") (codes "a") (codes "previous") (Var (codes "c") ∷ []))
    (one (called 11 (codes "a") (codes "element") (Var (codes "c") ∷ []))
    (one (called 12 (codes "b") (codes "assign") (Var (codes "a") ∷ []))
    (one (called 13 (codes "a") (codes "replace_element") (Var (codes "c") ∷ string (codes "z") ∷ []))
    (one (called 14 (codes "a") (codes "equal") (Var (codes "b") ∷ []))
    (one (called 15 (codes "a") (codes "delete_last") [])
    (one (called 16 (codes "a") (codes "print") [])
    (one (called 17 (codes "b") (codes "print") [])
    (one (called 18 (codes "a") (codes "element") (number 7 ∷ [])) stop))))))))))))))))
    ≡ lines (codes "4: ok" ∷ codes "5: true" ∷ codes "6: 3" ∷ codes "7: 7" ∷ codes "8: \"y\"" ∷ codes "9: cursor" ∷ codes "10: cursor"
    ∷ codes "11: \"y\"" ∷ codes "12: ok" ∷ codes "13: ok" ∷ codes "14: false" ∷ codes "15: ok" ∷ codes "16: [3 => \"z\"]"
    ∷ codes "17: [3 => \"y\", 7 => \"x\"]" ∷ codes "18: raised CONSTRAINT_ERROR (key absent)" ∷ [])

-- a set has cursor guards alone: under a loop over its elements, and under a stable view, none is replaced
abbrev pub SetsAreGuardedWhole : Type 0
SetsAreGuardedWhole =
    text_of (script (type_of kind.HashedSet Integer None ∷ object 2 (codes "a") ∷ [])
    (one (called 3 (codes "a") (codes "insert") (number 5 ∷ []))
    (one (called 4 (codes "a") (codes "insert") (number 5 ∷ []))
    (block (loop_at 5 (codes "e") true false (codes "a"))
    (one (called 6 (codes "a") (codes "replace") (Var (codes "e") ∷ []))
    (one (called 7 (codes "a") (codes "contains") (Var (codes "e") ∷ [])) stop))
    (block (stable_at 9 (codes "a"))
    (one (called 10 (codes "a") (codes "include") (number 5 ∷ [])) stop)
    (one (called 12 (codes "a") (codes "include") (number 5 ∷ []))
    (one (called 13 (codes "a") (codes "print") []) stop)))))))
    ≡ lines (codes "3: ok" ∷ codes "4: raised CONSTRAINT_ERROR (key present)" ∷ codes "6: raised PROGRAM_ERROR (cursor tampering)"
    ∷ codes "7: true" ∷ codes "10: raised PROGRAM_ERROR (cursor tampering)" ∷ codes "12: ok" ∷ codes "13: [5]" ∷ [])

-- of two sets the source stays as it was, and a set that is its own source keeps all of its elements or none
abbrev pub SetsAreJoined : Type 0
SetsAreJoined =
    text_of (script (type_of kind.HashedSet Integer None ∷ object 2 (codes "a") ∷ object 3 (codes "b") ∷ [])
    (one (called 4 (codes "a") (codes "insert") (number 1 ∷ []))
    (one (called 5 (codes "b") (codes "insert") (number 2 ∷ []))
    (one (called 6 (codes "b") (codes "insert") (number 1 ∷ []))
    (one (called 7 (codes "a") (codes "is_subset") (Var (codes "b") ∷ []))
    (one (called 8 (codes "b") (codes "is_subset") (Var (codes "a") ∷ []))
    (one (called 9 (codes "a") (codes "union") (Var (codes "b") ∷ []))
    (one (called 10 (codes "a") (codes "print") [])
    (one (called 11 (codes "a") (codes "symmetric_difference") (Var (codes "a") ∷ []))
    (one (called 12 (codes "a") (codes "overlap") (Var (codes "b") ∷ []))
    (one (called 13 (codes "b") (codes "intersection") (Var (codes "b") ∷ []))
    (one (called 14 (codes "b") (codes "overlap") (Var (codes "b") ∷ []))
    (one (called 15 (codes "b") (codes "print") []) stop)))))))))))))
    ≡ lines (codes "4: ok" ∷ codes "5: ok" ∷ codes "6: ok" ∷ codes "7: true" ∷ codes "8: false" ∷ codes "9: ok" ∷ codes "10: [1, 2]"
    ∷ codes "11: ok" ∷ codes "12: false" ∷ codes "13: ok" ∷ codes "14: true" ∷ codes "15: [2, 1]" ∷ [])

-- a set meets itself: what is in both, in either alone
abbrev pub SetsMeetThemselves : Type 0
SetsMeetThemselves =
    text_of (script (type_of kind.OrderedSet Integer None ∷ object 2 (codes "a") ∷ [])
    (one (called 3 (codes "a") (codes "insert") (number 2 ∷ []))
    (one (called 4 (codes "a") (codes "insert") (number 1 ∷ []))
    (one (called 5 (codes "a") (codes "is_subset") (Var (codes "a") ∷ []))
    (one (called 6 (codes "a") (codes "symmetric_difference") (Var (codes "a") ∷ []))
    (one (called 7 (codes "a") (codes "print") [])
    (one (called 8 (codes "a") (codes "overlap") (Var (codes "a") ∷ []))
    (one (called 9 (codes "a") (codes "equivalent_sets") (Var (codes "a") ∷ [])) stop))))))))
    ≡ lines (codes "3: ok" ∷ codes "4: ok" ∷ codes "5: true" ∷ codes "6: ok" ∷ codes "7: []" ∷ codes "8: false" ∷ codes "9: true" ∷ [])

-- a copy with the element's key takes its place, and with another key the element goes, which the block's line says
abbrev pub KeysAreUpdated : Type 0
KeysAreUpdated =
    text_of (script (keyed_type_of kind.OrderedSet ∷ object 2 (codes "a") ∷ position 3 (codes "c") ∷ [])
    (one (called 4 (codes "a") (codes "insert") (string (codes "a=1") ∷ []))
    (one (gets 5 (codes "c") (codes "a") (codes "key_find") (string (codes "a") ∷ []))
    (block (view_at 6 UpdateKey (codes "a") (Some (codes "c")) (codes "x"))
    (one (set_at 7 (codes "x") (string (codes "a=2")))
    (one (called 8 (codes "a") (codes "insert") (string (codes "q") ∷ [])) stop))
    (one (called 10 (codes "a") (codes "print") [])
    (block (view_at 11 UpdateKey (codes "a") (Some (codes "c")) (codes "x"))
    (one (set_at 12 (codes "x") (string (codes "b=2"))) stop)
    (one (called 14 (codes "a") (codes "length") [])
    (one (called 15 (codes "a") (codes "element") (Var (codes "c") ∷ [])) stop))))))))
    ≡ lines (codes "4: ok" ∷ codes "5: cursor" ∷ codes "7: \"a=2\"" ∷ codes "8: raised PROGRAM_ERROR (cursor tampering)"
    ∷ codes "10: [\"a=2\"]" ∷ codes "12: \"b=2\"" ∷ codes "11: raised PROGRAM_ERROR (key changed)" ∷ codes "14: 0"
    ∷ codes "15: raised PROGRAM_ERROR (dead cursor)" ∷ [])

-- elements are equivalent by their keys, and under a loop no key is updated
abbrev pub KeysTellElements : Type 0
KeysTellElements =
    text_of (script (keyed_type_of kind.HashedSet ∷ object 2 (codes "a") ∷ [])
    (one (called 3 (codes "a") (codes "insert") (string (codes "a=1") ∷ []))
    (one (called 4 (codes "a") (codes "insert") (string (codes "a=7") ∷ []))
    (block (loop_at 5 (codes "c") false false (codes "a"))
    (block (view_at 6 UpdateKey (codes "a") (Some (codes "c")) (codes "x")) (one (set_at 7 (codes "x") (string (codes "a=3"))) stop) stop)
    (one (called 10 (codes "a") (codes "contains") (string (codes "a=9") ∷ []))
    (one (called 11 (codes "a") (codes "print") []) stop))))))
    ≡ lines (codes "3: ok" ∷ codes "4: raised CONSTRAINT_ERROR (key present)" ∷ codes "6: raised PROGRAM_ERROR (cursor tampering)"
    ∷ codes "10: true" ∷ codes "11: [\"a=1\"]" ∷ [])

-- so are those of two sets
abbrev pub KeysAreJoined : Type 0
KeysAreJoined =
    text_of (script (keyed_type_of kind.HashedSet ∷ object 2 (codes "a") ∷ object 3 (codes "b") ∷ [])
    (one (called 4 (codes "a") (codes "insert") (string (codes "a=1") ∷ []))
    (one (called 5 (codes "a") (codes "insert") (string (codes "b=1") ∷ []))
    (one (called 6 (codes "b") (codes "insert") (string (codes "b=2") ∷ []))
    (one (called 7 (codes "b") (codes "insert") (string (codes "c=2") ∷ []))
    (one (called 8 (codes "a") (codes "union") (Var (codes "b") ∷ []))
    (one (called 9 (codes "a") (codes "print") [])
    (one (called 10 (codes "a") (codes "symmetric_difference") (Var (codes "b") ∷ []))
    (one (called 11 (codes "a") (codes "print") [])
    (one (called 12 (codes "a") (codes "overlap") (Var (codes "b") ∷ [])) stop))))))))))
    ≡ lines (codes "4: ok" ∷ codes "5: ok" ∷ codes "6: ok" ∷ codes "7: ok" ∷ codes "8: ok" ∷ codes "9: [\"a=1\", \"b=1\", \"c=2\"]"
    ∷ codes "10: ok" ∷ codes "11: [\"a=1\"]" ∷ codes "12: false" ∷ [])

-- an element is replaced by its key, also by one of another key, which no other has
abbrev pub KeysAreReplaced : Type 0
KeysAreReplaced =
    text_of (script (keyed_type_of kind.OrderedSet ∷ object 2 (codes "a") ∷ [])
    (one (called 3 (codes "a") (codes "insert") (string (codes "b=1") ∷ []))
    (one (called 4 (codes "a") (codes "insert") (string (codes "a=1") ∷ []))
    (one (called 5 (codes "a") (codes "key_replace") (string (codes "b") ∷ string (codes "a=3") ∷ []))
    (one (called 6 (codes "a") (codes "key_replace") (string (codes "b") ∷ string (codes "c=3") ∷ []))
    (one (called 7 (codes "a") (codes "print") [])
    (one (called 8 (codes "a") (codes "key_delete") (string (codes "b") ∷ [])) stop)))))))
    ≡ lines (codes "3: ok" ∷ codes "4: ok" ∷ codes "5: raised PROGRAM_ERROR (duplicate)" ∷ codes "6: ok" ∷ codes "7: [\"a=1\", \"c=3\"]"
    ∷ codes "8: raised CONSTRAINT_ERROR (key absent)" ∷ [])

-- a key is looked up as a whole text
abbrev pub KeysAreLookedUp : Type 0
KeysAreLookedUp =
    text_of (script (keyed_type_of kind.OrderedSet ∷ object 2 (codes "a") ∷ position 3 (codes "c") ∷ [])
    (one (called 4 (codes "a") (codes "insert") (string (codes "d=2") ∷ []))
    (one (called 5 (codes "a") (codes "insert") (string (codes "b=1") ∷ []))
    (one (gets 6 (codes "c") (codes "a") (codes "key_find") (string (codes "b") ∷ []))
    (one (called 7 (codes "a") (codes "key") (Var (codes "c") ∷ []))
    (one (called 8 (codes "a") (codes "key_element") (string (codes "d") ∷ []))
    (one (called 9 (codes "a") (codes "key_element") (string (codes "b=1") ∷ []))
    (one (called 10 (codes "a") (codes "key_contains") (string (codes "d") ∷ []))
    (one (gets 11 (codes "c") (codes "a") (codes "key_floor") (string (codes "c") ∷ []))
    (one (called 12 (codes "a") (codes "element") (Var (codes "c") ∷ []))
    (one (gets 13 (codes "c") (codes "a") (codes "key_ceiling") (string (codes "c") ∷ []))
    (one (called 14 (codes "a") (codes "element") (Var (codes "c") ∷ []))
    (one (gets 15 (codes "c") (codes "a") (codes "key_floor") (string (codes "a") ∷ []))
    (one (called 16 (codes "a") (codes "key_exclude") (string (codes "z") ∷ []))
    (one (called 17 (codes "a") (codes "key_exclude") (string (codes "b") ∷ []))
    (one (called 18 (codes "a") (codes "key_delete") (string (codes "d") ∷ []))
    (one (called 19 (codes "a") (codes "length") []) stop)))))))))))))))))
    ≡ lines (codes "4: ok" ∷ codes "5: ok" ∷ codes "6: cursor" ∷ codes "7: \"b\"" ∷ codes "8: \"d=2\""
    ∷ codes "9: raised CONSTRAINT_ERROR (key absent)" ∷ codes "10: true" ∷ codes "11: cursor" ∷ codes "12: \"b=1\"" ∷ codes "13: cursor"
    ∷ codes "14: \"d=2\"" ∷ codes "15: no_element" ∷ codes "16: ok" ∷ codes "17: ok" ∷ codes "18: ok" ∷ codes "19: 0" ∷ [])
