-- Worked rows: what scripts with holders write, to the byte.
use Rattle.std.specs.Prelude.{◌≡◌, ◌++◌, List, [], ◌∷◌, Bool, true, false, ℕ, Option, Some, None, codes}
use Rattle.ac_syntax.specs.Code.{set_at, sum_at, view_at, declare_at, Code, stop, one, block}
use Rattle.ac_syntax.specs.declared.arg.Arg.TheVariants.{Var}
use Rattle.ac_syntax.specs.declared.decl.Decl.{Decl}
use Rattle.ac_syntax.specs.declared.decl.Decl.TheVariants as decl
use Rattle.ac_syntax.specs.declared.kind.Kind.TheVariants as kind
use Rattle.ac_syntax.specs.declared.kind.ElemKind.{ElemKind}
use Rattle.ac_syntax.specs.declared.kind.ElemKind.TheVariants.{Integer, Str}
use Rattle.ac_syntax.specs.declared.view_kind.ViewKind.{ViewKind}
use Rattle.ac_syntax.specs.declared.view_kind.ViewKind.TheVariants.{Query, Update, Reference}
use Rattle.ac_meaning.specs.Environment.{nodes}
use Rattle.ac_meaning.specs.Execution.{run, text_of}
use Rattle.ac_meaning.specs.Examples.{lines, number, string, called, gets, list_type, list, script}

abbrev pub holder_type : ℕ → (bounded : Bool) → ElemKind → Decl
holder_type line bounded first =
    decl.TypeDecl line (codes "h") (record { bounded = bounded; kind = kind.Holder; first = first; second = None; keyed = false })

abbrev pub holder : ℕ → List ℕ → (capacity : Option ℕ) → Decl
holder line name capacity = decl.Object line name (codes "h") capacity

-- two of one type
abbrev pub holders : (bounded : Bool) → ElemKind → (first other : Option ℕ) → List Decl
holders bounded first capacity other =
    holder_type 1 bounded first ∷ holder 2 (codes "a") capacity ∷ holder 3 (codes "b") other ∷ []

-- calls on each, without an argument, with a string, and with a holder
abbrev pub asks : ℕ → List ℕ → List ℕ → Code → Code
asks line object word rest = one (called line object word []) rest

abbrev pub puts : ℕ → List ℕ → List ℕ → Code → Code
puts line object bytes rest = one (called line object (codes "replace_element") (string bytes ∷ [])) rest

abbrev pub pairs : ℕ → List ℕ → List ℕ → List ℕ → Code → Code
pairs line object word source rest = one (called line object word (Var source ∷ [])) rest

-- a view of the element, under the name x
abbrev pub viewed : ℕ → ViewKind → List ℕ → Code → Code → Code
viewed line view object body rest = block (view_at line view object None (codes "x")) body rest

abbrev pub quoted : List ℕ → List ℕ
quoted bytes = 34 ∷ bytes ++ 34 ∷ []

abbrev pub listed : List ℕ → List ℕ
listed bytes = codes "[" ++ quoted bytes ++ codes "]"

abbrev pub is_empty : List ℕ
is_empty = codes "raised CONSTRAINT_ERROR (empty)"

abbrev pub too_large : List ℕ
too_large = codes "raised PROGRAM_ERROR (element too large)"

abbrev pub tampers : List ℕ
tampers = codes "raised PROGRAM_ERROR (element tampering)"

-- a holder's limit is in bytes, and under a view of the element it is written, but doesn't go
abbrev pub HolderIsBounded : Type 0
HolderIsBounded =
    text_of (script (holder_type 1 true Str ∷ holder 2 (codes "a") (Some 3) ∷ [])
    (asks 3 (codes "a") (codes "element")
    (puts 4 (codes "a") (codes "abcd")
    (puts 5 (codes "a") (codes "abc")
    (viewed 6 Update (codes "a")
    (one (set_at 7 (codes "x") (string (97 ∷ 34 ∷ 98 ∷ [])))
    (asks 8 (codes "a") (codes "clear") stop))
    (asks 10 (codes "a") (codes "print") stop))))))
    ≡ lines (codes "3: raised CONSTRAINT_ERROR (empty)"
    ∷ codes "4: raised PROGRAM_ERROR (element too large)"
    ∷ codes "5: ok"
    ∷ (codes "7: " ++ 34 ∷ 97 ∷ 34 ∷ 34 ∷ 98 ∷ 34 ∷ [])
    ∷ codes "8: raised PROGRAM_ERROR (element tampering)"
    ∷ (codes "10: " ++ 91 ∷ 34 ∷ 97 ∷ 34 ∷ 34 ∷ 98 ∷ 34 ∷ 93 ∷ []) ∷ [])

-- two empty holders are equal, a view keeps its holder from being exchanged on either side, and there is none of no element
abbrev pub ViewsGuardHolders : Type 0
ViewsGuardHolders =
    text_of (script (holders false Integer None None)
    (pairs 4 (codes "a") (codes "equal") (codes "b")
    (one (called 5 (codes "a") (codes "replace_element") (number 4 ∷ []))
    (viewed 6 Query (codes "a")
    (pairs 7 (codes "a") (codes "swap") (codes "b")
    (pairs 8 (codes "b") (codes "swap") (codes "a") stop))
    (pairs 10 (codes "a") (codes "swap") (codes "b")
    (asks 11 (codes "b") (codes "print")
    (viewed 12 Query (codes "a") (asks 13 (codes "a") (codes "clear") stop) stop)))))))
    ≡ lines (codes "4: true"
    ∷ codes "5: ok"
    ∷ codes "7: raised PROGRAM_ERROR (element tampering)"
    ∷ codes "8: raised PROGRAM_ERROR (element tampering)"
    ∷ codes "10: ok"
    ∷ codes "11: [4]"
    ∷ codes "12: raised CONSTRAINT_ERROR (empty)" ∷ [])

-- what a holder says of its element, and of another's
abbrev pub HoldersAreCompared : Type 0
HoldersAreCompared =
    text_of (script (holders false Str None None)
    (asks 4 (codes "a") (codes "is_empty")
    (asks 5 (codes "a") (codes "print")
    (pairs 6 (codes "a") (codes "equal") (codes "a")
    (puts 7 (codes "a") (codes "a")
    (asks 8 (codes "a") (codes "is_empty")
    (asks 9 (codes "a") (codes "element")
    (pairs 10 (codes "a") (codes "equal") (codes "b")
    (pairs 11 (codes "b") (codes "equal") (codes "a")
    (pairs 12 (codes "a") (codes "equal") (codes "a")
    (puts 13 (codes "a") (codes "bc")
    (puts 14 (codes "b") (codes "bd")
    (pairs 15 (codes "a") (codes "equal") (codes "b")
    (puts 16 (codes "b") (codes "bc")
    (pairs 17 (codes "a") (codes "equal") (codes "b")
    (asks 18 (codes "a") (codes "clear")
    (asks 19 (codes "a") (codes "is_empty")
    (asks 20 (codes "a") (codes "element")
    (asks 21 (codes "b") (codes "element") stop)))))))))))))))))))
    ≡ lines (codes "4: true" ∷ codes "5: []" ∷ codes "6: true"
    ∷ codes "7: ok" ∷ codes "8: false" ∷ (codes "9: " ++ quoted (codes "a"))
    ∷ codes "10: false" ∷ codes "11: false" ∷ codes "12: true"
    ∷ codes "13: ok" ∷ codes "14: ok" ∷ codes "15: false" ∷ codes "16: ok" ∷ codes "17: true"
    ∷ codes "18: ok" ∷ codes "19: true" ∷ (codes "20: " ++ is_empty) ∷ (codes "21: " ++ quoted (codes "bc")) ∷ [])

-- an element is copied, moved and exchanged, and so is none
abbrev pub HoldersGiveAndTake : Type 0
HoldersGiveAndTake =
    text_of (script (holders false Str None None)
    (puts 4 (codes "a") (codes "a")
    (puts 5 (codes "b") (codes "b")
    (pairs 6 (codes "a") (codes "assign") (codes "b")
    (asks 7 (codes "a") (codes "print")
    (asks 8 (codes "b") (codes "print")
    (puts 9 (codes "a") (codes "c")
    (pairs 10 (codes "a") (codes "move") (codes "b")
    (asks 11 (codes "a") (codes "print")
    (asks 12 (codes "b") (codes "print")
    (pairs 13 (codes "a") (codes "swap") (codes "b")
    (asks 14 (codes "a") (codes "print")
    (asks 15 (codes "b") (codes "print")
    (puts 16 (codes "a") (codes "d")
    (pairs 17 (codes "a") (codes "swap") (codes "b")
    (asks 18 (codes "a") (codes "print")
    (asks 19 (codes "b") (codes "print")
    (asks 20 (codes "a") (codes "clear")
    (pairs 21 (codes "b") (codes "assign") (codes "a")
    (asks 22 (codes "b") (codes "print")
    (puts 23 (codes "a") (codes "e")
    (pairs 24 (codes "a") (codes "move") (codes "b")
    (asks 25 (codes "a") (codes "print") stop)))))))))))))))))))))))
    ≡ lines (codes "4: ok" ∷ codes "5: ok"
    ∷ codes "6: ok" ∷ (codes "7: " ++ listed (codes "b")) ∷ (codes "8: " ++ listed (codes "b"))
    ∷ codes "9: ok" ∷ codes "10: ok" ∷ (codes "11: " ++ listed (codes "b")) ∷ codes "12: []"
    ∷ codes "13: ok" ∷ codes "14: []" ∷ (codes "15: " ++ listed (codes "b"))
    ∷ codes "16: ok" ∷ codes "17: ok" ∷ (codes "18: " ++ listed (codes "b")) ∷ (codes "19: " ++ listed (codes "d"))
    ∷ codes "20: ok" ∷ codes "21: ok" ∷ codes "22: []"
    ∷ codes "23: ok" ∷ codes "24: ok" ∷ codes "25: []" ∷ [])

-- each holder that would get an element has its own limit, and what is refused changes neither
abbrev pub LimitsAreOfBoth : Type 0
LimitsAreOfBoth =
    text_of (script (holders true Str (Some 2) (Some 4))
    (puts 4 (codes "a") (codes "ab")
    (puts 5 (codes "b") (codes "cdef")
    (pairs 6 (codes "a") (codes "assign") (codes "b")
    (pairs 7 (codes "a") (codes "move") (codes "b")
    (pairs 8 (codes "a") (codes "swap") (codes "b")
    (pairs 9 (codes "b") (codes "swap") (codes "a")
    (asks 10 (codes "a") (codes "print")
    (asks 11 (codes "b") (codes "print")
    (pairs 12 (codes "b") (codes "assign") (codes "a")
    (puts 13 (codes "b") (codes "i")
    (pairs 14 (codes "a") (codes "swap") (codes "b")
    (asks 15 (codes "a") (codes "print")
    (asks 16 (codes "b") (codes "print") stop))))))))))))))
    ≡ lines (codes "4: ok" ∷ codes "5: ok"
    ∷ (codes "6: " ++ too_large) ∷ (codes "7: " ++ too_large) ∷ (codes "8: " ++ too_large) ∷ (codes "9: " ++ too_large)
    ∷ (codes "10: " ++ listed (codes "ab")) ∷ (codes "11: " ++ listed (codes "cdef"))
    ∷ codes "12: ok" ∷ codes "13: ok"
    ∷ codes "14: ok" ∷ (codes "15: " ++ listed (codes "i")) ∷ (codes "16: " ++ listed (codes "ab")) ∷ [])

-- an element is written within the limit, behind the reasons of the call that gives the value; what is refused leaves it
abbrev pub WritesAreWithinLimits : Type 0
WritesAreWithinLimits =
    text_of (script (holders true Str (Some 2) (Some 4))
    (puts 4 (codes "a") (codes "ab")
    (viewed 5 Update (codes "a")
    (one (gets 6 (codes "x") (codes "b") (codes "element") [])
    (puts 7 (codes "b") (codes "cde")
    (one (gets 8 (codes "x") (codes "b") (codes "element") [])
    (one (gets 9 (codes "x") (codes "a") (codes "element") [])
    (puts 10 (codes "b") (codes "fg")
    (one (gets 11 (codes "x") (codes "b") (codes "element") []) stop))))))
    (viewed 13 Reference (codes "a")
    (one (set_at 14 (codes "x") (string (codes "hij")))
    (one (set_at 15 (codes "x") (Var (codes "x"))) stop))
    (asks 17 (codes "a") (codes "print") stop)))))
    ≡ lines (codes "4: ok"
    ∷ (codes "6: " ++ is_empty) ∷ codes "7: ok" ∷ (codes "8: " ++ too_large) ∷ (codes "9: " ++ quoted (codes "ab"))
    ∷ codes "10: ok" ∷ (codes "11: " ++ quoted (codes "fg"))
    ∷ (codes "14: " ++ too_large) ∷ (codes "15: " ++ quoted (codes "fg"))
    ∷ (codes "17: " ++ listed (codes "fg")) ∷ [])

-- an integer has eight bytes, whatever it is, and an empty string none
abbrev pub IntegersHaveEightBytes : Type 0
IntegersHaveEightBytes =
    text_of (script (holders true Integer (Some 7) (Some 8))
    (one (called 4 (codes "a") (codes "replace_element") (number 0 ∷ []))
    (one (called 5 (codes "b") (codes "replace_element") (number 1000 ∷ []))
    (pairs 6 (codes "a") (codes "move") (codes "b")
    (viewed 7 Update (codes "b") (one (sum_at 8 (codes "x") (codes "x") false 7) stop)
    (asks 10 (codes "b") (codes "print") stop))))))
    ≡ lines ((codes "4: " ++ too_large) ∷ codes "5: ok" ∷ (codes "6: " ++ too_large) ∷ codes "8: 1007" ∷ codes "10: [1007]" ∷ [])

abbrev pub EmptyStringsHaveNone : Type 0
EmptyStringsHaveNone =
    text_of (script (holders true Str (Some 0) (Some 1))
    (puts 4 (codes "a") (codes "a")
    (puts 5 (codes "a") []
    (asks 6 (codes "a") (codes "is_empty")
    (asks 7 (codes "a") (codes "print") stop)))))
    ≡ lines ((codes "4: " ++ too_large) ∷ codes "5: ok" ∷ codes "6: false" ∷ (codes "7: " ++ listed []) ∷ [])

-- a holder keeps its element where it is the source itself, and its guards are asked for all the same
abbrev pub HoldersMeetThemselves : Type 0
HoldersMeetThemselves =
    text_of (script (holders true Str (Some 1) (Some 1))
    (puts 4 (codes "a") (codes "a")
    (puts 5 (codes "b") (codes "b")
    (pairs 6 (codes "a") (codes "assign") (codes "a")
    (pairs 7 (codes "a") (codes "move") (codes "a")
    (pairs 8 (codes "a") (codes "swap") (codes "a")
    (asks 9 (codes "a") (codes "print")
    (asks 10 (codes "b") (codes "print")
    (viewed 11 Reference (codes "a")
    (pairs 12 (codes "a") (codes "assign") (codes "a")
    (pairs 13 (codes "a") (codes "move") (codes "a")
    (pairs 14 (codes "a") (codes "swap") (codes "a")
    (pairs 15 (codes "a") (codes "equal") (codes "a") stop))))
    (asks 17 (codes "a") (codes "print") stop))))))))))
    ≡ lines (codes "4: ok" ∷ codes "5: ok"
    ∷ codes "6: ok" ∷ codes "7: ok" ∷ codes "8: ok" ∷ (codes "9: " ++ listed (codes "a")) ∷ (codes "10: " ++ listed (codes "b"))
    ∷ (codes "12: " ++ tampers) ∷ (codes "13: " ++ tampers) ∷ (codes "14: " ++ tampers) ∷ codes "15: true"
    ∷ (codes "17: " ++ listed (codes "a")) ∷ [])

-- the guards of both are asked for where both change, before the limits, and those of two views go one by one
abbrev pub GuardsAreOfBoth : Type 0
GuardsAreOfBoth =
    text_of (script (holders true Str (Some 1) (Some 2))
    (puts 4 (codes "a") (codes "a")
    (puts 5 (codes "b") (codes "b")
    (viewed 6 Update (codes "b")
    (puts 7 (codes "b") (codes "c")
    (asks 8 (codes "b") (codes "clear")
    (pairs 9 (codes "a") (codes "move") (codes "b")
    (pairs 10 (codes "b") (codes "assign") (codes "a")
    (pairs 11 (codes "b") (codes "move") (codes "a")
    (pairs 12 (codes "a") (codes "assign") (codes "b")
    (pairs 13 (codes "a") (codes "equal") (codes "b")
    (asks 14 (codes "b") (codes "element")
    (asks 15 (codes "b") (codes "is_empty")
    (asks 16 (codes "a") (codes "clear")
    (one (set_at 17 (codes "x") (string (codes "de")))
    (pairs 18 (codes "a") (codes "assign") (codes "b")
    (pairs 19 (codes "a") (codes "swap") (codes "b")
    (block (view_at 20 Query (codes "b") None (codes "y")) stop
    (asks 22 (codes "b") (codes "clear") stop)))))))))))))))
    (asks 24 (codes "b") (codes "clear") stop)))))
    ≡ lines (codes "4: ok" ∷ codes "5: ok"
    ∷ (codes "7: " ++ tampers) ∷ (codes "8: " ++ tampers) ∷ (codes "9: " ++ tampers) ∷ (codes "10: " ++ tampers) ∷ (codes "11: " ++ tampers)
    ∷ codes "12: ok" ∷ codes "13: true" ∷ (codes "14: " ++ quoted (codes "b")) ∷ codes "15: false" ∷ codes "16: ok"
    ∷ (codes "17: " ++ quoted (codes "de")) ∷ (codes "18: " ++ too_large) ∷ (codes "19: " ++ tampers)
    ∷ (codes "22: " ++ tampers)
    ∷ codes "24: ok" ∷ [])

-- a holder of an inner scope is empty each time, and a holder's element is no node
abbrev pub InnerHoldersAreNew : Type 0
InnerHoldersAreNew =
    text_of (script (holder_type 1 true Str ∷ holder 2 (codes "a") (Some 1) ∷ [])
    (puts 3 (codes "a") (codes "a")
    (viewed 4 Query (codes "a")
    (block (declare_at 5 (holder 5 (codes "b") (Some 9) ∷ []))
    (one (called 6 (codes "b") (codes "equal") (Var (codes "a") ∷ []))
    (one (called 7 (codes "b") (codes "replace_element") (Var (codes "x") ∷ []))
    (one (called 8 (codes "b") (codes "equal") (Var (codes "a") ∷ [])) stop)))
    stop)
    stop)))
    ≡ lines (codes "3: ok" ∷ codes "6: false" ∷ codes "7: ok" ∷ codes "8: true" ∷ [])

abbrev pub HoldersHaveNoNodes : Type 0
HoldersHaveNoNodes =
    nodes (run (script (holder_type 1 false Integer ∷ list_type 2 Integer ∷ holder 3 (codes "a") None ∷ list 4 (codes "b") ∷ [])
    (one (called 5 (codes "a") (codes "replace_element") (number 4 ∷ []))
    (one (called 6 (codes "b") (codes "append") (number 4 ∷ number 2 ∷ [])) stop)))).after
    ≡ 2
