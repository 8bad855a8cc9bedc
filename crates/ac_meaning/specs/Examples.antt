-- Worked rows: what these scripts write, to the byte, and how maps and trees are listed.
use Rattle.std.specs.Prelude.{◌≡◌, ◌-◌, ◌^◌, ℕ, pos, codes, Bool, true, false, List, [], ◌∷◌, ◌++◌, Option, Some, None}
use Rattle.std.specs.List.{flat_map}
use Rattle.std.specs.Fmt.{signed_decimal}
use Rattle.ac_base.specs.declared.value.Value.TheVariants as value
use Rattle.ac_model.specs.Rows.{entry, node}
use Rattle.ac_syntax.specs.Code.{Simple, call_at, set_at, sum_at, loop_at, view_at, stable_at, declare_at, Code, stop, one, block}
use Rattle.ac_syntax.specs.declared.arg.Arg.{Arg}
use Rattle.ac_syntax.specs.declared.arg.Arg.TheVariants.{Lit, NoElement, Var}
use Rattle.ac_syntax.specs.declared.decl.Decl.{Decl}
use Rattle.ac_syntax.specs.declared.decl.Decl.TheVariants as decl
use Rattle.ac_syntax.specs.declared.kind.Kind.TheVariants as kind
use Rattle.ac_syntax.specs.declared.kind.ElemKind.{ElemKind}
use Rattle.ac_syntax.specs.declared.kind.ElemKind.TheVariants.{Integer, Str}
use Rattle.ac_syntax.specs.declared.view_kind.ViewKind.TheVariants.{Query, Update}
use Rattle.ac_syntax.specs.declared.script.Script.{Script}
use Rattle.ac_calls.specs.Listings.{map_listing, tree_listing}
use Rattle.ac_base.specs.Limits.{numbers_end}
use Rattle.ac_rules.specs.Scopes.{with_decls}
use Rattle.ac_calls.specs.Answers.{lines_text}
use Rattle.ac_meaning.specs.Environment.{binds_type, binds_value}
use Rattle.ac_meaning.specs.Execution.{no_orders, exec, text_of}

abbrev pub lines : List (List ℕ) → List ℕ
lines texts = flat_map (λ text. text ++ 10 ∷ []) texts

abbrev pub number : ℕ → Arg
number n = Lit (value.Int (pos n))

abbrev pub string : List ℕ → Arg
string bytes = Lit (value.Text bytes)

abbrev pub called : ℕ → List ℕ → List ℕ → List Arg → Simple
called line object word args = call_at line None object word args

abbrev pub gets : ℕ → List ℕ → List ℕ → List ℕ → List Arg → Simple
gets line target object word args = call_at line (Some target) object word args

abbrev pub list_type : ℕ → ElemKind → Decl
list_type line first =
    decl.TypeDecl line (codes "l") (record { bounded = false; kind = kind.List; first = first; second = None; keyed = false })

abbrev pub list : ℕ → List ℕ → Decl
list line name = decl.Object line name (codes "l") None

abbrev pub cursor : ℕ → List ℕ → Decl
cursor line name = decl.CursorVar line name (codes "l")

abbrev pub vector_type : ℕ → (bounded : Bool) → Decl
vector_type line bounded =
    decl.TypeDecl line (codes "t") (record { bounded = bounded; kind = kind.Vector; first = Integer; second = None; keyed = false })

abbrev pub vector : ℕ → List ℕ → (capacity : Option ℕ) → Decl
vector line name capacity = decl.Object line name (codes "t") capacity

abbrev pub vector_cursor : ℕ → List ℕ → Decl
vector_cursor line name = decl.CursorVar line name (codes "t")

abbrev pub script : List Decl → Code → Script
script decls stmts = record { pragma = None; decls = decls; stmts = stmts }

-- adding under a loop is refused in each turn, and goes again behind the loop
abbrev pub LoopForbidsAppend : Type 0
LoopForbidsAppend =
    text_of (script (list_type 1 Integer ∷ list 2 (codes "a") ∷ [])
    (one (called 3 (codes "a") (codes "append") (number 1 ∷ number 2 ∷ []))
    (block (loop_at 4 (codes "c") false false (codes "a"))
    (one (called 5 (codes "a") (codes "append") (number 1 ∷ [])) stop)
    (one (called 7 (codes "a") (codes "append") (number 1 ∷ [])) stop))))
    ≡ lines (codes "3: ok"
    ∷ codes "5: raised PROGRAM_ERROR (cursor tampering)"
    ∷ codes "5: raised PROGRAM_ERROR (cursor tampering)"
    ∷ codes "7: ok" ∷ [])

-- a cursor whose element is gone is refused by name, also where another element came
abbrev pub DeadCursorIsRefused : Type 0
DeadCursorIsRefused =
    text_of (script (list_type 1 Integer ∷ list 2 (codes "a") ∷ cursor 3 (codes "c") ∷ cursor 4 (codes "d") ∷ [])
    (one (called 5 (codes "a") (codes "append") (number 1 ∷ []))
    (one (gets 6 (codes "c") (codes "a") (codes "first") [])
    (one (set_at 7 (codes "d") (Var (codes "c")))
    (one (called 8 (codes "a") (codes "delete") (Var (codes "c") ∷ []))
    (one (called 9 (codes "a") (codes "append") (number 2 ∷ []))
    (one (called 10 (codes "a") (codes "element") (Var (codes "d") ∷ []))
    (one (called 11 (codes "a") (codes "has_element") (Var (codes "d") ∷ []))
    (one (called 12 (codes "a") (codes "element") (Var (codes "c") ∷ [])) stop)))))))))
    ≡ lines (codes "5: ok"
    ∷ codes "6: cursor"
    ∷ codes "7: cursor"
    ∷ codes "8: ok"
    ∷ codes "9: ok"
    ∷ codes "10: raised PROGRAM_ERROR (dead cursor)"
    ∷ codes "11: false"
    ∷ codes "12: raised CONSTRAINT_ERROR (no element)" ∷ [])

-- the guards are looked at before the cursors
abbrev pub TamperingGoesFirst : Type 0
TamperingGoesFirst =
    text_of (script (list_type 1 Integer ∷ list 2 (codes "a") ∷ list 3 (codes "b") ∷ cursor 4 (codes "c") ∷ [])
    (one (called 5 (codes "a") (codes "append") (number 1 ∷ []))
    (one (called 6 (codes "b") (codes "append") (number 2 ∷ []))
    (one (gets 7 (codes "c") (codes "b") (codes "first") [])
    (one (called 8 (codes "a") (codes "element") (Var (codes "c") ∷ []))
    (block (loop_at 9 (codes "d") false false (codes "a"))
    (one (called 10 (codes "a") (codes "insert") (Var (codes "c") ∷ number 1 ∷ [])) stop)
    (one (called 12 (codes "a") (codes "insert") (Var (codes "c") ∷ number 1 ∷ [])) stop)))))))
    ≡ lines (codes "5: ok"
    ∷ codes "6: ok"
    ∷ codes "7: cursor"
    ∷ codes "8: raised PROGRAM_ERROR (foreign cursor)"
    ∷ codes "10: raised PROGRAM_ERROR (cursor tampering)"
    ∷ codes "12: raised PROGRAM_ERROR (foreign cursor)" ∷ [])

-- under a stable view elements are written, but none comes or goes
abbrev pub StableLetsWrite : Type 0
StableLetsWrite =
    text_of (script (list_type 1 Integer ∷ list 2 (codes "a") ∷ [])
    (one (called 3 (codes "a") (codes "append") (number 1 ∷ []))
    (block (stable_at 4 (codes "a"))
    (one (called 5 (codes "a") (codes "clear") [])
    (block (loop_at 6 (codes "e") true false (codes "a")) (one (set_at 7 (codes "e") (number 7)) stop) stop))
    (one (called 10 (codes "a") (codes "print") []) stop))))
    ≡ lines (codes "3: ok"
    ∷ codes "5: raised PROGRAM_ERROR (element tampering)"
    ∷ codes "7: 7"
    ∷ codes "10: [7]" ∷ [])

-- a view's name is the element itself; where its head is refused its body is skipped
abbrev pub ViewWritesElement : Type 0
ViewWritesElement =
    text_of (script (list_type 1 Str ∷ list 2 (codes "a") ∷ cursor 3 (codes "c") ∷ [])
    (block (view_at 4 Query (codes "a") (Some (codes "c")) (codes "x")) (one (called 4 (codes "a") (codes "length") []) stop)
    (one (called 5 (codes "a") (codes "append") (string (codes "b") ∷ []))
    (one (gets 6 (codes "c") (codes "a") (codes "last") [])
    (block (view_at 7 Update (codes "a") (Some (codes "c")) (codes "x"))
    (one (set_at 8 (codes "x") (string (34 ∷ [])))
    (one (called 9 (codes "a") (codes "element") (Var (codes "c") ∷ []))
    (one (called 10 (codes "a") (codes "sort") []) stop)))
    (one (called 11 (codes "a") (codes "print") []) stop))))))
    ≡ lines (codes "4: raised CONSTRAINT_ERROR (no element)"
    ∷ codes "5: ok"
    ∷ codes "6: cursor"
    ∷ (codes "8: " ++ 34 ∷ 34 ∷ 34 ∷ 34 ∷ [])
    ∷ (codes "9: " ++ 34 ∷ 34 ∷ 34 ∷ 34 ∷ [])
    ∷ codes "10: raised PROGRAM_ERROR (element tampering)"
    ∷ (codes "11: [" ++ 34 ∷ 34 ∷ 34 ∷ 34 ∷ 93 ∷ []) ∷ [])

-- an object of an inner scope has a number of its own, also when the block comes again; a refused command sets no target
abbrev pub InnerObjectsAreNew : Type 0
InnerObjectsAreNew =
    text_of (script (list_type 1 Integer ∷ list 2 (codes "a") ∷ decl.IntVar 3 (codes "n") ∷ cursor 3 (codes "c") ∷ [])
    (one (called 4 (codes "a") (codes "append") (number 5 ∷ number 2 ∷ []))
    (block (loop_at 5 (codes "e") true true (codes "a"))
    (block (declare_at 6 (list 6 (codes "b") ∷ []))
    (one (gets 7 (codes "n") (codes "b") (codes "element") (Var (codes "c") ∷ []))
    (one (called 8 (codes "b") (codes "append") (Var (codes "e") ∷ []))
    (one (gets 9 (codes "c") (codes "b") (codes "first") [])
    (one (sum_at 10 (codes "e") (codes "e") false 1) stop)))) stop)
    (one (set_at 13 (codes "n") (Var (codes "n")))
    (one (called 14 (codes "a") (codes "print") []) stop)))))
    ≡ lines (codes "4: ok"
    ∷ codes "7: raised CONSTRAINT_ERROR (no element)" ∷ codes "8: ok" ∷ codes "9: cursor" ∷ codes "10: 6"
    ∷ codes "7: raised PROGRAM_ERROR (foreign cursor)" ∷ codes "8: ok" ∷ codes "9: cursor" ∷ codes "10: 6"
    ∷ codes "13: 0"
    ∷ codes "14: [6, 6]" ∷ [])

-- one list into another, and into itself
abbrev pub SplicesMove : Type 0
SplicesMove =
    text_of (script (list_type 1 Integer ∷ list 2 (codes "a") ∷ list 2 (codes "b") ∷ cursor 3 (codes "c") ∷ [])
    (one (called 4 (codes "a") (codes "append") (number 1 ∷ []))
    (one (called 5 (codes "b") (codes "append") (number 2 ∷ number 2 ∷ []))
    (one (gets 6 (codes "c") (codes "b") (codes "last") [])
    (one (called 7 (codes "a") (codes "splice") (NoElement ∷ Var (codes "b") ∷ Var (codes "c") ∷ []))
    (one (called 8 (codes "a") (codes "element") (Var (codes "c") ∷ []))
    (one (called 9 (codes "a") (codes "splice") (NoElement ∷ Var (codes "a") ∷ []))
    (one (called 10 (codes "b") (codes "move") (Var (codes "a") ∷ []))
    (one (called 11 (codes "a") (codes "print") [])
    (one (called 12 (codes "b") (codes "print") []) stop))))))))))
    ≡ lines (codes "4: ok" ∷ codes "5: ok" ∷ codes "6: cursor" ∷ codes "7: ok" ∷ codes "8: 2" ∷ codes "9: ok" ∷ codes "10: ok"
    ∷ codes "11: []"
    ∷ codes "12: [1, 2]" ∷ [])

-- a command that is refused sets neither its target nor the variable among its arguments; one that isn't sets it to what is printed
abbrev pub RefusedSetsNothing : Type 0
RefusedSetsNothing =
    text_of (script (list_type 1 Integer ∷ list 2 (codes "a") ∷ list 2 (codes "b") ∷ decl.IntVar 3 (codes "n") ∷ cursor 4 (codes "c") ∷ [])
    (one (called 5 (codes "a") (codes "append") (number 5 ∷ []))
    (one (called 6 (codes "b") (codes "append") (number 6 ∷ []))
    (one (gets 7 (codes "c") (codes "b") (codes "first") [])
    (one (set_at 8 (codes "n") (number 7))
    (one (gets 9 (codes "n") (codes "a") (codes "element") (Var (codes "c") ∷ []))
    (one (sum_at 10 (codes "n") (codes "n") false 1)
    (one (called 11 (codes "a") (codes "delete") (Var (codes "c") ∷ []))
    (one (called 12 (codes "b") (codes "element") (Var (codes "c") ∷ []))
    (one (called 13 (codes "a") (codes "append") (Var (codes "n") ∷ []))
    (one (called 14 (codes "a") (codes "print") []) stop)))))))))))
    ≡ lines (codes "5: ok" ∷ codes "6: ok" ∷ codes "7: cursor" ∷ codes "8: 7"
    ∷ codes "9: raised PROGRAM_ERROR (foreign cursor)"
    ∷ codes "10: 8"
    ∷ codes "11: raised PROGRAM_ERROR (foreign cursor)"
    ∷ codes "12: 6" ∷ codes "13: ok"
    ∷ codes "14: [5, 8]" ∷ [])

-- a sum within the 64 bits is assigned, and another is refused and leaves the variable
abbrev pub SumsStayInRange : Type 0
SumsStayInRange =
    text_of (script (decl.IntVar 1 (codes "n") ∷ decl.IntVar 1 (codes "m") ∷ [])
    (one (sum_at 2 (codes "n") (codes "n") false (2 ^ 63 - 1))
    (one (sum_at 3 (codes "n") (codes "n") false 1)
    (one (sum_at 4 (codes "m") (codes "n") true 1)
    (one (sum_at 5 (codes "m") (codes "m") true (2 ^ 63 - 1))
    (one (sum_at 6 (codes "m") (codes "m") true (2 ^ 63 - 1))
    (one (sum_at 7 (codes "m") (codes "m") true 1)
    (one (sum_at 8 (codes "m") (codes "m") true 1) stop))))))))
    ≡ lines (codes "2: 9223372036854775807"
    ∷ codes "3: raised CONSTRAINT_ERROR (overflow)"
    ∷ codes "4: 9223372036854775806"
    ∷ codes "5: -1"
    ∷ codes "6: -9223372036854775808"
    ∷ codes "7: raised CONSTRAINT_ERROR (overflow)"
    ∷ codes "8: raised CONSTRAINT_ERROR (overflow)" ∷ [])

-- a string variable is empty at first, takes strings, and is an argument as a literal is
abbrev pub StringsAreKept : Type 0
StringsAreKept =
    text_of (script (list_type 1 Str ∷ list 2 (codes "a") ∷ decl.TextVar 3 (codes "s") ∷ decl.TextVar 3 (codes "t") ∷ [])
    (one (set_at 4 (codes "t") (Var (codes "s")))
    (one (set_at 5 (codes "s") (string (codes "it is \"so\"")))
    (one (called 6 (codes "a") (codes "append") (Var (codes "s") ∷ []))
    (one (set_at 7 (codes "s") (string (codes "b")))
    (one (gets 8 (codes "t") (codes "a") (codes "last_element") [])
    (one (called 9 (codes "a") (codes "contains") (Var (codes "t") ∷ []))
    (one (called 10 (codes "a") (codes "contains") (Var (codes "s") ∷ []))
    (one (set_at 11 (codes "s") (Var (codes "t"))) stop)))))))))
    ≡ lines (codes "4: \"\"" ∷ codes "5: \"it is \"\"so\"\"\"" ∷ codes "6: ok" ∷ codes "7: \"b\"" ∷ codes "8: \"it is \"\"so\"\"\""
    ∷ codes "9: true" ∷ codes "10: false" ∷ codes "11: \"it is \"\"so\"\"\"" ∷ [])

-- a loop over cursors lets elements be replaced, and one over the elements doesn't
abbrev pub LoopsHoldTheirGuards : Type 0
LoopsHoldTheirGuards =
    text_of (script (list_type 1 Integer ∷ list 2 (codes "a") ∷ cursor 3 (codes "c") ∷ [])
    (one (called 4 (codes "a") (codes "append") (number 1 ∷ number 2 ∷ []))
    (one (gets 5 (codes "c") (codes "a") (codes "first") [])
    (block (loop_at 6 (codes "d") false false (codes "a"))
    (one (called 7 (codes "a") (codes "replace_element") (Var (codes "d") ∷ number 2 ∷ [])) stop)
    (block (loop_at 9 (codes "e") true true (codes "a"))
    (one (called 10 (codes "a") (codes "clear") [])
    (one (called 11 (codes "a") (codes "replace_element") (Var (codes "c") ∷ number 3 ∷ [])) stop))
    (one (called 13 (codes "a") (codes "print") []) stop))))))
    ≡ lines (codes "4: ok" ∷ codes "5: cursor" ∷ codes "7: ok" ∷ codes "7: ok"
    ∷ codes "10: raised PROGRAM_ERROR (cursor tampering)"
    ∷ codes "11: raised PROGRAM_ERROR (element tampering)"
    ∷ codes "10: raised PROGRAM_ERROR (cursor tampering)"
    ∷ codes "11: raised PROGRAM_ERROR (element tampering)"
    ∷ codes "13: [2, 2]" ∷ [])

-- where the numbers of objects are spent the declaration's line says so, and its block is skipped
abbrev pub SpentNumberSkipsBlock : Type 0
SpentNumberSkipsBlock =
    lines_text (exec false no_orders
    (block (declare_at 3 (decl.IntVar 4 (codes "n") ∷ list 5 (codes "a") ∷ list 6 (codes "b") ∷ []))
    (one (set_at 8 (codes "n") (number 1)) stop)
    (one (set_at 10 (codes "m") (number 2)) stop))
    (with_decls [] (list_type 1 Integer ∷ decl.IntVar 2 (codes "m") ∷ []))
    []
    (record { bounds = binds_type ∷ binds_value (value.Int (pos 0)) ∷ []; next = numbers_end - 1; blocks = 0 })).lines
    ≡ lines (codes "6: raised CONSTRAINT_ERROR (names spent)" ∷ codes "10: 2" ∷ [])

-- each call that lists have with vectors, by what it answers and leaves: elements that come and go
abbrev pub ElementsComeAndGo : Type 0
ElementsComeAndGo =
    text_of (script (list_type 1 Integer ∷ list 2 (codes "a") ∷ cursor 3 (codes "c") ∷ cursor 4 (codes "d") ∷ [])
    (one (called 5 (codes "a") (codes "is_empty") [])
    (one (called 6 (codes "a") (codes "append") (number 3 ∷ []))
    (one (called 7 (codes "a") (codes "append") (number 2 ∷ number 2 ∷ []))
    (one (called 8 (codes "a") (codes "prepend") (number 1 ∷ number 2 ∷ []))
    (one (gets 9 (codes "c") (codes "a") (codes "find") (number 3 ∷ []))
    (one (called 10 (codes "a") (codes "insert") (Var (codes "c") ∷ number 7 ∷ number 2 ∷ []))
    (one (called 11 (codes "a") (codes "insert") (Var (codes "c") ∷ number 8 ∷ Var (codes "d") ∷ number 2 ∷ []))
    (one (called 12 (codes "a") (codes "print") [])
    (one (gets 13 (codes "d") (codes "a") (codes "next") (Var (codes "d") ∷ []))
    (one (called 14 (codes "a") (codes "element") (Var (codes "d") ∷ []))
    (one (gets 15 (codes "d") (codes "a") (codes "next") (Var (codes "d") ∷ []))
    (one (called 16 (codes "a") (codes "element") (Var (codes "d") ∷ []))
    (one (gets 17 (codes "d") (codes "a") (codes "previous") (Var (codes "d") ∷ []))
    (one (called 18 (codes "a") (codes "delete") (Var (codes "d") ∷ number 2 ∷ []))
    (one (called 19 (codes "a") (codes "has_element") (Var (codes "d") ∷ []))
    (one (called 20 (codes "a") (codes "delete_first") [])
    (one (called 21 (codes "a") (codes "delete_first") (number 2 ∷ []))
    (one (called 22 (codes "a") (codes "delete_last") [])
    (one (called 23 (codes "a") (codes "print") [])
    (one (called 24 (codes "a") (codes "first_element") [])
    (one (called 25 (codes "a") (codes "last_element") [])
    (one (called 26 (codes "a") (codes "length") []) stop)))))))))))))))))))))))
    ≡ lines (codes "5: true" ∷ codes "6: ok" ∷ codes "7: ok" ∷ codes "8: ok" ∷ codes "9: cursor" ∷ codes "10: ok"
    ∷ codes "11: ok" ∷ codes "12: [1, 1, 7, 7, 8, 8, 3, 2, 2]" ∷ codes "13: cursor" ∷ codes "14: 8"
    ∷ codes "15: cursor" ∷ codes "16: 3" ∷ codes "17: cursor" ∷ codes "18: ok" ∷ codes "19: false" ∷ codes "20: ok"
    ∷ codes "21: ok" ∷ codes "22: ok" ∷ codes "23: [7, 8, 2]" ∷ codes "24: 7" ∷ codes "25: 2" ∷ codes "26: 3" ∷ [])

-- and elements that move, with their cursors or without them
abbrev pub ElementsMove : Type 0
ElementsMove =
    text_of (script (list_type 1 Integer ∷ list 2 (codes "a") ∷ cursor 3 (codes "c") ∷ cursor 4 (codes "d") ∷ [])
    (one (called 5 (codes "a") (codes "append") (number 2 ∷ []))
    (one (called 6 (codes "a") (codes "append") (number 9 ∷ []))
    (one (called 7 (codes "a") (codes "append") (number 4 ∷ []))
    (one (gets 8 (codes "c") (codes "a") (codes "first") [])
    (one (gets 9 (codes "d") (codes "a") (codes "last") [])
    (one (called 10 (codes "a") (codes "swap") (Var (codes "c") ∷ Var (codes "d") ∷ []))
    (one (called 11 (codes "a") (codes "element") (Var (codes "c") ∷ []))
    (one (called 12 (codes "a") (codes "swap_links") (Var (codes "c") ∷ Var (codes "d") ∷ []))
    (one (called 13 (codes "a") (codes "element") (Var (codes "c") ∷ []))
    (one (called 14 (codes "a") (codes "print") [])
    (one (called 15 (codes "a") (codes "reverse_elements") [])
    (one (called 16 (codes "a") (codes "first_element") [])
    (one (called 17 (codes "a") (codes "is_sorted") [])
    (one (called 18 (codes "a") (codes "sort") [])
    (one (called 19 (codes "a") (codes "is_sorted") [])
    (one (called 20 (codes "a") (codes "contains") (number 9 ∷ []))
    (one (called 21 (codes "a") (codes "contains") (number 5 ∷ []))
    (one (gets 22 (codes "d") (codes "a") (codes "find") (number 2 ∷ Var (codes "c") ∷ []))
    (one (gets 23 (codes "d") (codes "a") (codes "reverse_find") (number 2 ∷ Var (codes "c") ∷ []))
    (one (gets 24 (codes "d") (codes "a") (codes "reverse_find") (number 9 ∷ Var (codes "c") ∷ []))
    (one (called 25 (codes "a") (codes "splice") (Var (codes "c") ∷ Var (codes "c") ∷ []))
    (one (gets 26 (codes "d") (codes "a") (codes "first") [])
    (one (called 27 (codes "a") (codes "splice") (Var (codes "d") ∷ Var (codes "c") ∷ []))
    (one (called 28 (codes "a") (codes "print") []) stop)))))))))))))))))))))))))
    ≡ lines (codes "5: ok" ∷ codes "6: ok" ∷ codes "7: ok" ∷ codes "8: cursor" ∷ codes "9: cursor" ∷ codes "10: ok"
    ∷ codes "11: 4" ∷ codes "12: ok" ∷ codes "13: 4" ∷ codes "14: [2, 9, 4]" ∷ codes "15: ok" ∷ codes "16: 4"
    ∷ codes "17: false" ∷ codes "18: ok" ∷ codes "19: true" ∷ codes "20: true" ∷ codes "21: false"
    ∷ codes "22: no_element" ∷ codes "23: cursor" ∷ codes "24: no_element" ∷ codes "25: ok" ∷ codes "26: cursor"
    ∷ codes "27: ok" ∷ codes "28: [4, 2, 9]" ∷ [])

-- and those with another list, or the list itself
abbrev pub ListsGiveAndTake : Type 0
ListsGiveAndTake =
    text_of (script (list_type 1 Integer ∷ list 2 (codes "a") ∷ list 3 (codes "b") ∷ cursor 4 (codes "c") ∷ cursor 4 (codes "d") ∷ [])
    (one (called 5 (codes "a") (codes "append") (number 2 ∷ []))
    (one (called 6 (codes "a") (codes "append") (number 4 ∷ []))
    (one (called 7 (codes "b") (codes "assign") (Var (codes "a") ∷ []))
    (one (called 8 (codes "b") (codes "equal") (Var (codes "a") ∷ []))
    (one (called 9 (codes "b") (codes "replace_element") (NoElement ∷ number 1 ∷ []))
    (one (gets 10 (codes "c") (codes "b") (codes "first") [])
    (one (called 11 (codes "b") (codes "replace_element") (Var (codes "c") ∷ number 3 ∷ []))
    (one (called 12 (codes "b") (codes "equal") (Var (codes "a") ∷ []))
    (one (called 13 (codes "a") (codes "merge") (Var (codes "b") ∷ []))
    (one (called 14 (codes "a") (codes "print") [])
    (one (called 15 (codes "b") (codes "print") [])
    (one (called 16 (codes "a") (codes "merge") (Var (codes "a") ∷ []))
    (one (gets 17 (codes "c") (codes "a") (codes "last") [])
    (one (called 18 (codes "b") (codes "append") (number 7 ∷ []))
    (one (called 19 (codes "a") (codes "splice") (Var (codes "c") ∷ Var (codes "b") ∷ []))
    (one (called 20 (codes "a") (codes "splice") (NoElement ∷ Var (codes "a") ∷ Var (codes "c") ∷ []))
    (one (called 21 (codes "a") (codes "element") (Var (codes "c") ∷ []))
    (one (called 22 (codes "a") (codes "print") [])
    (one (gets 23 (codes "d") (codes "a") (codes "first") [])
    (one (called 24 (codes "a") (codes "splice") (Var (codes "d") ∷ Var (codes "a") ∷ Var (codes "c") ∷ []))
    (one (called 25 (codes "a") (codes "element") (Var (codes "d") ∷ []))
    (one (called 26 (codes "b") (codes "is_empty") [])
    (one (called 27 (codes "b") (codes "move") (Var (codes "a") ∷ []))
    (one (called 28 (codes "a") (codes "length") [])
    (one (called 29 (codes "b") (codes "clear") [])
    (one (called 30 (codes "b") (codes "is_empty") []) stop)))))))))))))))))))))))))))
    ≡ lines (codes "5: ok" ∷ codes "6: ok" ∷ codes "7: ok" ∷ codes "8: true"
    ∷ codes "9: raised CONSTRAINT_ERROR (no element)" ∷ codes "10: cursor" ∷ codes "11: ok" ∷ codes "12: false"
    ∷ codes "13: ok" ∷ codes "14: [2, 3, 4, 4]" ∷ codes "15: []" ∷ codes "16: raised PROGRAM_ERROR (same container)"
    ∷ codes "17: cursor" ∷ codes "18: ok" ∷ codes "19: ok" ∷ codes "20: ok" ∷ codes "21: 4"
    ∷ codes "22: [2, 3, 4, 7, 4]" ∷ codes "23: cursor" ∷ codes "24: ok" ∷ codes "25: 2"
    ∷ codes "26: true" ∷ codes "27: ok" ∷ codes "28: 0" ∷ codes "29: ok"
    ∷ codes "30: true" ∷ [])

-- a vector's elements are replaced under a loop over cursors, and not under one over the elements, which lets their names write
abbrev pub VectorLoopsHoldTheirGuards : Type 0
VectorLoopsHoldTheirGuards =
    text_of (script (vector_type 1 false ∷ vector 2 (codes "v") None ∷ [])
    (one (called 3 (codes "v") (codes "append") (number 8 ∷ []))
    (block (loop_at 4 (codes "c") false false (codes "v"))
    (one (called 5 (codes "v") (codes "replace_element") (Var (codes "c") ∷ number 9 ∷ [])) stop)
    (block (loop_at 7 (codes "e") true false (codes "v"))
    (one (called 8 (codes "v") (codes "replace_element") (number 1 ∷ number 4 ∷ []))
    (one (called 9 (codes "v") (codes "append") (number 4 ∷ []))
    (one (set_at 10 (codes "e") (number 6)) stop)))
    (one (called 12 (codes "v") (codes "print") []) stop)))))
    ≡ lines (codes "3: ok"
    ∷ codes "5: ok"
    ∷ codes "8: raised PROGRAM_ERROR (element tampering)"
    ∷ codes "9: raised PROGRAM_ERROR (cursor tampering)"
    ∷ codes "10: 6"
    ∷ codes "12: [6]" ∷ [])

-- a deletion may begin one past the last, and takes no more than what is there; the Capacity stays
abbrev pub IndexesAreInRange : Type 0
IndexesAreInRange =
    text_of (script (vector_type 1 false ∷ vector 2 (codes "v") None ∷ [])
    (one (called 3 (codes "v") (codes "append") (number 1 ∷ []))
    (one (called 4 (codes "v") (codes "append") (number 2 ∷ number 2 ∷ []))
    (one (called 5 (codes "v") (codes "delete") (number 4 ∷ number 5 ∷ []))
    (one (called 6 (codes "v") (codes "delete") (number 5 ∷ number 0 ∷ []))
    (one (called 7 (codes "v") (codes "delete") (number 2 ∷ number 9 ∷ []))
    (one (called 8 (codes "v") (codes "print") [])
    (one (called 9 (codes "v") (codes "element") (number 2 ∷ []))
    (one (called 10 (codes "v") (codes "last_index") [])
    (one (called 11 (codes "v") (codes "capacity") []) stop))))))))))
    ≡ lines (codes "3: ok"
    ∷ codes "4: ok"
    ∷ codes "5: ok"
    ∷ codes "6: raised CONSTRAINT_ERROR (index)"
    ∷ codes "7: ok"
    ∷ codes "8: [1]"
    ∷ codes "9: raised CONSTRAINT_ERROR (index)"
    ∷ codes "10: 1"
    ∷ codes "11: 8" ∷ [])

-- a cursor keeps its element where others come before it, and stays where values are exchanged
abbrev pub CursorsKeepElements : Type 0
CursorsKeepElements =
    text_of (script (vector_type 1 false ∷ vector 2 (codes "v") None ∷ vector_cursor 3 (codes "c") ∷ [])
    (one (called 4 (codes "v") (codes "append") (number 10 ∷ []))
    (one (called 5 (codes "v") (codes "append") (number 20 ∷ []))
    (one (gets 6 (codes "c") (codes "v") (codes "to_cursor") (number 2 ∷ []))
    (one (called 7 (codes "v") (codes "insert") (number 1 ∷ number 5 ∷ []))
    (one (called 8 (codes "v") (codes "element") (Var (codes "c") ∷ []))
    (one (called 9 (codes "v") (codes "to_index") (Var (codes "c") ∷ []))
    (one (called 10 (codes "v") (codes "swap") (number 1 ∷ number 3 ∷ []))
    (one (called 11 (codes "v") (codes "element") (Var (codes "c") ∷ [])) stop)))))))))
    ≡ lines (codes "4: ok"
    ∷ codes "5: ok"
    ∷ codes "6: cursor"
    ∷ codes "7: ok"
    ∷ codes "8: 20"
    ∷ codes "9: 3"
    ∷ codes "10: ok"
    ∷ codes "11: 5" ∷ [])

-- a bounded vector takes no more than its limit, which is its Capacity
abbrev pub BoundedVectorIsFull : Type 0
BoundedVectorIsFull =
    text_of (script (vector_type 1 true ∷ vector 2 (codes "b") (Some 3) ∷ [])
    (one (called 3 (codes "b") (codes "append") (number 1 ∷ number 2 ∷ []))
    (one (called 4 (codes "b") (codes "append") (number 9 ∷ number 2 ∷ []))
    (one (called 5 (codes "b") (codes "print") [])
    (one (called 6 (codes "b") (codes "append") (number 9 ∷ []))
    (one (called 7 (codes "b") (codes "capacity") [])
    (one (called 8 (codes "b") (codes "reserve_capacity") (number 4 ∷ [])) stop)))))))
    ≡ lines (codes "3: ok"
    ∷ codes "4: raised CAPACITY_ERROR (full)"
    ∷ codes "5: [1, 1]"
    ∷ codes "6: ok"
    ∷ codes "7: 3"
    ∷ codes "8: raised CAPACITY_ERROR (full)" ∷ [])

-- each call that vectors alone have, by what it answers and leaves: those by an index, and those that lists mean otherwise
abbrev pub ElementsHaveIndexes : Type 0
ElementsHaveIndexes =
    text_of (script (vector_type 1 false ∷ vector 2 (codes "a") None ∷ vector_cursor 3 (codes "c") ∷ [])
    (one (called 4 (codes "a") (codes "set_length") (number 3 ∷ []))
    (one (called 5 (codes "a") (codes "replace_element") (number 2 ∷ number 7 ∷ []))
    (one (called 6 (codes "a") (codes "first_index") [])
    (one (called 7 (codes "a") (codes "find_index") (number 0 ∷ number 2 ∷ []))
    (one (called 8 (codes "a") (codes "find_index") (number 0 ∷ []))
    (one (called 9 (codes "a") (codes "reverse_find_index") (number 0 ∷ []))
    (one (called 10 (codes "a") (codes "reverse_find_index") (number 0 ∷ number 2 ∷ []))
    (one (called 11 (codes "a") (codes "reverse_find_index") (number 7 ∷ number 0 ∷ []))
    (one (gets 12 (codes "c") (codes "a") (codes "to_cursor") (number 4 ∷ []))
    (one (called 13 (codes "a") (codes "to_index") (Var (codes "c") ∷ []))
    (one (gets 14 (codes "c") (codes "a") (codes "to_cursor") (number 3 ∷ []))
    (one (called 15 (codes "a") (codes "insert") (number 4 ∷ number 5 ∷ number 2 ∷ []))
    (one (called 16 (codes "a") (codes "insert") (number 2 ∷ number 6 ∷ []))
    (one (called 17 (codes "a") (codes "delete") (number 1 ∷ []))
    (one (called 18 (codes "a") (codes "reverse_elements") [])
    (one (called 19 (codes "a") (codes "element") (number 4 ∷ []))
    (one (called 20 (codes "a") (codes "to_index") (Var (codes "c") ∷ []))
    (one (called 21 (codes "a") (codes "sort") [])
    (one (called 22 (codes "a") (codes "element") (Var (codes "c") ∷ []))
    (one (called 23 (codes "a") (codes "reserve_capacity") (number 20 ∷ []))
    (one (called 24 (codes "a") (codes "capacity") [])
    (one (called 25 (codes "a") (codes "set_length") (number 2 ∷ []))
    (one (called 26 (codes "a") (codes "element") (Var (codes "c") ∷ []))
    (one (called 27 (codes "a") (codes "print") []) stop)))))))))))))))))))))))))
    ≡ lines (codes "4: ok" ∷ codes "5: ok" ∷ codes "6: 1" ∷ codes "7: 3" ∷ codes "8: 1" ∷ codes "9: 3" ∷ codes "10: 1"
    ∷ codes "11: raised CONSTRAINT_ERROR (index)" ∷ codes "12: no_element" ∷ codes "13: 0" ∷ codes "14: cursor"
    ∷ codes "15: ok" ∷ codes "16: ok" ∷ codes "17: ok" ∷ codes "18: ok" ∷ codes "19: 7" ∷ codes "20: 3" ∷ codes "21: ok"
    ∷ codes "22: 5" ∷ codes "23: ok" ∷ codes "24: 32" ∷ codes "25: ok" ∷ codes "26: raised PROGRAM_ERROR (dead cursor)"
    ∷ codes "27: [0, 5]" ∷ [])

-- and those with another vector, or the vector itself
abbrev pub VectorsTakeCopies : Type 0
VectorsTakeCopies =
    text_of (script (vector_type 1 false ∷ vector 2 (codes "a") None ∷ vector 3 (codes "b") None ∷ vector_cursor 4 (codes "c") ∷ [])
    (one (called 5 (codes "a") (codes "append") (number 1 ∷ []))
    (one (called 6 (codes "a") (codes "append") (number 2 ∷ []))
    (one (called 7 (codes "b") (codes "append") (number 3 ∷ []))
    (one (called 8 (codes "a") (codes "append_vector") (Var (codes "b") ∷ []))
    (one (called 9 (codes "a") (codes "prepend_vector") (Var (codes "b") ∷ []))
    (one (called 10 (codes "a") (codes "insert_vector") (number 2 ∷ Var (codes "b") ∷ []))
    (one (gets 11 (codes "c") (codes "a") (codes "find") (number 2 ∷ []))
    (one (called 12 (codes "a") (codes "insert_vector") (Var (codes "c") ∷ Var (codes "b") ∷ []))
    (one (called 13 (codes "a") (codes "to_index") (Var (codes "c") ∷ []))
    (one (called 14 (codes "a") (codes "insert_vector") (Var (codes "c") ∷ Var (codes "b") ∷ Var (codes "c") ∷ []))
    (one (called 15 (codes "a") (codes "to_index") (Var (codes "c") ∷ []))
    (one (called 16 (codes "b") (codes "append") (number 4 ∷ []))
    (one (called 17 (codes "b") (codes "append_vector") (Var (codes "b") ∷ []))
    (one (called 18 (codes "b") (codes "insert_vector") (number 2 ∷ Var (codes "b") ∷ []))
    (one (called 19 (codes "b") (codes "print") [])
    (one (called 20 (codes "b") (codes "insert_vector") (Var (codes "c") ∷ Var (codes "a") ∷ []))
    (one (called 21 (codes "a") (codes "insert_vector") (number 9 ∷ Var (codes "b") ∷ []))
    (one (called 22 (codes "a") (codes "print") [])
    (one (called 23 (codes "a") (codes "equal") (Var (codes "b") ∷ []))
    (one (called 24 (codes "a") (codes "assign") (Var (codes "b") ∷ []))
    (one (called 25 (codes "a") (codes "equal") (Var (codes "b") ∷ [])) stop))))))))))))))))))))))
    ≡ lines (codes "5: ok" ∷ codes "6: ok" ∷ codes "7: ok" ∷ codes "8: ok" ∷ codes "9: ok" ∷ codes "10: ok" ∷ codes "11: cursor"
    ∷ codes "12: ok" ∷ codes "13: 5" ∷ codes "14: ok" ∷ codes "15: 5" ∷ codes "16: ok" ∷ codes "17: ok" ∷ codes "18: ok"
    ∷ codes "19: [3, 3, 4, 3, 4, 4, 3, 4]" ∷ codes "20: raised PROGRAM_ERROR (foreign cursor)"
    ∷ codes "21: raised CONSTRAINT_ERROR (index)" ∷ codes "22: [3, 3, 1, 3, 3, 2, 3]" ∷ codes "23: false" ∷ codes "24: ok"
    ∷ codes "25: true" ∷ [])

abbrev pub MapIsListed : Type 0
MapIsListed =
    map_listing signed_decimal signed_decimal (entry (pos 1) (pos 2) ∷ entry (pos 3) (pos 4) ∷ []) ≡ codes "[1 => 2, 3 => 4]"

abbrev pub NoNodesAreListed : Type 0
NoNodesAreListed = tree_listing signed_decimal [] ≡ codes "[]"

abbrev pub TreeIsListed : Type 0
TreeIsListed =
    tree_listing signed_decimal (node 2 (pos 1) ∷ node 3 (pos 2) ∷ node 3 (pos 3) ∷ node 2 (pos 4) ∷ []) ≡ codes "[1 [2, 3], 4]"

abbrev pub DeepTreeIsListed : Type 0
DeepTreeIsListed =
    tree_listing signed_decimal (node 2 (pos 1) ∷ node 3 (pos 2) ∷ node 4 (pos 3) ∷ node 2 (pos 4) ∷ node 3 (pos 5) ∷ [])
    ≡ codes "[1 [2 [3]], 4 [5]]"
