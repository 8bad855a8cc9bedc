-- Worked rows: what scripts with handlers write, to the byte, where exceptions propagate and where they don't.
use Rattle.std.specs.Prelude.{◌≡◌, ℕ, codes, true, false, List, [], ◌∷◌, Option, Some, None}
use Rattle.ac_base.specs.declared.reason.Exception.TheVariants.{ProgramError, ConstraintError, CapacityError}
use Rattle.ac_syntax.specs.Code.{set_at, loop_at, view_at, stable_at, declare_at, Code, stop, one, block, handled, no_handler, handler}
use Rattle.ac_syntax.specs.declared.arg.Arg.TheVariants.{NoElement}
use Rattle.ac_syntax.specs.declared.decl.Decl.{Decl}
use Rattle.ac_syntax.specs.declared.decl.Decl.TheVariants as decl
use Rattle.ac_syntax.specs.declared.kind.Kind.TheVariants as kind
use Rattle.ac_syntax.specs.declared.kind.ElemKind.TheVariants.{Integer, Str}
use Rattle.ac_syntax.specs.declared.view_kind.ViewKind.TheVariants.{UpdateKey}
use Rattle.ac_meaning.specs.Examples.{lines, number, string, called, gets, list_type, list}
use Rattle.ac_meaning.specs.Execution.{text_of}

-- what a script of these statements writes, with the pragma on this line or without it
abbrev pub written : (pragma : Option ℕ) → List Decl → Code → List ℕ
written pragma decls stmts = text_of (record { pragma = pragma; decls = decls; stmts = stmts })

abbrev pub list_a : List Decl
list_a = list_type 2 Integer ∷ list 3 (codes "a") ∷ []

abbrev pub keyed_set : List Decl
keyed_set =
    decl.TypeDecl 2 (codes "s") (record { bounded = false; kind = kind.OrderedSet; first = Str; second = None; keyed = true })
    ∷ decl.Object 3 (codes "a") (codes "s") None ∷ decl.CursorVar 4 (codes "c") (codes "s") ∷ []

abbrev pub queue_a : List Decl
queue_a =
    decl.TypeDecl 2 (codes "q") (record { bounded = false; kind = kind.Queue; first = Integer; second = None; keyed = false })
    ∷ decl.Object 3 (codes "a") (codes "q") None ∷ []

abbrev pub looped : Code
looped =
    one (called 4 (codes "a") (codes "append") (number 1 ∷ []))
    (handled 5
    (block (loop_at 6 (codes "c") false false (codes "a"))
    (one (called 7 (codes "a") (codes "append") (number 2 ∷ [])) (one (called 8 (codes "a") (codes "length") []) stop)) stop)
    (handler 11 (Some ProgramError) (one (called 12 (codes "a") (codes "append") (number 3 ∷ [])) stop) no_handler)
    (one (called 14 (codes "a") (codes "print") [])
    (one (called 15 (codes "a") (codes "element") (NoElement ∷ []))
    (one (called 16 (codes "a") (codes "print") []) stop))))

-- an exception leaves its loop, and ends at its handler. What no handler takes ends all
abbrev pub LoopIsLeft : Type 0
LoopIsLeft =
    written (Some 1) list_a looped
    ≡ lines (codes "4: ok"
    ∷ codes "7: raised PROGRAM_ERROR (cursor tampering)"
    ∷ codes "12: ok"
    ∷ codes "14: [1, 3]"
    ∷ codes "15: raised CONSTRAINT_ERROR (no element)" ∷ [])

-- where exceptions don't propagate, each statement runs, and no handler does
abbrev pub GoesOnWithout : Type 0
GoesOnWithout =
    written None list_a looped
    ≡ lines (codes "4: ok"
    ∷ codes "7: raised PROGRAM_ERROR (cursor tampering)"
    ∷ codes "8: 1"
    ∷ codes "14: [1]"
    ∷ codes "15: raised CONSTRAINT_ERROR (no element)"
    ∷ codes "16: [1]" ∷ [])

-- an update of a key that is left drops its copy, and its guard is released
abbrev pub CopyIsDropped : Type 0
CopyIsDropped =
    written (Some 1) keyed_set
    (one (called 5 (codes "a") (codes "insert") (string (codes "a=1") ∷ []))
    (one (gets 6 (codes "c") (codes "a") (codes "first") [])
    (handled 7
    (block (view_at 8 UpdateKey (codes "a") (Some (codes "c")) (codes "x"))
    (one (set_at 9 (codes "x") (string (codes "a=2"))) (one (called 10 (codes "a") (codes "clear") []) stop)) stop)
    (handler 13 None (one (called 14 (codes "a") (codes "print") []) (one (called 15 (codes "a") (codes "clear") []) stop)) no_handler)
    (one (called 17 (codes "a") (codes "length") []) stop))))
    ≡ lines (codes "5: ok"
    ∷ codes "6: cursor"
    ∷ codes "9: \"a=2\""
    ∷ codes "10: raised PROGRAM_ERROR (cursor tampering)"
    ∷ codes "14: [\"a=1\"]"
    ∷ codes "15: ok"
    ∷ codes "17: 0" ∷ [])

-- the first handler of the exception takes it, and none of the same block takes what that one raises; one of a block around it does. What the body did stays
abbrev pub FirstHandlerTakes : Type 0
FirstHandlerTakes =
    written (Some 1) list_a
    (handled 4
    (handled 5
    (block (stable_at 6 (codes "a"))
    (one (called 7 (codes "a") (codes "length") []) (one (called 8 (codes "a") (codes "append") (number 1 ∷ [])) stop)) stop)
    (handler 9 (Some ConstraintError) (one (called 10 (codes "a") (codes "print") []) stop)
    (handler 11 (Some ProgramError)
    (one (called 12 (codes "a") (codes "append") (number 2 ∷ [])) (one (called 13 (codes "a") (codes "element") (NoElement ∷ [])) stop))
    (handler 14 None (one (called 15 (codes "a") (codes "clear") []) stop) no_handler)))
    (one (called 16 (codes "a") (codes "clear") []) stop))
    (handler 17 None (one (called 18 (codes "a") (codes "print") []) stop) no_handler)
    (one (called 19 (codes "a") (codes "first_element") []) stop))
    ≡ lines (codes "7: 0"
    ∷ codes "8: raised PROGRAM_ERROR (element tampering)"
    ∷ codes "12: ok"
    ∷ codes "13: raised CONSTRAINT_ERROR (no element)"
    ∷ codes "18: [2]"
    ∷ codes "19: 2" ∷ [])

-- a handler to which nothing comes isn't run, and what no handler takes ends the script
abbrev pub EndsTheScript : Type 0
EndsTheScript =
    written (Some 1) list_a
    (handled 4 (one (called 5 (codes "a") (codes "append") (number 1 ∷ [])) stop)
    (handler 6 None (one (called 7 (codes "a") (codes "clear") []) stop) no_handler)
    (handled 8
    (block (declare_at 9 (list 10 (codes "b") ∷ [])) (one (called 11 (codes "b") (codes "first_element") []) stop) stop)
    (handler 12 (Some CapacityError) (one (called 13 (codes "a") (codes "clear") []) stop) no_handler)
    (one (called 14 (codes "a") (codes "print") []) stop)))
    ≡ lines (codes "5: ok" ∷ codes "11: raised CONSTRAINT_ERROR (empty)" ∷ [])

-- a call that would wait raises nothing
abbrev pub StalledRaisesNothing : Type 0
StalledRaisesNothing =
    written (Some 1) queue_a
    (handled 4 (one (called 5 (codes "a") (codes "dequeue") []) (one (called 6 (codes "a") (codes "enqueue") (number 1 ∷ [])) stop))
    (handler 7 None (one (called 8 (codes "a") (codes "enqueue") (number 2 ∷ [])) stop) no_handler)
    (one (called 9 (codes "a") (codes "print") []) stop))
    ≡ lines (codes "5: stalled" ∷ codes "6: ok" ∷ codes "9: [1]" ∷ [])

-- behind a turn that raises a loop has no further one, and what follows the loop is left too
abbrev pub NoFurtherTurn : Type 0
NoFurtherTurn =
    written (Some 1) list_a
    (one (called 4 (codes "a") (codes "append") (number 1 ∷ number 3 ∷ []))
    (handled 5
    (block (loop_at 6 (codes "c") false true (codes "a")) (one (called 7 (codes "a") (codes "clear") []) stop)
    (one (called 9 (codes "a") (codes "clear") []) stop))
    (handler 10 (Some ProgramError) (one (called 11 (codes "a") (codes "append") (number 2 ∷ [])) stop) no_handler)
    (one (called 13 (codes "a") (codes "print") []) stop)))
    ≡ lines (codes "4: ok"
    ∷ codes "7: raised PROGRAM_ERROR (cursor tampering)"
    ∷ codes "11: ok"
    ∷ codes "13: [1, 1, 1, 2]" ∷ [])

-- the end of an update of a key raises as commands do, and so does the head of a view, whose exception no handler of the same block takes
abbrev pub EndRaises : Type 0
EndRaises =
    written (Some 1) keyed_set
    (one (called 5 (codes "a") (codes "insert") (string (codes "a=1") ∷ []))
    (one (gets 6 (codes "c") (codes "a") (codes "first") [])
    (handled 7
    (block (view_at 8 UpdateKey (codes "a") (Some (codes "c")) (codes "x")) (one (set_at 9 (codes "x") (string (codes "b=2"))) stop)
    (one (called 11 (codes "a") (codes "length") []) stop))
    (handler 12 (Some ConstraintError) stop
    (handler 13 (Some ProgramError)
    (block (view_at 14 UpdateKey (codes "a") (Some (codes "c")) (codes "x")) stop (one (called 16 (codes "a") (codes "length") []) stop))
    (handler 17 None (one (called 18 (codes "a") (codes "length") []) stop) no_handler)))
    (one (called 20 (codes "a") (codes "length") []) stop))))
    ≡ lines (codes "5: ok"
    ∷ codes "6: cursor"
    ∷ codes "9: \"b=2\""
    ∷ codes "8: raised PROGRAM_ERROR (key changed)"
    ∷ codes "14: raised PROGRAM_ERROR (dead cursor)" ∷ [])
