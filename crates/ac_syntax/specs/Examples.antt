-- Texts, their tokens, their scripts and canonical texts, worked out by hand.
use Rattle.std.specs.Prelude.{◌≡◌, ℕ, ◌+◌, zero, suc, pos, neg_ℤ, codes, false, true, List, [], ◌∷◌, ◌++◌, Some, None}
use Rattle.ac_syntax.specs.Code.{Code, call_at, loop_at, view_at, stable_at, declare_at, stop, one, block}
use Rattle.ac_base.specs.declared.value.Value.TheVariants as value
use Rattle.ac_syntax.specs.declared.arg.Arg.TheVariants.{Lit, Var}
use Rattle.ac_syntax.specs.declared.decl.Decl.{Decl}
use Rattle.ac_syntax.specs.declared.decl.Decl.TheVariants.{TypeDecl, Object}
use Rattle.ac_syntax.specs.declared.kind.Kind.TheVariants as kind
use Rattle.ac_syntax.specs.declared.kind.ElemKind.TheVariants.{Integer}
use Rattle.ac_syntax.specs.declared.refusal.RefusalKind.TheVariants.{Limit}
use Rattle.ac_syntax.specs.declared.view_kind.ViewKind.TheVariants.{Query}
use Rattle.ac_syntax.specs.declared.script.Script.{Script}
use Rattle.ac_syntax.specs.declared.token.Token.TheVariants as token
use Rattle.ac_syntax.specs.declared.token.Mark.TheVariants.{Semicolon, Assign}
use Rattle.ac_syntax.specs.Tokens.{cut_of}
use Rattle.ac_syntax.specs.Refusals.{Spells, IsFirstRefusal}
use Rattle.ac_syntax.specs.Canonical.{canonical_text, on_line}

-- lines, each with its LF
abbrev pub lines : List (List ℕ) → List ℕ
lines [] = []
lines (line ∷ others) = line ++ 10 ∷ lines others

-- on line 1 a type l of lists of integers, and an object a of it
abbrev pub a_list : List Decl
a_list =
    TypeDecl 1 (codes "l") (record { bounded = false; kind = kind.List; first = Integer; second = None; keyed = false })
    ∷ Object 1 (codes "a") (codes "l") None ∷ []

abbrev pub with_list : Code → Script
with_list stmts = record { pragma = None; decls = a_list; stmts = stmts }

-- words in any case, two items on a line, a comment, spaces around a minus, zeros before a number

abbrev pub loose_text : List ℕ
loose_text = lines (codes "TYPE L is list(Integer);A:L; -- x" ∷ codes "A.Append( - 007 );" ∷ [])

abbrev pub loose_script : Script
loose_script = with_list (one (call_at 2 None (codes "a") (codes "append") (Lit (value.Int (neg_ℤ (pos 7))) ∷ [])) stop)

abbrev pub SpellsLoosely : Type 0
SpellsLoosely = Spells loose_script loose_text

abbrev pub WritesStrictly : Type 0
WritesStrictly = canonical_text loose_script ≡ lines (codes "type l is list (integer); a : l;" ∷ codes "a.append (-7);" ∷ [])

-- blocks in blocks, an empty line, a block with declarations

abbrev pub nested_script : Script
nested_script = with_list (
    block (loop_at 2 (codes "c") false true (codes "a"))
    (block (view_at 3 Query (codes "a") (Some (codes "c")) (codes "x"))
    (one (call_at 4 None (codes "a") (codes "append") (Var (codes "x") ∷ Lit (value.Int (pos 2)) ∷ [])) stop) stop)
    (block (declare_at 6 (Object 6 (codes "b") (codes "l") None ∷ []))
    (one (call_at 6 (Some (codes "x")) (codes "b") (codes "length") []) stop) stop))

abbrev pub nested_text : List ℕ
nested_text = lines (
    codes "type l is list (integer); a : l;" ∷ codes "for c in reverse a loop" ∷ codes "query a at c as x do"
    ∷ codes "a.append (x, 2); end; end loop;" ∷ [] ∷ codes "declare b : l; begin x := b.length; end;" ∷ [])

abbrev pub SpellsNested : Type 0
SpellsNested = Spells nested_script nested_text

abbrev pub WritesNested : Type 0
WritesNested = canonical_text nested_script ≡ nested_text

-- `"a""b"` is the string of the bytes of `a"b`
abbrev pub ReadsDoubledQuote : Type 0
ReadsDoubledQuote =
    cut_of (codes "X := " ++ 34 ∷ 97 ∷ 34 ∷ 34 ∷ 98 ∷ 34 ∷ codes ";")
    ≡ record { placed = on_line 1 (token.Word (codes "x")) ∷ on_line 1 (token.Mark Assign) ∷ on_line 1 (token.Text (97 ∷ 34 ∷ 98 ∷ [])) ∷ on_line 1 (token.Mark Semicolon) ∷ []; malformed = None }

-- a string has to end on its line
abbrev pub RefusesOpenString : Type 0
RefusesOpenString = cut_of (lines (codes "A;" ∷ (34 ∷ codes "a;") ∷ (34 ∷ []) ∷ []))
    ≡ record { placed = on_line 1 (token.Word (codes "a")) ∷ on_line 1 (token.Mark Semicolon) ∷ []; malformed = Some 2 }

-- a comment ends before its LF
abbrev pub EndsComment : Type 0
EndsComment = cut_of (lines (codes "A -- b" ∷ codes "C" ∷ []))
    ≡ record { placed = on_line 1 (token.Word (codes "a")) ∷ on_line 2 (token.Word (codes "c")) ∷ []; malformed = None }

-- a tab is white space, and so is a CR right before LF

abbrev pub TakesTab : Type 0
TakesTab = cut_of (9 ∷ codes "A" ++ 9 ∷ codes ";")
    ≡ record { placed = on_line 1 (token.Word (codes "a")) ∷ on_line 1 (token.Mark Semicolon) ∷ []; malformed = None }

abbrev pub TakesReturnBeforeLineFeed : Type 0
TakesReturnBeforeLineFeed = cut_of (codes "A" ++ 13 ∷ 10 ∷ codes ";")
    ≡ record { placed = on_line 1 (token.Word (codes "a")) ∷ on_line 2 (token.Mark Semicolon) ∷ []; malformed = None }

-- elsewhere a CR may stand in a comment alone, and a tab in no string

abbrev pub RefusesLoneReturn : Type 0
RefusesLoneReturn = cut_of (10 ∷ codes "A" ++ 13 ∷ codes ";") ≡ record { placed = on_line 2 (token.Word (codes "a")) ∷ []; malformed = Some 2 }

abbrev pub RefusesReturnTwice : Type 0
RefusesReturnTwice = cut_of (13 ∷ 10 ∷ 13 ∷ 13 ∷ 10 ∷ []) ≡ record { placed = []; malformed = Some 2 }

abbrev pub RefusesLastReturn : Type 0
RefusesLastReturn = cut_of (codes "A" ++ 13 ∷ []) ≡ record { placed = on_line 1 (token.Word (codes "a")) ∷ []; malformed = Some 1 }

abbrev pub TakesReturnInComment : Type 0
TakesReturnInComment = cut_of (codes "A--" ++ 13 ∷ codes "b" ++ 10 ∷ codes ";")
    ≡ record { placed = on_line 1 (token.Word (codes "a")) ∷ on_line 2 (token.Mark Semicolon) ∷ []; malformed = None }

abbrev pub RefusesTabInString : Type 0
RefusesTabInString = cut_of (34 ∷ 9 ∷ 34 ∷ []) ≡ record { placed = []; malformed = Some 1 }

-- a letter right after a number
abbrev pub RefusesLetterAfterNumber : Type 0
RefusesLetterAfterNumber = cut_of (codes "12a") ≡ record { placed = []; malformed = Some 1 }

abbrev pub WritesNothing : Type 0
WritesNothing = canonical_text (record { pragma = None; decls = []; stmts = stop }) ≡ []

-- so many blocks from this line on, each in the one before

abbrev pub deep : ℕ → ℕ → Code
deep line zero = stop
deep line (suc n) = block (stable_at line (codes "a")) (deep (line + 1) n) stop

abbrev pub two_lines : Code → Script
two_lines stmts =
    record {
      pragma = None;
      decls = TypeDecl 1 (codes "l") (record { bounded = false; kind = kind.List; first = Integer; second = None; keyed = false }) ∷ Object 2 (codes "a") (codes "l") None ∷ [];
      stmts = stmts;
    }

abbrev pub repeated : ℕ → List ℕ → List ℕ
repeated zero text = []
repeated (suc n) text = text ++ repeated n text

abbrev pub heads_text : ℕ → List ℕ
heads_text n = lines (codes "type L is list (integer);" ∷ codes "A : L;" ∷ []) ++ repeated n (codes "stable A do" ++ 10 ∷ [])

abbrev pub TakesDepth16 : Type 0
TakesDepth16 = Spells (two_lines (deep 3 16)) (heads_text 15 ++ codes "stable A do " ++ repeated 16 (codes "end;"))

-- so many blocks on line 3, one behind the other
abbrev pub in_a_row : ℕ → Code
in_a_row zero = stop
in_a_row (suc n) = block (stable_at 3 (codes "a")) stop (in_a_row n)

-- an end leaves room for another block
abbrev pub Takes17InARow : Type 0
Takes17InARow = Spells (two_lines (in_a_row 17)) (heads_text 0 ++ repeated 17 (codes "stable A do end;"))

abbrev pub RefusesDepth17 : Type 0
RefusesDepth17 = IsFirstRefusal (heads_text 17) 19 Limit
