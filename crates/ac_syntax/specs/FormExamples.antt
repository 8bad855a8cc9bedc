-- Each form of the grammar, and spellings that the canonical text doesn't keep, worked out by hand.
use Rattle.std.specs.Prelude.{◌≡◌, ℕ, pos, negsuc, codes, false, true, List, [], ◌∷◌, ◌++◌, Some, None}
use Rattle.ac_syntax.specs.Code.{Code, call_at, set_at, sum_at, loop_at, view_at, stable_at, stop, one, block}
use Rattle.ac_base.specs.declared.value.Value.TheVariants as value
use Rattle.ac_syntax.specs.declared.arg.Arg.TheVariants.{Lit, NoElement, Var}
use Rattle.ac_syntax.specs.declared.decl.Decl.{Decl}
use Rattle.ac_syntax.specs.declared.decl.Decl.TheVariants.{TypeDecl, Object, CursorVar, IntVar, TextVar}
use Rattle.ac_syntax.specs.declared.kind.Kind.TheVariants as kind
use Rattle.ac_syntax.specs.declared.kind.ElemKind.TheVariants.{Integer, Str}
use Rattle.ac_syntax.specs.declared.view_kind.ViewKind.TheVariants.{Query, Update, Reference, UpdateKey}
use Rattle.ac_syntax.specs.declared.script.Script.{Script}
use Rattle.ac_syntax.specs.Refusals.{Spells}
use Rattle.ac_syntax.specs.Canonical.{canonical_text, IsWellFormed}
use Rattle.ac_syntax.specs.Examples.{lines}

abbrev pub every_decl : List Decl
every_decl =
    TypeDecl 1 (codes "m") (record { bounded = false; kind = kind.HashedMap; first = Integer; second = Some Str; keyed = false })
    ∷ TypeDecl 2 (codes "s") (record { bounded = true; kind = kind.OrderedSet; first = Str; second = None; keyed = true })
    ∷ Object 3 (codes "a") (codes "m") None ∷ Object 3 (codes "b") (codes "s") (Some 8) ∷ CursorVar 4 (codes "c") (codes "m") ∷ IntVar 4 (codes "n") ∷ TextVar 4 (codes "t") ∷ []

abbrev pub every_command : Code → Code
every_command rest =
    one (sum_at 5 (codes "n") (codes "n") false 1) (one (sum_at 5 (codes "n") (codes "n") true 2) (one (set_at 5 (codes "c") NoElement)
    (one (call_at 6 (Some (codes "t")) (codes "a") (codes "element") (Var (codes "c") ∷ []))
    (one (call_at 6 None (codes "a") (codes "insert") (Lit (value.Int (negsuc 0)) ∷ Lit (value.Text (97 ∷ 34 ∷ [])) ∷ Var (codes "c") ∷ [])) rest))))

abbrev pub every_block : Code
every_block =
    block (view_at 7 Update (codes "a") (Some (codes "c")) (codes "x")) stop
    (block (view_at 7 Reference (codes "a") (Some (codes "c")) (codes "y")) (block (stable_at 8 (codes "a")) stop stop)
    (block (view_at 9 UpdateKey (codes "b") (Some (codes "d")) (codes "z")) stop
    (block (loop_at 9 (codes "e") true false (codes "a")) stop (block (view_at 10 Query (codes "h") None (codes "q")) stop stop))))

abbrev pub every_form : Script
every_form = record { pragma = None; decls = every_decl; stmts = every_command every_block }

abbrev pub every_text : List ℕ
every_text = lines (
    codes "type m is hashed_map (integer, string);" ∷ codes "type s is bounded ordered_set (string) keyed;" ∷ codes "a : m; b : s (8);"
    ∷ codes "c : m.cursor; n : integer; t : string;" ∷ codes "n := n + 1; n := n - 2; c := no_element;"
    ∷ (codes "t := a.element (c); a.insert (-1, " ++ 34 ∷ 97 ∷ 34 ∷ 34 ∷ 34 ∷ codes ", c);") ∷ codes "update a at c as x do end; reference y of a at c do"
    ∷ codes "stable a do end; end;" ∷ codes "update_key b at d as z do end; for e of a loop end loop;" ∷ codes "query h as q do end;" ∷ [])

abbrev pub SpellsEveryForm : Type 0
SpellsEveryForm = Spells every_form every_text

abbrev pub WritesEveryForm : Type 0
WritesEveryForm = canonical_text every_form ≡ every_text

abbrev pub IsEveryFormWell : Type 0
IsEveryFormWell = IsWellFormed every_form

-- a minus before 0 is read and not written

abbrev pub zero_set : Script
zero_set = record { pragma = None; decls = []; stmts = one (set_at 1 (codes "x") (Lit (value.Int (pos 0)))) stop }

abbrev pub SpellsMinusZero : Type 0
SpellsMinusZero = Spells zero_set (codes "X := -0;")

abbrev pub WritesZero : Type 0
WritesZero = canonical_text zero_set ≡ lines (codes "x := 0;" ∷ [])

-- no tokens spell an update of a key without a cursor
abbrev pub NeedsCursor : Type 0
NeedsCursor = IsWellFormed (record { pragma = None; decls = []; stmts = block (view_at 1 UpdateKey (codes "b") None (codes "z")) stop stop }) → ⊥

-- lines don't fall
abbrev pub NeedsRisingLines : Type 0
NeedsRisingLines = IsWellFormed (record { pragma = None; decls = IntVar 2 (codes "n") ∷ IntVar 1 (codes "m") ∷ []; stmts = stop }) → ⊥
