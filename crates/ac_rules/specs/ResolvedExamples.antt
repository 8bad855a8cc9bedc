-- Statements and declarations, resolved by hand.
use Rattle.std.specs.Prelude.{◌≡◌, pos, codes, true, false, [], ◌∷◌, Some, None}
use Rattle.ac_syntax.specs.Code.{call_at, set_at, sum_at, loop_at, view_at, stable_at, declare_at, stop, one, block}
use Rattle.ac_syntax.specs.declared.arg.Arg.TheVariants.{NoElement, Var}
use Rattle.ac_syntax.specs.declared.decl.Decl.TheVariants.{TypeDecl, Object, CursorVar, IntVar, TextVar}
use Rattle.ac_syntax.specs.declared.kind.Kind.TheVariants as kind
use Rattle.ac_syntax.specs.declared.kind.ElemKind.TheVariants.{Integer, Str}
use Rattle.ac_syntax.specs.declared.view_kind.ViewKind.TheVariants.{Query, Update}
use Rattle.ac_base.specs.declared.value.Value.TheVariants as value
use Rattle.ac_syntax.specs.declared.operation.Operation.TheVariants as operation
use Rattle.ac_syntax.specs.declared.operation.CommonCall.TheVariants as common_call
use Rattle.ac_syntax.specs.declared.operation.SequenceCall.TheVariants as sequence_call
use Rattle.ac_syntax.specs.declared.operation.ListCall.TheVariants as list_call
use Rattle.ac_rules.specs.declared.resolved.ResolvedArg.TheVariants.{Lit, At}
use Rattle.ac_rules.specs.declared.resolved.ResolvedArg.TheVariants as resolved_arg
use Rattle.ac_rules.specs.declared.resolved.ResolvedDecl.TheVariants as made
use Rattle.ac_rules.specs.Examples.{A, B, C, D, N, V, X, number, text, def, list_of, scope}
use Rattle.ac_rules.specs.Resolved.{calls_at, sets_at, sums_at, loops_at, views_at, stables_at, declares_at, no_statement, a_command, a_block}
use Rattle.ac_rules.specs.Resolved.{place_of, resolve_simple, resolve_decls, resolve, resolve_script}

-- in their scope A has the place 3, B 4, S 6, the cursors D and E 7 and 8, X 9 and Y 10

-- names in a block have the places behind those outside, and the next block's names have them again
abbrev pub PlacesInBlocks : Type 0
PlacesInBlocks =
    resolve scope (
    block (loop_at 1 C false true A)
    (block (view_at 2 Query A (Some C) V) (one (set_at 3 X (Var V)) stop)
    (block (declare_at 4 (IntVar 4 N ∷ CursorVar 4 V (codes "l") ∷ [])) (one (set_at 5 V (Var C)) (one (sum_at 6 N X true 2) stop)) stop))
    (block (view_at 7 Update A (Some D) N) (one (set_at 8 N (Var X)) stop) (block (stable_at 9 B) stop stop)))
    ≡ (
    a_block (loops_at 1 false true 3)
    (a_block (views_at 2 Query 3 (Some 11)) (a_command (sets_at 3 9 (At 12)) no_statement)
    (a_block (declares_at 4 (made.Integer ∷ made.Cursor ∷ [])) (a_command (sets_at 5 13 (At 11)) (a_command (sums_at 6 12 9 true 2) no_statement)) no_statement))
    (a_block (views_at 7 Update 3 (Some 7)) (a_command (sets_at 8 11 (At 9)) no_statement) (a_block (stables_at 9 4) no_statement no_statement)))

-- a name that isn't in scope has the place of the next one
abbrev pub PlacesNoName : Type 0
PlacesNoName = place_of scope C ≡ 11

-- a call's target, object and arguments are places, but for literals and `no_element`
abbrev pub ResolvesArguments : Type 0
ResolvesArguments =
    (resolve_simple scope (call_at 1 (Some X) A (codes "element") (Var D ∷ []))
    ∷ resolve_simple scope (call_at 2 (Some D) A (codes "find") (number 5 ∷ Var D ∷ []))
    ∷ resolve_simple scope (call_at 3 None A (codes "insert") (NoElement ∷ Var X ∷ [])) ∷ [])
    ≡ (calls_at 1 (Some 9) 3 (operation.Common common_call.Element) (At 7 ∷ [])
    ∷ calls_at 2 (Some 7) 3 (operation.Sequence sequence_call.Find) (Lit (value.Int (pos 5)) ∷ At 7 ∷ [])
    ∷ calls_at 3 None 3 (operation.Sequence sequence_call.Insert) (resolved_arg.NoElement ∷ At 9 ∷ []) ∷ [])

-- the operation is that of the row which the arguments fit, also where a row above has the same word
abbrev pub ResolvesByArguments : Type 0
ResolvesByArguments =
    (resolve_simple scope (call_at 1 None A (codes "splice") (Var D ∷ Var B ∷ []))
    ∷ resolve_simple scope (call_at 2 None A (codes "splice") (Var D ∷ Var B ∷ Var D ∷ []))
    ∷ resolve_simple scope (call_at 3 None A (codes "splice") (NoElement ∷ Var D ∷ []))
    ∷ resolve_simple scope (call_at 4 None A (codes "insert") (Var D ∷ Var X ∷ Var D ∷ [])) ∷ [])
    ≡ (calls_at 1 None 3 (operation.List list_call.Splice) (At 7 ∷ At 4 ∷ [])
    ∷ calls_at 2 None 3 (operation.List list_call.SpliceOne) (At 7 ∷ At 4 ∷ At 7 ∷ [])
    ∷ calls_at 3 None 3 (operation.List list_call.SpliceWithin) (resolved_arg.NoElement ∷ At 7 ∷ [])
    ∷ calls_at 4 None 3 (operation.Sequence sequence_call.InsertPos) (At 7 ∷ At 9 ∷ At 7 ∷ []) ∷ [])

-- an object has what its type is, also where the type is declared in the same block
abbrev pub ResolvesObjects : Type 0
ResolvesObjects =
    resolve_decls scope (
    TypeDecl 1 N (def true kind.List Str None false) ∷ Object 2 C N (Some 5) ∷ Object 3 V (codes "l") None ∷ CursorVar 4 (codes "p") N
    ∷ IntVar 5 (codes "i") ∷ TextVar 6 (codes "u") ∷ [])
    ≡ (made.TypeDecl ∷ made.Object 2 (def true kind.List Str None false) (Some 5) ∷ made.Object 3 (list_of Integer) None ∷ made.Cursor
    ∷ made.Integer ∷ made.Text ∷ [])

-- the statements of a script stand behind its declarations
abbrev pub ResolvesScript : Type 0
ResolvesScript =
    resolve_script (record {
      pragma = None;
      decls = TypeDecl 1 (codes "l") (list_of Str) ∷ Object 2 A (codes "l") None ∷ [];
      stmts = one (call_at 3 None A (codes "append") (text X ∷ [])) stop;
    })
    ≡ record {
      propagates = false;
      decls = made.TypeDecl ∷ made.Object 2 (list_of Str) None ∷ [];
      stmts = a_command (calls_at 3 None 1 (operation.Sequence sequence_call.Append) (Lit (value.Text X) ∷ [])) no_statement;
    }
