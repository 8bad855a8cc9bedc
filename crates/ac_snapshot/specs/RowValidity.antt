-- What rows may stand in an object: each by itself, and all of them together.
use Rattle.std.specs.Prelude.{ℕ, ℤ, pos, negsuc, ◌-◌, ◌^◌, ◌==◌, ◌&&◌, ◌||◌, Bool, true, false, not, nat_le, int_le, List, [], ◌∷◌, length, map, Option, Some, None, if◌then◌else◌}
use Rattle.std.specs.List.{list_all, list_any}
use Rattle.ac_base.specs.declared.limit.TheConstants.{GREATEST_LENGTH}
use Rattle.ac_base.specs.declared.value.Value.{Value}
use Rattle.ac_base.specs.declared.value.Value.TheVariants as value
use Rattle.ac_base.specs.Limits.{is_past}
use Rattle.ac_base.specs.Text.{is_printable}
use Rattle.ac_model.specs.Holders.{is_too_large}
use Rattle.ac_model.specs.Keyed.{Order, is_in_order}
use Rattle.ac_model.specs.Maps.{order_of}
use Rattle.ac_model.specs.Outline.{follows}
use Rattle.ac_model.specs.Queues.{are_in_line_by}
use Rattle.ac_syntax.specs.declared.kind.ElemKind.{ElemKind}
use Rattle.ac_syntax.specs.declared.kind.ElemKind.TheVariants.{Integer, Str}
use Rattle.ac_syntax.specs.declared.kind.Kind.{Kind}
use Rattle.ac_syntax.specs.declared.kind.Kind.TheVariants as kinds
use Rattle.ac_syntax.specs.declared.type_def.TypeDef.{TypeDef}
use Rattle.ac_syntax.specs.Kinds.{is_map, is_holder}
use Rattle.ac_rules.specs.Scopes.{element_of}
use Rattle.ac_calls.specs.Elements.{Tools, tools_of, keyed_texts, integer_in}
use Rattle.ac_calls.specs.Holdings.{RowKind, RowOf, a_sequence, a_map, a_set, a_keyed_set, a_tree, discipline_by, limit_by}
use Rattle.ac_calls.specs.KeyedReplies.{order_by}
use Rattle.ac_calls.specs.declared.plains.PlainRow.{PlainRow}
use Rattle.ac_snapshot.specs.RowValues.{row_kind, row_values, element_in}

-- Values

-- an integer of 64 bits
abbrev pub is_integer : ℤ → Bool
is_integer z = int_le (negsuc (2 ^ 63 - 1)) z && int_le z (pos (2 ^ 63 - 1))

-- at most 1,000 printable bytes
abbrev pub is_text : List ℕ → Bool
is_text bytes = nat_le (length bytes) 1000 && list_all is_printable bytes

abbrev pub is_value_of : ElemKind → Value → Bool
is_value_of Integer (value.Int z) = is_integer z
is_value_of Integer (value.Text _) = false
is_value_of Str (value.Int _) = false
is_value_of Str (value.Text bytes) = is_text bytes

-- Each row

abbrev pub is_tree : Kind → Bool
is_tree kinds.Tree = true
is_tree _ = false

-- what stands just where it is wanted, and there passes a test
abbrev pub is_given : {A : Type 0} → (wanted : Bool) → (A → Bool) → Option A → Bool
is_given wanted test None = not wanted
is_given wanted test (Some a) = wanted && test a

-- the depth is 0 outside trees, a key stands in maps alone, and key and value are of the types that the definition names
abbrev pub is_row_of : TypeDef → PlainRow → Bool
is_row_of def r =
    (is_tree def.kind || r.depth == 0)
    && (is_given (is_map def.kind) (is_value_of def.first) r.key && is_value_of (element_of def) r.value)

-- All rows

-- no two are alike
abbrev pub all_differ : {V : Type 0} → (V → V → Bool) → List V → Bool
all_differ alike [] = true
all_differ alike (v ∷ vs) = not (list_any (alike v) vs) && all_differ alike vs

-- no two keys are equivalent, and ordered rows ascend
abbrev pub are_keyed_by : {V : Type 0} → Order V → List V → Bool
are_keyed_by order vs = all_differ order.alike vs && is_in_order order vs

-- of a map's entries by their keys, and of keyed texts by theirs; a tree's depths form an outline
abbrev pub are_rows_of : (kind : RowKind) → List (RowOf kind) → Bool
are_rows_of (a_sequence _ _) vs = true
are_rows_of (a_map which k _) vs = are_keyed_by (order_of (order_by (tools_of k) which)) vs
are_rows_of (a_set which e) vs = are_keyed_by (order_by (tools_of e) which) vs
are_rows_of (a_keyed_set which) vs = are_keyed_by (order_by keyed_texts which) vs
are_rows_of (a_tree _) vs = follows 1 (map (λ n. n.depth) vs)

-- a holder has one element at most, no larger than the limit
abbrev pub is_held : {T : Type 0} → Tools T → (limit : Option ℕ) → List T → Bool
is_held tools limit [] = true
is_held tools limit (v ∷ []) = not (is_too_large tools.size (limit_by limit) (Some v))
is_held tools limit (_ ∷ _ ∷ _) = false

-- other objects have no more rows than the limit
abbrev pub are_within : TypeDef → (limit : Option ℕ) → List PlainRow → Bool
are_within def limit rows =
    if is_holder def.kind then is_held (tools_of def.first) limit (map (element_in (tools_of def.first)) rows)
    else not (is_past (limit_by limit) (length rows))

-- no item of a priority queue is of a higher priority than the one before it
abbrev pub are_lined_up : TypeDef → List PlainRow → Bool
are_lined_up def rows = are_in_line_by (discipline_by def.kind) (map (λ r. integer_in r.value) rows)

-- the rows of an object of the type with this limit
abbrev pub are_valid_rows : TypeDef → (limit : Option ℕ) → List PlainRow → Bool
are_valid_rows def limit rows =
    list_all (is_row_of def) rows
    && (nat_le (length rows) GREATEST_LENGTH
    && (are_within def limit rows
    && (are_rows_of (row_kind def) (row_values (row_kind def) rows)
    && are_lined_up def rows)))
