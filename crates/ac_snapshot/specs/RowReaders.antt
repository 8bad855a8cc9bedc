-- Readers of an object's rows. The level of a row is its depth in a tree, and elsewhere that of a tree's topmost nodes.
use Rattle.std.specs.Prelude.{ℕ, zero, suc, ◌+◌, ◌-◌, ◌^◌, ◌==◌, ◌&&◌, codes, nat_lt, Bool, List, [], ◌∷◌, drop, Option, Some, None, if◌then◌else◌}
use Rattle.std.specs.List.{prefix_len}
use Rattle.ac_base.specs.declared.limit.TheConstants.{GREATEST_LENGTH}
use Rattle.ac_base.specs.declared.value.Value.{Value}
use Rattle.ac_syntax.specs.declared.type_def.TypeDef.{TypeDef}
use Rattle.ac_syntax.specs.Kinds.{is_map}
use Rattle.ac_rules.specs.Scopes.{element_of}
use Rattle.ac_calls.specs.declared.plains.PlainRow.{PlainRow}
use Rattle.ac_snapshot.specs.RowValidity.{is_tree}
use Rattle.ac_snapshot.specs.Outcomes.{Reader, got, stuck, gives, onward, ◌>>=◌, fork}
use Rattle.ac_snapshot.specs.ValueReaders.{after, literal}

abbrev pub plain_row : (depth : ℕ) → (key : Option Value) → Value → PlainRow
plain_row depth key v = record { depth = depth; key = key; value = v }

abbrev pub depth_at : TypeDef → (level : ℕ) → ℕ
depth_at def level = if is_tree def.kind then level else 0

abbrev pub entry_row : TypeDef → (depth : ℕ) → Reader PlainRow
entry_row def depth =
    literal def.first >>= λ key. after (codes " => ") >>= λ _. literal (element_of def) >>= λ v. gives (plain_row depth (Some key) v)

abbrev pub element_row : TypeDef → (depth : ℕ) → Reader PlainRow
element_row def depth = literal (element_of def) >>= λ v. gives (plain_row depth None v)

-- a row of an object of the type
abbrev pub row : TypeDef → (depth : ℕ) → Reader PlainRow
row def depth t = if is_map def.kind then entry_row def depth t else element_row def depth t

abbrev pub is_bracket : ℕ → Bool
is_bracket b = b == 93

-- one level deeper, where rows can be nested and none was closed
abbrev pub deeper : (nests : Bool) → (level closed : ℕ) → Reader (Option ℕ)
deeper nests level closed t =
    if nests && ((closed == 0) && nat_lt level (2 ^ 32)) then onward (after (codes " [") t) (λ _. gives (Some (level + 1))) else stuck

-- what stands behind so many brackets that close: the level of the next row, or nothing where the rows end
abbrev pub behind_brackets : (nests : Bool) → (level closed : ℕ) → Reader (Option ℕ)
behind_brackets nests level closed t =
    if closed + 1 == level then got None t
    else if nat_lt (closed + 1) level then fork (after (codes ", ")) (λ _. gives (Some (level - closed))) (deeper nests level closed) t
    else stuck

-- what stands behind a row of this level
abbrev pub behind_row : (nests : Bool) → (level : ℕ) → Reader (Option ℕ)
behind_row nests level t = behind_brackets nests level (prefix_len is_bracket t) (drop (prefix_len is_bracket t) t)

abbrev pub before_rows : (ℕ → Reader (List PlainRow)) → PlainRow → Option ℕ → Reader (List PlainRow)
before_rows more r None = gives (r ∷ [])
before_rows more r (Some level) = more level >>= λ rows. gives (r ∷ rows)

-- rows from one of this level on, at most so many, and the bracket behind them
unfoldable pub rows_by : ℕ → TypeDef → (level : ℕ) → Reader (List PlainRow)
rows_by zero def level t = stuck
rows_by (suc n) def level t = onward (row def (depth_at def level) t) (λ r. behind_row (is_tree def.kind) level >>= before_rows (rows_by n def) r)

abbrev pub listed : TypeDef → Reader (List PlainRow)
listed def = after (codes "[") >>= λ _. fork (after (codes "]")) (λ _. gives []) (rows_by GREATEST_LENGTH def 2)
