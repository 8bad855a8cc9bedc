-- Which lists of plain values are states: what the outermost variables and objects of a script may hold.
use Rattle.std.specs.Prelude.{ℕ, ◌*◌, ◌^◌, ◌==◌, ◌&&◌, ◌||◌, Bool, not, nat_le, List, [], ◌∷◌, ◌++◌, length, map, Option, unwrap_or}
use Rattle.std.specs.List.{list_all, list_any, range_with_len, sum_by}
use Rattle.std.specs.Str.{bytes_eq}
use Rattle.ac_base.specs.declared.limit.TheConstants.{GREATEST_LENGTH}
use Rattle.ac_syntax.specs.declared.type_def.TypeDef.{TypeDef}
use Rattle.ac_syntax.specs.Canonical.{is_lower_word}
use Rattle.ac_syntax.specs.Grammar.{is_reserved}
use Rattle.ac_syntax.specs.Kinds.{is_queue, has_capacity}
use Rattle.ac_rules.specs.declared.limits.TheConstants.{MOST_ROOM}
use Rattle.ac_rules.specs.Rules.{is_type}
use Rattle.ac_calls.specs.Plains.{name_of}
use Rattle.ac_calls.specs.declared.plains.Plain.{Plain}
use Rattle.ac_calls.specs.declared.plains.Plain.TheVariants as plain
use Rattle.ac_calls.specs.declared.plains.PlainRow.{PlainRow}
use Rattle.ac_snapshot.specs.RowValidity.{is_integer, is_text, is_given, all_differ, are_valid_rows}

-- An entry

-- an identifier in lower case of at most 64 bytes
abbrev pub is_name : List ℕ → Bool
is_name name = is_lower_word name && (nat_le (length name) 64 && not (is_reserved name))

-- a limit stands just where the type is bounded
abbrev pub is_limit_of : TypeDef → Option ℕ → Bool
is_limit_of def limit = is_given def.bounded (λ most. nat_le most GREATEST_LENGTH) limit

-- 0, or 8 * 2 ^ k up to the greatest Capacity, which is 8 * 2 ^ 17
abbrev pub is_step : ℕ → Bool
is_step c = (c == 0) || list_any (λ k. c == 8 * 2 ^ k) (range_with_len 0 18)

-- a Capacity stands just where an object that isn't bounded has one, and is no less than its length
abbrev pub is_capacity_of : TypeDef → List PlainRow → Option ℕ → Bool
is_capacity_of def rows capacity =
    is_given (not def.bounded && has_capacity def.kind) (λ c. is_step c && nat_le (length rows) c) capacity

-- a peak stands just in queues, between their length and their limit, or the greatest length where there is no limit
abbrev pub is_peak_of : TypeDef → (limit : Option ℕ) → List PlainRow → Option ℕ → Bool
is_peak_of def limit rows peak =
    is_given (is_queue def.kind) (λ p. nat_le (length rows) p && nat_le p (unwrap_or limit GREATEST_LENGTH)) peak

abbrev pub is_valid_object : TypeDef → (limit capacity peak : Option ℕ) → List PlainRow → Bool
is_valid_object def limit capacity peak rows =
    is_type def
    && (is_limit_of def limit
    && (is_capacity_of def rows capacity
    && (is_peak_of def limit rows peak
    && are_valid_rows def limit rows)))

abbrev pub is_valid_content : Plain → Bool
is_valid_content (plain.Int name z) = is_integer z
is_valid_content (plain.Str name bytes) = is_text bytes
is_valid_content (plain.Object name def limit capacity peak rows) = is_valid_object def limit capacity peak rows

abbrev pub is_valid_entry : Plain → Bool
is_valid_entry e = is_name (name_of e) && is_valid_content e

-- A state

abbrev pub names_differ : List Plain → Bool
names_differ s = all_differ bytes_eq (map name_of s)

-- the room that an object has by its limit
abbrev pub room_in : Plain → ℕ
room_in (plain.Int name z) = 0
room_in (plain.Str name bytes) = 0
room_in (plain.Object name def limit capacity peak rows) = unwrap_or limit 0

-- and all of them together
abbrev pub has_room : List Plain → Bool
has_room s = nat_le (sum_by room_in s) MOST_ROOM

abbrev pub is_valid : List Plain → Bool
is_valid s = list_all is_valid_entry s && (names_differ s && has_room s)

-- an entry is valid with those of a state before it
abbrev pub is_valid_behind : List Plain → Plain → Bool
is_valid_behind before e = is_valid (before ++ e ∷ [])
