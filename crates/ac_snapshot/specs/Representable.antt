-- Values as memory holds them, of whatever type: an integer has 64 bits, and a text is one.
use Rattle.std.specs.Prelude.{Bool, true, ◌&&◌, Option, Some, None}
use Rattle.std.specs.List.{list_all}
use Rattle.ac_base.specs.declared.value.Value.{Value}
use Rattle.ac_base.specs.declared.value.Value.TheVariants as value
use Rattle.ac_calls.specs.declared.plains.Plain.{Plain}
use Rattle.ac_calls.specs.declared.plains.Plain.TheVariants as plain
use Rattle.ac_calls.specs.declared.plains.PlainRow.{PlainRow}
use Rattle.ac_snapshot.specs.RowValidity.{is_integer, is_text}

abbrev pub is_representable : Value → Bool
is_representable (value.Int z) = is_integer z
is_representable (value.Text bytes) = is_text bytes

abbrev pub is_key_representable : Option Value → Bool
is_key_representable None = true
is_key_representable (Some key) = is_representable key

abbrev pub is_row_representable : PlainRow → Bool
is_row_representable r = is_key_representable r.key && is_representable r.value

abbrev pub is_entry_representable : Plain → Bool
is_entry_representable (plain.Int name z) = is_integer z
is_entry_representable (plain.Str name bytes) = is_text bytes
is_entry_representable (plain.Object name def limit capacity peak rows) = list_all is_row_representable rows
