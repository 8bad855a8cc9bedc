-- The outermost variables and objects as plain values: what each has.
use Rattle.std.specs.Prelude.{ℕ, List, [], Option, Some, None}
use Rattle.ac_base.specs.declared.value.Value.{Value}
use Rattle.ac_base.specs.declared.value.Value.TheVariants as value
use Rattle.ac_calls.specs.declared.plains.Plain.{Plain}
use Rattle.ac_calls.specs.declared.plains.Plain.TheVariants as plain
use Rattle.ac_calls.specs.declared.plains.PlainRow.{PlainRow}

abbrev pub name_of : Plain → List ℕ
name_of (plain.Int name z) = name
name_of (plain.Str name bytes) = name
name_of (plain.Object name def limit capacity peak rows) = name

-- the value of a variable
abbrev pub variable_of : Plain → Option Value
variable_of (plain.Int name z) = Some (value.Int z)
variable_of (plain.Str name bytes) = Some (value.Text bytes)
variable_of (plain.Object name def limit capacity peak rows) = None

-- the rows of an object
abbrev pub rows_of : Plain → List PlainRow
rows_of (plain.Int name z) = []
rows_of (plain.Str name bytes) = []
rows_of (plain.Object name def limit capacity peak rows) = rows
