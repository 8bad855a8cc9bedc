-- The outermost variables and objects, as a question finds them by name.
use Rattle.std.specs.Prelude.{ℕ, pos, List, [], map, find, Option, Some, None, unwrap_or, option_and_then}
use Rattle.std.specs.Str.{bytes_eq}
use Rattle.ac_base.specs.declared.value.Value.{Value}
use Rattle.ac_base.specs.declared.value.Value.TheVariants as value
use Rattle.ac_calls.specs.Plains.{name_of, variable_of, rows_of}
use Rattle.ac_calls.specs.declared.plains.Plain.{Plain}
use Rattle.ac_calls.specs.declared.plains.PlainRow.{PlainRow}

-- what stands where no value does
abbrev pub blank : Value
blank = value.Int (pos 0)

abbrev pub plain_named : List Plain → List ℕ → Option Plain
plain_named ps name = find (λ p. bytes_eq (name_of p) name) ps

abbrev pub variable : List Plain → List ℕ → Value
variable ps name = unwrap_or (option_and_then variable_of (plain_named ps name)) blank

abbrev pub rows_where : Option Plain → List PlainRow
rows_where None = []
rows_where (Some p) = rows_of p

-- the elements of an object, in the order of its rows
abbrev pub elements : List Plain → List ℕ → List Value
elements ps name = map (λ (r : PlainRow). r.value) (rows_where (plain_named ps name))
