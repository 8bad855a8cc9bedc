-- Arguments as contracts see them.
use Rattle.std.specs.Prelude.{ℕ, ℤ, pos, neg_ℤ, Bool, if◌then◌else◌}
use Rattle.ac_base.specs.declared.value.Value.TheVariants as value
use Rattle.ac_syntax.specs.declared.arg.Arg.{Arg}
use Rattle.ac_syntax.specs.declared.arg.Arg.TheVariants as arg
use Rattle.ac_script.specs.declared.argument.Argument.{Argument}
use Rattle.ac_script.specs.declared.argument.Argument.TheVariants.{Integer, Text, NoElement, Var}

-- the integer with this magnitude
abbrev pub integer_of : (minus : Bool) → ℕ → ℤ
integer_of minus magnitude = if minus then neg_ℤ (pos magnitude) else pos magnitude

abbrev pub argument_view : Argument → Arg
argument_view (Integer minus magnitude) = arg.Lit (value.Int (integer_of minus magnitude))
argument_view (Text bytes) = arg.Lit (value.Text bytes)
argument_view NoElement = arg.NoElement
argument_view (Var name) = arg.Var name
