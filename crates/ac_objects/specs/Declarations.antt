-- What declarations come to.
use Rattle.std.specs.Prelude.{ℕ, nat_lt, Option, Some, if◌then◌else◌}
use Rattle.ac_base.specs.Limits.{numbers_end}
use Rattle.ac_syntax.specs.declared.type_def.TypeDef.{TypeDef}
use Rattle.ac_calls.specs.Holdings.{new_held}
use Rattle.ac_meaning.specs.Environment.{binds_object, State, with_name, Declared, declared, number_taken}

-- no number was left for the object that is declared on this line
abbrev pub spent_at : ℕ → State → Declared
spent_at line e = record { after = e; spent = Some line }

-- after the declaration of an object
abbrev pub object_declared : TypeDef → (line : ℕ) → Option ℕ → State → Declared
object_declared def line capacity e =
    if nat_lt e.next numbers_end then declared (number_taken (with_name e (binds_object (new_held def e.next capacity)))) else spent_at line e
