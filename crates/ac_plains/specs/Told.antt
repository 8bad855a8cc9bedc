-- What is told of an object beside its rows.
use Rattle.std.specs.Prelude.{ℕ, Bool, Option, None}
use Rattle.ac_base.specs.declared.limit.Limit.{Limit}
use Rattle.ac_syntax.specs.declared.type_def.TypeDef.{TypeDef}
use Rattle.ac_calls.specs.Holdings.{Held}
use Rattle.ac_meaning.specs.AsDeclared.{limit_of}
use Rattle.ac_meaning.specs.Plains.{capacity_in, def_of, limit_number, peak_in, shown_capacity}
use Rattle.ac_plains.specs.declared.telling.Told.{Told}

-- of an object without a greatest use
abbrev pub told_by : TypeDef → Limit → (has : Bool) → (capacity : Option ℕ) → Told
told_by def limit has capacity = record { def = def; limit = limit_number limit; capacity = shown_capacity has limit capacity; peak = None }

-- of an object of any kind
abbrev pub told_of : Held → Told
told_of h = record { def = def_of h; limit = limit_number (limit_of h); capacity = capacity_in h; peak = peak_in h }
