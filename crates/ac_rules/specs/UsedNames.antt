-- The names that a command uses, but for a call's word.
use Rattle.std.specs.Prelude.{ℕ, List, [], ◌∷◌, ◌++◌, Option, Some, None}
use Rattle.ac_syntax.specs.Code.{Simple, call_at, set_at, sum_at}
use Rattle.ac_syntax.specs.declared.arg.Arg.{Arg}
use Rattle.ac_syntax.specs.declared.arg.Arg.TheVariants.{Lit, NoElement, Var}

abbrev pub optional_name : Option (List ℕ) → List (List ℕ)
optional_name None = []
optional_name (Some name) = name ∷ []

abbrev pub arg_names : Arg → List (List ℕ)
arg_names (Lit _) = []
arg_names NoElement = []
arg_names (Var name) = name ∷ []

abbrev pub args_names : List Arg → List (List ℕ)
args_names [] = []
args_names (arg ∷ args) = arg_names arg ++ args_names args

abbrev pub simple_names : Simple → List (List ℕ)
simple_names (call_at line target object word args) = optional_name target ++ object ∷ args_names args
simple_names (set_at line target from) = target ∷ arg_names from
simple_names (sum_at line target from minus number) = target ∷ from ∷ []
