-- Items whose literals are values.
use Rattle.std.specs.Prelude.{◌≤ℤ◌, ◌<ℤ◌, ℤ, pos, neg_ℤ, ◌^◌, List, [], ◌∷◌}
use Rattle.ac_base.specs.Text.{IsText}
use Rattle.ac_base.specs.declared.value.Value.TheVariants as value
use Rattle.ac_syntax.specs.Code.{Simple, call_at, set_at, sum_at}
use Rattle.ac_syntax.specs.Items.{Item, declares, commands, opens, begins, closes, propagates, tries, catches}
use Rattle.ac_syntax.specs.declared.arg.Arg.{Arg}
use Rattle.ac_syntax.specs.declared.arg.Arg.TheVariants.{Lit, NoElement, Var}

-- an integer of 64 bits
abbrev pub IsInteger : ℤ → Type 0
IsInteger z = (neg_ℤ (pos (2 ^ 63)) ≤ℤ z) × (z <ℤ pos (2 ^ 63))

abbrev pub FitsArg : Arg → Type 0
FitsArg (Lit (value.Int z)) = IsInteger z
FitsArg (Lit (value.Text bytes)) = IsText bytes
FitsArg NoElement = Unit {0}
FitsArg (Var name) = Unit {0}

abbrev pub FitArgs : List Arg → Type 0
FitArgs [] = Unit {0}
FitArgs (arg ∷ args) = FitsArg arg × FitArgs args

abbrev pub FitsSimple : Simple → Type 0
FitsSimple (call_at line target object operation args) = FitArgs args
FitsSimple (set_at line target from) = FitsArg from
FitsSimple (sum_at line target from minus number) = Unit {0}

abbrev pub Fits : Item → Type 0
Fits (declares decl) = Unit {0}
Fits (commands simple) = FitsSimple simple
Fits (opens head) = Unit {0}
Fits begins = Unit {0}
Fits (closes closing) = Unit {0}
Fits (propagates line) = Unit {0}
Fits (tries line) = Unit {0}
Fits (catches line exception) = Unit {0}
