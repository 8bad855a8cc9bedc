-- What the guards that are held on an object forbid (A.18.2(90/5) to A.18.2(97.1/5)).
use Rattle.std.specs.Prelude.{ℕ, Option, Some, None, nat_lt, if◌then◌else◌}
use Rattle.ac_base.specs.declared.reason.Reason.{Reason}
use Rattle.ac_base.specs.declared.reason.Reason.TheVariants.{CursorTampering, ElementTampering}
use Rattle.ac_base.specs.declared.guard.Class.{Class}
use Rattle.ac_base.specs.declared.guard.Class.TheVariants as class

-- why a call of the class is refused, while so many cursor guards and so many element guards are held
abbrev pub forbids : Class → ℕ → ℕ → Option Reason
forbids class.Cursors cursor_guards element_guards =
    if nat_lt 0 cursor_guards then Some CursorTampering
    else if nat_lt 0 element_guards then Some ElementTampering
    else None
forbids class.Elements cursor_guards element_guards =
    if nat_lt 0 element_guards then Some ElementTampering else None
