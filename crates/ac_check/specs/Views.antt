-- What the checks look up, as contracts see it.
use Rattle.std.specs.Prelude.{Option}
use Rattle.std.specs.Borrow.{Bor}
use Rattle.std.specs.Option.{option_map}
use Rattle.ac_check.specs.declared.meaning.Meaning.{Meaning as KeptMeaning}
use Rattle.ac_check.specs.declared.given.Given.{Given as KeptGiven}
use Rattle.ac_check.specs.declared.given.Given.TheVariants as kept
use Rattle.ac_check.specs.declared.given.Typed.{Typed as KeptTyped}
use Rattle.ac_check.specs.Meanings.{meaning_view}
use Rattle.ac_rules.specs.Rules.{Given, gives_value, gives_cursor, gives_no_element, gives_nothing}
use Rattle.ac_rules.specs.Scopes.{Meaning, Typed}

abbrev pub given_view : KeptGiven → Given
given_view (kept.Value elem) = gives_value elem
given_view (kept.Cursor of) = gives_cursor of.now
given_view kept.NoElement = gives_no_element
given_view kept.Nothing = gives_nothing

abbrev pub typed_view : KeptTyped → Typed
typed_view typed = record { type = typed.of.now; def = typed.def }

-- what was looked up
abbrev pub found : Option (Bor KeptMeaning) → Option Meaning
found = option_map (λ m. meaning_view m.now)
