-- What reading a question comes to.
use Rattle.std.specs.Prelude.{◌≡◌, ◌⊎◌, ℕ, List, Option, Some, None, Result, Ok, Err}
use Rattle.ac_syntax.specs.declared.refusal.RefusalKind.{RefusalKind}
use Rattle.ac_syntax.specs.declared.refusal.RefusalKind.TheVariants.{Syntax}
use Rattle.ac_syntax.specs.declared.token.Token.{Token}
use Rattle.ac_rules.specs.Scopes.{Scope}
use Rattle.ac_aggregate.specs.declared.fault.AskFault.{AskFault}
use Rattle.ac_aggregate.specs.declared.fault.AskFault.TheVariants.{Refused, NoMemory}
use Rattle.ac_aggregate.specs.declared.question.Question.{Question}
use Rattle.ac_aggregate.specs.Asked.{Asked}
use Rattle.ac_aggregate.specs.Refusals.{IsRefused, IsTaken}
use Rattle.ac_aggregate.specs.Views.{asked_in}

-- what a question in memory asks
abbrev pub asked_by : Question → Asked
asked_by q = asked_in q.part

-- the text is this question, or is refused for this, unless memory ran out
abbrev pub IsAnswer : Scope → (word : List ℕ) → Result Question AskFault → Type 0
IsAnswer scope word (Ok q) = IsTaken scope word (asked_by q)
IsAnswer scope word (Err (Refused kind)) = IsRefused scope word kind
IsAnswer scope word (Err NoMemory) = Unit {0}

-- the result is this question, unless memory ran out
abbrev pub Takes : Result Question AskFault → Asked → Type 0
Takes result q = ((made : Question) × (result ≡ Ok made) × (asked_by made ≡ q)) ⊎ (result ≡ Err NoMemory)

abbrev pub Refuses : Result Question AskFault → RefusalKind → Type 0
Refuses result kind = (result ≡ Err (Refused kind)) ⊎ (result ≡ Err NoMemory)
