-- How the program ends.
use Rattle.std.specs.Prelude.{◌≡◌, ◌≢◌, ◌≤◌, ℕ, Bool, true, List, length, Option, IfSome}
use Rattle.ac_io.specs.Outside.{Rose, GrewBy, GrewByFront}
use Rattle.ac_meaning.specs.Meanings.{Meaning}
use Rattle.ac_top.specs.declared.status.Status.{Status}
use Rattle.ac_top.specs.declared.status.Status.TheVariants.{Done, Refused, Usage, ReadFault, WriteFault, NoMemory}

abbrev pub number_of : Status → ℕ
number_of Done = 0
number_of Refused = 1
number_of Usage = 2
number_of ReadFault = 3
number_of WriteFault = 4
number_of NoMemory = 5

-- a refusal writes one line
abbrev pub refusal_line : List ℕ → Meaning
refusal_line line = record { text = line; status = 1 }

-- the input was answered: the script ran to its end, or was refused
abbrev pub IsAnswer : Status → Type 0
IsAnswer Done = Unit {0}
IsAnswer Refused = Unit {0}
IsAnswer Usage = ⊥
IsAnswer ReadFault = ⊥
IsAnswer WriteFault = ⊥
IsAnswer NoMemory = ⊥

-- what was written of a meaning's text, by the status with which the writing ended: all of it where the input was answered, else a front of it; and a sink that has room for it doesn't fail
pub record Writes (meaning : Meaning) (held held' : Option (List ℕ)) (room : Option ℕ) (status : Status) : Type 0 where
  pub whole : IsAnswer status → GrewBy held held' meaning.text
  pub number : IsAnswer status → number_of status ≡ meaning.status
  pub front : GrewByFront held held' meaning.text
  pub within : IfSome room (λ n. length meaning.text ≤ n → status ≢ WriteFault)

-- what an end says of the sink's count: it rose at a write fault, and where it rises in failed calls alone, no other end moves it
pub record Counted (counts_failures : Bool) (before now : ℕ) (status : Status) : Type 0 where
  pub rose : status ≡ WriteFault → Rose before now
  pub stays : counts_failures ≡ true → status ≢ WriteFault → now ≡ before
