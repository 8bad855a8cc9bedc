-- How a command of the code is the meaning's.
use Rattle.std.specs.Prelude.{◌≡◌, ⊤, ℕ, Result, Ok, Err}
use Rattle.ac_base.specs.declared.fault.Fault.{Fault}
use Rattle.ac_base.specs.declared.fault.Fault.TheVariants as fault
use Rattle.ac_model.specs.Calls.{Done}
use Rattle.ac_calls.specs.Answers.{answers_raised}
use Rattle.ac_meaning.specs.Commands.{Performed}
use Rattle.ac_calls.specs.declared.reply.Said.{Said}
use Rattle.ac_objects.specs.Shown.{Shows}
use Rattle.ac_objects.specs.World.{World, state_of}

-- what a command says, where it was made, or why it wasn't
abbrev pub answered : Said → Result Done Fault → Result Said Fault
answered said (Ok done) = Ok said
answered said (Err f) = Err f

-- what the command comes to; refused, it changes nothing; out of memory, it is of no script's text. What a call answers can be refused by
-- what it is assigned to: then too all that names hold is what it was
abbrev pub Performs : Performed → (object : ℕ) → (old new : World) → Result Said Fault → Type 0
Performs p object old new (Ok said) = (state_of new ≡ p.after) × Shows p.after object said p.answer
Performs p object old new (Err (fault.Raised reason)) = (p.answer ≡ answers_raised reason) × (state_of new ≡ p.after) × (state_of new ≡ state_of old)
Performs p object old new (Err fault.NoMemory) = ⊤

-- where it was refused, all is left as it was, in memory too
abbrev pub Untouched : (old new : World) → Result Done Fault → Type 0
Untouched old new (Ok done) = ⊤
Untouched old new (Err (fault.Raised reason)) = new ≡ old
Untouched old new (Err fault.NoMemory) = ⊤
