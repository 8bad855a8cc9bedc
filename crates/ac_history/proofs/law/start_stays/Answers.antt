use Rattle.std.proofs.Common.{refl}
use Rattle.ac_history.proofs.Starts.{turns_keep_start}
use Rattle.ac_history.proofs.law.start_stays.Goals as goal

pub returns-clause-any_entries : goal.returns-clause-any_entries
returns-clause-any_entries c = λ b more. record { queues = refl; code = refl }

pub returns-clause-any_turns : goal.returns-clause-any_turns
returns-clause-any_turns c = λ b tasks. turns_keep_start tasks b
