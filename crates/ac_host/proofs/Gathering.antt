-- Steps of tasks.
use Rattle.std.proofs.Common.{◌≡◌, ◌-◌, ℕ, pos, List, [], ◌∷◌, refl, Option}
use Rattle.ac_history.specs.declared.code.TaskArg.{TaskArg}
use Rattle.ac_history.specs.declared.code.TaskStep.TheVariants as step
use Rattle.ac_rules.specs.Resolved.{sets_at}
use Rattle.ac_syntax.specs.declared.operation.Operation.{Operation}
use Rattle.ac_syntax.specs.declared.operation.Operation.TheVariants as operation
use Rattle.ac_syntax.specs.declared.operation.QueueCall.{QueueCall}
use Rattle.ac_syntax.specs.declared.operation.QueueCall.TheVariants as queue_call
use Rattle.ac_rules.specs.declared.resolved.ResolvedArg.{ResolvedArg}
use Rattle.ac_rules.specs.declared.resolved.ResolvedArg.TheVariants.{Lit, NoElement, At}
use Rattle.ac_meaning.specs.TaskBlocks.{argument_from, first_argument, queue_step, call_step, step_of}

-- Where no place of a queue is asked for, they don't matter

pub same_argument : (places : List ℕ) (first : ℕ) (arg : ResolvedArg) → argument_from [] first arg ≡ argument_from places first arg
same_argument places first (Lit v) = refl
same_argument places first NoElement = refl
same_argument places first (At place) = refl

pub same_set : (places : List ℕ) (first line target : ℕ) (from : ResolvedArg) →
    step_of [] first (sets_at line target from) ≡ step_of places first (sets_at line target from)
same_set places first line target from = λ i. step.Set line (target - first) (same_argument places first from i) (pos 0)

pub same_first : (places : List ℕ) (first : ℕ) (args : List ResolvedArg) → first_argument [] first args ≡ first_argument places first args
same_first places first [] = refl
same_first places first (a ∷ args) = same_argument places first a

same_queue_step : (places : List ℕ) (first number queue : ℕ) (into : Option ℕ) (item : TaskArg) (c : QueueCall) →
    queue_step [] 0 number queue into item c ≡ queue_step places first number queue into item c
same_queue_step places first number queue into item queue_call.Enqueue = refl
same_queue_step places first number queue into item queue_call.Dequeue = refl
same_queue_step places first number queue into item queue_call.CurrentUse = refl
same_queue_step places first number queue into item queue_call.PeakUse = refl
same_queue_step places first number queue into item queue_call.Print = refl
same_queue_step places first number queue into item queue_call.DequeueOnlyHighPriority = refl

pub same_call : (places : List ℕ) (first number queue : ℕ) (into : Option ℕ) (item : TaskArg) (op : Operation) →
    call_step [] 0 number queue into item op ≡ call_step places first number queue into item op
same_call places first number queue into item (operation.Queue c) = same_queue_step places first number queue into item c
same_call places first number queue into item _ = refl
