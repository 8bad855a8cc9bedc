-- The test of a block's numbers, and what its book asks of them.
use Rattle.std.proofs.Common.{◌≡◌, ◌<◌, ◌&&◌, ℕ, nat_lt, Bool, true, false, List, [], ◌∷◌, zero, suc, map, length, get_or, refl, subst, arith, Option, Some, None}
use Rattle.std.specs.List.{All, list_all}
use Rattle.std.proofs.lemmas.Bool.Decides.{nat_tests}
use Rattle.std.proofs.lemmas.List.{length-map}
use Rattle.std.proofs.lemmas.List.Elements.{All-nil, All-cons}
use Rattle.ac_model.specs.Queues.{Discipline, by_arrival, by_priority, TaskQueue}
use Rattle.ac_history.specs.declared.code.TaskArg.{TaskArg}
use Rattle.ac_history.specs.declared.code.TaskArg.TheVariants as arg
use Rattle.ac_history.specs.declared.code.TaskCode.{TaskCode}
use Rattle.ac_history.specs.declared.code.TaskStep.{TaskStep}
use Rattle.ac_history.specs.declared.code.TaskStep.TheVariants.{Enqueue, Dequeue, High, CurrentUse, PeakUse, Set}
use Rattle.ac_history.specs.Steps.{queue_at}
use Rattle.ac_book.specs.Books.{CodeFits}
use Rattle.ac_book.specs.Running.{Fits, IsArg, IsTarget}
use Rattle.ac_meaning.specs.TaskBlocks.{is_ranked, argument_fits, target_fits, step_fits, code_fits}

both : (a b : Bool) → (a && b) ≡ true → (a ≡ true) × (b ≡ true)
both true b e = (refl, e)
both false b e = absurd (cc)

below : (a b : ℕ) → nat_lt a b ≡ true → a < b
below a b e = grind (arith, nat_tests)

is_arg : (locals : ℕ) (a : TaskArg) → argument_fits locals a ≡ true → IsArg locals a
is_arg locals (arg.Number n) e = tt
is_arg locals (arg.Local i) e = below i locals e

is_target : (locals : ℕ) (target : Option ℕ) → target_fits locals target ≡ true → IsTarget locals target
is_target locals None e = tt
is_target locals (Some i) e = below i locals e

ranked_discipline : (d : Discipline) (q : TaskQueue) → q.discipline ≡ d → is_ranked q ≡ true → q.discipline ≡ by_priority
ranked_discipline by_arrival q is e = absurd (cc (is, e))
ranked_discipline by_priority q is e = is

-- a queue that is told by priority stands there
ranked_within : (queues : List TaskQueue) (i : ℕ) → get_or (map is_ranked queues) i false ≡ true → i < length queues
ranked_within [] i e = absurd (cc)
ranked_within (q ∷ queues) zero e = omega arith
ranked_within (q ∷ queues) (suc i) e = let more = ranked_within queues i e in omega (arith, more)

ranked_there : (queues : List TaskQueue) (i : ℕ) → get_or (map is_ranked queues) i false ≡ true → (queue_at queues i).discipline ≡ by_priority
ranked_there [] i e = absurd (cc)
ranked_there (q ∷ queues) zero e = ranked_discipline q.discipline q refl e
ranked_there (q ∷ queues) (suc i) e = ranked_there queues i e

module _ (queues : List TaskQueue) where
  ranks : List Bool
  ranks = map is_ranked queues

  within : (i : ℕ) → nat_lt i (length ranks) ≡ true → i < length queues
  unfolding ranks
  within i e = subst (λ n. i < n) (length-map queues is_ranked) (below i (length (map is_ranked queues)) e)

  fits : (locals : ℕ) (step : TaskStep) → step_fits (map is_ranked queues) locals step ≡ true → Fits queues locals step
  unfolding ranks
  fits locals (Enqueue line queue item) e = let p = both _ _ e in (within queue p.0, is_arg locals item p.1)
  fits locals (Dequeue line queue into) e = let p = both _ _ e in (within queue p.0, is_target locals into p.1)
  fits locals (High line queue at_least into) e =
      let p = both _ _ e in
      let r = both _ _ p.1 in
      (ranked_within queues queue p.0, ranked_there queues queue p.0, is_arg locals at_least r.0, is_target locals into r.1)
  fits locals (CurrentUse line queue into) e = let p = both _ _ e in (within queue p.0, is_target locals into p.1)
  fits locals (PeakUse line queue into) e = let p = both _ _ e in (within queue p.0, is_target locals into p.1)
  fits locals (Set line into from add) e = let p = both _ _ e in (below into locals p.0, is_arg locals from p.1)

  all_fit : (locals : ℕ) (steps : List TaskStep) → list_all (step_fits (map is_ranked queues) locals) steps ≡ true → All (Fits queues locals) steps
  all_fit locals [] e = All-nil (Fits queues locals)
  all_fit locals (step ∷ steps) e = let p = both _ _ e in All-cons (Fits queues locals) step steps (fits locals step p.0) (all_fit locals steps p.1)

  pub code_is_fit : (code : List TaskCode) → list_all (code_fits (map is_ranked queues)) code ≡ true → All (CodeFits queues) code
  code_is_fit [] e = All-nil (CodeFits queues)
  code_is_fit (t ∷ code) e = let p = both _ _ e in All-cons (CodeFits queues) t code (all_fit t.locals t.steps p.0) (code_is_fit code p.1)
