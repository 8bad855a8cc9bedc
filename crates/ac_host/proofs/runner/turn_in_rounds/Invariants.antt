use Rattle.ac_host.proofs.Rounds.{InRounds}
use Rattle.ac_host.proofs.runner.turn_in_rounds.Given as goal

abbrev pub invariant-loop-round : goal.invariant-loop-round
invariant-loop-round l = InRounds l.initial.book l.book l._round
