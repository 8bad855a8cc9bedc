use Rattle.std.proofs.Common.{◌<◌, ◌≤◌, subst}
use Rattle.ac_host.proofs.Rounds.{no_round, one_round, all_rounds}
use Rattle.ac_host.proofs.runner.turn_in_rounds.Goals as goal

pub loop-round-init : goal.loop-round-init
loop-round-init c = no_round c.args.book.now

pub loop-round-preserved : goal.loop-round-preserved
loop-round-preserved c =
    one_round c.args.book.now c.loop-round.book c.turn_each.new.book c.loop-round._round c.loop-round.invariant
    (subst (λ n. c.loop-round._round < n) c.commands-round-end.ensures c.loop-round-test.true) c.turn_each.ensures

pub returns : goal.returns
returns c =
    all_rounds c.args.book.now c.loop-round.book c.loop-round._round c.loop-round.invariant
    (subst (λ n. n ≤ c.loop-round._round) c.commands-round-end.ensures c.loop-round-test.false)
