use Rattle.ac_rules.specs.Resolved.{sums_at}
use Rattle.ac_host.proofs.Commands.{command_ran}
use Rattle.ac_host.proofs.Standing.{ready_stand}
use Rattle.ac_host.proofs.host.Host.run_sum.Goals as goal

pub sum-done-requires : goal.sum-done-requires
sum-done-requires g c = record { stand = ready_stand c.args.self.now.objects c.requires.ready }

pub returns-clause-runs : goal.returns-clause-runs
returns-clause-runs g c =
    let sink = g.K.Sink in
    command_ran sink.held sink.faults sink.room sink.counts_failures (sums_at c.args.line c.args.target c.args.from c.args.minus c.args.number) c.args.target c.args.self.now.objects c.sum-done.new.self
    c.args.sink.now c.write_line.new.sink c.sum-done.new.frame.reply.said c.sum-done.result c.write_line.result c.sum-done.ensures.performed c.write_line.ensures.writes
    c.write_line.ensures.ended c.write_line.ensures.answered
