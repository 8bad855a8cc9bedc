use Rattle.ac_rules.specs.Resolved.{sets_at}
use Rattle.ac_host.proofs.Commands.{command_ran}
use Rattle.ac_host.proofs.Standing.{ready_stand}
use Rattle.ac_host.proofs.host.Host.run_set.Goals as goal

pub set-done-requires : goal.set-done-requires
set-done-requires g c = record { stand = ready_stand c.args.self.now.objects c.requires.ready }

pub returns-clause-runs : goal.returns-clause-runs
returns-clause-runs g c =
    let sink = g.K.Sink in
    command_ran sink.held sink.faults sink.room sink.counts_failures (sets_at c.args.line c.args.target c.args.from.now) c.args.target c.args.self.now.objects c.set-done.new.self
    c.args.sink.now c.write_line.new.sink c.set-done.new.frame.reply.said c.set-done.result c.write_line.result c.set-done.ensures.performed c.write_line.ensures.writes
    c.write_line.ensures.ended c.write_line.ensures.answered
