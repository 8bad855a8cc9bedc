use Rattle.ac_rules.specs.Resolved.{calls_at}
use Rattle.ac_host.proofs.Commands.{command_ran}
use Rattle.ac_host.proofs.Standing.{ready_stand}
use Rattle.ac_host.proofs.host.Host.run_call.Goals as goal

pub call-done-requires : goal.call-done-requires
call-done-requires g c = record { stand = ready_stand c.args.self.now.objects c.requires.ready }

pub returns-clause-runs : goal.returns-clause-runs
returns-clause-runs g c =
    let sink = g.K.Sink in
    command_ran sink.held sink.faults sink.room sink.counts_failures (calls_at c.args.line c.args.target c.args.object c.args.operation c.args.args.now) c.args.object c.args.self.now.objects c.call-done.new.self
    c.args.sink.now c.write_line.new.sink c.call-done.new.frame.reply.said c.call-done.result c.write_line.result c.call-done.ensures.performed c.write_line.ensures.writes
    c.write_line.ensures.ended c.write_line.ensures.answered
