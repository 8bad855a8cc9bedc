use Rattle.ac_host.proofs.OneLine.{leaves_nothing}
use Rattle.ac_host.proofs.written.write_refusal.Goals as goal

pub returns-in_err-reason_line-clause-writes : goal.returns-in_err-reason_line-clause-writes
returns-in_err-reason_line-clause-writes g c =
    let sink = g.K.Sink in
    leaves_nothing sink.held sink.faults sink.room sink.counts_failures c.from_residual.result c.args.sink.now _ c.from_residual.ensures.1
