use Rattle.std.proofs.Common.{subst}
use Rattle.ac_host.specs.Writing.{Writes}
use Rattle.ac_host.proofs.OneLine.{shown_line}
use Rattle.ac_host.proofs.written.write_short.Goals as goal

pub returns : goal.returns
returns g c e object answered s =
    let sink = g.K.Sink in
    subst (λ t. Writes sink.held sink.faults sink.room sink.counts_failures c.args.sink.now c.write_shown.new.sink t c.write_shown.result)
    (shown_line c.args.number e object c.args.said.now answered c.requires s) c.write_shown.ensures
