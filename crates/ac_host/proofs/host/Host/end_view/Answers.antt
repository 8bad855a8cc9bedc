use Rattle.std.proofs.Common.{ap, subst, ◌∙◌, Err}
use Rattle.ac_objects.specs.ViewHeads.{BlockEnds}
use Rattle.ac_objects.specs.World.{state_of}
use Rattle.ac_host.proofs.Updating.{ended_silent, ended_line}
use Rattle.ac_host.proofs.Viewing.{block_can_end}
use Rattle.ac_host.proofs.host.Host.end_view.Goals as goal

pub leave_view-requires : goal.leave_view-requires
leave_view-requires g c =
    let k = c.requires.viewing in record { inner = k.inner; guard = k.guard; update = block_can_end c.args.self.now.objects c.args.key k }

pub returns-in-Ok-clause-runs : goal.returns-in-Ok-clause-runs
returns-in-Ok-clause-runs g c guards e u =
    let sink = g.K.Sink in
    let old = c.args.self.now.objects in
    let now = c.leave_view.new.self in
    let ends = subst (BlockEnds c.args.key (state_of old) (state_of now)) c.in-Ok.is c.leave_view.ensures.ended in
    ended_silent sink.held sink.faults sink.room sink.counts_failures c.args.sink.now old now c.args.line c.args.key guards e ends u

pub returns-in-Err-Raised-clause-runs : goal.returns-in-Err-Raised-clause-runs
returns-in-Err-Raised-clause-runs g c guards e u =
    let sink = g.K.Sink in
    let old = c.args.self.now.objects in
    let now = c.leave_view.new.self in
    let ends = subst (BlockEnds c.args.key (state_of old) (state_of now)) (c.in-Err-Raised.is ∙ ap Err c.in-Err-Raised.field-0-is) c.leave_view.ensures.ended in
    ended_line sink.held sink.faults sink.room sink.counts_failures c.args.sink.now c.write_refusal.new.sink old now c.args.line c.args.key guards e
    c.in-Err-Raised.reason c.write_refusal.result ends u c.write_refusal.ensures.writes c.write_refusal.ensures.ended
