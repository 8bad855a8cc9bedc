use Rattle.std.proofs.Common.{refl}
use Rattle.ac_top.specs.declared.status.Status.TheVariants.{WriteFault, NoMemory}
use Rattle.ac_top.proofs.Hosted.{wrote_done, done_counted, broke_writes, broke_counted}
use Rattle.ac_top.proofs.answering.run_serially.Goals as goal

pub returns-in-Ok-clause-writes : goal.returns-in-Ok-clause-writes
returns-in-Ok-clause-writes g c = wrote_done _ g.K.Sink.faults _ g.K.Sink.counts_failures _ _ _ c.in-Ok.ensures.writes

pub returns-in-Ok-clause-counted : goal.returns-in-Ok-clause-counted
returns-in-Ok-clause-counted g c = done_counted g.K.Sink.held _ g.K.Sink.room _ _ _ _ c.in-Ok.ensures.writes

pub returns-in-Err-WriteFault-clause-writes : goal.returns-in-Err-WriteFault-clause-writes
returns-in-Err-WriteFault-clause-writes g c =
    broke_writes _ g.K.Sink.faults _ g.K.Sink.counts_failures _ _ _ _ WriteFault (λ a. a) (λ e. c.in-Err-WriteFault.field-0-is) c.in-Err-WriteFault.ensures.writes

pub returns-in-Err-WriteFault-clause-counted : goal.returns-in-Err-WriteFault-clause-counted
returns-in-Err-WriteFault-clause-counted g c =
    broke_counted g.K.Sink.held _ g.K.Sink.room _ _ _ _ _ WriteFault (λ e. c.in-Err-WriteFault.field-0-is) (λ e. refl) c.in-Err-WriteFault.ensures.writes

pub returns-in-Err-NoMemory-clause-writes : goal.returns-in-Err-NoMemory-clause-writes
returns-in-Err-NoMemory-clause-writes g c =
    broke_writes _ g.K.Sink.faults _ g.K.Sink.counts_failures _ _ _ _ NoMemory (λ a. a) (λ e. cc e) c.in-Err-NoMemory.ensures.writes

pub returns-in-Err-NoMemory-clause-counted : goal.returns-in-Err-NoMemory-clause-counted
returns-in-Err-NoMemory-clause-counted g c =
    broke_counted g.K.Sink.held _ g.K.Sink.room _ _ _ _ _ NoMemory (λ e. cc e) (λ e. cc (c.in-Err-NoMemory.field-0-is, e)) c.in-Err-NoMemory.ensures.writes
