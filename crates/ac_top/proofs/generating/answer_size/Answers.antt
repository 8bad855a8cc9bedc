use Rattle.std.proofs.Common.{[]}
use Rattle.ac_top.specs.declared.mode.Mode.TheVariants.{Generate}
use Rattle.ac_top.specs.declared.status.Status.TheVariants.{NoMemory}
use Rattle.ac_top.proofs.Answered.{unanswered}
use Rattle.ac_top.proofs.Summed.{summed}
use Rattle.ac_top.proofs.generating.answer_size.Goals as goal

pub returns-in-Ok-clause-answers : goal.returns-in-Ok-clause-answers
returns-in-Ok-clause-answers g c = summed c.args.size _ _ _ _ _ _ c.bytes.ensures c.in-Ok.ensures c.write_summary.ensures.writes

pub returns-in-Err-clause-answers : goal.returns-in-Err-clause-answers
returns-in-Err-clause-answers g c =
    unanswered (Generate c.args.size) [] (g.K.Sink.held c.args.sink.now) (g.K.Sink.room c.args.sink.now) NoMemory (λ a. a) (λ e. cc e)
