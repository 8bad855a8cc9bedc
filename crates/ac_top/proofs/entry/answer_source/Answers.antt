use Rattle.std.proofs.Common.{◌<◌, ap, Err, length, subst}
use Rattle.std.proofs.lemmas.Option.{IfSome_then}
use Rattle.ac_top.specs.declared.status.Status.TheVariants.{ReadFault, NoMemory}
use Rattle.ac_top.specs.declared.mode.Mode.TheVariants.{Read}
use Rattle.ac_top.proofs.Answered.{if_some_of, long_means, unanswered}
use Rattle.ac_top.proofs.entry.answer_source.Goals as goal

pub returns-in-Ok-clause-drained : goal.returns-in-Ok-clause-drained
returns-in-Ok-clause-drained g c answer =
    IfSome_then (g.S.Source.left c.args.source.now) c.in-Ok.ensures.all (λ input came short. came.1)

pub returns-in-Err-TooLong-clause-answers : goal.returns-in-Err-TooLong-clause-answers
returns-in-Err-TooLong-clause-answers g c =
    IfSome_then (g.S.Source.left c.args.source.now) (c.in-Err-TooLong.ensures.too_long (ap Err c.in-Err-TooLong.field-0-is)) (λ input long.
    record { meaning = _; means = long_means c.args.task.now input (subst (λ n. n < length input) c.limit.ensures long); writes = c.refuse.ensures.writes })

pub returns-in-Err-ReadFault-clause-answers : goal.returns-in-Err-ReadFault-clause-answers
returns-in-Err-ReadFault-clause-answers g c =
    if_some_of (g.S.Source.left c.args.source.now) (λ input. unanswered (Read c.args.task.now) input (g.K.Sink.held c.args.sink.now) (g.K.Sink.room c.args.sink.now) ReadFault (λ a. a) (λ e. cc e))

pub returns-in-Err-NoMemory-clause-answers : goal.returns-in-Err-NoMemory-clause-answers
returns-in-Err-NoMemory-clause-answers g c =
    if_some_of (g.S.Source.left c.args.source.now) (λ input. unanswered (Read c.args.task.now) input (g.K.Sink.held c.args.sink.now) (g.K.Sink.room c.args.sink.now) NoMemory (λ a. a) (λ e. cc e))
