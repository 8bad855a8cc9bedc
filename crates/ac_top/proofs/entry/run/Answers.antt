use Rattle.std.proofs.Common.{refl}
use Rattle.std.proofs.lemmas.Option.{IfSome_then}
use Rattle.ac_top.specs.declared.mode.Mode.TheVariants.{Read}
use Rattle.ac_top.proofs.Answered.{untold, with_room}
use Rattle.ac_top.proofs.entry.run.Goals as goal

pub returns-in-Ok-Read-clause-written : goal.returns-in-Ok-Read-clause-written
returns-in-Ok-Read-clause-written g c answer =
    rw (c.in-Ok-Read.ensures.asked, c.in-Ok-Read.field-0-is)
    (IfSome_then (g.S.Source.left c.args.source.now) c.answer_source.ensures.answers (λ input a. (a.meaning, a.means, a.writes.whole answer, a.writes.number answer)))

pub returns-in-Ok-Read-clause-front : goal.returns-in-Ok-Read-clause-front
returns-in-Ok-Read-clause-front g c =
    rw (c.in-Ok-Read.ensures.asked, c.in-Ok-Read.field-0-is)
    (IfSome_then (g.S.Source.left c.args.source.now) c.answer_source.ensures.answers (λ input a. (a.meaning, a.means, a.writes.front)))

pub returns-in-Ok-Read-clause-complete_with_room : goal.returns-in-Ok-Read-clause-complete_with_room
returns-in-Ok-Read-clause-complete_with_room g c =
    rw (c.in-Ok-Read.ensures.asked, c.in-Ok-Read.field-0-is) (λ steady.
    IfSome_then (g.S.Source.left c.args.source.now) c.answer_source.ensures.answers (λ input a.
    with_room (Read c.in-Ok-Read.task) input (g.K.Sink.held c.args.sink.now) (g.K.Sink.held c.answer_source.new.sink) (g.K.Sink.room c.args.sink.now) c.answer_source.result c.answer_source.ensures.kind
    (c.answer_source.ensures.steady (steady refl)) a))

pub returns-in-Err-clause-front : goal.returns-in-Err-clause-front
returns-in-Err-clause-front g c = untold _ (g.S.Source.left c.args.source.now) (g.K.Sink.held c.args.sink.now)
