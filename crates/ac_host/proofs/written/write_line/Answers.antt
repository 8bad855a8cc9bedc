use Rattle.std.proofs.Common.{◌∷◌, []}
use Rattle.ac_calls.specs.Answers.{line, lines_text}
use Rattle.ac_host.proofs.Commands.{made_shown, made_end, refused_end}
use Rattle.ac_host.proofs.Scripts.{writes_broke}
use Rattle.ac_host.proofs.written.write_line.Goals as goal

pub returns-in_ok-write_answer-in-Ok-clause-ended : goal.returns-in_ok-write_answer-in-Ok-clause-ended
returns-in_ok-write_answer-in-Ok-clause-ended g c p old performs =
    made_end p c.args.object old c.args.objects.now c.args.said.now c.args.done performs _ c.in-Ok.is

pub returns-in_err-write_answer-in-Ok-clause-writes : goal.returns-in_err-write_answer-in-Ok-clause-writes
returns-in_err-write_answer-in-Ok-clause-writes g c p old performs =
    let sink = g.K.Sink in
    let made = made_shown p c.args.object old c.args.objects.now c.args.said.now c.args.done performs _ c.in-Ok.is in
    writes_broke sink.held sink.faults sink.room sink.counts_failures c.args.sink.now c.write_answer.new.sink (lines_text (line c.args.number p.answer ∷ []))
    c.in_err-write_answer-in-Ok.field-0.0 c.from_residual.result c.from_residual.ensures.1 (c.in_err-write_answer-in-Ok.ensures p.after p.answer made.0 made.1)

pub returns-in-Err-Raised-clause-ended : goal.returns-in-Err-Raised-clause-ended
returns-in-Err-Raised-clause-ended g c p old performs =
    let here = c.in-Err-Raised in
    refused_end p c.args.object old c.args.objects.now c.args.said.now c.args.done performs here.field-0 here.reason c.write_refusal.result here.is (rw here.is at here.field-0-is)
    c.write_refusal.ensures.ended
