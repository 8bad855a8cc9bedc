use Rattle.std.proofs.Common.{ap, Err, refl}
use Rattle.ac_meaning.specs.Meanings.{is_sound, ran, refused_at}
use Rattle.ac_top.specs.declared.status.Status.TheVariants.{NoMemory}
use Rattle.ac_top.proofs.Answered.{refused_means, untold_of}
use Rattle.ac_top.proofs.Checked as checked
use Rattle.ac_top.proofs.answering.run_input.Goals as goal

pub returns-in-Ok : goal.returns-in-Ok
returns-in-Ok g c = record {
  meaning = ran c.in-Ok.script;
  means = is_sound c.in-Ok.script c.requires c.in-Ok.ensures.spelled c.in-Ok.ensures.checked refl;
  writes = c.run_serially.ensures.writes;
}

pub returns-in-Err-Refused : goal.returns-in-Err-Refused
returns-in-Err-Refused g c = record {
  meaning = refused_at c.in-Err-Refused.line c.in-Err-Refused.kind;
  means =
      refused_means _ c.args.input.now c.in-Err-Refused.line c.in-Err-Refused.kind c.requires
      (c.in-Err-Refused.ensures.refused c.in-Err-Refused.line c.in-Err-Refused.kind (ap Err c.in-Err-Refused.field-0-is));
  writes = c.refuse_at.ensures.writes;
}

pub returns-in-Err-NoMemory : goal.returns-in-Err-NoMemory
returns-in-Err-NoMemory g c =
    let m = checked.each_input ran c.args.input.now in
    untold_of m.0 m.1 (g.K.Sink.held c.args.sink.now) (g.K.Sink.room c.args.sink.now) NoMemory (λ a. a) (λ e. cc e)
