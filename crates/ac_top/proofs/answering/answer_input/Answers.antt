use Rattle.std.proofs.Common.{ap, subst, Err, refl, ◌≡◌, ◌⊎◌, inl, inr}
use Rattle.ac_meaning.specs.Meanings.{is_sound}
use Rattle.ac_top.specs.declared.status.Status.TheVariants.{NoMemory}
use Rattle.ac_top.specs.declared.mode.Mode.TheVariants.{Read}
use Rattle.ac_top.specs.Inputs.{IsStartOf, fault_meaning}
use Rattle.ac_top.specs.Modes.{is_on, meant_by, word_of}
use Rattle.ac_top.proofs.Answered.{faulty_meant, unanswered}
use Rattle.ac_top.proofs.Becoming.{becomes_of}
use Rattle.ac_top.proofs.Beginning.{begins_of}
use Rattle.ac_top.proofs.answering.answer_input.Goals as goal

pub returns-in-Ok-clause-answers : goal.returns-in-Ok-clause-answers
returns-in-Ok-clause-answers g c =
    let task = c.args.task.now in
    let says = c.answer_start.ensures.writes in
    let start = c.in-Ok.start in
    let read =
    subst (λ b. IsStartOf b c.args.input.items start.script start.state) c.resumes.ensures
    (subst (λ text. IsStartOf c.resumes.result text start.script start.state) c.deref.ensures.value c.in-Ok.ensures.read) in
    record {
      meaning = meant_by says.orders task says.asking says.beginning start.state start.script;
      means =
          is_on start.state read.text c.requires read.split
          (record {
            orders = says.orders;
            asking = says.asking;
            becomes = becomes_of (word_of task) read.text start.script says.asking read.start.spelled says.becomes;
            beginning = says.beginning;
            begins = begins_of start.state read.text start.script says.beginning read.start.spelled says.begins;
            means = is_sound start.script read.start.short read.start.spelled read.start.checked refl;
          });
      writes = says.writes;
    }

pub returns-in-NoMemory-clause-answers : goal.returns-in-NoMemory-clause-answers
returns-in-NoMemory-clause-answers g c =
    unanswered (Read c.args.task.now) c.args.input.items (g.K.Sink.held c.args.sink.now) (g.K.Sink.room c.args.sink.now) NoMemory (λ a. a) (λ e. cc e)

pub returns-in_default-clause-answers : goal.returns-in_default-clause-answers
returns-in_default-clause-answers g c = record {
  meaning = fault_meaning c.in-Err.fault;
  means =
      faulty_meant c.args.task.now c.args.input.items c.resumes.result c.deref.result.now c.in-Err.fault c.requires c.resumes.ensures c.deref.ensures.value
      c.in_default.not-NoMemory c.in-Err.ensures.refused;
  writes = c.refuse_input.ensures.writes;
}
