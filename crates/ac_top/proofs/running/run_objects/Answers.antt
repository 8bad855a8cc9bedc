use Rattle.std.proofs.Common.{ℕ, List, refl, subst}
use Rattle.ac_syntax.specs.declared.decl.Decl.{Decl}
use Rattle.ac_syntax.specs.declared.script.Script.{Script}
use Rattle.ac_meaning.specs.Environment.{State}
use Rattle.ac_meaning.specs.Meanings.{Meaning, written}
use Rattle.ac_objects.specs.World.{state_of}
use Rattle.ac_top.specs.Asks.{asking_of}
use Rattle.ac_top.specs.Modes.{lines_behind}
use Rattle.ac_top.specs.Status.{Writes}
use Rattle.ac_top.specs.declared.status.Status.TheVariants.{WriteFault, NoMemory}
use Rattle.ac_top.proofs.Hosted.{wrote_more, broke_before, broke_counted}
use Rattle.ac_top.proofs.running.run_objects.Goals as goal

pub returns-in-Ok-clause-writes : goal.returns-in-Ok-clause-writes
returns-in-Ok-clause-writes g c =
    let sink = g.K.Sink in
    let ran = c.in-Ok.ensures in
    let ends = c.args.ends.now in
    let text : List Decl → State → List ℕ = lines_behind ends.audit (asking_of ends.question) ends.save in
    let wrote : Meaning → Type 0 = λ m. Writes m (sink.held c.run_on.new.sink) (sink.held c.write_behind-status.new.sink) (sink.room c.run_on.new.sink) c.write_behind-status.result in
    let script = c.args.script.now in (
      ran.0,
      wrote_more _ sink.faults _ sink.counts_failures _ _ _ _ _ _ ran.1
          (subst (λ e. wrote (written (text script.decls e))) ran.2
          (subst (λ (s : Script). wrote (written (text s.decls (state_of c.in-Ok.left)))) c.script.ensures.value c.write_behind-status.ensures.writes)),
    )

pub returns-in-Err-WriteFault-clause-writes : goal.returns-in-Err-WriteFault-clause-writes
returns-in-Err-WriteFault-clause-writes g c =
    let ran = c.in-Err-WriteFault.ensures in
    (ran.0, broke_before _ g.K.Sink.faults _ g.K.Sink.counts_failures _ _ _ _ _ WriteFault (λ a. a) (λ e. c.in-Err-WriteFault.field-0-is) ran.1)

pub returns-in-Err-WriteFault-clause-counted : goal.returns-in-Err-WriteFault-clause-counted
returns-in-Err-WriteFault-clause-counted g c =
    broke_counted g.K.Sink.held _ g.K.Sink.room _ _ _ _ _ WriteFault (λ e. c.in-Err-WriteFault.field-0-is) (λ e. refl) c.in-Err-WriteFault.ensures.1

pub returns-in-Err-NoMemory-clause-writes : goal.returns-in-Err-NoMemory-clause-writes
returns-in-Err-NoMemory-clause-writes g c =
    let ran = c.in-Err-NoMemory.ensures in
    (ran.0, broke_before _ g.K.Sink.faults _ g.K.Sink.counts_failures _ _ _ _ _ NoMemory (λ a. a) (λ e. cc e) ran.1)

pub returns-in-Err-NoMemory-clause-counted : goal.returns-in-Err-NoMemory-clause-counted
returns-in-Err-NoMemory-clause-counted g c =
    broke_counted g.K.Sink.held _ g.K.Sink.room _ _ _ _ _ NoMemory (λ e. cc e) (λ e. cc (c.in-Err-NoMemory.field-0-is, e)) c.in-Err-NoMemory.ensures.1
