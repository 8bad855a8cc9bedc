use Rattle.std.proofs.Common.{sym, subst}
use Rattle.ac_plains.specs.Resumed.{AreFresh, HasNoElements, HasNoMore}
use Rattle.ac_plains.proofs.ResumedStates.{declares_fresh}
use Rattle.ac_top.proofs.Restarting.{start_resumed}
use Rattle.ac_top.proofs.running.started.Goals as goal

pub resume-requires : goal.resume-requires
resume-requires c =
    let script = c.args.script.now in
    let fresh = declares_fresh script c.script-text.ensures.valid in
    let is = sym c.in-Ok.ensures.declared in
    record {
      valid = c.requires;
      elements = subst HasNoElements is fresh.no_elements;
      fresh = subst AreFresh is fresh.fresh;
      no_more = subst (HasNoMore script) is fresh.no_more;
    }

pub returns-in-Ok-resume-clause-start : goal.returns-in-Ok-resume-clause-start
returns-in-Ok-resume-clause-start c =
    start_resumed c.args.script.now _ _ c.args.state.now c.script-text.ensures.valid c.requires c.in-Ok.ensures.start c.in-Ok.ensures.declared
    c.in-Ok-resume.ensures.matched c.in-Ok-resume.ensures.resumed
