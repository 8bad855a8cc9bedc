use Rattle.std.proofs.Common.{◌≡◌, ap, ◌∙◌}
use Rattle.std.proofs.lemmas.Result.{IfOk-weaker}
use Rattle.ac_rules.specs.declared.resolved.ResolvedDecl.{ResolvedDecl}
use Rattle.ac_meaning.specs.Environment.{after_decls, first_state}
use Rattle.ac_objects.specs.World.{state_of}
use Rattle.ac_host.proofs.Scripts.{script_starts}
use Rattle.ac_host.proofs.host.Host.started.Goals as goal

pub returns-clause-declared : goal.returns-clause-declared
returns-clause-declared c =
    IfOk-weaker c.declared.result _ _ (λ objects is. is ∙ ap (λ ds. (after_decls ds first_state).after) c.decls.ensures) c.declared.ensures

pub returns-clause-start : goal.returns-clause-start
returns-clause-start c =
    IfOk-weaker c.declared.result _ _ (λ objects is. script_starts (state_of objects) c.decls.result.now is) c.declared.ensures
