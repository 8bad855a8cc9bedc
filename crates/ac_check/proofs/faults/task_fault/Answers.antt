use Rattle.std.proofs.Common.{ap, sym, ◌∙◌, not}
use Rattle.std.specs.Prelude.{Some, if◌then◌else◌}
use Rattle.ac_syntax.specs.declared.refusal.RefusalKind.TheVariants.{WrongType}
use Rattle.ac_rules.specs.Scopes.{first_task}
use Rattle.ac_rules.specs.Walks.{declared_fault}
use Rattle.ac_check.proofs.TaskScopes.{suits_any}
use Rattle.ac_check.proofs.faults.task_fault.Goals as goal

pub returns : goal.returns
returns c line =
    c.declared_fault.ensures
    ∙ sym (ap (λ b. if not b then Some WrongType else declared_fault c.args.room c.args.scope.now (Some c.args.name.now) 0) (suits_any (first_task c.args.scope.now)))
