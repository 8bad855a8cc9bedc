use Rattle.ac_check.proofs.Verdicts.{taken, faulty}
use Rattle.ac_check.proofs.checked.check.Goals as goal

pub returns-in_err-resolved-clause-taken : goal.returns-in_err-resolved-clause-taken
returns-in_err-resolved-clause-taken c =
    taken c.args.script c.from_residual.result c.walk_script.result c.in_err-resolved.field-0.0 c.from_residual.ensures.1 c.in_err-resolved.was
    c.walk_script.ensures.refused

pub returns-in_err-resolved-clause-faulty : goal.returns-in_err-resolved-clause-faulty
returns-in_err-resolved-clause-faulty c =
    faulty c.args.script c.from_residual.result c.walk_script.result c.in_err-resolved.field-0.0 c.from_residual.ensures.1 c.in_err-resolved.was
    c.walk_script.ensures.refused
