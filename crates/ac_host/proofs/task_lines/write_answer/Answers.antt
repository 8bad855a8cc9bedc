use Rattle.ac_host.proofs.OneLine.{leaves_nothing}
use Rattle.ac_host.proofs.task_lines.write_answer.Goals as goal

pub returns-in_err-step_line : goal.returns-in_err-step_line
returns-in_err-step_line g c = leaves_nothing _ _ _ _ c.from_residual.result _ _ c.from_residual.ensures.1
