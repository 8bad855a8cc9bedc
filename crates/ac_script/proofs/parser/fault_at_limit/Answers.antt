use Rattle.ac_script.proofs.Refusals.{bad_before_past, past_first, whole_begins}
use Rattle.ac_script.proofs.parser.fault_at_limit.Goals as goal

pub returns-in-Ok-Bad : goal.returns-in-Ok-Bad
returns-in-Ok-Bad c text past = rw (c.refused.ensures, c.in-Ok-Bad.earlier-is) (bad_before_past text c.args.front.now c.args.line c.in-Ok-Bad.earlier past (rw c.in-Ok-Bad.field-0-is at c.in-Ok-Bad.ensures))

pub returns-in-Ok-Early : goal.returns-in-Ok-Early
returns-in-Ok-Early c text past =
    let early = rw c.in-Ok-Early.field-0-is at c.in-Ok-Early.ensures in
    rw c.refused-in-Ok-Early.ensures (past_first text c.args.front.now c.args.line past early.begins)

pub returns-in-Ok-Whole : goal.returns-in-Ok-Whole
returns-in-Ok-Whole c text past =
    let whole = rw c.in-Ok-Whole.field-0-is at c.in-Ok-Whole.ensures in
    rw c.refused-in-Ok-Whole.ensures (past_first text c.args.front.now c.args.line past (whole_begins _ c.args.front.now whole))
