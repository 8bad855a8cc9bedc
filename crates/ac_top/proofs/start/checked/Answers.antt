use Rattle.std.proofs.Common.{inr}
use Rattle.ac_top.proofs.start.checked.Goals as goal

pub returns-clause-refused : goal.returns-clause-refused
returns-clause-refused c line kind e =
    let parsed = c.in_ok-script in
    inr (record { script = parsed.script; spelled = parsed.ensures.found; first = c.check.ensures.refused line kind e })
