use Rattle.ac_script.proofs.Readings.{left_reaches}
use Rattle.ac_script.proofs.reading.leave.Goals as goal

pub returns-in-Some : goal.returns-in-Some
returns-in-Some c closing propagating next e = left_reaches propagating _ _ c.in-Some.closing closing _ next c.in-Some.ensures.items c.behind.ensures e
