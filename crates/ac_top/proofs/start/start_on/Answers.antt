use Rattle.std.proofs.Common.{ap, Err, inl, inr, arith, refl}
use Rattle.ac_top.proofs.start.start_on.Goals as goal

pub returns-then-text-gt-INPUT_LIMIT-clause-refused : goal.returns-then-text-gt-INPUT_LIMIT-clause-refused
returns-then-text-gt-INPUT_LIMIT-clause-refused c = inr (omega arith)

pub returns-in-Ok-clause-read : goal.returns-in-Ok-clause-read
returns-in-Ok-clause-read c = record {
  state_is = refl;
  valid = c.requires;
  short = omega arith;
  spelled = c.in-Ok.ensures.spelled;
  checked = c.in-Ok.ensures.checked;
}

pub returns-in-Err-Refused-clause-refused : goal.returns-in-Err-Refused-clause-refused
returns-in-Err-Refused-clause-refused c =
    inr (omega arith, c.in-Err-Refused.ensures.refused c.in-Err-Refused.line c.in-Err-Refused.kind (ap Err c.in-Err-Refused.field-0-is))
