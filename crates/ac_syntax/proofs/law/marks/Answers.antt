use Rattle.std.specs.Fmt.{digits}
use Rattle.std.proofs.Common.{refl}
use Rattle.ac_syntax.proofs.law.marks.Goals as goal

pub returns-clause-brackets : goal.returns-clause-brackets
unfolding digits
returns-clause-brackets c = refl

pub returns-clause-slash : goal.returns-clause-slash
returns-clause-slash c = (refl, refl, refl)

pub returns-clause-other_bytes : goal.returns-clause-other_bytes
returns-clause-other_bytes c = (refl, refl)
