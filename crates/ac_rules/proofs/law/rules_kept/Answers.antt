use Rattle.ac_rules.proofs.Kept.{rules_kept}
use Rattle.ac_rules.proofs.law.rules_kept.Goals as goal

pub returns : goal.returns
returns c = rules_kept
