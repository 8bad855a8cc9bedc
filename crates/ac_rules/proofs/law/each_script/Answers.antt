use Rattle.ac_rules.proofs.EachScript.{each_script}
use Rattle.ac_rules.proofs.law.each_script.Goals as goal

pub returns : goal.returns
returns c = each_script
