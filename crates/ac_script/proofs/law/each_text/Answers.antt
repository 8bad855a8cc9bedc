use Rattle.ac_script.proofs.EachText.{each_text}
use Rattle.ac_script.proofs.law.each_text.Goals as goal

pub returns : goal.returns
returns c = each_text
