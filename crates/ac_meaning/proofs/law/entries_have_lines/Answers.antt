use Rattle.ac_meaning.proofs.HistoryLines.{entries_have_lines}
use Rattle.ac_meaning.proofs.law.entries_have_lines.Goals as goal

pub returns : goal.returns
returns c = entries_have_lines
