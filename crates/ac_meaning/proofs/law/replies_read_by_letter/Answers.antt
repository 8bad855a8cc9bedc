use Rattle.ac_meaning.proofs.RepliesRead.{reads_by_letter}
use Rattle.ac_meaning.proofs.law.replies_read_by_letter.Goals as goal

pub returns : goal.returns
returns c = reads_by_letter
