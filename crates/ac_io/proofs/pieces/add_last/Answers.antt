use Rattle.std.proofs.Common.{append-nil}
use Rattle.ac_io.proofs.Telling.{adds_then, adds_text}
use Rattle.ac_io.proofs.pieces.add_last.Goals as goal

pub returns-clause-adds : goal.returns-clause-adds
returns-clause-adds g c = adds_text (append-nil c.args.piece.now) (adds_then c.in_ok-add.ensures.adds c.pass.ensures.adds)
