use Rattle.std.proofs.Common.{refl}
use Rattle.ac_io.proofs.Telling.{adds_then, adds_from}
use Rattle.ac_io.proofs.pieces.add.Goals as goal

pub returns-clause-adds : goal.returns-clause-adds
returns-clause-adds g c = adds_from (c.if-keeps.ensures.left refl) (adds_then c.in_ok-pass.ensures.adds c.keep_alone.ensures.adds)
