use Rattle.std.proofs.Common.{ap, length, arith, length-append}
use Rattle.ac_io.proofs.pieces.keeps.Goals as goal

pub returns-in-Ok-clause-short : goal.returns-in-Ok-clause-short
returns-in-Ok-clause-short c = λ h. omega (arith, h, ap length c.in-Ok.ensures.items, length-append c.args.text.now.items c.args.piece.now)
