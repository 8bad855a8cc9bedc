use Rattle.std.proofs.Common.{sym, ap, ◌∙◌, arith}
use Rattle.ac_pool.specs.Cell.{serial_of}
use Rattle.ac_pool.specs.Places.{kept}
use Rattle.ac_pool.proofs.Written.{seen}
use Rattle.ac_pool.proofs.chunk.Chunk.serial.Goals as goal

pub returns-then-index-self : goal.returns-then-index-self
returns-then-index-self g c =
    let cells = c.self.inside.block.cells in let i = c.args.index in rw (← c.self.view_is) (sym (ap serial_of (seen cells i ∙ ap kept (c.self.invariant.fresh i (omega (arith, c.if-index-self.true))))))
