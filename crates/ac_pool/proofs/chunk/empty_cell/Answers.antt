use Rattle.std.proofs.Common.{◌∙◌}
use Rattle.ac_pool.proofs.Written.{holds_value}
use Rattle.ac_pool.proofs.chunk.empty_cell.Goals as goal

pub take-value-requires : goal.take-value-requires
take-value-requires g c = holds_value c.args.block.now.cells c.args.index c.requires.written c.requires.marked (λ none. c.if-serial-ne0.true (c.serial.ensures ∙ none))
