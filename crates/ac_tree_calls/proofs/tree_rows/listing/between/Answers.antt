use Rattle.std.proofs.Common.{arith}
use Rattle.ac_io.proofs.Telling.{adds_then, adds_text}
use Rattle.ac_tree_calls.proofs.NodesListed.{closes_brackets}
use Rattle.ac_tree_calls.proofs.tree_rows.listing.between.Goals as goal

pub returns-clause-adds : goal.returns-clause-adds
returns-clause-adds g c =
    adds_text (closes_brackets c.args.depth c.args.next (omega (arith, c.if-depth-next.false)))
    (adds_then c.in_ok-close.ensures.adds c.add-2.ensures.adds)
