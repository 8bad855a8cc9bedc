use Rattle.std.proofs.Common.{sym, ◌∙◌, arith}
use Rattle.ac_pool.proofs.Written.{emptied_none, emptied_step, each_emptied}
use Rattle.ac_pool.proofs.chunk.empty_cells.Goals as goal

pub loop-index-init : goal.loop-index-init
loop-index-init g c = emptied_none c.args.block.now.cells

pub empty_cell-requires-clause-written : goal.empty_cell-requires-clause-written
empty_cell-requires-clause-written g c =
    let m = c.loop-index.invariant in let i = c.loop-index.index in let w = c.requires.written i c.loop-index-test.true in (w.0, m.others i (omega arith) ∙ w.1)

pub empty_cell-requires-clause-marked : goal.empty_cell-requires-clause-marked
empty_cell-requires-clause-marked g c = λ e is. let m = c.loop-index.invariant in let i = c.loop-index.index in c.requires.marked i e (sym (m.others i (omega arith)) ∙ is)

pub loop-index-preserved : goal.loop-index-preserved
loop-index-preserved g c = emptied_step c.args.block.now.cells c.loop-index.block.cells c.empty_cell.new.block.cells c.loop-index.index c.loop-index.invariant c.empty_cell.ensures

pub returns : goal.returns
returns g c = each_emptied c.args.block.now.cells c.args.reached c.requires c.loop-index.block.cells c.loop-index.index c.loop-index.invariant (omega (arith, c.loop-index-test.false))
