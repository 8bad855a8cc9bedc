use Rattle.ac_setwork.proofs.Widening.{widened_table}
use Rattle.ac_setwork.proofs.table.Table.raise_capacity.Goals as goal

pub invariant_of-self : goal.invariant_of-self
invariant_of-self g c =
    let i = c.self.inside in
    widened_table g.I.Index.order i.guards i.limit c.args.need (g.I.Index.seen i.index) (g.I.Index.seen c.widen.new.index) c.widen.result c.requires.few c.self.invariant c.widen.ensures.ok c.widen.ensures.err
