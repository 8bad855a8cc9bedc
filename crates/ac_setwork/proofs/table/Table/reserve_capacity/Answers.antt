use Rattle.std.proofs.Common.{◌≤◌, rules}
use Rattle.ac_base.specs.declared.limit.TheConstants.{GREATEST_LENGTH}
use Rattle.ac_setwork.proofs.Widening.{widened_table}
use Rattle.ac_setwork.proofs.table.Table.reserve_capacity.Goals as goal

pub invariant_of-self : goal.invariant_of-self
invariant_of-self g c =
    let i = c.self.inside in let few : c.count_of.result ≤ GREATEST_LENGTH = search rules in
    widened_table g.I.Index.order i.guards i.limit c.count_of.result (g.I.Index.seen i.index) (g.I.Index.seen c.widen.new.index) c.widen.result few c.self.invariant c.widen.ensures.ok c.widen.ensures.err
