use Rattle.std.proofs.Common.{subst, vec_capacity}
use Rattle.ac_pool.specs.Contents.{contents}
use Rattle.ac_pool.specs.Link.{value_in}
use Rattle.ac_pool.specs.PoolFields.{entries_in}
use Rattle.ac_pool.specs.Runs.{LiesFrom}
use Rattle.ac_pool.proofs.Pooled.{run_is}
use Rattle.ac_pool.proofs.pool.Pool.run_at.Goals as goal

pub returns : goal.returns
returns g c =
    let a = c.self.inside in let h = c.self.invariant in let i = c.args.slot in let e = c.run_at.ensures in
    let run : LiesFrom (value_in (contents (entries_in a.slots) a.next_serial a.spare)) i c.run_at.result = rw e.1 (run_is a.slots a.free.items (vec_capacity a.free) a.spare a.next_serial h i e.0 e.2) in
    subst (λ x. LiesFrom (value_in x) i c.run_at.result) c.self.view_is run
