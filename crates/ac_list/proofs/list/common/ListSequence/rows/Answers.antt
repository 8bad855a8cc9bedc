use Rattle.std.proofs.Common.{refl, subst}
use Rattle.ac_chain.specs.Called.{HasRows}
use Rattle.ac_model.specs.Containers.{Container}
use Rattle.ac_list.proofs.list.common.ListSequence.rows.Goals as goal

pub returns : goal.returns
returns g c =
    let i = c.self.inside in subst (λ (x : Container _). HasRows x i.chain) c.self.view_is (record { object = refl; spare = refl; sequence = c.self.invariant })
