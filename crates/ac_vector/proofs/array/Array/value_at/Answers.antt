use Rattle.ac_vector.proofs.Arrays.{old_stands, value_there}
use Rattle.ac_vector.proofs.array.Array.value_at.Goals as goal

pub returns : goal.returns
returns g c = record { value = value_there (old_stands c.self.invariant.array c.self.view_is) c.args.place c.index.result.now c.requires c.index.ensures }
