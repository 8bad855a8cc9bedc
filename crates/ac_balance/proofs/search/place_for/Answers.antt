use Rattle.ac_balance.proofs.Trails.{at_spot}
use Rattle.ac_balance.proofs.search.place_for.Goals as goal

pub returns : goal.returns
returns g c = λ t h. at_spot _ _ _ _ _ _ c.spot_at.ensures (c.sought-trail.ensures t h)
