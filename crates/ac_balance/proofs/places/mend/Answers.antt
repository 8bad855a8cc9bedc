use Rattle.ac_balance.proofs.Closing.{mends}
use Rattle.ac_balance.proofs.places.mend.Goals as goal

pub climb-place-requires : goal.climb-place-requires
climb-place-requires g c = record { base = c.args.links.now.root; rows = c.requires.rows; climbing = c.requires.climbing }

pub returns : goal.returns
returns g c = λ rows k. mends c.args.links.now c.climb-place.new.nodes c.climb-place.result c.attach.new.links rows _ (c.climb-place.ensures c.args.links.now.root rows k) c.attach.ensures
