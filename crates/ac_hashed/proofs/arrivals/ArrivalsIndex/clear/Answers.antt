use Rattle.ac_hashed.proofs.Rooms.{tied_cleared}
use Rattle.ac_hashed.proofs.arrivals.ArrivalsIndex.clear.Goals as goal

pub invariant_of-self : goal.invariant_of-self
invariant_of-self g c = tied_cleared c.self.inside.chain (λ v. g.S.Key.Hashed.wide_hash_of (g.S.Keys.key_of v)) (λ v w. g.S.Key.Hashed.is_alike (g.S.Keys.key_of v) (g.S.Keys.key_of w)) c.self.inside.buckets c.self.invariant c.clear.new.self c.clear-2.new.self c.clear.ensures.cleared c.clear-2.ensures.cleared c.clear.ensures.sound
