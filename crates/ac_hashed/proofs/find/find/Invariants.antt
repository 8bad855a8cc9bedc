use Rattle.ac_hashed.proofs.Seeking.{Seeking}
use Rattle.ac_hashed.proofs.find.find.Given as goal

abbrev pub invariant-loop-name : goal.invariant-loop-name
invariant-loop-name g l = Seeking (λ v. g.S.Key.Hashed.wide_hash_of (g.S.Keys.key_of v)) (λ v w. g.S.Key.Hashed.is_alike (g.S.Keys.key_of v) (g.S.Keys.key_of w)) (λ v. g.S.Key.Hashed.is_alike (g.S.Keys.key_of v) l.fn.key) (g.S.Key.Hashed.wide_hash_of l.fn.key) l.fn.chain l.fn.buckets l.place.left

abbrev pub decreases-loop-name : goal.decreases-loop-name
decreases-loop-name g l = l.place.left
