use Rattle.std.proofs.Common.{◌≡◌, ap, arith}
use Rattle.ac_pool.specs.Contents.{Contents, reserved}
use Rattle.ac_pool.proofs.ContentsLaws.{spare-reserved}
use Rattle.ac_pool.proofs.pool.Pool.put.Goals as goal

pub put_reserved-requires-clause-spare : goal.put_reserved-requires-clause-spare
put_reserved-requires-clause-spare g c =
    let is : c.reserve.new.self ≡ reserved c.args.self.now 1 = c.in-Ok.ensures.ok in let more = spare-reserved c.args.self.now 1 in let same : c.reserve.new.self.spare ≡ (reserved c.args.self.now 1).spare = ap (λ (x : Contents g.row.T.Denot). x.spare) is in omega arith
