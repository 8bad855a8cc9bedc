use Rattle.std.proofs.Common.{◌-◌, replicate, refl}
use Rattle.ac_chain.proofs.Puts.{again_fits, again_spare, copies_put, copies_slots, copies_grown, first_put}
use Rattle.ac_chain.proofs.put.put_unboxed.Goals as goal

pub put_again-requires-clause-spare : goal.put_again-requires-clause-spare
put_again-requires-clause-spare g c = again_fits c.args.chain.now c.reserve.new.self c.args.n c.args.e c.requires.some c.in_ok-reserve.ensures.ok

pub returns-clause-put : goal.returns-clause-put
returns-clause-put g c =
    copies_put c.args.chain.now c.reserve.new.self c.put_again.new.chain c.args.n c.args.place c.args.e (replicate (c.args.n - 1) c.args.e) c.requires.some c.in_ok-reserve.ensures.ok refl c.put_again.ensures.put

pub returns-clause-slots : goal.returns-clause-slots
returns-clause-slots g c =
    copies_slots c.args.chain.now c.reserve.new.self c.put_again.new.chain c.args.n c.args.place c.args.e (replicate (c.args.n - 1) c.args.e) c.requires.some c.in_ok-reserve.ensures.ok refl c.put_again.ensures.put
    (again_spare c.args.n c.args.e c.put_again.new.chain.spare c.reserve.new.self.spare c.put_again.ensures.spare)

pub returns-clause-grown : goal.returns-clause-grown
returns-clause-grown g c =
    copies_grown c.args.chain.now c.reserve.new.self c.put_again.new.chain c.args.n c.args.place c.args.e (replicate (c.args.n - 1) c.args.e) c.requires.some c.in_ok-reserve.ensures.ok refl c.put_again.ensures.put
    (again_spare c.args.n c.args.e c.put_again.new.chain.spare c.reserve.new.self.spare c.put_again.ensures.spare)

pub returns-clause-first : goal.returns-clause-first
returns-clause-first g c = first_put c.args.chain.now c.reserve.new.self c.put_again.new.chain c.args.n c.put_again.result c.requires.some c.in_ok-reserve.ensures.ok c.put_again.ensures.first
