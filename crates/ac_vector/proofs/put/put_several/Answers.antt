use Rattle.ac_chain.proofs.Puts.{copies_fit}
use Rattle.ac_vector.proofs.Appends.{last_copies_put, last_copies_first, last_copies_slots, several}
use Rattle.ac_vector.proofs.put.put_several.Goals as goal

pub put_with_last-requires-clause-spare : goal.put_with_last-requires-clause-spare
put_with_last-requires-clause-spare g c =
    copies_fit c.args.array.now c.reserve.new.self c.args.n c.args.e c.in_ok-more.more.items (several c.args.n c.requires.several) c.in_ok-reserve.ensures.ok c.in_ok-more.ensures.same

pub returns-clause-put : goal.returns-clause-put
returns-clause-put g c =
    last_copies_put c.args.array.now c.reserve.new.self c.put_with_last.new.array c.args.n c.args.place c.args.e c.in_ok-more.more.items (several c.args.n c.requires.several) c.in_ok-reserve.ensures.ok c.in_ok-more.ensures.same c.put_with_last.ensures.put

pub returns-clause-first : goal.returns-clause-first
returns-clause-first g c =
    last_copies_first c.args.array.now c.reserve.new.self c.put_with_last.new.array c.args.n c.args.e c.in_ok-more.more.items c.put_with_last.result (several c.args.n c.requires.several) c.in_ok-reserve.ensures.ok c.in_ok-more.ensures.same c.put_with_last.ensures.first

pub returns-clause-slots : goal.returns-clause-slots
returns-clause-slots g c =
    last_copies_slots c.args.array.now c.reserve.new.self c.put_with_last.new.array c.args.n c.args.place c.args.e c.in_ok-more.more.items c.in_ok-reserve.ensures.ok c.put_with_last.ensures.put c.put_with_last.ensures.spare
