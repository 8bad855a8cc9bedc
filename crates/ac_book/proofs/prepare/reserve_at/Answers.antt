use Rattle.ac_book.proofs.Beginning.{shared_stays}
use Rattle.ac_book.proofs.prepare.reserve_at.Goals as goal

pub returns-clause-shared : goal.returns-clause-shared
returns-clause-shared c = shared_stays c.args.queues.now c.args.i c.index-queues-i.result c.reserve.new.self c.reserve.result c.args.n c.requires c.reserve.ensures.kind c.reserve.ensures.ok c.reserve.ensures.err
