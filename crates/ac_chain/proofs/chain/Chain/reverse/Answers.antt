use Rattle.std.proofs.Common.{sym}
use Rattle.ac_chain.proofs.Orders.{reversed_none}
use Rattle.ac_chain.proofs.chain.Chain.reverse.Goals as goal

pub returns-in_default-clause-reversed : goal.returns-in_default-clause-reversed
returns-in_default-clause-reversed g c = reversed_none c.args.self.now (sym c.in_default.ensures.name)
