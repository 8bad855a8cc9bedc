use Rattle.ac_chain.proofs.Refills.{put_nothing}
use Rattle.ac_chain.proofs.refilling.put_values.Goals as goal

pub returns-in-None-clause-put : goal.returns-in-None-clause-put
returns-in-None-clause-put g c = put_nothing c.args.chain.now c.args.values.items c.pop.new.self.items _ c.in-None.ensures.items c.in-None.ensures.rest c.in-None.ensures.cases.0
