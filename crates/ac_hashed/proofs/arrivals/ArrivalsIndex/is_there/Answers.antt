use Rattle.std.proofs.Common.{ap, ◌∙◌}
use Rattle.ac_chain.specs.Rows.{Chained}
use Rattle.ac_setwork.specs.Indexed.{is_there}
use Rattle.ac_hashed.specs.Ties.{seen_in}
use Rattle.ac_hashed.proofs.Standing.{there_is}
use Rattle.ac_hashed.proofs.arrivals.ArrivalsIndex.is_there.Goals as goal

pub returns : goal.returns
returns g c =
    let live = c.is_live.ensures.live in
    there_is c.self.inside.chain c.args.name c.is_live.result live.0 live.1 ∙ ap (λ (d : Chained _). is_there (seen_in d) c.args.name) c.self.view_is
