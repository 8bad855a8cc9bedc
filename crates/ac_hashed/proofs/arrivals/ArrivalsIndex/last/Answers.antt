use Rattle.std.proofs.Common.{ap, ◌∙◌}
use Rattle.ac_chain.specs.Rows.{Chained}
use Rattle.ac_setwork.specs.Ends.{last_name}
use Rattle.ac_hashed.specs.Ties.{seen_in}
use Rattle.ac_hashed.proofs.Standing.{last_is}
use Rattle.ac_hashed.proofs.arrivals.ArrivalsIndex.last.Goals as goal

pub returns : goal.returns
returns g c = c.last.ensures.name ∙ last_is c.self.inside.chain ∙ ap (λ (d : Chained _). last_name (seen_in d)) c.self.view_is
