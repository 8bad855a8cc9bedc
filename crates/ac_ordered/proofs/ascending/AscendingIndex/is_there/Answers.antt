use Rattle.std.proofs.Common.{ap, ◌∙◌}
use Rattle.ac_setwork.specs.Indexed.{is_there}
use Rattle.ac_ordered.specs.Ascents.{ascent}
use Rattle.ac_ordered.proofs.Ascents.{there_is}
use Rattle.ac_ordered.proofs.ascending.AscendingIndex.is_there.Goals as goal

pub returns : goal.returns
returns g c = there_is c.self.inside.tree c.args.name c.is_there.result c.is_there.ensures.there.0 c.is_there.ensures.there.1 ∙ ap (λ x. is_there (ascent x) c.args.name) c.self.view_is
