use Rattle.std.proofs.Common.{ap, ◌∙◌}
use Rattle.ac_setwork.specs.Ends.{last_name}
use Rattle.ac_ordered.specs.Ascents.{ascent}
use Rattle.ac_ordered.proofs.Ascents.{last_is}
use Rattle.ac_ordered.proofs.ascending.AscendingIndex.last.Goals as goal

pub returns : goal.returns
returns g c = c.last.ensures ∙ last_is c.self.inside.tree ∙ ap (λ x. last_name (ascent x)) c.self.view_is
