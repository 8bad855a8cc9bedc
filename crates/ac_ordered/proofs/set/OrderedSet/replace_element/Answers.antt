use Rattle.std.proofs.Common.{subst}
use Rattle.ac_model.specs.Calls.{Changing, Same}
use Rattle.ac_model.specs.Containers.{Container}
use Rattle.ac_model.specs.Cursors.{mark}
use Rattle.ac_model.specs.Keyed as keyed
use Rattle.ac_model.specs.Keyed.{ascending}
use Rattle.ac_model.specs.Objects.{plain}
use Rattle.ac_ordered.proofs.set.OrderedSet.replace_element.Goals as goal

pub returns-clause-changed : goal.returns-clause-changed
returns-clause-changed g c =
    subst (λ (x : Container _). Changing Same (keyed.replace_element_call (ascending g.T.Rank.is_less) (plain x.object) (mark x.object c.args.c) c.args.element) x.object c.replace_element.new.self.object c.replace_element.result)
    c.self.view_is c.replace_element.ensures.changed
