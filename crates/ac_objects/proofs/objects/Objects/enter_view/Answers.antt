use Rattle.ac_objects.specs.declared.blocks.ViewHead.TheVariants.{Element, Stable}
use Rattle.ac_objects.specs.World.{state_of}
use Rattle.ac_objects.proofs.ByHeads.{opened_as, refused_as}
use Rattle.ac_objects.proofs.objects.Objects.enter_view.Goals as goal

pub returns-in-Element-clause-opened : goal.returns-in-Element-clause-opened
returns-in-Element-clause-opened c h there =
    let here = c.in-Element in
    opened_as (state_of c.args.self.now) (state_of c.enter_element.new.self) c.enter_element.result h c.args.head (Element here.kind here.object here.at) here.is
    (c.enter_element.ensures.opened h) there

pub returns-in-Element-clause-refused : goal.returns-in-Element-clause-refused
returns-in-Element-clause-refused c h reason there told =
    let here = c.in-Element in
    refused_as (state_of c.args.self.now) (state_of c.enter_element.new.self) c.enter_element.result h c.args.head (Element here.kind here.object here.at) reason here.is
    (c.enter_element.ensures.refused h reason) there told

pub returns-in-Stable-clause-opened : goal.returns-in-Stable-clause-opened
returns-in-Stable-clause-opened c h there =
    let here = c.in-Stable in
    opened_as (state_of c.args.self.now) (state_of c.enter_stable.new.self) c.enter_stable.result h c.args.head (Stable here.object) here.is
    (c.enter_stable.ensures.opened h) there
