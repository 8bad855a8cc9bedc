use Rattle.ac_model.specs.Cursors.{plain_mark}
use Rattle.ac_objects.specs.World.{counted}
use Rattle.ac_objects.proofs.Updating.{can_copy, copied_there}
use Rattle.ac_objects.proofs.objects.Objects.copy_at.Goals as goal

pub copy_element-requires : goal.copy_element-requires
copy_element-requires c =
    can_copy c.args.self.now c.self.inside.bounds.items (counted c.self.inside.mint c.self.inside.blocks) c.args.place c.args.at c.self.view_is c.requires.known c.requires.element

pub returns : goal.returns
returns c =
    copied_there c.args.self.now c.self.inside.bounds.items (counted c.self.inside.mint c.self.inside.blocks) c.args.place (plain_mark c.args.at) c.self.view_is c.copy_element.result
    (c.copy_element.ensures (counted c.self.inside.mint c.self.inside.blocks))
