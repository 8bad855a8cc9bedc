use Rattle.std.proofs.Common.{ap, ◌∙◌}
use Rattle.ac_model.specs.Objects.{plain}
use Rattle.ac_calls.specs.Holdings.{a_keyed_set, kind_by}
use Rattle.ac_keyed_calls.specs.Sets.{items_of, set_kind_of}
use Rattle.ac_objects.specs.World.{held_in}
use Rattle.ac_objects.proofs.Families.{keyed_set}
use Rattle.ac_objects.proofs.NewObjects.{of_type}
use Rattle.ac_objects.proofs.new_objects.new_keyed_set_object.Goals as goal

pub returns : goal.returns
returns c =
    let made = c.in_ok-set in
    let def = c.args.def.now in
    ap held_in (keyed_set (record { set = made.set })) ∙
    of_type (a_keyed_set (set_kind_of made.set)) (plain (items_of made.set).object) def c.args.tag c.args.limit made.ensures.rows
    (ap (kind_by def.kind def.first def.second) c.requires.keyed ∙ (made.ensures.kind def.first def.second).1) made.ensures.empty
