use Rattle.std.proofs.Common.{sym, subst}
use Rattle.ac_objects.specs.Standing.{ElementsStand}
use Rattle.ac_objects.specs.World.{counted, state_of}
use Rattle.ac_objects.proofs.objects.Objects.set_value.Goals as goal

pub put_value-requires : goal.put_value-requires
put_value-requires c =
    record { counters = counted c.self.inside.mint c.self.inside.blocks; sound = c.self.invariant; stand = subst (λ w. ElementsStand (state_of w)) (sym c.self.view_is) c.requires }
