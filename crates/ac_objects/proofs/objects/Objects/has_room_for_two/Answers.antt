use Rattle.std.proofs.Common.{◌<◌, subst}
use Rattle.std.proofs.lemmas.Bool.{ltb-true}
use Rattle.ac_objects.specs.World.{held_of}
use Rattle.ac_objects.proofs.InScope.{object_there}
use Rattle.ac_objects.proofs.objects.Objects.has_room_for_two.Goals as goal

pub returns-in-Some : goal.returns-in-Some
returns-in-Some c h =
    let w = c.args.self.now in
    let o = c.in-Some.object.now in
    record {
      held = held_of o;
      there = object_there w.bounds w.counters c.args.place o c.in-Some.ensures;
      counted = subst (λ n. n < 18446744073709551614) c.held.ensures (ltb-true c.held.result 18446744073709551614 h);
    }
