use Rattle.std.proofs.Common.{◌<◌, ◌∙◌, ap, subst}
use Rattle.std.proofs.lemmas.Bool.{ltb-true}
use Rattle.ac_base.specs.Guards.{count_of}
use Rattle.ac_objects.specs.Standing.{counts_in_held}
use Rattle.ac_objects.specs.World.{held_of}
use Rattle.ac_objects.proofs.Found.{found_takes}
use Rattle.ac_objects.proofs.InScope.{object_there}
use Rattle.ac_objects.proofs.objects.Objects.has_room.Goals as goal

pub returns-in-Some : goal.returns-in-Some
returns-in-Some c h =
    let w = c.args.self.now in
    let o = c.in-Some.object.now in
    record {
      held = held_of o;
      there = object_there w.bounds w.counters c.args.place o c.in-Some.ensures;
      takes = found_takes w c.args.place o c.in-Some.ensures c.requires;
      counted = subst (λ n. n < 18446744073709551615) (c.held.ensures ∙ ap (λ k. count_of k (counts_in_held (held_of o))) c.raised.ensures)
          (ltb-true c.held.result 18446744073709551615 h);
    }
