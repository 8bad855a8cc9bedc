use Rattle.std.proofs.Common.{is_ok}
use Rattle.ac_objects.specs.World.{counted}
use Rattle.ac_objects.proofs.NewObjects.{number_persists, object_persists, object_sound}
use Rattle.ac_objects.proofs.objects.Objects.declare_object.Goals as goal

pub returns-in_default-new_object-clause-persists : goal.returns-in_default-new_object-clause-persists
returns-in_default-new_object-clause-persists c =
    let s = c.self.inside in
    let given = c.in-Some.ensures.given in
    number_persists c.args.self.now s.bounds.items (counted s.mint s.blocks) c.next.new.self c.in-Some.tag c.self.view_is given.0 given.2

pub invariant_of-self-2 : goal.invariant_of-self-2
invariant_of-self-2 c =
    let s = c.self.inside in
    let given = c.in-Some.ensures.given in
    object_sound c.args.self.now s.bounds.items (counted s.mint s.blocks) c.next.new.self c.in-Some.tag c.self.view_is given.0 given.2
    c.put_last.new.bounds.items c.in-Ok.object c.args.def.now c.args.capacity (is_ok c.put_last.result) c.put_last.ensures c.in-Ok.ensures
    given.1 c.self.invariant

pub returns-clause-persists : goal.returns-clause-persists
returns-clause-persists c =
    let s = c.self.inside in
    let given = c.in-Some.ensures.given in
    object_persists c.args.self.now s.bounds.items (counted s.mint s.blocks) c.next.new.self c.in-Some.tag c.self.view_is given.0 given.2
    c.put_last.new.bounds.items c.in-Ok.object c.args.def.now c.args.capacity (is_ok c.put_last.result) c.put_last.ensures c.in-Ok.ensures
