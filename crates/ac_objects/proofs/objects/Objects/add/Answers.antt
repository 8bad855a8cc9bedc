use Rattle.std.proofs.Common.{is_ok}
use Rattle.ac_objects.specs.World.{counted}
use Rattle.ac_objects.proofs.InScope.{added_sound, added_persists}
use Rattle.ac_objects.proofs.objects.Objects.add.Goals as goal

pub invariant_of-self : goal.invariant_of-self
invariant_of-self c =
    let s = c.self.inside in
    added_sound c.args.self.now s.bounds.items c.put_last.new.bounds.items (counted s.mint s.blocks) c.args.bound (is_ok c.put_last.result) c.self.view_is
    c.put_last.ensures c.requires.no_object c.requires.known c.self.invariant

pub returns-clause-persists : goal.returns-clause-persists
returns-clause-persists c =
    let s = c.self.inside in
    added_persists c.args.self.now s.bounds.items c.put_last.new.bounds.items (counted s.mint s.blocks) c.args.bound (is_ok c.put_last.result) c.self.view_is
    c.put_last.ensures c.requires.no_object
