use Rattle.ac_objects.specs.World.{counted}
use Rattle.ac_objects.proofs.Names.{marked_advances}
use Rattle.ac_objects.proofs.objects.Objects.set_mark.Goals as goal

pub invariant_of-self : goal.invariant_of-self
invariant_of-self c =
    let s = c.self.inside in
    (marked_advances c.args.self.now s.bounds.items c.put_mark.new.bounds.items (counted s.mint s.blocks) c.self.view_is c.self.invariant c.args.place c.args.cursor
    c.put_mark.ensures c.requires).sound

pub returns-clause-persists : goal.returns-clause-persists
returns-clause-persists c =
    let s = c.self.inside in
    (marked_advances c.args.self.now s.bounds.items c.put_mark.new.bounds.items (counted s.mint s.blocks) c.self.view_is c.self.invariant c.args.place c.args.cursor
    c.put_mark.ensures c.requires).persists

pub returns-clause-counts : goal.returns-clause-counts
returns-clause-counts c =
    let s = c.self.inside in
    (marked_advances c.args.self.now s.bounds.items c.put_mark.new.bounds.items (counted s.mint s.blocks) c.self.view_is c.self.invariant c.args.place c.args.cursor
    c.put_mark.ensures c.requires).counts
