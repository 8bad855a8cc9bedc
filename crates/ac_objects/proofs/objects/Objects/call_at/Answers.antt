use Rattle.ac_objects.specs.World.{counted}
use Rattle.ac_objects.proofs.InPlaces.{calls_advance}
use Rattle.ac_objects.proofs.objects.Objects.call_at.Goals as goal

pub invariant_of-self : goal.invariant_of-self
invariant_of-self c =
    let s = c.self.inside in
    (calls_advance c.args.operation c.args.frame.now.arguments c.args.object c.args.source c.args.self.now s.bounds.items c.call_in.new.bounds.items (counted s.mint s.blocks) _
    c.self.view_is c.self.invariant c.requires.known c.call_in.ensures).sound

pub returns-clause-persists : goal.returns-clause-persists
returns-clause-persists c =
    let s = c.self.inside in
    (calls_advance c.args.operation c.args.frame.now.arguments c.args.object c.args.source c.args.self.now s.bounds.items c.call_in.new.bounds.items (counted s.mint s.blocks) _
    c.self.view_is c.self.invariant c.requires.known c.call_in.ensures).persists

pub returns-clause-counts : goal.returns-clause-counts
returns-clause-counts c =
    let s = c.self.inside in
    (calls_advance c.args.operation c.args.frame.now.arguments c.args.object c.args.source c.args.self.now s.bounds.items c.call_in.new.bounds.items (counted s.mint s.blocks) _
    c.self.view_is c.self.invariant c.requires.known c.call_in.ensures).counts
