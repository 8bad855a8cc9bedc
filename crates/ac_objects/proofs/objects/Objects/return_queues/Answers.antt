use Rattle.ac_objects.specs.World.{counted}
use Rattle.ac_objects.proofs.Lent.{returned_advances, returned_state}
use Rattle.ac_objects.proofs.objects.Objects.return_queues.Goals as goal

pub invariant_of-self : goal.invariant_of-self
invariant_of-self c =
    (returned_advances c.args.self.now c.self.inside.bounds.items _ (counted c.self.inside.mint c.self.inside.blocks) c.self.view_is c.self.invariant c.args.places.now
    c.args.queues.items c.exchange_all.ensures.put).sound

pub returns-clause-returned : goal.returns-clause-returned
returns-clause-returned c =
    returned_state c.args.self.now c.self.inside.bounds.items _ (counted c.self.inside.mint c.self.inside.blocks) c.self.view_is c.self.invariant c.args.places.now
    c.args.queues.items c.exchange_all.ensures.put

pub returns-clause-persists : goal.returns-clause-persists
returns-clause-persists c =
    (returned_advances c.args.self.now c.self.inside.bounds.items _ (counted c.self.inside.mint c.self.inside.blocks) c.self.view_is c.self.invariant c.args.places.now
    c.args.queues.items c.exchange_all.ensures.put).persists

pub returns-clause-counts : goal.returns-clause-counts
returns-clause-counts c =
    (returned_advances c.args.self.now c.self.inside.bounds.items _ (counted c.self.inside.mint c.self.inside.blocks) c.self.view_is c.self.invariant c.args.places.now
    c.args.queues.items c.exchange_all.ensures.put).counts
