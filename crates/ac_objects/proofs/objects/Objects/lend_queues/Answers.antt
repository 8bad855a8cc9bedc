use Rattle.ac_objects.specs.World.{counted}
use Rattle.ac_objects.proofs.Lent.{lent_advances, lent_state, lent_queues}
use Rattle.ac_objects.proofs.objects.Objects.lend_queues.Goals as goal

pub invariant_of-self : goal.invariant_of-self
invariant_of-self c =
    (lent_advances c.args.self.now c.self.inside.bounds.items _ (counted c.self.inside.mint c.self.inside.blocks) c.self.view_is c.self.invariant c.args.places.now
    c.in_ok-queues.queues.items c.exchange_all.ensures.put c.in_ok-blocks.blocks c.in_ok-blocks.ensures).sound

pub returns-clause-queues : goal.returns-clause-queues
returns-clause-queues c =
    lent_queues c.args.self.now c.self.inside.bounds.items _ (counted c.self.inside.mint c.self.inside.blocks) c.self.view_is c.self.invariant c.args.places.now
    c.in_ok-queues.queues.items c.exchange_all.ensures.put c.exchange_all.new.queues.items c.exchange_all.ensures.out c.requires c.in_ok-queues.ensures

pub returns-clause-lent : goal.returns-clause-lent
returns-clause-lent c =
    lent_state c.args.self.now c.self.inside.bounds.items _ (counted c.self.inside.mint c.self.inside.blocks) c.self.view_is c.self.invariant c.args.places.now
    c.in_ok-queues.queues.items c.exchange_all.ensures.put c.in_ok-blocks.blocks c.in_ok-blocks.ensures c.requires c.in_ok-queues.ensures

pub returns-clause-persists : goal.returns-clause-persists
returns-clause-persists c =
    (lent_advances c.args.self.now c.self.inside.bounds.items _ (counted c.self.inside.mint c.self.inside.blocks) c.self.view_is c.self.invariant c.args.places.now
    c.in_ok-queues.queues.items c.exchange_all.ensures.put c.in_ok-blocks.blocks c.in_ok-blocks.ensures).persists

pub returns-clause-counts : goal.returns-clause-counts
returns-clause-counts c =
    (lent_advances c.args.self.now c.self.inside.bounds.items _ (counted c.self.inside.mint c.self.inside.blocks) c.self.view_is c.self.invariant c.args.places.now
    c.in_ok-queues.queues.items c.exchange_all.ensures.put c.in_ok-blocks.blocks c.in_ok-blocks.ensures).counts
