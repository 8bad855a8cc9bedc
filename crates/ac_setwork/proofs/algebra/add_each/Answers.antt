use Rattle.std.proofs.Common.{sym, subst, ◌∙◌}
use Rattle.std.proofs.lemmas.List.{nil_from_length}
use Rattle.ac_setwork.proofs.Adds.{Adding, adding_absent, adding_capacity, adding_ends, adding_more, adding_room, adding_spare, adding_starts}
use Rattle.ac_setwork.proofs.algebra.add_each.Goals as goal

pub add_new-requires-clause-spare : goal.add_new-requires-clause-spare
add_new-requires-clause-spare g c =
    let order = g.A.SetLike.order in let vs = c.args.items.items in let start = g.A.SetLike.seen c.args.target.now in let now = g.A.SetLike.seen c.loop-item.target in
    adding_spare order vs start now c.in-Some.item _ c.requires (subst (Adding order vs start now) c.in-Some.ensures.steps.0 c.loop-item.invariant)

pub add_new-requires-clause-room : goal.add_new-requires-clause-room
add_new-requires-clause-room g c =
    let order = g.A.SetLike.order in let vs = c.args.items.items in let start = g.A.SetLike.seen c.args.target.now in let now = g.A.SetLike.seen c.loop-item.target in
    adding_room order vs start now c.in-Some.item _ c.requires (subst (Adding order vs start now) c.in-Some.ensures.steps.0 c.loop-item.invariant)

pub add_new-requires-clause-absent : goal.add_new-requires-clause-absent
add_new-requires-clause-absent g c =
    let order = g.A.SetLike.order in let vs = c.args.items.items in let start = g.A.SetLike.seen c.args.target.now in let now = g.A.SetLike.seen c.loop-item.target in
    adding_absent order vs start g.met.A.SetLike.closed now c.in-Some.item _ c.requires (subst (Adding order vs start now) c.in-Some.ensures.steps.0 c.loop-item.invariant)

pub add_new-requires-clause-capacity : goal.add_new-requires-clause-capacity
add_new-requires-clause-capacity g c =
    let order = g.A.SetLike.order in let vs = c.args.items.items in let start = g.A.SetLike.seen c.args.target.now in let now = g.A.SetLike.seen c.loop-item.target in
    adding_capacity order vs start now c.in-Some.item _ c.requires (subst (Adding order vs start now) c.in-Some.ensures.steps.0 c.loop-item.invariant)

pub loop-item-preserved : goal.loop-item-preserved
loop-item-preserved g c =
    let order = g.A.SetLike.order in let vs = c.args.items.items in let start = g.A.SetLike.seen c.args.target.now in let now = g.A.SetLike.seen c.loop-item.target in
    adding_more order vs start now (g.A.SetLike.seen c.add_new.new.self) c.in-Some.item _ c.requires (subst (Adding order vs start now) c.in-Some.ensures.steps.0 c.loop-item.invariant) c.add_new.ensures.added c.add_new.ensures.spare

pub loop-item-init : goal.loop-item-init
loop-item-init g c = subst (Adding g.A.SetLike.order c.args.items.items (g.A.SetLike.seen c.args.target.now) (g.A.SetLike.seen c.args.target.now)) (sym c.into_iter-item-iterator.ensures.into_iter_gives.0) (adding_starts g.A.SetLike.order c.args.items.items (g.A.SetLike.seen c.args.target.now))

pub returns : goal.returns
returns g c =
    let order = g.A.SetLike.order in let vs = c.args.items.items in let start = g.A.SetLike.seen c.args.target.now in let now = g.A.SetLike.seen c.loop-item.target in
    adding_ends order vs start now (subst (Adding order vs start now) (nil_from_length c.loop-item.item-iterator.rest.items (sym c.loop-item.item-iterator.rest.ok.0 ∙ c.in-None.ensures.steps.0)) c.loop-item.invariant)
